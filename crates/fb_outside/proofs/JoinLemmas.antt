-- Names that are put together of a front, a slash and a last piece.
use Rattle.std.proofs.Common.{◌≡◌, ◌<◌, ◌≤◌, ◌+◌, ℕ, true, false, List, [], ◌∷◌, ◌++◌, length, eqb, refl, sym, ap, subst, ◌∙◌, arith, length-append, append_assoc, if◌then◌else◌}
use Rattle.std.specs.List.{AllByRecursion, join_with_byte}
use Rattle.fb_outside.specs.Names.{IsPiece, IsName}
use Rattle.fb_outside.proofs.NameLemmas.{no_slash-bytes}

-- no byte is a slash
abbrev pub NoSlash : List ℕ → Type 0
NoSlash text = AllByRecursion (λ b. eqb b 47 ≡ false) text

pub NoSlash-piece : (most : ℕ) (piece : List ℕ) → IsPiece most piece → NoSlash piece
NoSlash-piece most piece h = no_slash-bytes piece h.bytes

-- behind some bytes comes no slash
no_slash_inside : (a q : List ℕ) → NoSlash (a ++ 47 ∷ q) → ⊥
no_slash_inside [] q h = let slash : true ≡ false = h.0 in absurd (cc)
no_slash_inside (x ∷ a) q h = no_slash_inside a q h.1

-- a name is cut at its last slash in one way
pub same_ends : (a b p q : List ℕ) → NoSlash p → NoSlash q → a ++ 47 ∷ p ≡ b ++ 47 ∷ q → (a ≡ b) × (p ≡ q)
same_ends [] [] p q h k e = (refl, cc)
same_ends [] (y ∷ b) p q h k e = let is : p ≡ b ++ 47 ∷ q = cc in absurd (no_slash_inside b q (subst NoSlash is h))
same_ends (x ∷ a) [] p q h k e = let is : q ≡ a ++ 47 ∷ p = cc in absurd (no_slash_inside a p (subst NoSlash is k))
same_ends (x ∷ a) (y ∷ b) p q h k e =
    let heads : x ≡ y = cc in
    let tails : a ++ 47 ∷ p ≡ b ++ 47 ∷ q = cc in
    let rest = same_ends a b p q h k tails in
    (λ i. heads i ∷ rest.0 i, rest.1)

-- one more piece
join-push : (ps : List (List ℕ)) (p : List ℕ) → 0 < length ps → join_with_byte 47 (ps ++ p ∷ []) ≡ join_with_byte 47 ps ++ 47 ∷ p
join-push [] p h = absurd (omega arith)
join-push (x ∷ []) p h = refl
join-push (x ∷ y ∷ ps) p h =
    ap (λ rest. x ++ 47 ∷ rest) (join-push (y ∷ ps) p (omega arith)) ∙ sym (append_assoc x (47 ∷ join_with_byte 47 (y ∷ ps)) (47 ∷ p))

-- a longer piece is allowed
pub IsPiece-more : (m n : ℕ) (piece : List ℕ) → m ≤ n → IsPiece m piece → IsPiece n piece
IsPiece-more m n piece le h = record {
  some = h.some;
  short = omega (arith, h.short);
  bytes = h.bytes;
  not_here = h.not_here;
  not_up = h.not_up;
}

pieces-push : (m n : ℕ) (ps : List (List ℕ)) (p : List ℕ) → m ≤ n → AllByRecursion (IsPiece m) ps → IsPiece n p → AllByRecursion (IsPiece n) (ps ++ p ∷ [])
pieces-push m n [] p le h k = (k, tt)
pieces-push m n (x ∷ ps) p le h k = (IsPiece-more m n x le h.0, pieces-push m n ps p le h.1 k)

-- a piece under a name: such a name has pieces of at most `n` bytes, and may be longer
pub IsName-under : (longest most l n : ℕ) (dir piece : List ℕ) → IsName longest most dir → IsPiece n piece → most ≤ n → length dir + 1 + length piece ≤ l
    → IsName l n (dir ++ 47 ∷ piece)
IsName-under longest most l n dir piece h p le short = record {
  rooted = h.rooted;
  pieces = h.pieces ++ piece ∷ [];
  is = ap (λ d. d ++ 47 ∷ piece) h.is ∙ append_assoc (if h.rooted then 47 ∷ [] else []) (join_with_byte 47 h.pieces) (47 ∷ piece)
      ∙ ap (λ j. (if h.rooted then 47 ∷ [] else []) ++ j) (sym (join-push h.pieces piece h.some));
  some = omega (arith, length-append h.pieces (piece ∷ []));
  each = pieces-push most n h.pieces piece le h.each p;
  short = omega (arith, length-append dir (47 ∷ piece));
}

-- a name of shorter pieces, or a shorter name
pub IsName-more : (longest most l n : ℕ) (text : List ℕ) → longest ≤ l → most ≤ n → IsName longest most text → IsName l n text
IsName-more longest most l n text longer le h = record {
  rooted = h.rooted;
  pieces = h.pieces;
  is = h.is;
  some = h.some;
  each = pieces-more h.pieces h.each;
  short = omega (arith, h.short);
}
  where
    pieces-more : (ps : List (List ℕ)) → AllByRecursion (IsPiece most) ps → AllByRecursion (IsPiece n) ps
    pieces-more [] k = tt
    pieces-more (p ∷ ps) k = (IsPiece-more most n p le k.0, pieces-more ps k.1)
