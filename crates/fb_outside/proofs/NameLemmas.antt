-- The tests decide what a piece and a name are; and names put together.
use Rattle.std.proofs.Common.{◌≡◌, ◌≢◌, ◌<◌, ◌≤◌, ◌&&◌, ◌||◌, not, ℕ, Bool, true, false, cond, List, [], ◌∷◌, ◌++◌, length, eqb, IsTrue, All, nat_lt, nat_le, bytes_eq, refl, sym, ap, subst, ◌∙◌, arith, if◌then◌else◌, ltb-true, leb-true, lt-ltb, le-leb, eqb-true}
use Rattle.std.specs.List.{AllByRecursion, join_with_byte, list_all, slice_split}
use Rattle.std.proofs.lemmas.List.Splits.{join_with_byte-slice_split, slice_split_none, slice_split_at, length-slice_split}
use Rattle.std.proofs.lemmas.List.Elements.{All-from_recursion}
use Rattle.std.proofs.lemmas.Slice.Eq.{bytes_eq-Decides}
use Rattle.fb_outside.specs.Names.{IsPiece, IsName, is_piece_byte, spelled}
use Rattle.fb_outside.specs.NameTests.{is_piece, are_dots, are_joined, are_pieces}

-- the parts of a test
both : (a b : Bool) → (a && b) ≡ true → (a ≡ true) × (b ≡ true)
both true b h = (refl, h)
both false b h = absurd (cc)

and_true : (a b : Bool) → a ≡ true → b ≡ true → (a && b) ≡ true
and_true a b p q = rw p q

neither : (a b : Bool) → not (a || b) ≡ true → (a ≡ false) × (b ≡ false)
neither true b h = absurd (cc)
neither false true h = absurd (cc)
neither false false h = (refl, refl)

not_either : (a b : Bool) → a ≡ false → b ≡ false → not (a || b) ≡ true
not_either a b p q = rw (p, q) refl

bytes-from_test : (p : List ℕ) → list_all is_piece_byte p ≡ true → AllByRecursion (λ b. IsTrue (is_piece_byte b)) p
bytes-from_test [] h = tt
bytes-from_test (b ∷ bs) h =
    let parts = both (is_piece_byte b) (list_all is_piece_byte bs) h in
    (parts.0, bytes-from_test bs parts.1)

test-from_bytes : (p : List ℕ) → AllByRecursion (λ b. IsTrue (is_piece_byte b)) p → list_all is_piece_byte p ≡ true
test-from_bytes [] h = refl
test-from_bytes (b ∷ bs) h = and_true (is_piece_byte b) (list_all is_piece_byte bs) h.0 (test-from_bytes bs h.1)

differs : (p q : List ℕ) → bytes_eq p q ≡ false → p ≢ q
differs p q h e = let k : bytes_eq p q ≡ true = (bytes_eq-Decides p q).1 e in cc

differs_test : (b : Bool) (p q : List ℕ) → bytes_eq p q ≡ b → p ≢ q → b ≡ false
differs_test false p q h n = refl
differs_test true p q h n = absurd (n ((bytes_eq-Decides p q).0 h))

pub IsPiece-from_test : (most : ℕ) (p : List ℕ) → is_piece most p ≡ true → IsPiece most p
IsPiece-from_test most p h =
    let dots = both (nat_lt 0 (length p) && nat_le (length p) most && list_all is_piece_byte p) (not (are_dots p)) h in
    let bytes = both (nat_lt 0 (length p) && nat_le (length p) most) (list_all is_piece_byte p) dots.0 in
    let sizes = both (nat_lt 0 (length p)) (nat_le (length p) most) bytes.0 in
    let apart = neither (bytes_eq p (46 ∷ [])) (bytes_eq p (46 ∷ 46 ∷ [])) dots.1 in
    record {
      some = ltb-true 0 (length p) sizes.0;
      short = leb-true (length p) most sizes.1;
      bytes = bytes-from_test p bytes.1;
      not_here = differs p (46 ∷ []) apart.0;
      not_up = differs p (46 ∷ 46 ∷ []) apart.1;
    }

pub test-from_IsPiece : (most : ℕ) (p : List ℕ) → IsPiece most p → is_piece most p ≡ true
test-from_IsPiece most p h =
    and_true _ _ (and_true _ _ (and_true _ _ (lt-ltb 0 (length p) h.some) (le-leb (length p) most h.short)) (test-from_bytes p h.bytes))
    (not_either _ _ (differs_test _ p (46 ∷ []) refl h.not_here) (differs_test _ p (46 ∷ 46 ∷ []) refl h.not_up))

pieces-from_test : (most : ℕ) (ps : List (List ℕ)) → list_all (is_piece most) ps ≡ true → AllByRecursion (IsPiece most) ps
pieces-from_test most [] h = tt
pieces-from_test most (p ∷ ps) h =
    let parts = both (is_piece most p) (list_all (is_piece most) ps) h in
    (IsPiece-from_test most p parts.0, pieces-from_test most ps parts.1)

test-from_pieces : (most : ℕ) (ps : List (List ℕ)) → AllByRecursion (IsPiece most) ps → list_all (is_piece most) ps ≡ true
test-from_pieces most [] h = refl
test-from_pieces most (p ∷ ps) h =
    and_true (is_piece most p) (list_all (is_piece most) ps) (test-from_IsPiece most p h.0) (test-from_pieces most ps h.1)

-- no byte of a piece is a slash
pub no_slash_byte : (b : ℕ) → is_piece_byte b ≡ true → eqb b 47 ≡ false
no_slash_byte b h =
    elim (eqb b 47) as (λ t. eqb b 47 ≡ t → t ≡ false) [
      | true ↦ λ e. let is : b ≡ 47 = eqb-true b 47 e in let no : false ≡ true = subst (λ x. is_piece_byte x ≡ true) is h in absurd (cc)
      | false ↦ λ e. refl
    ] refl

pub no_slash-bytes : (p : List ℕ) → AllByRecursion (λ b. IsTrue (is_piece_byte b)) p → AllByRecursion (λ b. eqb b 47 ≡ false) p
no_slash-bytes [] h = tt
no_slash-bytes (b ∷ bs) h = (no_slash_byte b h.0, no_slash-bytes bs h.1)

no_slash : (most : ℕ) (p : List ℕ) → IsPiece most p → All (λ b. eqb b 47 ≡ false) p
no_slash most p h = All-from_recursion (λ b. eqb b 47 ≡ false) p (no_slash-bytes p h.bytes)

-- pieces that are joined by slashes are cut there again
pub slice_split-join : (most : ℕ) (ps : List (List ℕ)) → 0 < length ps → AllByRecursion (IsPiece most) ps
    → slice_split (λ b. eqb b 47) (join_with_byte 47 ps) ≡ ps
slice_split-join most [] some h = absurd (omega arith)
slice_split-join most (p ∷ []) some h = slice_split_none (λ b. eqb b 47) p (no_slash most p h.0)
slice_split-join most (p ∷ q ∷ ps) some h =
    slice_split_at (λ b. eqb b 47) p 47 (join_with_byte 47 (q ∷ ps)) (no_slash most p h.0) refl
    ∙ ap (λ rest. p ∷ rest) (slice_split-join most (q ∷ ps) (omega arith) h.1)

-- the first byte of joined pieces is no slash
no_slash_first : (most : ℕ) (ps : List (List ℕ)) → 0 < length ps → AllByRecursion (IsPiece most) ps
    → are_pieces most (join_with_byte 47 ps) ≡ are_joined most (join_with_byte 47 ps)
no_slash_first most [] some h = absurd (omega arith)
no_slash_first most ([] ∷ ps) some h = absurd (let none : 0 < 0 = h.0.some in omega arith)
no_slash_first most ((b ∷ bs) ∷ []) some h = rw (no_slash_byte b h.0.bytes.0) refl
no_slash_first most ((b ∷ bs) ∷ q ∷ ps) some h = rw (no_slash_byte b h.0.bytes.0) refl

joined_test : (most : ℕ) (ps : List (List ℕ)) → 0 < length ps → AllByRecursion (IsPiece most) ps
    → are_joined most (join_with_byte 47 ps) ≡ true
joined_test most ps some h = ap (list_all (is_piece most)) (slice_split-join most ps some h) ∙ test-from_pieces most ps h

spelled_test : (most : ℕ) (rooted : Bool) (ps : List (List ℕ)) → 0 < length ps → AllByRecursion (IsPiece most) ps
    → are_pieces most (spelled rooted ps) ≡ true
spelled_test most true ps some h = joined_test most ps some h
spelled_test most false ps some h = no_slash_first most ps some h ∙ joined_test most ps some h

pub test-from_IsName : (longest most : ℕ) (text : List ℕ) → IsName longest most text → are_pieces most text ≡ true
test-from_IsName longest most text h = rw h.is (spelled_test most h.rooted h.pieces h.some h.each)

some_split : (text : List ℕ) → 0 < length (slice_split (λ b. eqb b 47) text)
some_split text = omega (arith, length-slice_split (λ b. eqb b 47) text)

named : (longest most : ℕ) (rooted : Bool) (rest text : List ℕ) → text ≡ (if rooted then 47 ∷ [] else []) ++ rest → are_joined most rest ≡ true
    → length text ≤ longest → IsName longest most text
named longest most rooted rest text is h short = record {
  rooted = rooted;
  pieces = slice_split (λ b. eqb b 47) rest;
  is = is ∙ ap (λ r. (if rooted then 47 ∷ [] else []) ++ r) (sym (join_with_byte-slice_split 47 rest));
  some = some_split rest;
  each = pieces-from_test most (slice_split (λ b. eqb b 47) rest) h;
  short = short;
}

pub IsName-from_test : (longest most : ℕ) (text : List ℕ) → are_pieces most text ≡ true → length text ≤ longest → IsName longest most text
IsName-from_test longest most [] h short = named longest most false [] [] refl h short
IsName-from_test longest most (b ∷ bs) h short =
    elim (eqb b 47) as (λ t. eqb b 47 ≡ t → cond t (are_joined most bs) (are_joined most (b ∷ bs)) ≡ true → IsName longest most (b ∷ bs)) [
      | true ↦ λ e j. let is : b ≡ 47 = eqb-true b 47 e in named longest most true bs (b ∷ bs) (ap (λ x. x ∷ bs) is) j short
      | false ↦ λ e j. named longest most false (b ∷ bs) (b ∷ bs) refl j short
    ] refl h
