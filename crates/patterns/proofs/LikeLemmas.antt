-- Patterns by their pieces: the test by bytes, the relation, and why the first place of a piece is enough.
use Rattle.std.proofs.Common.{◌≡◌, ℕ, suc, ◌+◌, ◌-◌, ◌<◌, ◌==◌, ◌↔◌, Bool, true, false, ◌&&◌, ◌||◌, cond, List, [], ◌∷◌, ◌++◌, length, take, drop, Option, Some, None, IsTrue, refl, sym, ap, subst, ◌∙◌, append_assoc, arith}
use Rattle.std.specs.List.{list_any, prefix_len, position, position_or_len, slice_split, onto_first}
use Rattle.std.proofs.lemmas.Bool.{or_right, ltb-true, ltb-false}
use Rattle.std.proofs.lemmas.List.Splits.{slice_split_first, slice_split_none}
use Rattle.std.proofs.lemmas.List.Sums.{fails_before_first}
use Rattle.std.proofs.Math.Dec.{ltb}
use Rattle.std.proofs.Math.Seq.{drop-cons}
use Rattle.std.proofs.lemmas.Grind.{common_steps}
use Rattle.patterns.specs.Like.{goes_on, next_character, behind, StandInOrder, pieces_of, IsLike, rests_of, one_then, same_then, like, first_of, behind_first, is_end, stands_last}

-- ---- what is left later in a text

-- r' is what r has behind some front
abbrev pub Later : List ℕ → List ℕ → Type 0
Later r r' = (front : List ℕ) × (r ≡ front ++ r')

next-inner : (b : ℕ) (bs : List ℕ) → goes_on b ≡ true → next_character (b ∷ bs) ≡ next_character bs
next-inner b bs h =
    let e : (1 + prefix_len goes_on bs) ≡ suc (prefix_len goes_on bs) = omega arith in
    ap (λ c. drop (cond c (1 + prefix_len goes_on bs) 0) (b ∷ bs)) h ∙ ap (λ k. drop k (b ∷ bs)) e

next-outer : (b : ℕ) (bs : List ℕ) → goes_on b ≡ false → next_character (b ∷ bs) ≡ b ∷ bs
next-outer b bs h = ap (λ c. drop (cond c (1 + prefix_len goes_on bs) 0) (b ∷ bs)) h

-- a text is some front and what it has from the next character on
next_later : (t : List ℕ) → Later t (next_character t)
next_later [] = ([], refl)
next_later (b ∷ bs) =
    elim (goes_on b) as (λ c. goes_on b ≡ c → Later (b ∷ bs) (next_character (b ∷ bs))) [
      | true ↦ λ h. let more = next_later bs in (b ∷ more.0, ap (λ r. b ∷ r) more.1 ∙ ap (λ r. b ∷ more.0 ++ r) (sym (next-inner b bs h)))
      | false ↦ λ h. ([], sym (next-outer b bs h))
    ] refl

skip_later : (front t : List ℕ) → Later (next_character (front ++ t)) (next_character t)
skip_later [] t = ([], refl)
skip_later (f ∷ fs) t =
    elim (goes_on f) as (λ c. goes_on f ≡ c → Later (next_character (f ∷ fs ++ t)) (next_character t)) [
      | true ↦ λ h. let more = skip_later fs t in (more.0, next-inner f (fs ++ t) h ∙ more.1)
      | false ↦ λ h. let more = next_later t in
          (f ∷ fs ++ more.0, next-outer f (fs ++ t) h ∙ ap (λ r. f ∷ fs ++ r) more.1 ∙ ap (λ r. f ∷ r) (sym (append_assoc fs more.0 (next_character t))))
    ] refl

-- what `behind` gives once its two tests have been made
abbrev pub step : Bool → Bool → List ℕ → List ℕ → Option (List ℕ)
step any same ps bs = cond any (behind ps (next_character bs)) (cond same (behind ps bs) None)

abbrev pub IsLaterBehind : List ℕ → Type 0
IsLaterBehind ps = (front t r r' : List ℕ) → behind ps (front ++ t) ≡ Some r → behind ps t ≡ Some r' → Later r r'

step_later : (any same same' : Bool) (ps fs : List ℕ) (b : ℕ) (bs r r' : List ℕ) → IsLaterBehind ps
    → step any same ps (fs ++ b ∷ bs) ≡ Some r → step any same' ps bs ≡ Some r' → Later r r'
step_later true same same' ps fs b bs r r' ih h h' =
    let joined : fs ++ b ∷ bs ≡ (fs ++ b ∷ []) ++ bs = sym (append_assoc fs (b ∷ []) bs) in
    let skipped = skip_later (fs ++ b ∷ []) bs in
    let there : next_character (fs ++ b ∷ bs) ≡ skipped.0 ++ next_character bs = ap next_character joined ∙ skipped.1 in
    ih skipped.0 (next_character bs) r r' (ap (behind ps) (sym there) ∙ h) h'
step_later false true true ps fs b bs r r' ih h h' =
    let joined : fs ++ b ∷ bs ≡ (fs ++ b ∷ []) ++ bs = sym (append_assoc fs (b ∷ []) bs) in
    ih (fs ++ b ∷ []) bs r r' (ap (behind ps) (sym joined) ∙ h) h'
step_later false true false ps fs b bs r r' ih h h' = absurd (cc)
step_later false false same' ps fs b bs r r' ih h h' = absurd (cc)

-- a later place of a piece leaves no more of the text behind it
pub behind_later : (piece : List ℕ) → IsLaterBehind piece
behind_later [] front t r r' h h' = let same : r ≡ front ++ t = cc in let end : t ≡ r' = cc in (front, same ∙ ap (λ x. front ++ x) end)
behind_later (p ∷ ps) [] t r r' h h' = let both : Some r ≡ Some r' = sym h ∙ h' in let same : r ≡ r' = cc in ([], same)
behind_later (p ∷ ps) (f ∷ fs) [] r r' h h' = absurd (cc)
behind_later (p ∷ ps) (f ∷ fs) (b ∷ bs) r r' h h' = step_later (p == 95) (f == p) (b == p) ps fs b bs r r' (behind_later ps) h h'

-- ---- texts that begin somewhere in a text

pub any_later : (test : List ℕ → Bool) (front r : List ℕ) → list_any test (rests_of r) ≡ true → list_any test (rests_of (front ++ r)) ≡ true
any_later test [] r h = h
any_later test (f ∷ fs) r h = or_right (test (f ∷ fs ++ r)) (list_any test (rests_of (fs ++ r))) (any_later test fs r h)

any-same : (p q : List ℕ → Bool) → ((t : List ℕ) → p t ≡ q t) → (ts : List (List ℕ)) → list_any p ts ≡ list_any q ts
any-same p q h [] = refl
any-same p q h (t ∷ ts) = let first = h t in let others = any-same p q h ts in cc

-- the place of what the first place leaves
found_at : (piece t r : List ℕ) → behind_first piece t ≡ Some r → (front : List ℕ) × (rest : List ℕ) × (t ≡ front ++ rest) × (behind piece rest ≡ Some r)
found_at piece [] r h = ([], [], refl, h)
found_at piece (b ∷ bs) r h =
    elim (behind piece (b ∷ bs)) as (λ o. behind piece (b ∷ bs) ≡ o → first_of o (behind_first piece bs) ≡ Some r
    → (front : List ℕ) × (rest : List ℕ) × (b ∷ bs ≡ front ++ rest) × (behind piece rest ≡ Some r)) [
      | None ↦ λ e g. let more = found_at piece bs r g in (b ∷ more.0, more.1, ap (λ x. b ∷ x) more.2, more.3)
      | Some x ↦ λ e g. ([], b ∷ bs, refl, e ∙ g)
    ] refl h

-- ---- the pieces as a test

abbrev pub holds_after : (List ℕ → Bool) → Option (List ℕ) → Bool
holds_after test None = false
holds_after test (Some rest) = list_any test (rests_of rest)

abbrev pub in_order : List (List ℕ) → List ℕ → Bool
in_order [] text = false
in_order (piece ∷ []) text = is_end (behind piece text)
in_order (piece ∷ next ∷ pieces) text = holds_after (in_order (next ∷ pieces)) (behind piece text)

or_none : (x : Bool) → (x || false) ≡ x
or_none true = refl
or_none false = refl

or_same : (x y : Bool) → (y ≡ true → x ≡ true) → (x || y) ≡ x
or_same true y h = refl
or_same false true h = sym (h refl)
or_same false false h = refl

-- it is enough to look behind the first place of a piece
pub first_is_enough : (piece next : List ℕ) (pieces : List (List ℕ)) (t : List ℕ)
    → list_any (in_order (piece ∷ next ∷ pieces)) (rests_of t) ≡ holds_after (in_order (next ∷ pieces)) (behind_first piece t)
first_is_enough piece next pieces [] = or_none (in_order (piece ∷ next ∷ pieces) [])
first_is_enough piece next pieces (b ∷ bs) =
    let test = in_order (next ∷ pieces) in
    let later : (r : List ℕ) → behind piece (b ∷ bs) ≡ Some r → holds_after test (behind_first piece bs) ≡ true → holds_after test (Some r) ≡ true =
    λ r here. elim (behind_first piece bs) as (λ o. behind_first piece bs ≡ o → holds_after test o ≡ true → holds_after test (Some r) ≡ true) [
      | None ↦ λ e g. absurd (cc)
      | Some r' ↦ λ e g.
          let at = found_at piece bs r' e in
          let whole : behind piece ((b ∷ at.0) ++ at.1) ≡ Some r = ap (λ x. behind piece (b ∷ x)) (sym at.2) ∙ here in
          let less = behind_later piece (b ∷ at.0) at.1 r r' whole at.3 in
          ap (λ x. list_any test (rests_of x)) less.1 ∙ any_later test less.0 r' g
    ] refl in
    ap (λ x. in_order (piece ∷ next ∷ pieces) (b ∷ bs) || x) (first_is_enough piece next pieces bs)
    ∙ elim (behind piece (b ∷ bs)) as (λ o. behind piece (b ∷ bs) ≡ o → (holds_after test o || holds_after test (behind_first piece bs)) ≡ holds_after test (first_of o (behind_first piece bs))) [
      | None ↦ λ e. refl
      | Some r ↦ λ e. or_same (holds_after test (Some r)) (holds_after test (behind_first piece bs)) (later r e)
    ] refl

-- ---- the test by bytes

abbrev pub byte_then : Bool → ℕ → (List ℕ → Bool) → List ℕ → Bool
byte_then any p test t = cond any (one_then test t) (same_then p test t)

onto-last : (p : ℕ) (q t : List ℕ) → is_end (behind (p ∷ q) t) ≡ byte_then (p == 95) p (λ x. is_end (behind q x)) t
onto-last p q [] = elim (p == 95) as (λ any. false ≡ byte_then any p (λ x. is_end (behind q x)) []) [ true ↦ refl | false ↦ refl ]
onto-last p q (b ∷ bs) =
    elim (p == 95) as (λ any. is_end (step any (b == p) q bs) ≡ byte_then any p (λ x. is_end (behind q x)) (b ∷ bs)) [
      | true ↦ refl
      | false ↦ elim (b == p) as (λ same. is_end (step false same q bs) ≡ (same && is_end (behind q bs))) [ true ↦ refl | false ↦ refl ]
    ]

onto-more : (test : List ℕ → Bool) (p : ℕ) (q t : List ℕ) → holds_after test (behind (p ∷ q) t) ≡ byte_then (p == 95) p (λ x. holds_after test (behind q x)) t
onto-more test p q [] = elim (p == 95) as (λ any. false ≡ byte_then any p (λ x. holds_after test (behind q x)) []) [ true ↦ refl | false ↦ refl ]
onto-more test p q (b ∷ bs) =
    elim (p == 95) as (λ any. holds_after test (step any (b == p) q bs) ≡ byte_then any p (λ x. holds_after test (behind q x)) (b ∷ bs)) [
      | true ↦ refl
      | false ↦ elim (b == p) as (λ same. holds_after test (step false same q bs) ≡ (same && holds_after test (behind q bs))) [ true ↦ refl | false ↦ refl ]
    ]

onto : (p : ℕ) (piece : List ℕ) (pieces : List (List ℕ)) (t : List ℕ) → in_order ((p ∷ piece) ∷ pieces) t ≡ byte_then (p == 95) p (in_order (piece ∷ pieces)) t
onto p piece [] t = onto-last p piece t
onto p piece (next ∷ pieces) t = onto-more (in_order (next ∷ pieces)) p piece t

then-same : (any : Bool) (p : ℕ) (f g : List ℕ → Bool) → ((x : List ℕ) → f x ≡ g x) → (t : List ℕ) → byte_then any p f t ≡ byte_then any p g t
then-same true p f g h [] = refl
then-same true p f g h (b ∷ bs) = h (next_character bs)
then-same false p f g h [] = refl
then-same false p f g h (b ∷ bs) = ap (λ x. b == p && x) (h bs)

-- ---- cutting

abbrev pub parted : Bool → ℕ → List (List ℕ) → List (List ℕ)
parted c p parts = cond c ([] ∷ parts) (onto_first p parts)

parted-test : (c : Bool) (p : ℕ) (parts : List (List ℕ)) (test : List ℕ → Bool) → ((x : List ℕ) → test x ≡ in_order parts x) → 0 < length parts → (t : List ℕ)
    → cond c (list_any test (rests_of t)) (byte_then (p == 95) p test t) ≡ in_order (parted c p parts) t
parted-test c p [] test h some t = absurd (omega arith)
parted-test true p (piece ∷ pieces) test h some t = any-same test (in_order (piece ∷ pieces)) h (rests_of t)
parted-test false p (piece ∷ pieces) test h some t = then-same (p == 95) p test (in_order (piece ∷ pieces)) h t ∙ sym (onto p piece pieces t)

parted-some : (c : Bool) (p : ℕ) (parts : List (List ℕ)) → 0 < length parts → 0 < length (parted c p parts)
parted-some true p parts some = omega arith
parted-some false p [] some = omega arith
parted-some false p (piece ∷ pieces) some = omega arith

pub some_piece : (pattern : List ℕ) → 0 < length (pieces_of pattern)
some_piece [] = omega arith
some_piece (p ∷ ps) = parted-some (p == 37) p (pieces_of ps) (some_piece ps)

pub like-in_order : (pattern t : List ℕ) → like pattern t ≡ in_order (pieces_of pattern) t
like-in_order [] [] = refl
like-in_order [] (b ∷ bs) = refl
like-in_order (p ∷ ps) t = parted-test (p == 37) p (pieces_of ps) (like ps) (like-in_order ps) (some_piece ps) t

-- ---- the relation

end-some : (o : Option (List ℕ)) → is_end o ≡ true → o ≡ Some []
end-some None h = absurd (cc)
end-some (Some []) h = refl
end-some (Some (b ∷ bs)) h = absurd (cc)

or_case : (x y : Bool) (P : Type 0) → (x ≡ true → P) → (y ≡ true → P) → (x || y) ≡ true → P
or_case true y P f g h = f refl
or_case false y P f g h = g h

any_rest : (test : List ℕ → Bool) (t : List ℕ) → list_any test (rests_of t) ≡ true → (between : List ℕ) × (rest : List ℕ) × (t ≡ between ++ rest) × (test rest ≡ true)
any_rest test [] h = ([], [], refl, sym (or_none (test [])) ∙ h)
any_rest test (b ∷ bs) h =
    or_case (test (b ∷ bs)) (list_any test (rests_of bs)) ((between : List ℕ) × (rest : List ℕ) × (b ∷ bs ≡ between ++ rest) × (test rest ≡ true))
    (λ here. ([], b ∷ bs, refl, here))
    (λ there. let more = any_rest test bs there in (b ∷ more.0, more.1, ap (λ x. b ∷ x) more.2, more.3))
    h

rest_any : (test : List ℕ → Bool) (between rest : List ℕ) → test rest ≡ true → list_any test (rests_of (between ++ rest)) ≡ true
rest_any test between rest h = any_later test between rest (here test rest h)
  where
    here : (test : List ℕ → Bool) (rest : List ℕ) → test rest ≡ true → list_any test (rests_of rest) ≡ true
    here test [] h = ap (λ x. x || false) h
    here test (b ∷ bs) h = ap (λ x. x || list_any test (rests_of bs)) h

pub stand-in_order : (pieces : List (List ℕ)) (t : List ℕ) → in_order pieces t ≡ true → StandInOrder pieces t
stand-in_order [] t h = absurd (cc)
stand-in_order (piece ∷ []) t h = end-some (behind piece t) h
stand-in_order (piece ∷ next ∷ pieces) t h =
    elim (behind piece t) as (λ o. behind piece t ≡ o → holds_after (in_order (next ∷ pieces)) o ≡ true
    → (between : List ℕ) × (rest : List ℕ) × (behind piece t ≡ Some (between ++ rest)) × StandInOrder (next ∷ pieces) rest) [
      | None ↦ λ e g. absurd (cc)
      | Some r ↦ λ e g.
          let at = any_rest (in_order (next ∷ pieces)) r g in
          (at.0, at.1, e ∙ ap (λ x. Some x) at.2, stand-in_order (next ∷ pieces) at.1 at.3)
    ] refl h

pub in_order-stand : (pieces : List (List ℕ)) (t : List ℕ) → StandInOrder pieces t → in_order pieces t ≡ true
in_order-stand [] t h = absurd h
in_order-stand (piece ∷ []) t h = ap is_end h
in_order-stand (piece ∷ next ∷ pieces) t h =
    let there = in_order-stand (next ∷ pieces) h.1 h.3 in
    ap (holds_after (in_order (next ∷ pieces))) h.2 ∙ rest_any (in_order (next ∷ pieces)) h.0 h.1 there

-- ---- the place of the first `%`

cond_some : (b : Bool) (n at : ℕ) → cond b (Some n) None ≡ Some at → (b ≡ true) × (n ≡ at)
cond_some true n at h = let same : n ≡ at = cc in (refl, same)
cond_some false n at h = absurd (cc)

cond_none : (b : Bool) (n : ℕ) → cond b (Some n) None ≡ None → b ≡ false
cond_none true n h = absurd (cc)
cond_none false n h = refl

pub cut_at : (pattern : List ℕ) (at : ℕ) → position (λ p. p == 37) pattern ≡ Some at
    → (at < length pattern) × (pieces_of pattern ≡ take at pattern ∷ pieces_of (drop (at + 1) pattern))
cut_at pattern at h =
    let gap : ℕ → Bool = λ p. p == 37 in
    let two = cond_some (ltb (position_or_len gap pattern) (length pattern)) (position_or_len gap pattern) at h in
    let within = ltb-true (position_or_len gap pattern) (length pattern) two.0 in (
      subst (λ k. k < length pattern) two.1 within,
      slice_split_first gap pattern 0 within ∙ ap (λ k. take k pattern ∷ pieces_of (drop (k + 1) pattern)) two.1,
    )

pub uncut : (pattern : List ℕ) → position (λ p. p == 37) pattern ≡ None → pieces_of pattern ≡ pattern ∷ []
uncut pattern h =
    let gap : ℕ → Bool = λ p. p == 37 in
    let none = cond_none (ltb (position_or_len gap pattern) (length pattern)) (position_or_len gap pattern) h in
    let whole = ltb-false (position_or_len gap pattern) (length pattern) none in
    slice_split_none gap pattern (λ k d l. fails_before_first gap pattern k d (omega arith))

pub take_rest : (k : ℕ) (xs : List ℕ) → take (length xs - k) (drop k xs) ≡ drop k xs
take_rest k xs = grind (arith, common_steps)

-- ---- what the test has come to

pub decided : (r : Bool) (pattern text : List ℕ) → r ≡ like pattern text → IsTrue r ↔ IsLike pattern text
decided r pattern text h = (
  (λ yes. stand-in_order (pieces_of pattern) text (sym (h ∙ like-in_order pattern text) ∙ yes)),
  (λ stands. h ∙ like-in_order pattern text ∙ in_order-stand (pieces_of pattern) text stands),
)

-- one piece
pub like_whole : (pattern text : List ℕ) → pieces_of pattern ≡ pattern ∷ [] → like pattern text ≡ is_end (behind pattern text)
like_whole pattern text one = like-in_order pattern text ∙ ap (λ parts. in_order parts text) one

front_holds : (piece : List ℕ) (parts : List (List ℕ)) (text : List ℕ) → 0 < length parts → in_order (piece ∷ parts) text ≡ holds_after (in_order parts) (behind piece text)
front_holds piece [] text some = absurd (omega arith)
front_holds piece (next ∷ pieces) text some = refl

-- a piece before others, which stands at the front or doesn't
pub like_front : (pattern piece more text : List ℕ) → pieces_of pattern ≡ piece ∷ pieces_of more
    → like pattern text ≡ holds_after (in_order (pieces_of more)) (behind piece text)
like_front pattern piece more text parts =
    like-in_order pattern text ∙ ap (λ ps. in_order ps text) parts ∙ front_holds piece (pieces_of more) text (some_piece more)

search_on : (piece : List ℕ) (parts : List (List ℕ)) (rest : List ℕ) → 0 < length parts
    → list_any (in_order (piece ∷ parts)) (rests_of rest) ≡ holds_after (in_order parts) (behind_first piece rest)
search_on piece [] rest some = absurd (omega arith)
search_on piece (next ∷ pieces) rest some = first_is_enough piece next pieces rest

-- the same of one that is looked for
pub like_next : (pieces piece more rest : List ℕ) → pieces_of pieces ≡ piece ∷ pieces_of more
    → list_any (in_order (pieces_of pieces)) (rests_of rest) ≡ holds_after (in_order (pieces_of more)) (behind_first piece rest)
like_next pieces piece more rest parts =
    ap (λ ps. list_any (in_order ps) (rests_of rest)) parts ∙ search_on piece (pieces_of more) rest (some_piece more)

-- and the last
pub like_last : (pieces rest : List ℕ) → pieces_of pieces ≡ pieces ∷ [] → list_any (in_order (pieces_of pieces)) (rests_of rest) ≡ stands_last pieces rest
like_last pieces rest one = ap (λ ps. list_any (in_order ps) (rests_of rest)) one

-- a piece that goes on stands nowhere in an empty text
pub behind_none : (piece rest : List ℕ) (i : ℕ) → i < length piece → length rest < 1 → None ≡ behind (drop i piece) rest
behind_none piece [] i more h = ap (λ ps. behind ps []) (sym (drop-cons piece i 0 more))
behind_none piece (b ∷ bs) i more h = absurd (omega arith)
