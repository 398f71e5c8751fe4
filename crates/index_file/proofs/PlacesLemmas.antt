-- Where the bitmaps of an index file stand.
use Rattle.std.proofs.Common.{◌≡◌, ℕ, zero, suc, ◌+◌, ◌-◌, ◌*◌, ◌<◌, ◌≤◌, ◌==◌, Bool, true, false, cond, List, [], ◌∷◌, ◌++◌, length, get_or, take, Option, Some, None, option_map, nat_lt, refl, sym, ap, subst, ◌∙◌, arith, sum_by, length-append, append_assoc, append-nil}
use Rattle.std.specs.List.{flat_map}
use Rattle.std.proofs.Math.Seq.{take-suc}
use Rattle.std.proofs.lemmas.Bool.{eqb-true, ltb-false}
use Rattle.std.proofs.lemmas.List.Sums.{sum_by-take-le}
use Rattle.wah_words.specs.Bytes.{spelling}
use Rattle.wah_words.specs.Limits.{most_bits}
use Rattle.wah_words.specs.Spelling.{words_of}
use Rattle.wah_words.proofs.BytesLemmas.{length-spelling}
use Rattle.wah_words.proofs.SpellingLemmas.{words_of_le}
use Rattle.index_file.specs.Places.{ArePlaced, first_close, first_wrong_place, last_from, or_else, places_from}

-- ---- bytes of one element more

flat_map-append : {X : Type 0} (f : X → List ℕ) (xs more : List X) → flat_map f (xs ++ more) ≡ flat_map f xs ++ flat_map f more
flat_map-append f [] more = refl
flat_map-append f (x ∷ xs) more = ap (λ r. f x ++ r) (flat_map-append f xs more) ∙ sym (append_assoc (f x) (flat_map f xs) (flat_map f more))

item_at : {X : Type 0} (xs : List X) (i : ℕ) (x : X) → i < length xs → x ≡ get_or xs i x → take (i + 1) xs ≡ take i xs ++ x ∷ []
item_at xs i x h is =
    let one : i + 1 ≡ suc i = omega arith in
    ap (λ n. take n xs) one ∙ take-suc xs i x h ∙ ap (λ y. take i xs ++ y ∷ []) (sym is)

pub one_more : {X : Type 0} (f : X → List ℕ) (xs : List X) (i : ℕ) (x : X) → i < length xs → x ≡ get_or xs i x
    → flat_map f (take (i + 1) xs) ≡ flat_map f (take i xs) ++ f x
one_more f xs i x h is =
    ap (flat_map f) (item_at xs i x h is) ∙ flat_map-append f (take i xs) (x ∷ []) ∙ ap (λ r. flat_map f (take i xs) ++ r) (append-nil (f x))

-- the same at the end of others
pub pushed_more : {X : Type 0} (f : X → List ℕ) (xs : List X) (i : ℕ) (x : X) (front old new : List ℕ) → i < length xs → x ≡ get_or xs i x
    → old ≡ front ++ flat_map f (take i xs) → new ≡ old ++ f x → new ≡ front ++ flat_map f (take (i + 1) xs)
pushed_more f xs i x front old new h is before after =
    after ∙ ap (λ b. b ++ f x) before ∙ append_assoc front (flat_map f (take i xs)) (f x) ∙ ap (λ b. front ++ b) (sym (one_more f xs i x h is))

-- ---- the loop that finds the places

places_from-append : (at : ℕ) (bitmaps : List (List Bool)) (bits : List Bool)
    → places_from at (bitmaps ++ bits ∷ []) ≡ places_from at bitmaps ++ (at + length (flat_map spelling (bitmaps ++ bits ∷ []))) ∷ []
places_from-append at [] bits = ap (λ n. at ∷ (at + n) ∷ []) (sym (ap length (append-nil (spelling bits))))
places_from-append at (b ∷ bs) bits =
    let rest = flat_map spelling (bs ++ bits ∷ []) in
    let sum : at + length (spelling b) + length rest ≡ at + length (spelling b ++ rest) = omega (arith, length-append (spelling b) rest) in
    ap (λ s. at ∷ s) (places_from-append (at + length (spelling b)) bs bits)
    ∙ ap (λ n. at ∷ (places_from (at + length (spelling b)) bs ++ n ∷ [])) sum

-- its end is the next place
pub places_pushed : (start : ℕ) (bitmaps : List (List Bool)) (i : ℕ) (bits : List Bool) (at : ℕ) → i < length bitmaps → bits ≡ get_or bitmaps i bits
    → at ≡ start + length (flat_map spelling (take i bitmaps))
    → (at + (8 + 4 * words_of bits) ≡ start + length (flat_map spelling (take (i + 1) bitmaps)))
    × (places_from start (take i bitmaps) ++ (at + (8 + 4 * words_of bits)) ∷ [] ≡ places_from start (take (i + 1) bitmaps))
places_pushed start bitmaps i bits at h is ends =
    let more = one_more spelling bitmaps i bits h is in
    let sizes : length (flat_map spelling (take (i + 1) bitmaps)) ≡ length (flat_map spelling (take i bitmaps)) + length (spelling bits)
    = ap length more ∙ length-append (flat_map spelling (take i bitmaps)) (spelling bits) in
    let size = length-spelling bits in
    let next : at + (8 + 4 * words_of bits) ≡ start + length (flat_map spelling (take (i + 1) bitmaps)) = omega arith in
    let added = item_at bitmaps i bits h is in (
      next,
      ap (λ n. places_from start (take i bitmaps) ++ n ∷ []) (next ∙ ap (λ bs. start + length (flat_map spelling bs)) added)
          ∙ sym (places_from-append start (take i bitmaps) bits) ∙ ap (places_from start) (sym added),
    )

-- a vector's bytes are few
pub few_words : (bits : List Bool) → length bits ≤ most_bits → 8 + 4 * words_of bits < 1048576
few_words bits h = let few = words_of_le bits in omega arith

-- ---- the last place

pub last_is : (first : ℕ) (places : List ℕ) → 0 < length places → last_from first places ≡ get_or places (length places - 1) 0
last_is first [] h = absurd (omega arith)
last_is first (p ∷ []) h = refl
last_is first (p ∷ q ∷ ps) h =
    let place : suc (length (q ∷ ps) - 1) ≡ length (p ∷ q ∷ ps) - 1 = omega arith in
    last_is p (q ∷ ps) (omega arith) ∙ ap (λ k. get_or (p ∷ q ∷ ps) k 0) place

-- ---- places that were tested

pub none_of : (b : Bool) (o : Option ℕ) → cond b (Some 0) (option_map suc o) ≡ None → (b ≡ false) × (o ≡ None)
none_of true o h = absurd (cc)
none_of false None h = (refl, refl)
none_of false (Some k) h = absurd (cc)

apart_from : (before : ℕ) (places : List ℕ) (k : ℕ) → first_close before places ≡ None → k < length places
    → get_or (before ∷ places) k 0 + 8 ≤ get_or (before ∷ places) (suc k) 0
apart_from before [] k h within = absurd (omega arith)
apart_from before (p ∷ ps) zero h within = ltb-false p (before + 8) (none_of (nat_lt p (before + 8)) (first_close p ps) h).0
apart_from before (p ∷ ps) (suc k) h within = apart_from p ps k (none_of (nat_lt p (before + 8)) (first_close p ps) h).1 (omega arith)

map_none : (o other : Option ℕ) → or_else (option_map suc o) other ≡ None → (o ≡ None) × (other ≡ None)
map_none None other h = (refl, h)
map_none (Some k) other h = absurd (let e : Some (suc k) ≡ None = h in cc)

end_is : (last size count : ℕ) → cond (last == size) None (Some count) ≡ None → last ≡ size
end_is last size count h = by (last == size) refl h
  where
    by : (b : Bool) → (last == size) ≡ b → cond b None (Some count) ≡ None → last ≡ size
    by true e g = eqb-true last size e
    by false e g = absurd (cc)

pub places_right : (head size : ℕ) (places : List ℕ) → first_wrong_place head size places ≡ None → ArePlaced head size places
places_right head size [] h = absurd (cc)
places_right head size (p ∷ ps) h = by (p == head) refl h
  where
    rest : Option ℕ
    rest = cond (last_from p ps == size) None (Some (length ps))

    by : (b : Bool) → (p == head) ≡ b → cond b (or_else (option_map suc (first_close p ps)) rest) (Some 0) ≡ None → ArePlaced head size (p ∷ ps)
    by false e g = absurd (cc)
    by true e g =
        let two = map_none (first_close p ps) rest g in
        record {
          some = omega arith;
          first = eqb-true p head e;
          last = end_is (last_from p ps) size (length ps) two.1;
          apart = λ k within.
              let next : suc k ≡ k + 1 = omega arith in
              subst (λ n. get_or (p ∷ ps) k 0 + 8 ≤ get_or (p ∷ ps) n 0) next (apart_from p ps k two.0 (omega arith));
        }

pub places_apart : (head size : ℕ) (places : List ℕ) (k : ℕ) → first_wrong_place head size places ≡ None → k + 1 < length places
    → get_or places k 0 + 8 ≤ get_or places (k + 1) 0
places_apart head size places k h within = (places_right head size places h).apart k within

pub places_below : (head size : ℕ) (places : List ℕ) (k : ℕ) → first_wrong_place head size places ≡ None → k + 1 < length places
    → get_or places k 0 ≤ get_or places (k + 1) 0
places_below head size places k h within = let more = places_apart head size places k h within in omega arith

-- ---- looks at words

pub words_taken : (bitmaps : List (List Bool)) (i : ℕ) → sum_by words_of (take i bitmaps) ≤ sum_by words_of bitmaps
words_taken bitmaps i = sum_by-take-le words_of bitmaps i

-- ---- how many places

pub length-places : (start : ℕ) (bitmaps : List (List Bool)) → length (places_from start bitmaps) ≡ length bitmaps + 1
length-places start [] = refl
length-places start (b ∷ bs) = omega (arith, length-places (start + length (spelling b)) bs)
