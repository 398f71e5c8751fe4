-- The rows of joined lists.
use Rattle.std.proofs.Common.{◌≡◌, ℕ, zero, suc, ◌+◌, ◌-◌, ◌*◌, ◌/◌, ◌≤◌, Bool, true, false, List, [], ◌∷◌, ◌++◌, length, replicate, refl, ap, ◌∙◌, arith, length-append, min}
use Rattle.std.proofs.lemmas.List.{length-replicate, append-nil}
use Rattle.wah_words.specs.Places.{places}
use Rattle.wah_words.proofs.PlacesLemmas.{length-places}
use Rattle.wah_iter.specs.Rows.{rows_from, rows_of}

pub rows_from-append : (k : ℕ) (v w : List Bool) → rows_from k (v ++ w) ≡ rows_from k v ++ rows_from (k + length v) w
unfolding rows_from
rows_from-append k [] w = let e : k ≡ k + 0 = omega arith in ap (λ n. rows_from n w) e
rows_from-append k (true ∷ v) w =
    let e : k + 1 + length v ≡ k + suc (length v) = omega arith in
    ap (λ l. k ∷ l) (rows_from-append (k + 1) v w ∙ ap (λ n. rows_from (k + 1) v ++ rows_from n w) e)
rows_from-append k (false ∷ v) w =
    let e : k + 1 + length v ≡ k + suc (length v) = omega arith in
    rows_from-append (k + 1) v w ∙ ap (λ n. rows_from (k + 1) v ++ rows_from n w) e

pub rows_from-zeros : (k n : ℕ) → rows_from k (replicate n false) ≡ []
unfolding rows_from
rows_from-zeros k zero = refl
rows_from-zeros k (suc n) = rows_from-zeros (k + 1) n

pub rows-zeros : (v w : List Bool) (n : ℕ) → w ≡ v ++ replicate n false → rows_of w ≡ rows_of v
rows-zeros v w n e = ap rows_of e ∙ rows_from-append 0 v (replicate n false) ∙ ap (λ l. rows_of v ++ l) (rows_from-zeros (0 + length v) n) ∙ append-nil (rows_of v)

pub rows_one : (k : ℕ) → rows_from k (places 1 1) ≡ k ∷ []
unfolding rows_from places
rows_one k = refl

pub rows_none : (v : List Bool) → v ≡ [] → rows_of v ≡ []
unfolding rows_from
rows_none v e = ap rows_of e
