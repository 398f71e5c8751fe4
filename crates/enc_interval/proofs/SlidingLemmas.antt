-- The unions of halves, each from the one before it.
use Rattle.std.proofs.Common.{◌≡◌, ◌==◌, ℕ, zero, suc, ◌+◌, ◌-◌, ◌<◌, ◌≤◌, Bool, map, List, [], ◌∷◌, ◌++◌, All, length, take, get_or, refl, sym, ap, ◌∙◌, arith, length-append}
use Rattle.std.proofs.lemmas.Bool.Decides.{nat_tests}
use Rattle.std.proofs.lemmas.List.{length-map}
use Rattle.std.proofs.lemmas.List.Elements.{All-append, All-map}
use Rattle.std.proofs.lemmas.List.FromFn.{map-range_with_len_more, get_or-map-range_with_len}
use Rattle.std.specs.List.{range_with_len}
use Rattle.wah_logic.specs.Logic.{each_place, xor, union}
use Rattle.wah_logic.proofs.UnionLemmas.{all_front}
use Rattle.binning.specs.declared.gathering.Bin.{Bin}
use Rattle.binning.specs.Members.{AreBins, union_of, in_run}
use Rattle.binning.specs.Encodings.{vectors}
use Rattle.binning.proofs.MembersLemmas.{rows_of_bin, bins-op, union_of-same, union-front}
use Rattle.enc_interval.specs.Halves.{rows_from}

-- the first n of them
pub record AreSliding (rows w : ℕ) (bins : List Bin) (n : ℕ) (unions : List (List Bool)) : Type 0 where
  pub number : length unions ≡ n
  pub long : All (λ v. length v ≡ rows) unions
  pub values : AreBins rows (vectors bins) → unions ≡ map (rows_from rows w (vectors bins)) (range_with_len 0 n)

one_long : (rows : ℕ) (v : List Bool) → length v ≡ rows → All (λ x. length x ≡ rows) (v ∷ [])
one_long rows v h zero d l = h
one_long rows v h (suc k) d l = absurd (omega arith)

-- the bins of the first half are long
pub front_long : (rows w : ℕ) (bins front : List Bin) → front ≡ take w bins → All (λ b. length b.rows ≡ rows) bins → All (λ v. length v ≡ rows) (vectors front)
front_long rows w bins front e h = all_front (λ (b : Bin). b.rows) rows w bins front e (All-map (λ v. length v ≡ rows) (λ (b : Bin). b.rows) bins h)

pub first_sliding : (rows w : ℕ) (bins : List Bin) (v : List Bool) → length v ≡ rows → v ≡ union rows (vectors (take w bins)) → AreSliding rows w bins 1 (v ∷ [])
first_sliding rows w bins v h e = record {
  number = refl;
  long = one_long rows v h;
  values = λ apart. ap (λ u. u ∷ []) (e ∙ union-front rows w bins ∙ ap (λ m. union_of rows (in_run 0 m) (vectors bins)) (omega arith));
}

-- the bin that leaves the half from k on, and the one that enters it
slides : (k w b : ℕ) → 0 < w → xor (in_run k (k + w) b) (xor (b == k) (b == k + w)) ≡ in_run (k + 1) (k + 1 + w) b
slides k w b h = grind (arith, nat_tests)

slid_from : (rows w k : ℕ) (bins : List Bin) (v : List Bool) (leaves enters : Bin) → AreBins rows (vectors bins) → 0 < w → k + w < length bins → v ≡ rows_from rows w (vectors bins) k → leaves ≡ get_or bins k leaves → enters ≡ get_or bins (k + w) enters → each_place xor v (each_place xor leaves.rows enters.rows) ≡ rows_from rows w (vectors bins) (k + 1)
slid_from rows w k bins v leaves enters apart some below e out inn =
    let vs = vectors bins in
    ap (λ u. each_place xor u (each_place xor leaves.rows enters.rows)) e
    ∙ ap (λ u. each_place xor (rows_from rows w vs k) (each_place xor u enters.rows)) (rows_of_bin rows bins k leaves apart (omega arith) out)
    ∙ ap (λ u. each_place xor (rows_from rows w vs k) (each_place xor (union_of rows (λ b. b == k) vs) u)) (rows_of_bin rows bins (k + w) enters apart below inn)
    ∙ ap (λ u. each_place xor (rows_from rows w vs k) u) (bins-op xor refl rows (λ b. b == k) (λ b. b == k + w) vs apart)
    ∙ bins-op xor refl rows (in_run k (k + w)) (λ b. xor (b == k) (b == k + w)) vs apart
    ∙ union_of-same rows (λ b. xor (in_run k (k + w) b) (xor (b == k) (b == k + w))) (in_run (k + 1) (k + 1 + w)) vs (λ b l. slides k w b some)

pub more_sliding : (rows w k : ℕ) (bins : List Bin) (unions : List (List Bool)) (v next : List Bool) (leaves enters : Bin) → AreSliding rows w bins (k + 1) unions → 0 < w → k + w < length bins → v ≡ get_or unions k v → leaves ≡ get_or bins k leaves → enters ≡ get_or bins (k + w) enters → length next ≡ rows → next ≡ each_place xor v (each_place xor leaves.rows enters.rows) → AreSliding rows w bins (k + 1 + 1) (unions ++ next ∷ [])
more_sliding rows w k bins unions v next leaves enters r some below at out inn long e = record {
  number = omega (arith, length-append unions (next ∷ []), r.number);
  long = All-append (λ x. length x ≡ rows) unions (next ∷ []) r.long (one_long rows next long);
  values = λ apart.
      let here : v ≡ rows_from rows w (vectors bins) k = at ∙ ap (λ u. get_or u k v) (r.values apart) ∙ get_or-map-range_with_len (rows_from rows w (vectors bins)) 0 (k + 1) k k v (omega arith) (omega arith) in
      ap (λ u. u ++ next ∷ []) (r.values apart)
      ∙ ap (λ u. map (rows_from rows w (vectors bins)) (range_with_len 0 (k + 1)) ++ u ∷ []) (e ∙ slid_from rows w k bins v leaves enters apart some below here out inn)
      ∙ sym (map-range_with_len_more (rows_from rows w (vectors bins)) 0 (k + 1) (k + 1) (omega arith));
}
