-- Groups of bins, one after the other.
use Rattle.std.proofs.Common.{◌≡◌, ◌==◌, ℕ, zero, suc, ◌+◌, ◌-◌, ◌*◌, ◌/◌, ◌<◌, ◌≤◌, Bool, min, map, List, [], ◌∷◌, ◌++◌, All, length, take, drop, refl, sym, ap, ◌∙◌, arith, length-append}
use Rattle.std.proofs.lemmas.Bool.Decides.{nat_tests}
use Rattle.std.proofs.lemmas.List.{map-append, length-map}
use Rattle.std.proofs.lemmas.List.Elements.{All-append, All-map}
use Rattle.std.proofs.lemmas.List.FromFn.{map-range_with_len_more}
use Rattle.std.specs.List.{range_with_len}
use Rattle.wah_logic.specs.Logic.{union}
use Rattle.wah_logic.proofs.UnionLemmas.{all_front, all_back, length-union}
use Rattle.binning.specs.declared.gathering.Bin.{Bin}
use Rattle.binning.specs.Members.{AreBins, union_of, in_run}
use Rattle.binning.specs.Encodings.{vectors}
use Rattle.binning.proofs.MembersLemmas.{union-run, union_of-same}
use Rattle.enc_two_level.specs.Grouped.{group_rows}
use Rattle.enc_two_level.proofs.NumbersLemmas.{one_group}

-- the first n groups of g bins
pub record AreGroups (rows g : ℕ) (bins : List Bin) (n : ℕ) (groups : List Bin) : Type 0 where
  pub number : length groups ≡ n
  pub long : All (λ b. length b.rows ≡ rows) groups
  pub values : AreBins rows (vectors bins) → vectors groups ≡ group_rows rows g (vectors bins) n

pub no_groups : (rows g : ℕ) (bins groups : List Bin) → groups ≡ [] → AreGroups rows g bins 0 groups
no_groups rows g bins [] e = record { number = refl; long = λ k d h. absurd (omega arith); values = λ h. refl }
no_groups rows g bins (b ∷ groups) e = absurd (cc)

one_long : (rows : ℕ) (b : Bin) → length b.rows ≡ rows → All (λ x. length x.rows ≡ rows) (b ∷ [])
one_long rows b h zero d l = h
one_long rows b h (suc k) d l = absurd (omega arith)

-- the bins of a part are long
pub part_long : (rows n i : ℕ) (bins : List Bin) → All (λ b. length b.rows ≡ rows) bins → All (λ v. length v ≡ rows) (vectors (take n (drop i bins)))
part_long rows n i bins h = all_front (λ (b : Bin). b.rows) rows n (drop i bins) (take n (drop i bins)) refl (all_back (λ (b : Bin). b.rows) rows i bins (drop i bins) refl (All-map (λ v. length v ≡ rows) (λ (b : Bin). b.rows) bins h))

cut : (p g n b : ℕ) → b < n → in_run p (min (p + g) n) b ≡ in_run p (p + g) b
cut p g n b h = grind (arith, nat_tests)

group_is : (rows g t : ℕ) (bins : List Bin) (v : List Bool) (begin stop : ℕ) → 1 ≤ g → begin ≡ t * g → stop ≡ min (begin + g) (length bins) → v ≡ union rows (vectors (take (stop - begin) (drop begin bins))) → v ≡ union_of rows (λ b. b / g == t) (vectors bins)
group_is rows g t bins v begin stop some e h is =
    is ∙ union-run rows begin stop bins
    ∙ union_of-same rows (in_run begin stop) (λ b. b / g == t) (vectors bins) (λ b l.
    (let below : b < length bins = omega (arith, l, length-map bins (λ (x : Bin). x.rows)) in
    ap (λ x. in_run begin x b) h ∙ cut begin g (length bins) b below ∙ ap (λ x. in_run x (x + g) b) e ∙ sym (one_group g t b some)))

pub one_more : (rows g t : ℕ) (bins groups : List Bin) (bin : Bin) (begin stop : ℕ) → AreGroups rows g bins t groups → 1 ≤ g → All (λ b. length b.rows ≡ rows) bins → begin ≡ t * g → stop ≡ min (begin + g) (length bins) → bin.rows ≡ union rows (vectors (take (stop - begin) (drop begin bins))) → AreGroups rows g bins (t + 1) (groups ++ bin ∷ [])
one_more rows g t bins groups bin begin stop r some long e h is =
    let here : length bin.rows ≡ rows = ap length is ∙ length-union rows (vectors (take (stop - begin) (drop begin bins))) (part_long rows (stop - begin) begin bins long) in
    record {
      number = omega (arith, length-append groups (bin ∷ []), r.number);
      long = All-append (λ b. length b.rows ≡ rows) groups (bin ∷ []) r.long (one_long rows bin here);
      values = λ apart.
          map-append (λ (b : Bin). b.rows) groups (bin ∷ []) ∙ ap (λ l. l ++ bin.rows ∷ []) (r.values apart)
          ∙ ap (λ v. group_rows rows g (vectors bins) t ++ v ∷ []) (group_is rows g t bins bin.rows begin stop some e h is)
          ∙ sym (map-range_with_len_more (λ t. union_of rows (λ b. b / g == t) (vectors bins)) 0 t t (omega arith));
    }
