use Rattle.std.proofs.Common.{◌≡◌, ℕ, ◌<◌, ◌≤◌, List, Bool, length, subst, sym, ap, ◌∙◌, arith}
use Rattle.std.proofs.lemmas.List.{length-map}
use Rattle.std.specs.Int.{div_ceil}
use Rattle.index_spec.specs.declared.spec.Coarse.{Coarse}
use Rattle.index_spec.specs.Counts.{groups_of}
use Rattle.binning.specs.declared.gathering.Bin.{Bin}
use Rattle.binning.specs.Members.{AreBins, bitmaps_of}
use Rattle.binning.specs.Encodings.{vectors}
use Rattle.enc_two_level.specs.Levels.{one_level}
use Rattle.enc_two_level.specs.Grouped.{group_rows}
use Rattle.enc_two_level.proofs.LawLemmas.{some_in_group, enough_groups}
use Rattle.enc_two_level.proofs.BitmapsLemmas.{all_bitmaps, is_counted}
use Rattle.enc_two_level.proofs.two_level.TwoLevelEncoding.bitmaps.Goals as goal

pub returns-clause-bitmaps : goal.returns-clause-bitmaps
returns-clause-bitmaps g c = λ apart.
    let rows = c.args.rows in
    let bins = c.args.bins.now in
    let m = c.args.self.now.ncoarse in
    let n = length bins in
    let level = c.args.self.now.coarse in
    let vs = vectors bins in
    let groups = c.in_ok-groups.groups.items in
    let items = c.in_ok-bitmaps.bitmaps.items in
    let size : c.div_ceil-size.result ≡ div_ceil n m = c.div_ceil-size.ensures in
    let some : 0 < n = omega (arith, c.if-count-eq0.false) in
    let one : 1 ≤ div_ceil n m = some_in_group m n 0 n c.requires.groups some (omega arith) in
    let same : c.deref.result.now ≡ groups = c.deref.ensures.value in
    let number : length c.deref.result.now ≡ div_ceil n c.div_ceil-size.result = ap length same ∙ c.in_ok-groups.ensures.number in
    let count = is_counted level c.level-2.result.coarse m n (length c.deref.result.now) c.div_ceil-size.result c.level-2.ensures number size c.in_ok-bitmaps.ensures.counted in
    let is : vectors groups ≡ group_rows rows (div_ceil n m) vs (groups_of n m) = let P : ℕ → Type 0 = λ x. vectors groups ≡ group_rows rows x vs (div_ceil n x) in subst P size (c.in_ok-groups.ensures.groups apart) in
    let coarse : AreBins rows (vectors groups) → items ≡ bitmaps_of (one_level level) rows (vectors groups) =
    let P : List Bin → Type 0 = λ l. AreBins rows (vectors l) → items ≡ bitmaps_of (one_level level) rows (vectors l) in
    let Q : Coarse → Type 0 = λ l. AreBins rows (vectors c.deref.result.now) → items ≡ bitmaps_of (one_level l) rows (vectors c.deref.result.now) in
    subst P same (subst Q c.level-2.ensures c.in_ok-bitmaps.ensures.bitmaps) in
    c.in_ok-append_copies.ensures ∙ all_bitmaps level m n rows vs (vectors groups) items (length-map bins (λ (b : Bin). b.rows)) some one (enough_groups m n one) count apart is coarse
