use Rattle.std.proofs.Common.{◌*◌, ◌≤◌, ℕ, length, ap, sym, ◌∙◌, arith}
use Rattle.std.proofs.lemmas.List.{length-map}
use Rattle.std.proofs.Math.Nat.{mul-le-mul_left}
use Rattle.part_meta.specs.declared.part.PartMeta.{PartMeta}
use Rattle.ibis_build.proofs.building.index_count.Goals as goal

small : (a b : ℕ) → a ≤ 1024 → b ≤ 255 → a * b ≤ 261120
small a b h k = omega (arith, mul-le-mul_left a k, h)

pub overflow_mul-result : goal.overflow_mul-result
overflow_mul-result c =
    let parts = c.args.dataset.now.parts in
    let listed = length-map parts (λ (p : PartMeta). p.number) in
    let few = c.requires.valid.catalog.few in
    let same = ap length c.as_slice-parts.ensures in
    omega (arith, small (length c.as_slice-parts.result.now) (length c.args.cols.now) (omega (arith, listed, few, same)) c.requires.few)
