use Rattle.std.proofs.Common.{◌≡◌, codes, arith}
use Rattle.part_meta.proofs.CatalogLemmas.{is_next, started}
use Rattle.part_meta.proofs.NumberLemmas.{label_told}
use Rattle.part_meta.proofs.catalog_reading.with_next.Goals as goal

pub returns-in_default : goal.returns-in_default
returns-in_default c = λ b. c.in_default.ensures b.value.next (omega (arith, b.valid.next)) (is_next c.args.schema c.args.text.now b)

pub returns-then-next-gt4096 : goal.returns-then-next-gt4096
returns-then-next-gt4096 c = λ b.
    let same : b.value.next ≡ c.in-Some.next =
    label_told c.args.text.now (codes "next ") b.value.next c.in-Some.next (omega (arith, b.valid.next)) (omega arith) (is_next c.args.schema c.args.text.now b) c.in-Some.ensures in
    absurd (omega (arith, b.valid.next))

pub returns : goal.returns
returns c = started c.args.schema c.in-Some.next c.new.result c.args.text.now c.requires (omega arith) c.new.ensures c.in-Some.ensures
