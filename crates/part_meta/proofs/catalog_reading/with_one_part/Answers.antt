use Rattle.std.proofs.Common.{◌≡◌, ℕ, IsTrue, codes, subst, arith}
use Rattle.part_meta.specs.CatalogFront.{with_part}
use Rattle.part_meta.specs.CatalogText.{IsCatalog}
use Rattle.part_meta.proofs.CatalogLemmas.{is_below_next, pushed, takes_part}
use Rattle.part_meta.proofs.NumberLemmas.{label_told}
use Rattle.part_meta.proofs.catalog_reading.with_one_part.Goals as goal

pub returns-in_default : goal.returns-in_default
returns-in_default c = λ b.
    let found = takes_part c.args.catalog c.args.text.now c.requires b in
    c.in_default.ensures found.part (omega (arith, is_below_next c.args.catalog found.part found.takes)) found.is

pub returns-then-not-takes : goal.returns-then-not-takes
returns-then-not-takes c = λ b.
    let found = takes_part c.args.catalog c.args.text.now c.requires b in
    let same : found.part ≡ c.in-Some.part =
    label_told c.args.text.now (codes "part ") found.part c.in-Some.part (omega (arith, is_below_next c.args.catalog found.part found.takes)) (omega arith) found.is c.in-Some.ensures in
    let P : ℕ → Type 0 = λ n. IsCatalog (with_part c.args.catalog n) in
    let taken : IsTrue c.takes.result = c.takes.ensures.1 (subst P same found.takes) in
    absurd (cc (taken, c.if-not-takes.true))

pub returns : goal.returns
returns c =
    pushed c.args.catalog c.in-Some.part c.push.new.self c.args.text.now c.in_ok-push.ensures.ok (c.takes.ensures.0 c.if-not-takes.false) c.in-Some.ensures
