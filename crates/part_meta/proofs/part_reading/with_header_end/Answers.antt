use Rattle.std.proofs.Common.{◌≡◌, length, true, sym, ap, subst, arith}
use Rattle.part_meta.specs.PartFront.{AreColumns}
use Rattle.part_meta.proofs.FreshLemmas.{AreColumns-none}
use Rattle.part_meta.proofs.PartLemmas.{is_header_end, started_body}
use Rattle.part_meta.proofs.part_reading.with_header_end.Goals as goal

pub returns-then-not-is : goal.returns-then-not-is
returns-then-not-is c = λ b.
    let same : c.is.result ≡ true = c.is.ensures.1 (is_header_end c.args.head c.args.text.now b) in
    absurd (cc (same, c.if-not-is.true))

pub returns : goal.returns
returns c =
    let none = c.new-columns.ensures.items in (
      (record { head = c.requires; columns = subst AreColumns (sym none) AreColumns-none }, omega (arith, ap length none)),
      started_body c.args.head c.new-columns.result.items c.args.text.now none (c.is.ensures.0 c.if-not-is.false),
    )
