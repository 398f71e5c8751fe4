use Rattle.std.proofs.Common.{◌≡◌, ◌∷◌, ◌++◌, [], length, true, sym, ap, subst, arith}
use Rattle.std.proofs.lemmas.List.{length_push}
use Rattle.part_meta.specs.PartFront.{AreColumns}
use Rattle.part_meta.proofs.FreshLemmas.{AreColumns-push}
use Rattle.part_meta.proofs.PartLemmas.{ended_body, is_column_end}
use Rattle.part_meta.proofs.part_reading.with_column_end.Goals as goal

pub returns-then-not-is : goal.returns-then-not-is
returns-then-not-is c = λ b.
    let same : c.is.result ≡ true = c.is.ensures.1 (is_column_end c.args.body c.args.column c.args.text.now c.requires.valid b) in
    absurd (cc (same, c.if-not-is.true))

pub returns : goal.returns
returns c =
    let pushed : c.push.new.self.items ≡ c.args.body.columns.items ++ c.args.column ∷ [] = c.in_ok-push.ensures.items in (
      (
        record {
          head = c.requires.valid.head;
          columns = subst AreColumns (sym pushed) (AreColumns-push c.args.body.columns.items c.args.column c.requires.valid.columns c.requires.takes.named c.requires.takes.new);
        },
        omega (arith, ap length pushed, length_push c.args.body.columns.items c.args.column, c.requires.takes.room),
      ),
      ended_body c.args.body c.args.column c.push.new.self.items c.args.text.now pushed (c.is.ensures.0 c.if-not-is.false),
    )
