use Rattle.std.proofs.Common.{arith, ap, ◌∙◌}
use Rattle.std.proofs.lemmas.Grind.{common_steps}
use Rattle.generator.proofs.GeneratedLemmas.{fits_by, generated-none, moved}
use Rattle.generator.proofs.drawing.generate.Goals as goal

pub push-requires : goal.push-requires
push-requires c = fits_by _ _ _ c.in_ok-record.ensures c.loop.invariant.schema

pub loop-preserved : goal.loop-preserved
loop-preserved c = record {
  schema = ap (λ table. table.schema) c.in_ok-push.ensures.ok ∙ c.loop.invariant.schema;
  records = rw c.in_ok-push.ensures.ok (moved c.loop.table.records _ c.args.rows c.loop.counter c.loop.x _ _
      c.loop-test.true c.in_ok-record.ensures c.next_number-x.ensures c.loop.invariant.records);
}

pub returns-clause-records : goal.returns-clause-records
returns-clause-records c = grind (arith, common_steps, generated-none c.loop.x)
