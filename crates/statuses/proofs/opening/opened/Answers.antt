use Rattle.std.proofs.Common.{refl, ap}
use Rattle.dataset.specs.Found.{Broken, There}
use Rattle.statuses.proofs.opening.opened.Goals as goal

pub returns-in-Ok-clause-finds : goal.returns-in-Ok-clause-finds
returns-in-Ok-clause-finds g c = record { found = There c.in-Ok.dataset; told = c.in-Ok.ensures.opened; is = refl }

pub returns-in-Err-Damaged-clause-finds : goal.returns-in-Err-Damaged-clause-finds
returns-in-Err-Damaged-clause-finds g c =
    rw c.damaged.ensures
    (record {
      found = Broken (record { file = c.in-Err-Damaged.file; kind = c.in-Err-Damaged.kind; want = c.in-Err-Damaged.want; have = c.in-Err-Damaged.have });
      told = rw c.in-Err-Damaged.field-0-is at c.in-Err-Damaged.ensures.unopened;
      is = refl;
    })
