use Rattle.dataset.proofs.DamageLemmas.{damage_there}
use Rattle.dataset.proofs.part_columns.open_part_column.Goals as goal

pub returns-in-Err-clause-damaged : goal.returns-in-Err-clause-damaged
returns-in-Err-clause-damaged g c =
    damage_there c.args.dataset.now c.args.part.now c.args.column.now c.requires.width (g.S.Store.files c.args.store.now) c.in_ok-values.values c.in_ok-mask.mask
    c.in-Err.fault c.column_damage.result c.in_ok-values.ensures c.in_ok-mask.ensures c.column_damage.ensures c.in-Err.ensures.exact
