use Rattle.dataset.proofs.ColumnLemmas.{columns_undamaged}
use Rattle.dataset.proofs.WorldLemmas.{absent, free, opened, opens, sound}
use Rattle.dataset.proofs.laws.the_datasets_of_a_world.Goals as goal

pub returns : goal.returns
returns c = record {
  opens = opens;
  opened = opened;
  absent = absent;
  none = free;
  sound = sound;
  columns = columns_undamaged;
}
