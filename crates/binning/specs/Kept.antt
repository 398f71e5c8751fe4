-- What a gatherer keeps, as groups.
use Rattle.std.specs.Prelude.{}
use Rattle.binning.specs.Gathered.{Held}
use Rattle.binning.specs.Listed.{held_of}
use Rattle.binning.specs.declared.kept_rows.Kept.{Kept}
use Rattle.binning.specs.declared.kept_rows.Kept.TheVariants.{Listed, Grouped}

abbrev pub held_by : Kept → Held
held_by (Listed column) = held_of column
held_by (Grouped held) = held
