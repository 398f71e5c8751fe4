-- How a writer of files stopped.
use Rattle.std.specs.Prelude.{◌≡◌}
use Rattle.fb_outside.specs.declared.outside.Trouble.{Trouble}
use Rattle.fb_outside.specs.declared.outside.Trouble.TheVariants as trouble
use Rattle.column_file.specs.declared.fault.ColFault.{ColFault}
use Rattle.column_file.specs.declared.fault.ColFault.TheVariants.{Store, OutOfMemory}
use Rattle.dataset.specs.declared.fault.AppendFault.{AppendFault}
use Rattle.dataset.specs.declared.fault.AppendFault.TheVariants as append

-- a writer of a column's file and the layer above it stopped for the same
abbrev pub IsSameTrouble : ColFault → Trouble → Type 0
IsSameTrouble Store given = given ≡ trouble.Failed
IsSameTrouble OutOfMemory given = given ≡ trouble.OutOfMemory
IsSameTrouble fault given = ⊥

-- what a load answers for it
abbrev pub fault_for : Trouble → AppendFault
fault_for trouble.Failed = append.Store
fault_for trouble.OutOfMemory = append.OutOfMemory
