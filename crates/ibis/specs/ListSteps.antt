-- What the steps of a listing give.
use Rattle.std.specs.Prelude.{◌≡◌, ⊤, ℕ, List, ◌++◌, Option, IfSome, Result, Ok, Err}
use Rattle.fb_outside.specs.Files.{Files}
use Rattle.fb_types.specs.declared.schemas.Column.{Column}
use Rattle.index_spec.specs.declared.spec.Spec.{Spec}
use Rattle.part_meta.specs.declared.part.PartMeta.{PartMeta}
use Rattle.dataset.specs.Damage.{Damage}
use Rattle.dataset.specs.declared.content.Dataset.{Dataset}
use Rattle.dataset.specs.declared.fault.PartFault.{PartFault}
use Rattle.dataset.specs.declared.fault.PartFault.TheVariants as fault
use Rattle.statuses.specs.declared.stop.Unanswered.{Unanswered}
use Rattle.statuses.specs.declared.stop.Unanswered.TheVariants.{Refused, StoreFault, OutOfMemory}
use Rattle.statuses.specs.declared.Status.{Status}
use Rattle.statuses.specs.Opening.{damaged_status}
use Rattle.ibis.specs.Indexes.{AreIndexes, Indexed, IsDamaged, IsFirstDamaged, IsFirstOfPart, spec_at}
use Rattle.ibis.specs.Listing.{ListsBy, line_by, part_lines}

-- a damage of this kind is refused, or the outside failed, or memory ran out
abbrev pub Refuses : (Damage → Type 0) → Unanswered → Type 0
Refuses IsOne (Refused status) = (damage : Damage) × (status ≡ damaged_status damage) × IsOne damage
Refuses IsOne StoreFault = ⊤
Refuses IsOne OutOfMemory = ⊤

-- the line of the column's index behind the text, or the index is damaged
abbrev pub IndexGives : Option Files → Dataset → PartMeta → Column → (old new : List ℕ) → Result (Unit {0}) Unanswered → Type 0
IndexGives files dataset part column old new (Ok done) =
    (spec : Option Spec) × IfSome files (λ m. spec_at m dataset part column ≡ Ok spec) × (new ≡ old ++ line_by column.name spec)
IndexGives files dataset part column old new (Err stop) = Refuses (IsDamaged files dataset part column) stop

-- the lines of the part behind the text, or the first of its indexes that is damaged
abbrev pub PartGives : Option Files → Dataset → PartMeta → (old new : List ℕ) → Result (Unit {0}) Unanswered → Type 0
PartGives files dataset part old new (Ok done) =
    (indexed : List Indexed) × AreIndexes files dataset part dataset.schema indexed
    × (new ≡ old ++ part_lines (record { part = part; columns = indexed }))
PartGives files dataset part old new (Err stop) = Refuses (IsFirstOfPart files dataset part) stop

-- the whole listing, or the first index that is damaged
abbrev pub DatasetGives : Option Files → Dataset → Result (List ℕ) Unanswered → Type 0
DatasetGives files dataset (Ok text) = ListsBy files (Ok dataset) (Ok text)
DatasetGives files dataset (Err stop) = Refuses (IsFirstDamaged files dataset) stop

-- what an index that isn't opened is answered by
abbrev pub stop_of_part : PartFault → Unanswered
stop_of_part (fault.Damaged file kind want have) =
    Refused (damaged_status (record { file = file; kind = kind; want = want; have = have }))
stop_of_part fault.Store = StoreFault
stop_of_part fault.OutOfMemory = OutOfMemory
