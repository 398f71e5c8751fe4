-- What the answer of a load says of each record.
use Rattle.std.proofs.Common.{◌≡◌, ◌+◌, ◌∙◌, ℕ, List, Result, Ok, Err, ap, map, refl}
use Rattle.fb_types.specs.declared.cells.Cell.{Cell}
use Rattle.fb_types.specs.declared.schemas.Column.{Column}
use Rattle.fb_types.proofs.AllOrFirstFacts.{all-ok, all-stops}
use Rattle.csv_load.specs.Answers.{IsRecordFault}
use Rattle.csv_load.specs.Law.{IsFirstFault, StopsAt, each_record}
use Rattle.csv_load.specs.Loaded.{Fault, all_or_first, loaded, or_fault}
use Rattle.csv_load.specs.declared.fields.RecordKind.{RecordKind}
use Rattle.csv_load.specs.declared.load.RecordFault.{RecordFault}
use Rattle.csv_load.specs.declared.load.RecordFault.TheVariants as at_record

-- a load that gives records gives one of each record of the text
pub loaded-each : (bytes : List ℕ) (columns : List Column) (skip : ℕ) (rows : List (List Cell)) → loaded bytes columns skip ≡ Ok rows
    → each_record bytes columns skip ≡ map Ok rows
unfolding loaded
loaded-each bytes columns skip rows h =
    by (all_or_first (skip + 1) (each_record bytes columns skip)) refl
  where
    by : (o : Result (List (List Cell)) (ℕ × (ℕ × RecordKind))) → all_or_first (skip + 1) (each_record bytes columns skip) ≡ o → each_record bytes columns skip ≡ map Ok rows
    by (Ok all) e =
        let g : or_fault (Ok all) ≡ Ok rows = rw e at h in
        let same : all ≡ rows = cc in
        rw (← same) (all-ok (skip + 1) (each_record bytes columns skip) all e)
    by (Err p) e = let g : or_fault (Err p) ≡ Ok rows = rw e at h in cc

-- a fault of the numbers as they come
abbrev fault_of : ℕ × (ℕ × RecordKind) → Fault
fault_of p = record { number = p.0; field = p.1.0; kind = p.1.1 }

-- a load that gives a fault gives the first
pub loaded-first : (bytes : List ℕ) (columns : List Column) (skip : ℕ) (fault : RecordFault) → IsRecordFault fault (loaded bytes columns skip)
    → IsFirstFault fault bytes columns skip
unfolding loaded
loaded-first bytes columns skip at_record.OutOfMemory h = tt
loaded-first bytes columns skip (at_record.Bad number field kind) h =
    by (all_or_first (skip + 1) (each_record bytes columns skip)) refl
  where
    by : (o : Result (List (List Cell)) (ℕ × (ℕ × RecordKind))) → all_or_first (skip + 1) (each_record bytes columns skip) ≡ o
        → StopsAt (skip + 1) (each_record bytes columns skip) number (field, kind)
    by (Ok all) e = let g : or_fault (Ok all) ≡ Err (record { number = number; field = field; kind = kind }) = rw e at h in cc
    by (Err p) e =
        let g : or_fault (Err p) ≡ Err (record { number = number; field = field; kind = kind }) = rw e at h in
        let same : fault_of p ≡ record { number = number; field = field; kind = kind } = cc in
        all-stops (skip + 1) (each_record bytes columns skip) number (field, kind)
        (e ∙ ap (λ (f : Fault). Err (f.number, (f.field, f.kind))) same)
