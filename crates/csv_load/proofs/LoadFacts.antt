-- How far a load has come: the records so far, and those that are left.
use Rattle.std.proofs.Common.{◌≡◌, ◌+◌, ◌≤◌, ◌∙◌, ◌++◌, ℕ, List, [], ◌∷◌, Result, Ok, Err, ap, arith, drop, length, map, refl, sym}
use Rattle.std.proofs.lemmas.List.{drop-drop, drop_all, length-drop}
use Rattle.fb_types.specs.declared.cells.Cell.{Cell}
use Rattle.fb_types.specs.declared.schemas.Column.{Column}
use Rattle.csv_load.proofs.FieldFacts.{all_or_first-end, all_or_first-more, all_or_first-stops}
use Rattle.csv_load.specs.Answers.{IsFieldFault, IsRecordFault, at_number}
use Rattle.csv_load.specs.Loaded.{Fault, all_or_first, behind, loaded, loaded_from, or_fault, record_cells, text_records}
use Rattle.csv_load.specs.declared.fields.FieldFault.{FieldFault}
use Rattle.csv_load.specs.declared.fields.FieldFault.TheVariants as at_field
use Rattle.csv_load.specs.declared.fields.RecordKind.{RecordKind}

-- the cells of each record, or its first bad field
abbrev pub each_cells : List Column → List (List (List ℕ)) → List (Result (List Cell) (ℕ × RecordKind))
each_cells columns rows = map (record_cells columns) rows

-- a record more
pub load-more : (columns : List Column) (n : ℕ) (front : List (List Cell)) (left rest : List (List (List ℕ))) (fields : List (List ℕ)) (cells : List Cell)
    (all : Result (List (List Cell)) (ℕ × (ℕ × RecordKind)))
    → left ≡ fields ∷ rest → record_cells columns fields ≡ Ok cells
    → all ≡ behind front (all_or_first n (each_cells columns left))
    → all ≡ behind (front ++ cells ∷ []) (all_or_first (n + 1) (each_cells columns rest))
load-more columns n front left rest fields cells all l e h =
    h ∙ rw l (all_or_first-more n front cells (record_cells columns fields) (each_cells columns rest) e)

-- the first record that is at fault
pub load-stops : (columns : List Column) (n : ℕ) (front : List (List Cell)) (left rest : List (List (List ℕ))) (fields : List (List ℕ)) (why : ℕ × RecordKind)
    (all : Result (List (List Cell)) (ℕ × (ℕ × RecordKind)))
    → left ≡ fields ∷ rest → all ≡ behind front (all_or_first n (each_cells columns left)) → record_cells columns fields ≡ Err why
    → or_fault all ≡ Err (record { number = n; field = why.0; kind = why.1 })
load-stops columns n front left rest fields why all l h e =
    let stopped : all ≡ Err (n, why) = h ∙ rw l (all_or_first-stops n front why (record_cells columns fields) (each_cells columns rest) e) in
    rw stopped refl

-- no record is left
pub load-end : (columns : List Column) (n : ℕ) (front : List (List Cell)) (left : List (List (List ℕ))) (all : Result (List (List Cell)) (ℕ × (ℕ × RecordKind)))
    → left ≡ [] → all ≡ behind front (all_or_first n (each_cells columns left)) → or_fault all ≡ Ok front
load-end columns n front left all l h =
    let done : all ≡ Ok front = h ∙ all_or_first-end n front (each_cells columns left) (rw l refl) in
    rw done refl

-- a load begins with the records after those that are skipped
pub loaded-rest : (bytes : List ℕ) (columns : List Column) (skip : ℕ) (rows : List (List (List ℕ)))
    → drop skip (text_records bytes) ≡ rows → loaded bytes columns skip ≡ loaded_from (skip + 1) columns rows
unfolding loaded
loaded-rest bytes columns skip rows e = rw e refl

-- of no records it is none
pub loaded_from-none : (n : ℕ) (columns : List Column) → loaded_from n columns [] ≡ Ok []
unfolding all_or_first
loaded_from-none n columns = refl

-- a fault of a record's field is that of the load
pub fault-in : (fault : FieldFault) (n : ℕ) (here : Result (List Cell) (ℕ × RecordKind)) (whole : Result (List (List Cell)) Fault)
    → ((why : ℕ × RecordKind) → here ≡ Err why → whole ≡ Err (record { number = n; field = why.0; kind = why.1 }))
    → IsFieldFault fault here → IsRecordFault (at_number n fault) whole
fault-in at_field.OutOfMemory n here whole t h = tt
fault-in (at_field.Bad field kind) n here whole t h = t (field, kind) h

-- the items after the first of those that are left
pub drop-next : {A : Type 0} (xs : List A) (k : ℕ) (x : A) (rest : List A) → drop k xs ≡ x ∷ rest → drop (k + 1) xs ≡ rest
drop-next xs k x rest e = sym (drop-drop 1 k xs) ∙ ap (λ l. drop 1 l) e

-- where none is left, none is left after more
pub drop-none : {A : Type 0} (xs : List A) (k n : ℕ) → drop k xs ≡ [] → k ≤ n → drop n xs ≡ []
drop-none xs k n e h =
    let left = length-drop k xs in
    let none : length (drop k xs) ≡ 0 = ap length e in
    drop_all n xs (omega arith)
