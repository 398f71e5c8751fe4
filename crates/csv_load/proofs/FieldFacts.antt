-- The cell of a field, by the type of its column.
use Rattle.std.proofs.Common.{◌≡◌, ◌+◌, ◌<◌, ◌++◌, ◌∙◌, ◌≢◌, ◌≤◌, eq-eqb, eqb, min, ℤ, ◌≤ℤ◌, ℕ, zero, suc, List, [], ◌∷◌, Bool, true, false, Option, Some, None, Result, Ok, Err, add-one, ap, append_assoc, arith, drop, length, refl, sym}
use Rattle.std.proofs.lemmas.List.{append-nil, drop_all}
use Rattle.std.proofs.lemmas.Bool.{ne_eqb}
use Rattle.std.specs.Prelude.{MatchOption, int_le, is_some}
use Rattle.csv.specs.Records.{field_at}
use Rattle.fb_types.specs.Cells.{CellFits, RecordFits}
use Rattle.fb_types.specs.declared.cells.Cell.{Cell}
use Rattle.fb_types.specs.declared.schemas.Column.{Column}
use Rattle.std.proofs.lemmas.Int.{ints}
use Rattle.fb_types.specs.Field.{field_answer, number_answer, text_answer, trimmed, whole_of}
use Rattle.fb_types.specs.Types.{ends_of}
use Rattle.fb_types.specs.declared.fields.FieldAnswer.TheVariants as says
use Rattle.fb_types.specs.declared.types.ColType.{ColType}
use Rattle.csv_load.specs.Loaded.{all_or_first, behind, field_cell, field_cells, record_cells, whole_cell, word_cell}
use Rattle.csv_load.specs.Answers.{IsFieldFault, numbered}
use Rattle.csv_load.specs.declared.fields.FieldFault.{FieldFault}
use Rattle.csv_load.specs.declared.fields.FieldFault.TheVariants as at_field
use Rattle.csv_load.specs.declared.fields.RecordKind.{RecordKind}
use Rattle.csv_load.specs.declared.fields.RecordKind.TheVariants.{FieldCount}

-- a type with ends is a whole type
pub field_cell-whole : (ty : ColType) (field : List ℕ) → is_some (ends_of ty) ≡ true → field_cell ty field ≡ whole_cell (field_answer field ty)
unfolding field_cell
field_cell-whole ty field e = rw e refl

pub field_cell-word : (ty : ColType) (field : List ℕ) → is_some (ends_of ty) ≡ false → field_cell ty field ≡ word_cell field
unfolding field_cell
field_cell-word ty field e = rw e refl

-- a number keeps to the ends
abbrev Within : Option (ℤ × ℤ) → ℤ → Type 0
Within ends number = MatchOption ends ⊥ (λ e. (e.0 ≤ℤ number) × (number ≤ℤ e.1))

number_answer-within : (o : Option ℤ) (ends : Option (ℤ × ℤ)) (number : ℤ) → number_answer o ends ≡ says.Value number → Within ends number
number_answer-within None ends number h = cc
number_answer-within (Some n) None number h = cc
number_answer-within (Some n) (Some e) number h = by (int_le e.0 n) (int_le n e.1) refl refl
  where
    by : (p q : Bool) → int_le e.0 n ≡ p → int_le n e.1 ≡ q → Within (Some e) number
    by true true hp hq =
        let g : says.Value n ≡ says.Value number = rw (hp, hq) at h in
        let same : n ≡ number = cc in
        rw (← same) (omega (arith, ints, hp), omega (arith, ints, hq))
    by true false hp hq = let g : says.OutOfRange ≡ says.Value number = rw (hp, hq) at h in cc
    by false q hp hq = let g : says.OutOfRange ≡ says.Value number = rw hp at h in cc

text_answer-within : (bytes : List ℕ) (ends : Option (ℤ × ℤ)) (number : ℤ) → text_answer bytes ends ≡ says.Value number → Within ends number
text_answer-within [] ends number h = cc
text_answer-within (b ∷ bs) ends number h = number_answer-within (whole_of (b ∷ bs)) ends number h

-- a field's value keeps to the ends of the type
pub field_answer-within : (field : List ℕ) (ty : ColType) (number : ℤ) → field_answer field ty ≡ says.Value number → Within (ends_of ty) number
field_answer-within field ty number h = text_answer-within (trimmed field) (ends_of ty) number h

-- one more cell, of one more column
pub RecordFits-push : (cells : List Cell) (columns : List Column) (cell : Cell) (column : Column)
    → RecordFits cells columns → CellFits cell column.ty → RecordFits (cells ++ cell ∷ []) (columns ++ column ∷ [])
RecordFits-push [] [] cell column h k = (k, tt)
RecordFits-push [] (d ∷ columns) cell column h k = absurd h
RecordFits-push (x ∷ cells) [] cell column h k = absurd h
RecordFits-push (x ∷ cells) (d ∷ columns) cell column h k = (h.0, RecordFits-push cells columns cell column h.1 k)

-- the field at a place, and those from there on
pub drop-field : (fields : List (List ℕ)) (i : ℕ) → i < length fields
    → (field : List ℕ) × (field_at fields i ≡ Some field) × (drop i fields ≡ field ∷ drop (i + 1) fields)
unfolding field_at
drop-field [] i h = absurd (omega arith)
drop-field (f ∷ fields) zero h = (f, refl, refl)
drop-field (f ∷ fields) (suc i) h =
    let more = drop-field fields i (omega arith) in
    (more.0, more.1, rw add-one (rw add-one at more.2))

-- a list in front of another, in front of a third
behind-append : {A E : Type 0} (xs ys : List A) (o : Result (List A) E) → behind xs (behind ys o) ≡ behind (xs ++ ys) o
behind-append xs ys (Ok rest) = ap Ok (sym (append_assoc xs ys rest))
behind-append xs ys (Err e) = refl

-- one more value behind those that are there
pub all_or_first-more : {A E : Type 0} (n : ℕ) (front : List A) (value : A) (here : Result A E) (rest : List (Result A E)) → here ≡ Ok value
    → behind front (all_or_first n (here ∷ rest)) ≡ behind (front ++ value ∷ []) (all_or_first (n + 1) rest)
unfolding all_or_first
all_or_first-more n front value here rest e = rw e (behind-append front (value ∷ []) (all_or_first (n + 1) rest))

-- the first that is missing
pub all_or_first-stops : {A E : Type 0} (n : ℕ) (front : List A) (why : E) (here : Result A E) (rest : List (Result A E)) → here ≡ Err why
    → behind front (all_or_first n (here ∷ rest)) ≡ Err (n, why)
unfolding all_or_first
all_or_first-stops n front why here rest e = rw e refl

-- there are none
pub all_or_first-end : {A E : Type 0} (n : ℕ) (front : List A) (all : List (Result A E)) → all ≡ [] → behind front (all_or_first n all) ≡ Ok front
unfolding all_or_first
all_or_first-end n front all e = rw e (ap Ok (append-nil front))

-- the cells from a place on begin with that of the place
field_cells-drop : (columns : List Column) (fields : List (List ℕ)) (i : ℕ) (column : Column) (field : List ℕ)
    → drop i columns ≡ column ∷ drop (i + 1) columns → drop i fields ≡ field ∷ drop (i + 1) fields
    → field_cells (drop i columns) (drop i fields) ≡ field_cell column.ty field ∷ field_cells (drop (i + 1) columns) (drop (i + 1) fields)
unfolding field_cells
field_cells-drop columns fields i column field c f = rw (c, f) refl

-- how far the cells of a record have come at place i: those in front, and those from there on
abbrev pub Come : List Column → List (List ℕ) → ℕ → List Cell → Type 0
Come columns fields i front =
    all_or_first 1 (field_cells columns fields) ≡ behind front (all_or_first (i + 1) (field_cells (drop i columns) (drop i fields)))

pub come-none : (columns : List Column) (fields : List (List ℕ)) → Come columns fields 0 []
come-none columns fields = by (all_or_first 1 (field_cells columns fields))
  where
    by : (o : Result (List Cell) (ℕ × RecordKind)) → o ≡ behind [] o
    by (Ok all) = refl
    by (Err e) = refl

pub come-more : (columns : List Column) (fields : List (List ℕ)) (i : ℕ) (front : List Cell) (column : Column) (field : List ℕ) (cell : Cell)
    → drop i columns ≡ column ∷ drop (i + 1) columns → drop i fields ≡ field ∷ drop (i + 1) fields
    → field_cell column.ty field ≡ Ok cell → Come columns fields i front → Come columns fields (i + 1) (front ++ cell ∷ [])
come-more columns fields i front column field cell c f e h =
    h ∙ rw (field_cells-drop columns fields i column field c f)
    (all_or_first-more (i + 1) front cell (field_cell column.ty field) (field_cells (drop (i + 1) columns) (drop (i + 1) fields)) e)

pub come-stops : (columns : List Column) (fields : List (List ℕ)) (i : ℕ) (front : List Cell) (column : Column) (field : List ℕ) (why : RecordKind)
    → drop i columns ≡ column ∷ drop (i + 1) columns → drop i fields ≡ field ∷ drop (i + 1) fields
    → length fields ≡ length columns → field_cell column.ty field ≡ Err why → Come columns fields i front
    → record_cells columns fields ≡ Err (i + 1, why)
unfolding record_cells
come-stops columns fields i front column field why c f same e h =
    rw (eq-eqb (length fields) (length columns) same)
    (h ∙ rw (field_cells-drop columns fields i column field c f)
    (all_or_first-stops (i + 1) front why (field_cell column.ty field) (field_cells (drop (i + 1) columns) (drop (i + 1) fields)) e))

pub come-all : (columns : List Column) (fields : List (List ℕ)) (i : ℕ) (front : List Cell)
    → length fields ≡ length columns → length columns ≤ i → Come columns fields i front → record_cells columns fields ≡ Ok front
unfolding record_cells field_cells
come-all columns fields i front same past h =
    rw (eq-eqb (length fields) (length columns) same)
    (h ∙ all_or_first-end (i + 1) front (field_cells (drop i columns) (drop i fields)) (rw (drop_all i columns past) refl))

-- not one field for each column
pub record_cells-count : (columns : List Column) (fields : List (List ℕ)) → length fields ≢ length columns
    → record_cells columns fields ≡ Err (min (length fields) (length columns) + 1, FieldCount)
unfolding record_cells
record_cells-count columns fields other =
    let e : eqb (length fields) (length columns) ≡ false = ne_eqb (length fields) (length columns) other in rw e refl

-- a fault of the field at hand is the fault of its record
pub fault-at : {A B : Type 0} (fault : FieldFault) (n : ℕ) (here : Result A RecordKind) (whole : Result B (ℕ × RecordKind))
    → ((why : RecordKind) → here ≡ Err why → whole ≡ Err (n, why)) → IsFieldFault fault (numbered n here) → IsFieldFault fault whole
fault-at at_field.OutOfMemory n here whole t h = tt
fault-at (at_field.Bad field kind) n (Ok value) whole t h = cc
fault-at (at_field.Bad field kind) n (Err why) whole t h =
    let same : (n, why) ≡ (field, kind) = cc in
    t why refl ∙ ap Err same
