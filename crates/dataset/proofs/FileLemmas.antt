-- Files that are put one after another: those of the columns, and of the parts.
use Rattle.std.proofs.Common.{◌≡◌, ◌<◌, ◌≤◌, ◌+◌, ◌*◌, zero, suc, ℕ, List, [], ◌∷◌, ◌++◌, Option, Some, Result, Ok, Err, IsErrOf, OnOk, length, take, drop, get_or, refl, sym, ap, subst, ◌∙◌, arith, append_assoc, append-nil, length-take, zero-add, min, IsSome, slice_get}
use Rattle.std.specs.FinMap.{empty}
use Rattle.std.specs.List.{flat_map}
use Rattle.std.proofs.lemmas.List.FromFn.{length-map-range_with_len, get_or-map-range_with_len}
use Rattle.world.specs.Effects.{new_part, new_parts, part_count}
use Rattle.std.proofs.lemmas.List.{take_min, take-append-drop, take_more}
use Rattle.std.proofs.lemmas.List.Concat.{flat_map-append}
use Rattle.fb_outside.specs.Files.{Files, SameFiles, Puts, PutLeaves}
use Rattle.fb_outside.specs.Puts.{File, PutsFront, PutsInOrder}
use Rattle.fb_outside.specs.declared.outside.Trouble.{Trouble}
use Rattle.fb_outside.specs.declared.outside.Trouble.TheVariants as trouble
use Rattle.fb_outside.proofs.PutLemmas.{PutsAll-one, PutsFront-one, PutsFront-none, PutsFront-more}
use Rattle.fb_types.specs.declared.schemas.Column.{Column}
use Rattle.column_file.specs.declared.fault.ColFault.{ColFault}
use Rattle.column_file.specs.declared.fault.ColFault.TheVariants as col
use Rattle.column_file.specs.Opening.{StopsWriting}
use Rattle.world.specs.World.{Partition}
use Rattle.std.proofs.lemmas.Bool.{false≢true}
use Rattle.fb_types.specs.declared.cells.Cell.{Cell}
use Rattle.fb_types.specs.declared.types.ColType.{ColType}
use Rattle.fb_types.specs.declared.types.ColType.TheVariants.{Byte, UByte, Short, UShort, Int, UInt, Long, ULong, Category, Text}
use Rattle.fb_types.specs.Types.{ends_of}
use Rattle.world.specs.PartFiles.{category_files, column_files, columns_files, files_by_type, text_files, whole_files}
use Rattle.world.specs.Cells.{column_cells}
use Rattle.fb_types.specs.Table.{Table}
use Rattle.part_meta.specs.declared.part.PartMeta.{PartMeta}
use Rattle.part_meta.specs.FileNames.{part_name}
use Rattle.part_meta.specs.PartText.{part_text}
use Rattle.world.specs.PartFiles.{part_data, part_files}
use Rattle.dataset.proofs.CellLemmas.{length-records}
use Rattle.dataset.specs.WrittenColumns.{ColumnOfPart, files_in, part_from, records_from}

-- ---- one file

pub put_one : (x : File) (r : Result (Unit {0}) Trouble) (old new : Option Files) → OnOk r (Puts old new x.name x.bytes)
    → (IsErrOf r trouble.Failed → PutLeaves x.name x.bytes old new) → (IsErrOf r trouble.OutOfMemory → SameFiles old new)
    → PutsInOrder (x ∷ []) r old new
put_one x (Ok done) old new ok failed memory = PutsAll-one x old new ok
put_one x (Err trouble.Failed) old new ok failed memory = PutsFront-one x old new (failed refl)
put_one x (Err trouble.OutOfMemory) old new ok failed memory = PutsFront-none (x ∷ []) old new (memory refl)

-- a writer of a column's file that stopped
pub column_stopped : (x : File) (fault : ColFault) (old new : Option Files) → StopsWriting fault
    → (IsErrOf {T = Unit {0}} (Err fault) col.Store → PutLeaves x.name x.bytes old new)
    → (IsErrOf {T = Unit {0}} (Err fault) col.OutOfMemory → SameFiles old new) → PutsFront (x ∷ []) old new
column_stopped x col.Store old new stops failed memory = PutsFront-one x old new (failed refl)
column_stopped x col.OutOfMemory old new stops failed memory = PutsFront-none (x ∷ []) old new (memory refl)
column_stopped x col.Missing old new stops failed memory = absurd stops
column_stopped x (col.WrongLength want have) old new stops failed memory = absurd stops
column_stopped x col.MaskMissing old new stops failed memory = absurd stops
column_stopped x (col.Mask fault) old new stops failed memory = absurd stops
column_stopped x col.MaskTrailing old new stops failed memory = absurd stops
column_stopped x (col.MaskLength want have) old new stops failed memory = absurd stops

-- ---- the files of columns

columns_files-cut : (dir : List ℕ) (part : Partition) (col n : ℕ) (columns : List Column)
    → columns_files dir part col columns ≡ columns_files dir part col (take n columns) ++ columns_files dir part (col + n) (drop n columns)
columns_files-cut dir part col zero columns = ap (λ k. columns_files dir part k columns) (omega arith)
columns_files-cut dir part col (suc n) [] = refl
columns_files-cut dir part col (suc n) (column ∷ columns) =
    let e : col + 1 + n ≡ col + suc n = omega arith in
    let files = column_files dir part.number column (column_cells col part.records) in
    ap (λ rest. files ++ rest) (columns_files-cut dir part (col + 1) n columns
    ∙ ap (λ k. columns_files dir part (col + 1) (take n columns) ++ columns_files dir part k (drop n columns)) e)
    ∙ sym (append_assoc files (columns_files dir part (col + 1) (take n columns)) (columns_files dir part (col + suc n) (drop n columns)))

columns_files-one : (dir : List ℕ) (part : Partition) (col n : ℕ) (columns : List Column) (column : Column) → length columns ≡ n
    → columns_files dir part col (columns ++ column ∷ []) ≡ columns_files dir part col columns ++ column_files dir part.number column (column_cells (col + n) part.records)
columns_files-one dir part col n [] column len =
    let e : col ≡ col + n = omega arith in
    append-nil (column_files dir part.number column (column_cells col part.records))
    ∙ ap (λ k. column_files dir part.number column (column_cells k part.records)) e
columns_files-one dir part col zero (x ∷ columns) column len = absurd (omega arith)
columns_files-one dir part col (suc n) (x ∷ columns) column len =
    let e : col + 1 + n ≡ col + suc n = omega arith in
    let files = column_files dir part.number x (column_cells col part.records) in
    ap (λ rest. files ++ rest) (columns_files-one dir part (col + 1) n columns column (omega arith)
    ∙ ap (λ k. columns_files dir part (col + 1) columns ++ column_files dir part.number column (column_cells k part.records)) e)
    ∙ sym (append_assoc files (columns_files dir part (col + 1) columns) (column_files dir part.number column (column_cells (col + suc n) part.records)))

pub columns_files-more : (dir : List ℕ) (part : Partition) (n : ℕ) (columns : List Column) (column : Column) → n < length columns → get_or columns n column ≡ column
    → columns_files dir part 0 (take (n + 1) columns)
    ≡ columns_files dir part 0 (take n columns) ++ column_files dir part.number column (column_cells n part.records)
columns_files-more dir part n columns column h is =
    let len : length (take n columns) ≡ n = length-take n columns ∙ omega arith in
    ap (columns_files dir part 0) (take_more columns n column h ∙ ap (λ c. take n columns ++ c ∷ []) is)
    ∙ columns_files-one dir part 0 n (take n columns) column len
    ∙ ap (λ k. columns_files dir part 0 (take n columns) ++ column_files dir part.number column (column_cells k part.records)) (zero-add n)

-- ---- a call that goes on, and stops, behind files that were put

-- the files of the first `n` items and of the next are a front of all
pub front_of_columns : (dir : List ℕ) (part : Partition) (n : ℕ) (columns : List Column) (old new : Option Files) → n ≤ length columns
    → PutsFront (columns_files dir part 0 (take n columns)) old new → PutsFront (columns_files dir part 0 columns) old new
front_of_columns dir part n columns old new h front =
    subst (λ (files : List File). PutsFront files old new) (sym (columns_files-cut dir part 0 n columns))
    (PutsFront-more (columns_files dir part 0 (take n columns)) (columns_files dir part (0 + n) (drop n columns)) old new front)

pub front_of_all : {X : Type 0} (f : X → List File) (n : ℕ) (xs : List X) (old new : Option Files)
    → PutsFront (flat_map f (take n xs)) old new → PutsFront (flat_map f xs) old new
front_of_all f n xs old new front =
    subst (λ (files : List File). PutsFront files old new)
    (sym (flat_map-append f (take n xs) (drop n xs)) ∙ ap (flat_map f) (take-append-drop n xs))
    (PutsFront-more (flat_map f (take n xs)) (flat_map f (drop n xs)) old new front)

pub all_more : {X : Type 0} (f : X → List File) (n : ℕ) (xs : List X) (d : X) → n < length xs
    → flat_map f (take (n + 1) xs) ≡ flat_map f (take n xs) ++ f (get_or xs n d)
all_more f n xs d h =
    ap (flat_map f) (take_more xs n d h) ∙ flat_map-append f (take n xs) (get_or xs n d ∷ [])
    ∙ ap (λ ys. flat_map f (take n xs) ++ ys) (append-nil (f (get_or xs n d)))

-- ---- the files by the column's type

pub by_type_category : (part : ColumnOfPart) → part.column.ty ≡ Category → column_files part.dir part.number part.column part.cells ≡ files_in part (category_files part.cells)
unfolding column_files
by_type_category part h = ap (λ ty. files_in part (files_by_type ty part.cells)) h

pub by_type_text : (part : ColumnOfPart) → part.column.ty ≡ Text → column_files part.dir part.number part.column part.cells ≡ files_in part (text_files part.cells)
unfolding column_files
by_type_text part h = ap (λ ty. files_in part (files_by_type ty part.cells)) h

whole_by_type : (ty : ColType) (cells : List Cell) → IsSome (ends_of ty) → files_by_type ty cells ≡ whole_files ty cells
whole_by_type Byte cells h = refl
whole_by_type UByte cells h = refl
whole_by_type Short cells h = refl
whole_by_type UShort cells h = refl
whole_by_type Int cells h = refl
whole_by_type UInt cells h = refl
whole_by_type Long cells h = refl
whole_by_type ULong cells h = refl
whole_by_type Category cells h = absurd (false≢true h)
whole_by_type Text cells h = absurd (false≢true h)

pub by_type_whole : (part : ColumnOfPart) → IsSome (ends_of part.column.ty)
    → column_files part.dir part.number part.column part.cells ≡ files_in part (whole_files part.column.ty part.cells)
unfolding column_files
by_type_whole part h = ap (files_in part) (whole_by_type part.column.ty part.cells h)

pub is_whole : (ty : ColType) → (ty ≡ Category → ⊥) → (ty ≡ Text → ⊥) → IsSome (ends_of ty)
is_whole Byte a b = refl
is_whole UByte a b = refl
is_whole Short a b = refl
is_whole UShort a b = refl
is_whole Int a b = refl
is_whole UInt a b = refl
is_whole Long a b = refl
is_whole ULong a b = refl
is_whole Category a b = absurd (a refl)
is_whole Text a b = absurd (b refl)

-- ---- the files of a part

pub meta_is : (table : Table) (meta : PartMeta) (first : ℕ) → first + meta.rows ≤ length table.records → meta.schema ≡ table.schema
    → part_data table.schema (part_from table meta.number first meta.rows) ≡ meta
meta_is table meta first within schema =
    let rows : length (records_from table first meta.rows) ≡ meta.rows = length-records table first meta.rows within in
    λ i. record { number = meta.number; rows = rows i; schema = sym schema i }

pub part_files-is : (dir : List ℕ) (table : Table) (meta : PartMeta) (first : ℕ) → first + meta.rows ≤ length table.records → meta.schema ≡ table.schema
    → part_files dir table.schema (part_from table meta.number first meta.rows)
    ≡ columns_files dir (part_from table meta.number first meta.rows) 0 table.schema
    ++ record { name = part_name dir meta.number; bytes = part_text meta } ∷ []
unfolding part_files
part_files-is dir table meta first within schema =
    ap (λ (m : PartMeta). columns_files dir (part_from table meta.number first meta.rows) 0 table.schema
    ++ record { name = part_name dir meta.number; bytes = part_text m } ∷ []) (meta_is table meta first within schema)

pub there_is : {X : Type 0} (xs : List X) (i : ℕ) (x : X) → i < length xs → x ≡ get_or xs i x → slice_get xs i ≡ Some x
there_is [] i x h is = absurd (omega arith)
there_is (y ∷ ys) zero x h is = ap Some (sym is)
there_is (y ∷ ys) (suc i) x h is = there_is ys i x (omega arith) is

-- ---- the parts

pub part_from_is : (table : Table) (next per_part place : ℕ) (meta : PartMeta) (first : ℕ)
    → meta ≡ part_data table.schema (new_part next per_part table.records place) → first ≡ place * per_part
    → part_from table meta.number first meta.rows ≡ new_part next per_part table.records place
part_from_is table next per_part place meta first is at =
    let rest = drop (place * per_part) table.records in
    let rows : meta.rows ≡ min per_part (length rest) = ap (λ (m : PartMeta). m.rows) is ∙ length-take per_part rest in
    let records : records_from table first meta.rows ≡ take per_part rest =
    ap (λ k. take meta.rows (drop k table.records)) at ∙ ap (λ k. take k rest) rows ∙ take_min per_part rest in
    let number : meta.number ≡ next + place = ap (λ (m : PartMeta). m.number) is in
    λ i. record { number = number i; records = records i; specs = empty }

pub parts_more : (f : Partition → List File) (next per_part place : ℕ) (records : List (List Cell)) → place < part_count per_part (length records)
    → flat_map f (take (place + 1) (new_parts next per_part records)) ≡ flat_map f (take place (new_parts next per_part records)) ++ f (new_part next per_part records place)
parts_more f next per_part place records h =
    let count = part_count per_part (length records) in
    let one = new_part next per_part records in
    let len = length-map-range_with_len one 0 count in
    all_more f place (new_parts next per_part records) (one place) (omega (arith, len))
    ∙ ap (λ p. flat_map f (take place (new_parts next per_part records)) ++ f p) (get_or-map-range_with_len one 0 count place place (one place) h (omega arith))

pub length-new_parts : (next per_part : ℕ) (records : List (List Cell)) → length (new_parts next per_part records) ≡ part_count per_part (length records)
length-new_parts next per_part records = length-map-range_with_len (new_part next per_part records) 0 (part_count per_part (length records))
