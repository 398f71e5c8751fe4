-- Reads of a part are of files of that part, and no other part's.
use Rattle.std.proofs.Common.{◌≡◌, ℕ, zero, suc, ◌+◌, ◌<◌, ◌||◌, Bool, true, false, List, [], ◌∷◌, ◌++◌, length, get_or, Option, Some, None, refl, sym, ap, subst, ◌∙◌, arith}
use Rattle.std.specs.Prelude.{option_map, slice_get, slice_index_or}
use Rattle.std.specs.List.{AllByRecursion, list_any, range_with_len}
use Rattle.std.specs.Str.{bytes_eq}
use Rattle.std.proofs.lemmas.Bool.{and_parts}
use Rattle.std.proofs.lemmas.Option.{get_or_from_slice_get, slice_get-get_or}
use Rattle.std.proofs.lemmas.Slice.Eq.{bytes_eq-Decides}
use Rattle.fb_outside.specs.Reads.{Look}
use Rattle.fb_types.specs.declared.schemas.Column.{Column}
use Rattle.fb_types.specs.declared.types.ColType.{ColType}
use Rattle.fb_types.specs.declared.types.ColType.TheVariants.{Byte, UByte, Short, UShort, Int, UInt, Long, ULong, Category, Text}
use Rattle.fb_types.specs.Names.{IsColumnName}
use Rattle.fb_types.specs.Schemas.{IsSchema}
use Rattle.part_meta.specs.FileNames.{IsCalled, file_name, index_name, values_name}
use Rattle.part_meta.specs.declared.names.FileKind.{FileKind}
use Rattle.part_meta.specs.declared.names.FileKind.TheVariants.{Values, Index}
use Rattle.part_meta.proofs.FileNameLemmas.{same_file}
use Rattle.where_plan.specs.Plans.{FitsColumn, FitsSchema, place_in}
use Rattle.where_plan.specs.declared.plan.Plan.{Plan}
use Rattle.where_plan.specs.declared.plan.PlanAtom.{PlanAtom}
use Rattle.three_valued.specs.Candidates.{candidates}
use Rattle.three_valued.specs.Plans.{atoms_of}
use Rattle.stages.specs.Answer.{is_allowed_in, is_allowed_on, is_free_in}
use Rattle.world.specs.World.{Partition}
use Rattle.world.proofs.PlaceLemmas.{All-at}
use Rattle.part_meaning.specs.Columns.{PartColumn, column_at, no_column}
use Rattle.part_meaning.specs.Files.{free_kinds, is_bitmap_of, is_free_of, is_of_rows, kinds_by_spec, kinds_by_type}
use Rattle.part_meaning.specs.Meaning.{meaning_of}
use Rattle.part_meaning.specs.Parts.{column_for, is_bitmap_in}

-- the name is of a file of a column, in the part of that number
pub record IsOfPart (dir : List ℕ) (number : ℕ) (name : List ℕ) : Type 0 where
  pub column : List ℕ
  pub kind : FileKind
  pub called : IsCalled kind (Some column)
  pub is : name ≡ file_name dir number (Some column) kind

-- and so of no other part
pub same_part : (dir : List ℕ) (a b : ℕ) (name : List ℕ) → a < 4096 → b < 4096 → IsOfPart dir a name → IsOfPart dir b name → a ≡ b
same_part dir a b name low high h k =
    let same = same_file dir dir a b (Some h.column) (Some k.column) h.kind k.kind low high h.called k.called (sym h.is ∙ k.is) in
    same.1

same_bytes : (a b : List ℕ) → bytes_eq a b ≡ true → a ≡ b
same_bytes a b h = (bytes_eq-Decides a b).0 h

of_kind : (dir : List ℕ) (number : ℕ) (column name : List ℕ) (kind : FileKind) → IsCalled kind (Some column)
    → bytes_eq name (file_name dir number (Some column) kind) ≡ true → IsOfPart dir number name
of_kind dir number column name kind called h =
    record { column = column; kind = kind; called = called; is = same_bytes name (file_name dir number (Some column) kind) h }

-- ---- tests

pub either : {X : Type 0} (b : Bool) → (b ≡ true → X) → (b ≡ false → X) → X
either true f g = f refl
either false f g = g refl

-- one of the items passes the test
any_gives : {X R : Type 0} (test : X → Bool) (P : X → Type 0) (xs : List X) → AllByRecursion P xs → ((x : X) → P x → test x ≡ true → R)
    → list_any test xs ≡ true → R
any_gives test P [] all f h = absurd cc
any_gives test P (x ∷ xs) all f h =
    either (test x) (λ t. f x all.0 t) (λ n. any_gives test P xs all.1 f (sym (ap (λ b. b || list_any test xs) n) ∙ h))

-- ---- files without values

abbrev IsOfColumn : FileKind → Type 0
IsOfColumn kind = (name : List ℕ) → IsColumnName name → IsCalled kind (Some name)

by_type : (ty : ColType) → AllByRecursion IsOfColumn (kinds_by_type ty)
by_type Byte = tt
by_type UByte = tt
by_type Short = tt
by_type UShort = tt
by_type Int = tt
by_type UInt = tt
by_type Long = tt
by_type ULong = tt
by_type Category = (λ name named. named, tt)
by_type Text = (λ name named. named, tt)

by_spec : (column : PartColumn) → AllByRecursion IsOfColumn (kinds_by_spec column.spec)
by_spec column =
    elim column.spec as (λ o. AllByRecursion IsOfColumn (kinds_by_spec o)) [
      | None ↦ tt
      | Some spec ↦ (λ name named. named, tt)
    ]

all_joined : {X : Type 0} (P : X → Type 0) (xs ys : List X) → AllByRecursion P xs → AllByRecursion P ys → AllByRecursion P (xs ++ ys)
all_joined P [] ys h k = k
all_joined P (x ∷ xs) ys h k = (h.0, all_joined P xs ys h.1 k)

free_of_column : (column : PartColumn) → AllByRecursion IsOfColumn (free_kinds column)
free_of_column column = (λ name named. named, all_joined IsOfColumn (kinds_by_type column.ty) (kinds_by_spec column.spec) (by_type column.ty) (by_spec column))

free_named : (dir : List ℕ) (number : ℕ) (column : PartColumn) (look : Look) → IsColumnName column.name
    → is_free_of dir number column look ≡ true → IsOfPart dir number look.name
unfolding is_free_of
free_named dir number column look named h =
    any_gives (λ kind. bytes_eq look.name (file_name dir number (Some column.name) kind)) IsOfColumn (free_kinds column) (free_of_column column)
    (λ kind of_column t. of_kind dir number column.name look.name kind (of_column column.name named) t) h

-- ---- values and bitmaps

rows_named : (dir : List ℕ) (number : ℕ) (column : PartColumn) (rows : List ℕ) (look : Look) → IsColumnName column.name
    → is_of_rows dir number column rows look ≡ true → IsOfPart dir number look.name
unfolding is_of_rows
rows_named dir number column rows look named h =
    of_kind dir number column.name look.name Values named (and_parts (bytes_eq look.name (values_name dir number column.name)) _ h).0

bitmap_named : (dir : List ℕ) (number : ℕ) (column : PartColumn) (look : Look) → IsColumnName column.name
    → is_bitmap_of dir number column look ≡ true → IsOfPart dir number look.name
unfolding is_bitmap_of
bitmap_named dir number column look named h =
    of_kind dir number column.name look.name Index named (and_parts (bytes_eq look.name (index_name dir number column.name)) _ h).0

-- ---- reads of a part

name_at : (schema : List Column) (part : Partition) (col : ℕ) (column : Column) → IsSchema schema → slice_get schema col ≡ Some column
    → IsColumnName (column_at schema part col).name
unfolding column_at
name_at schema part col column valid there =
    let same : slice_index_or schema col no_column ≡ column = get_or_from_slice_get schema col column no_column there in
    subst (λ (c : Column). IsColumnName c.name) (sym same) (All-at (λ (c : Column). IsColumnName c.name) schema col column there valid.named)

pub column_there : (o : Option Column) (ty : ColType) → option_map (λ column. column.ty) o ≡ Some ty → (column : Column) × (o ≡ Some column)
column_there None ty h = absurd cc
column_there (Some column) ty h = (column, refl)

name_for : (schema : List Column) (part : Partition) (condition : PlanAtom) → IsSchema schema → FitsColumn schema condition
    → IsColumnName (column_for schema part condition).name
name_for schema part condition valid fits =
    let there = column_there (slice_get schema (place_in condition)) fits.ty fits.there in
    name_at schema part (place_in condition) there.0 valid there.1

-- a read that a plan is allowed
pub allowed_of_part : (dir : List ℕ) (schema : List Column) (part : Partition) (planned : Plan) (look : Look) → IsSchema schema → FitsSchema schema planned
    → is_allowed_in (meaning_of dir schema part) planned look ≡ true → IsOfPart dir part.number look.name
unfolding atoms_of
allowed_of_part dir schema part planned look valid fits h =
    let m = meaning_of dir schema part in
    any_gives (λ condition. is_allowed_on m condition (candidates m.rows m.answer planned condition) look) (FitsColumn schema) (atoms_of planned) fits
    (λ condition fit t.
    let named = name_for schema part condition valid fit in
    let column = column_for schema part condition in
    either (m.is_free condition look) (λ free. free_named dir part.number column look named free)
    (λ n. rows_named dir part.number column (candidates m.rows m.answer planned condition) look named
    (sym (ap (λ b. b || m.covers condition (candidates m.rows m.answer planned condition) look) n) ∙ t))) h

-- of a file without values
pub free_of_part : (dir : List ℕ) (schema : List Column) (part : Partition) (planned : Plan) (look : Look) → IsSchema schema → FitsSchema schema planned
    → is_free_in (meaning_of dir schema part) planned look ≡ true → IsOfPart dir part.number look.name
unfolding atoms_of
free_of_part dir schema part planned look valid fits h =
    let m = meaning_of dir schema part in
    any_gives (λ condition. m.is_free condition look) (FitsColumn schema) (atoms_of planned) fits
    (λ condition fit t. free_named dir part.number (column_for schema part condition) look (name_for schema part condition valid fit) t) h

range_below : (a n : ℕ) → AllByRecursion (λ k. k < a + n) (range_with_len a n)
range_below a zero = tt
range_below a (suc n) =
    let e : a + 1 + n ≡ a + suc n = omega arith in
    (omega arith, subst (λ z. AllByRecursion (λ k. k < z) (range_with_len (a + 1) n)) e (range_below (a + 1) n))

-- a read of a bitmap
pub bitmap_of_part : (dir : List ℕ) (schema : List Column) (part : Partition) (look : Look) → IsSchema schema
    → is_bitmap_in dir schema part look ≡ true → IsOfPart dir part.number look.name
unfolding is_bitmap_in
bitmap_of_part dir schema part look valid h =
    any_gives (λ col. is_bitmap_of dir part.number (column_at schema part col) look) (λ col. col < 0 + length schema) (range_with_len 0 (length schema))
    (range_below 0 (length schema))
    (λ col below t. bitmap_named dir part.number (column_at schema part col) look
    (name_at schema part col (get_or schema col no_column) valid (slice_get-get_or schema col no_column (omega (arith, below)))) t) h
