-- The columns of a world's datasets in their files.
use Rattle.std.proofs.Common.{◌≡◌, ◌+◌, ◌≤◌, ℕ, zero, suc, List, [], ◌∷◌, length, map, Option, Some, Ok, Err, IsSome, refl, sym, ap, subst, ◌∙◌, arith}
use Rattle.std.specs.List.{All, slice_get}
use Rattle.std.proofs.lemmas.List.{length-map}
use Rattle.std.proofs.lemmas.List.Elements.{All-head, All-tail}
use Rattle.fb_outside.specs.Files.{Files, file_at}
use Rattle.fb_outside.specs.Names.{IsPath}
use Rattle.fb_outside.specs.Puts.{File, IsThere}
use Rattle.fb_types.specs.Cells.{CellFits}
use Rattle.fb_types.specs.declared.cells.Cell.{Cell}
use Rattle.fb_types.specs.declared.schemas.Column.{Column}
use Rattle.fb_types.specs.declared.types.ColType.{ColType}
use Rattle.fb_types.specs.declared.types.ColType.TheVariants.{Byte, UByte, Short, UShort, Int, UInt, Long, ULong, Category, Text}
use Rattle.fb_types.specs.Types.{width_of}
use Rattle.wah_words.specs.Bytes.{spelling}
use Rattle.column_file.specs.Opening.{column_in}
use Rattle.column_file.specs.Values.{values_bytes, width_in}
use Rattle.column_file.proofs.OpeningLemmas.{column_opens}
use Rattle.part_meta.specs.declared.names.FileKind.TheVariants.{Words}
use Rattle.part_meta.specs.declared.part.PartMeta.{PartMeta}
use Rattle.text_column.specs.DictionaryFile.{dictionary_bytes}
use Rattle.text_column.specs.OpenedDictionary.{dictionary_of as read_dictionary}
use Rattle.text_column.proofs.DictionaryLemmas.{dictionary_again}
use Rattle.part_meta.specs.FileNames.{file_name, mask_name, part_name, values_name}
use Rattle.part_meta.specs.PartText.{part_text}
use Rattle.world.specs.World.{Content, IsPartition, Partition, World, content_at}
use Rattle.world.specs.PartFiles.{column_files, columns_files, part_data, part_files}
use Rattle.world.specs.Cells.{code_of, column_cells, dictionary_of, is_present, number_of}
use Rattle.world.specs.Stands.{PartRests, Stands}
use Rattle.dataset.specs.declared.content.Dataset.{Dataset}
use Rattle.dataset.specs.Damage.{Damage, IsColumnDamaged, IsDamagedAt, rows_at, words_at, words_name}
use Rattle.dataset.specs.Damage.IsDamagedAt.{NoColumn, NoDictionary}
use Rattle.dataset.specs.PartColumns.{HasWords}
use Rattle.dataset.specs.Found.{dataset_in}
use Rattle.dataset.specs.InWorld.{HasNumbers, IsColumnOf}
use Rattle.world.specs.Cells.{stored_numbers}
use Rattle.dataset.specs.Opened.{OpensAs}
use Rattle.dataset.proofs.FitLemmas.{category_words, cells_fit, stored_fit}
use Rattle.world.proofs.PlaceLemmas.{All-at}
use Rattle.dataset.proofs.ListLemmas.{All-left, All-right, map-at}
use Rattle.dataset.proofs.WorldLemmas.{opened}

-- ---- the files of a column among those of its part

columns_there : (files : Files) (dir : List ℕ) (part : Partition) (from : ℕ) (schema : List Column) (col : ℕ) (column : Column)
    → All (IsThere files) (columns_files dir part from schema) → slice_get schema col ≡ Some column
    → All (IsThere files) (column_files dir part.number column (column_cells (from + col) part.records))
columns_there files dir part from [] col column h e = absurd (cc)
columns_there files dir part from (first ∷ rest) zero column h e =
    let same : first ≡ column = cc in
    let here : from ≡ from + 0 = omega arith in
    let there : All (IsThere files) (column_files dir part.number first (column_cells from part.records)) =
    All-left (IsThere files) (column_files dir part.number first (column_cells from part.records)) (columns_files dir part (from + 1) rest) h in
    subst (λ (c : Column). All (IsThere files) (column_files dir part.number c (column_cells (from + 0) part.records))) same
    (subst (λ (k : ℕ). All (IsThere files) (column_files dir part.number first (column_cells k part.records))) here there)
columns_there files dir part from (first ∷ rest) (suc col) column h e =
    let next : from + 1 + col ≡ from + suc col = omega arith in
    subst (λ (k : ℕ). All (IsThere files) (column_files dir part.number column (column_cells k part.records))) next
    (columns_there files dir part (from + 1) rest col column
    (All-right (IsThere files) (column_files dir part.number first (column_cells from part.records)) (columns_files dir part (from + 1) rest) h) e)

pub column_there : (files : Files) (dir : List ℕ) (schema : List Column) (part : Partition) (col : ℕ) (column : Column)
    → PartRests files dir schema part → slice_get schema col ≡ Some column
    → All (IsThere files) (column_files dir part.number column (column_cells col part.records))
unfolding part_files
column_there files dir schema part col column rests e =
    let text : File = record { name = part_name dir part.number; bytes = part_text (part_data schema part) } in
    let here : 0 + col ≡ col = omega arith in
    subst (λ (k : ℕ). All (IsThere files) (column_files dir part.number column (column_cells k part.records))) here
    (columns_there files dir part 0 schema col column
    (All-left (IsThere files) (columns_files dir part 0 schema) (text ∷ []) rests.listed) e)

-- ---- its values and its mask

-- what they are
abbrev AreThere : Files → List ℕ → ℕ → List ℕ → ColType → List Cell → Type 0
AreThere files dir number name ty cells =
    (file_at files (values_name dir number name) ≡ Some (values_bytes ty (stored_numbers ty cells)))
    × (file_at files (mask_name dir number name) ≡ Some (spelling (map is_present cells)))

first_two : (files : Files) (values mask : File) (rest : List File) → All (IsThere files) (values ∷ mask ∷ rest) → IsThere files values × IsThere files mask
first_two files values mask rest h =
    (All-head (IsThere files) values (mask ∷ rest) h, All-head (IsThere files) mask rest (All-tail (IsThere files) values (mask ∷ rest) h))

module _ (files : Files) (dir : List ℕ) (number : ℕ) (column : Column) (cells : List Cell) where
  abbrev values_of : List ℕ → File
  values_of bytes = record { name = values_name dir number column.name; bytes = bytes }

  abbrev mask : File
  mask = record { name = mask_name dir number column.name; bytes = spelling (map is_present cells) }

  two_there : (ty : ColType) → column.ty ≡ ty → IsSome (width_of ty) → All (IsThere files) (column_files dir number (record { name = column.name; ty = ty }) cells)
      → AreThere files dir number column.name ty cells
  unfolding column_files
  two_there Byte is some h = first_two files (values_of (values_bytes Byte (map number_of cells))) mask [] h
  two_there UByte is some h = first_two files (values_of (values_bytes UByte (map number_of cells))) mask [] h
  two_there Short is some h = first_two files (values_of (values_bytes Short (map number_of cells))) mask [] h
  two_there UShort is some h = first_two files (values_of (values_bytes UShort (map number_of cells))) mask [] h
  two_there Int is some h = first_two files (values_of (values_bytes Int (map number_of cells))) mask [] h
  two_there UInt is some h = first_two files (values_of (values_bytes UInt (map number_of cells))) mask [] h
  two_there Long is some h = first_two files (values_of (values_bytes Long (map number_of cells))) mask [] h
  two_there ULong is some h = first_two files (values_of (values_bytes ULong (map number_of cells))) mask [] h
  two_there Category is some h = first_two files (values_of (values_bytes Category (map (code_of (dictionary_of cells)) cells))) mask
      (record { name = file_name dir number (Some column.name) Words; bytes = dictionary_bytes (dictionary_of cells) } ∷ []) h
  two_there Text is some h = absurd (cc)

-- a number for each row
pub stored_length : (ty : ColType) (cells : List Cell) → IsSome (width_of ty) → length (stored_numbers ty cells) ≡ length cells
stored_length Byte cells some = length-map cells number_of
stored_length UByte cells some = length-map cells number_of
stored_length Short cells some = length-map cells number_of
stored_length UShort cells some = length-map cells number_of
stored_length Int cells some = length-map cells number_of
stored_length UInt cells some = length-map cells number_of
stored_length Long cells some = length-map cells number_of
stored_length ULong cells some = length-map cells number_of
stored_length Category cells some = length-map cells (code_of (dictionary_of cells))
stored_length Text cells some = absurd (cc)

pub has_numbers_by : (files : Files) (dir : List ℕ) (schema : List Column) (part : Partition) (col : ℕ) (column : Column) → IsPartition schema part
    → PartRests files dir schema part → slice_get schema col ≡ Some column → IsSome (width_of column.ty)
    → HasNumbers files dir part.number column (column_cells col part.records)
has_numbers_by files dir schema part col column valid rests at some =
    let cells : List Cell = column_cells col part.records in
    let rows : length cells ≡ length part.records = length-map part.records _ in
    let few : length cells ≤ 4194304 = omega (arith, rows, valid.few) in
    let both : AreThere files dir part.number column.name column.ty cells =
    two_there files dir part.number column cells column.ty refl some (column_there files dir schema part col column rests at) in
    let each : length (stored_numbers column.ty cells) ≡ length cells = stored_length column.ty cells some in
    let bits : length (map is_present cells) ≡ length cells = length-map cells is_present in
    record {
      values = both.0;
      mask = both.1;
      each_row = each;
      fit = stored_fit column.ty cells few (cells_fit part.records schema col column valid.fit at);
      opens =
          ap (λ (o : Option (List ℕ)). column_in (width_in column.ty) (length cells) o (file_at files (mask_name dir part.number column.name))) both.0
          ∙ ap (λ (o : Option (List ℕ)). column_in (width_in column.ty) (length cells) (Some (values_bytes column.ty (stored_numbers column.ty cells))) o) both.1
          ∙ ap (λ k. column_in (width_in column.ty) k (Some (values_bytes column.ty (stored_numbers column.ty cells))) (Some (spelling (map is_present cells)))) (sym each)
          ∙ column_opens column.ty (stored_numbers column.ty cells) (map is_present cells) (omega (arith, bits, few)) (bits ∙ sym each);
    }

pub has_numbers : (files : Files) (world : World) (dir : List ℕ) (part : Partition) (col : ℕ) (column : Column) → Stands files world
    → IsColumnOf world dir part col column → IsSome (width_of column.ty)
    → HasNumbers files dir part.number column (column_cells col part.records)
has_numbers files world dir part col column stands of some =
    let valid = stands.valid dir of.content of.there in
    let rests = stands.rests dir of.content of.there in
    has_numbers_by files dir of.content.schema part col column (All-at (IsPartition of.content.schema) of.content.parts of.place part of.listed valid.parts)
    (All-at (PartRests files dir of.content.schema) of.content.parts of.place part of.listed rests.parts) of.in_schema some

-- ---- a category's words

third : (files : Files) (values mask words : File) → All (IsThere files) (values ∷ mask ∷ words ∷ []) → IsThere files words
third files values mask words h =
    All-head (IsThere files) words [] (All-tail (IsThere files) mask (words ∷ []) (All-tail (IsThere files) values (mask ∷ words ∷ []) h))

words_there : (files : Files) (dir : List ℕ) (number : ℕ) (column : Column) (ty : ColType) (cells : List Cell) → ty ≡ Category
    → All (IsThere files) (column_files dir number (record { name = column.name; ty = ty }) cells)
    → file_at files (words_name dir number column.name) ≡ Some (dictionary_bytes (dictionary_of cells))
unfolding column_files
words_there files dir number column Category cells is h =
    third files (values_of files dir number column cells (values_bytes Category (map (code_of (dictionary_of cells)) cells)))
    (mask files dir number column cells)
    (record { name = words_name dir number column.name; bytes = dictionary_bytes (dictionary_of cells) }) h
words_there files dir number column Byte cells is h = absurd (cc)
words_there files dir number column UByte cells is h = absurd (cc)
words_there files dir number column Short cells is h = absurd (cc)
words_there files dir number column UShort cells is h = absurd (cc)
words_there files dir number column Int cells is h = absurd (cc)
words_there files dir number column UInt cells is h = absurd (cc)
words_there files dir number column Long cells is h = absurd (cc)
words_there files dir number column ULong cells is h = absurd (cc)
words_there files dir number column Text cells is h = absurd (cc)

has_words_by : (files : Files) (dir : List ℕ) (schema : List Column) (part : Partition) (col : ℕ) (column : Column) → IsPartition schema part
    → PartRests files dir schema part → slice_get schema col ≡ Some column → column.ty ≡ Category
    → HasWords files dir part.number column (dictionary_of (column_cells col part.records))
has_words_by files dir schema part col column valid rests at is =
    let cells : List Cell = column_cells col part.records in
    let rows : length cells ≡ length part.records = length-map part.records _ in
    let few : length cells ≤ 4194304 = omega (arith, rows, valid.few) in
    let fit : All (λ cell. CellFits cell Category) cells =
    subst (λ (ty : ColType). All (λ cell. CellFits cell ty) cells) is (cells_fit part.records schema col column valid.fit at) in
    record {
      dictionary = category_words cells few fit;
      there = words_there files dir part.number column column.ty cells is (column_there files dir schema part col column rests at);
    }

pub has_words : (files : Files) (world : World) (dir : List ℕ) (part : Partition) (col : ℕ) (column : Column) → Stands files world
    → IsColumnOf world dir part col column → column.ty ≡ Category
    → HasWords files dir part.number column (dictionary_of (column_cells col part.records))
has_words files world dir part col column stands of is =
    let valid = stands.valid dir of.content of.there in
    let rests = stands.rests dir of.content of.there in
    has_words_by files dir of.content.schema part col column (All-at (IsPartition of.content.schema) of.content.parts of.place part of.listed valid.parts)
    (All-at (PartRests files dir of.content.schema) of.content.parts of.place part of.listed rests.parts) of.in_schema is

-- the words of a dictionary that is there are read
pub words_read : (files : Files) (dir : List ℕ) (part : PartMeta) (column : Column) (words : List (List ℕ))
    → HasWords files dir part.number column words → words_at files dir part column ≡ Ok words
words_read files dir part column words has = ap read_dictionary has.there ∙ dictionary_again words has.dictionary

-- ---- no column is damaged

-- a column of a world's part has neither a wrong file nor a wrong dictionary
part_undamaged : (files : Files) (world : World) (dir : List ℕ) (part : Partition) (meta : PartMeta) (col : ℕ) (column : Column) (schema : List Column)
    (found : Damage) → Stands files world → IsColumnOf world dir part col column → IsSome (width_of column.ty) → part_data schema part ≡ meta
    → IsDamagedAt files dir meta column found → ⊥
part_undamaged files world dir part meta col column schema found stands of some is (NoColumn fault wrong told) =
    let has = has_numbers files world dir part col column stands of some in
    let cells : List Cell = column_cells col part.records in
    let rows : length cells ≡ length part.records = length-map part.records _ in
    let opens : rows_at files dir (part_data schema part) column ≡ Ok (map is_present cells) =
    subst (λ (k : ℕ). column_in (width_in column.ty) k (file_at files (values_name dir part.number column.name)) (file_at files (mask_name dir part.number column.name))
    ≡ Ok (map is_present cells)) rows has.opens in
    let bad : Ok (map is_present cells) ≡ Err fault = sym opens ∙ ap (λ p. rows_at files dir p column) is ∙ wrong in absurd (cc)
part_undamaged files world dir part meta col column schema found stands of some is (NoDictionary mask fault opens category wrong told) =
    let words : List (List ℕ) = dictionary_of (column_cells col part.records) in
    let has = has_words files world dir part col column stands of category in
    let bad : Ok words ≡ Err fault =
    sym (words_read files dir (part_data schema part) column words has) ∙ ap (λ p. words_at files dir p column) is ∙ wrong in absurd (cc)

-- over the dataset of some content
content_undamaged : (files : Files) (world : World) (dir name : List ℕ) (content : Content) (found : Damage) → Stands files world
    → content_at world dir ≡ Some content → IsColumnDamaged files (dataset_in dir content) name found → ⊥
content_undamaged files world dir name content found stands at h =
    let from = map-at (part_data content.schema) content.parts h.place h.part h.listed in
    let of : IsColumnOf world dir from.from h.col h.column =
    record { content = content; there = at; place = h.place; listed = from.at; in_schema = h.in_schema } in
    part_undamaged files world dir from.from h.part h.col h.column content.schema found stands of h.width from.is h.first

pub columns_undamaged : (files : Files) (world : World) (dir name : List ℕ) (dataset : Dataset) (found : Damage) → Stands files world
    → IsPath dir → OpensAs files dir dataset → IsColumnDamaged files dataset name found → ⊥
columns_undamaged files world dir name dataset found stands path h damaged =
    let of = opened files world dir dataset stands path h in
    content_undamaged files world dir name of.content found stands of.there
    (subst (λ (d : Dataset). IsColumnDamaged files d name found) of.is damaged)
