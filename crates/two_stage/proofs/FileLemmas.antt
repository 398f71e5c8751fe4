-- The files of a part of a dataset are those of its columns.
use Rattle.std.proofs.Common.{◌≡◌, ◌+◌, ◌*◌, ◌^◌, ◌<◌, ◌≤◌, ℕ, ℤ, pos, ◌≤ℤ◌, Bool, List, [], ◌∷◌, ◌++◌, All, length, map, get_or, Option, Some, None, Ok, Result, IsSome, unwrap_or, option_map, refl, sym, ap, subst, ◌∙◌, arith, length-append}
use Rattle.std.specs.Prelude.{IsSomeAnd}
use Rattle.std.specs.FinMap.{get}
use Rattle.std.specs.List.{AllByRecursion, slice_get}
use Rattle.std.proofs.lemmas.List.{length-map}
use Rattle.std.proofs.lemmas.List.Elements.{All-head, All-tail}
use Rattle.std.proofs.lemmas.Option.{slice_get-get_or}
use Rattle.fb_outside.specs.Files.{Files, file_at}
use Rattle.fb_outside.specs.Puts.{File, IsThere}
use Rattle.fb_types.specs.declared.cells.Cell.{Cell}
use Rattle.fb_types.specs.declared.cells.Cell.TheVariants.{Null, Whole, Word}
use Rattle.fb_types.specs.declared.schemas.Column.{Column}
use Rattle.fb_types.specs.declared.types.ColType.{ColType}
use Rattle.fb_types.specs.declared.types.ColType.TheVariants.{Byte, UByte, Short, UShort, Int, UInt, Long, ULong, Category, Text}
use Rattle.fb_types.specs.Cells.{CellFits}
use Rattle.fb_types.specs.Types.{width_of}
use Rattle.wah_words.specs.Bytes.{spelling}
use Rattle.column_file.specs.Opening.{column_in, mask_in}
use Rattle.column_file.specs.Values.{values_bytes, width_in}
use Rattle.column_file.proofs.OpeningLemmas.{spelled_to_end}
use Rattle.index_spec.specs.Language.{IsGiven}
use Rattle.index_spec.specs.declared.spec.Spec.{Spec}
use Rattle.index_file.specs.IndexFile.{EdgeFits, IsIndex, index_bytes, places_of}
use Rattle.index_file.specs.Opening.{Head, head_in, index_in, some_head}
use Rattle.index_file.specs.declared.edge.Edge.{Edge}
use Rattle.index_file.specs.declared.head.IndexHead.{IndexHead}
use Rattle.index_file.proofs.WrittenLemmas.{index_again}
use Rattle.text_column.specs.DictionaryFile.{dictionary_bytes}
use Rattle.text_column.specs.OpenedDictionary.{dictionary_of as words_in}
use Rattle.text_column.specs.OpenedTexts.{text_in}
use Rattle.text_column.specs.Texts.{starts_bytes, starts_of, text_file}
use Rattle.text_column.specs.Words.{IsDictionary}
use Rattle.text_column.proofs.DictionaryLemmas.{dictionary_again}
use Rattle.text_column.proofs.OpenedLemmas.{opened_again}
use Rattle.part_meta.specs.FileNames.{file_name, index_name, mask_name, values_name}
use Rattle.part_meta.specs.declared.names.FileKind.TheVariants as file
use Rattle.part_meta.specs.declared.part.PartMeta.{PartMeta}
use Rattle.binning.specs.Bins.{bins_of, cells}
use Rattle.binning.specs.Encodings.{vectors}
use Rattle.binning.specs.Members.{bitmaps_of}
use Rattle.binning.specs.declared.gathering.Bin.{Bin}
use Rattle.binning.proofs.ColumnLemmas.{bins_are, bins_whole, length-cells}
use Rattle.binning.proofs.KeyLemmas.{kept_of}
use Rattle.world.specs.Cells.{code_of, column_cells, dictionary_of, is_present, number_of, stored_numbers, texts_of, word_of}
use Rattle.world.specs.IndexFiles.{HasBitmaps, bins_by, bitmaps_by, column_bins, column_index, edge_of, index_of, keys_by}
use Rattle.world.specs.PartFiles.{column_files, part_data}
use Rattle.world.specs.PartFiles as part_files
use Rattle.world.specs.Stands.{PartRests}
use Rattle.world.specs.World.{IsPartition, Partition}
use Rattle.dataset.proofs.ColumnLemmas.{column_there, has_numbers_by, stored_length}
use Rattle.dataset.proofs.FitLemmas.{category_words, cells_fit, stored_fit}
use Rattle.dataset.specs.InWorld.{HasNumbers}
use Rattle.index_build.specs.Index.{AreOfColumn}
use Rattle.index_build.proofs.IndexLemmas.{of_column_index}
use Rattle.bin_answers.specs.Fetched.{HasBins}
use Rattle.bin_answers.specs.Written.{IsWritten}
use Rattle.bin_answers.proofs.WrittenLemmas.{written_has}
use Rattle.part_meaning.specs.Bitmaps.{index_places}
use Rattle.part_meaning.specs.Columns.{PartColumn, bins_in, bins_under, column_at, no_column, present_rows}
use Rattle.part_meaning.specs.Meaning.{IsPartAt}
use Rattle.part_meaning.proofs.ColumnLemmas.{is_column}
use Rattle.part_meaning.proofs.FetchLemmas.{column_indexed}
use Rattle.part_meaning.proofs.UnionLemmas.{bins_all, bins_apart}
use Rattle.two_stage.specs.ColumnFiles.{HasColumn, IsHeadOf, head_under}
use Rattle.two_stage.specs.Opened.{head_said}
use Rattle.two_stage.specs.Placed.{Placed, index_file, mask_file, placed_at, starts_file, values_file, words_file}
use Rattle.two_stage.proofs.EndLemmas.{code_ends, edges_fit}

-- ---- the files of a column, one by one

second_there : (files : Files) (a b : File) (rest : List File) → All (IsThere files) (a ∷ b ∷ rest) → IsThere files b
second_there files a b rest h = All-head (IsThere files) b rest (All-tail (IsThere files) a (b ∷ rest) h)

third_there : (files : Files) (a b c : File) (rest : List File) → All (IsThere files) (a ∷ b ∷ c ∷ rest) → IsThere files c
third_there files a b c rest h = second_there files b c rest (All-tail (IsThere files) a (b ∷ c ∷ rest) h)

module _ (files : Files) (dir : List ℕ) (number : ℕ) (name : List ℕ) (column : List Cell) where
  abbrev values_of : List ℕ → File
  values_of bytes = record { name = values_name dir number name; bytes = bytes }

  abbrev mask_of : File
  mask_of = record { name = mask_name dir number name; bytes = spelling (map is_present column) }

  abbrev words_of : File
  words_of = record { name = file_name dir number (Some name) file.Words; bytes = dictionary_bytes (dictionary_of column) }

  abbrev starts_of_texts : File
  starts_of_texts = record { name = file_name dir number (Some name) file.Starts; bytes = starts_bytes (starts_of (texts_of column)) }

  abbrev Listed : ColType → Type 0
  Listed ty = All (IsThere files) (column_files dir number (record { name = name; ty = ty }) column)

  mask_there : (ty : ColType) → Listed ty → IsThere files mask_of
  unfolding column_files
  mask_there Byte h = second_there files (values_of (values_bytes Byte (map number_of column))) mask_of [] h
  mask_there UByte h = second_there files (values_of (values_bytes UByte (map number_of column))) mask_of [] h
  mask_there Short h = second_there files (values_of (values_bytes Short (map number_of column))) mask_of [] h
  mask_there UShort h = second_there files (values_of (values_bytes UShort (map number_of column))) mask_of [] h
  mask_there Int h = second_there files (values_of (values_bytes Int (map number_of column))) mask_of [] h
  mask_there UInt h = second_there files (values_of (values_bytes UInt (map number_of column))) mask_of [] h
  mask_there Long h = second_there files (values_of (values_bytes Long (map number_of column))) mask_of [] h
  mask_there ULong h = second_there files (values_of (values_bytes ULong (map number_of column))) mask_of [] h
  mask_there Category h = second_there files (values_of (values_bytes Category (map (code_of (dictionary_of column)) column))) mask_of (words_of ∷ []) h
  mask_there Text h = second_there files (values_of (text_file (texts_of column))) mask_of (starts_of_texts ∷ []) h

  words_there : (ty : ColType) → ty ≡ Category → Listed ty → IsThere files words_of
  unfolding column_files
  words_there ty e h =
      third_there files (values_of (values_bytes Category (map (code_of (dictionary_of column)) column))) mask_of words_of []
      (subst Listed e h)

  text_there : (ty : ColType) → ty ≡ Text → Listed ty → IsThere files (values_of (text_file (texts_of column)))
  unfolding column_files
  text_there ty e h = All-head (IsThere files) (values_of (text_file (texts_of column))) (mask_of ∷ starts_of_texts ∷ []) (subst Listed e h)

  starts_there : (ty : ColType) → ty ≡ Text → Listed ty → IsThere files starts_of_texts
  unfolding column_files
  starts_there ty e h = third_there files (values_of (text_file (texts_of column))) mask_of starts_of_texts [] (subst Listed e h)

-- ---- texts are not too long

texts_short : (column : List Cell) → All (λ cell. CellFits cell Text) column → length (text_file (texts_of column)) ≤ 65535 * length column
texts_short [] h = omega arith
texts_short (Null ∷ column) h =
    let rest = texts_short column (All-tail (λ cell. CellFits cell Text) Null column h) in omega (arith, rest)
texts_short (Whole n ∷ column) h = absurd (All-head (λ cell. CellFits cell Text) (Whole n) column h)
texts_short (Word word ∷ column) h =
    let rest = texts_short column (All-tail (λ cell. CellFits cell Text) (Word word) column h) in
    let one = (All-head (λ cell. CellFits cell Text) (Word word) column h).1 in
    omega (arith, rest, one, length-append word (text_file (texts_of column)))

-- ---- a column of a part whose files rest

module _ (files : Files) (dir : List ℕ) (schema : List Column) (part : Partition) (col : ℕ) (valid : IsPartition schema part)
    (rests : PartRests files dir schema part) (within : col < length schema) where
  abbrev column : Column
  column = get_or schema col no_column

  abbrev own : List Cell
  own = column_cells col part.records

  abbrev mask : List Bool
  mask = map is_present own

  abbrev rows : ℕ
  rows = length part.records

  at : slice_get schema col ≡ Some column
  at = slice_get-get_or schema col no_column within

  there : All (IsThere files) (column_files dir part.number column own)
  there = column_there files dir schema part col column rests at

  many : length own ≡ rows
  many = length-map part.records _

  long : length mask ≡ rows
  long = length-map own is_present ∙ many

  few : length own ≤ 4194304
  few = omega (arith, many, valid.few)

  fit : All (λ cell. CellFits cell column.ty) own
  fit = cells_fit part.records schema col column valid.fit at

  pub mask_opens : mask_in rows (file_at files (mask_name dir part.number column.name)) ≡ Ok mask
  mask_opens =
      ap (mask_in rows) (mask_there files dir part.number column.name own column.ty there)
      ∙ spelled_to_end rows mask long (omega (arith, long, valid.few))

  pub numbers_open : IsSome (width_of column.ty)
      → column_in (width_in column.ty) rows (file_at files (values_name dir part.number column.name)) (file_at files (mask_name dir part.number column.name)) ≡ Ok mask
  numbers_open some =
      let has = has_numbers_by files dir schema part col column valid rests at some in
      subst (λ (k : ℕ). column_in (width_in column.ty) k (file_at files (values_name dir part.number column.name)) (file_at files (mask_name dir part.number column.name)) ≡ Ok mask)
      many has.opens

  pub words_open : column.ty ≡ Category → words_in (file_at files (file_name dir part.number (Some column.name) file.Words)) ≡ Ok (dictionary_of own)
  words_open e =
      ap words_in (words_there files dir part.number column.name own column.ty e there)
      ∙ dictionary_again (dictionary_of own) (category_words own few (subst (λ (ty : ColType). All (λ cell. CellFits cell ty) own) e fit))

  pub texts_open : column.ty ≡ Text
      → text_in rows (file_at files (values_name dir part.number column.name)) (file_at files (file_name dir part.number (Some column.name) file.Starts))
      (file_at files (mask_name dir part.number column.name)) ≡ Ok (starts_of (texts_of own), mask)
  texts_open e =
      let texts = texts_of own in
      let values = text_there files dir part.number column.name own column.ty e there in
      let starts = starts_there files dir part.number column.name own column.ty e there in
      let bits = mask_there files dir part.number column.name own column.ty there in
      let each : length texts ≡ length own = length-map own (λ cell. unwrap_or (word_of cell) []) in
      let short = texts_short own (subst (λ (ty : ColType). All (λ cell. CellFits cell ty) own) e fit) in
      let size : length texts ≡ rows = each ∙ many in
      ap (λ (o : Option (List ℕ)). text_in rows o (file_at files (file_name dir part.number (Some column.name) file.Starts)) (file_at files (mask_name dir part.number column.name))) values
      ∙ ap (λ (o : Option (List ℕ)). text_in rows (Some (text_file texts)) o (file_at files (mask_name dir part.number column.name))) starts
      ∙ ap (λ (o : Option (List ℕ)). text_in rows (Some (text_file texts)) (Some (starts_bytes (starts_of texts))) o) bits
      ∙ ap (λ (k : ℕ). text_in k (Some (text_file texts)) (Some (starts_bytes (starts_of texts))) (Some (spelling mask))) (sym size)
      ∙ opened_again texts mask (long ∙ sym size) (omega (arith, long, valid.few)) (omega (arith, short, few))

-- ---- its index

module _ (files : Files) (dir : List ℕ) (schema : List Column) (part : Partition) (col : ℕ) (valid : IsPartition schema part)
    (rests : PartRests files dir schema part) (within : col < length schema) (spec : Spec) (is : get part.specs col ≡ Some spec) where
  abbrev icolumn : Column
  icolumn = get_or schema col no_column

  abbrev icells : List Cell
  icells = column_cells col part.records

  abbrev imask : List Bool
  imask = map is_present icells

  abbrev inumbers : List ℤ
  inumbers = stored_numbers icolumn.ty icells

  abbrev ibins : List Bin
  ibins = column_bins spec icolumn.ty icells

  abbrev iedges : List Edge
  iedges = map edge_of ibins

  abbrev ibitmaps : List (List Bool)
  ibitmaps = bitmaps_of spec.encoding (length imask) (vectors ibins)

  ilong : length imask ≡ length part.records
  ilong = length-map icells is_present ∙ length-map part.records _

  some_width : IsSome (width_of icolumn.ty)
  unfolding column_at
  some_width = (is_column schema part col valid).width spec is

  one_each : length imask ≡ length inumbers
  one_each = length-map icells is_present ∙ sym (stored_length icolumn.ty icells some_width)

  pub file_is : file_at files (index_name dir part.number icolumn.name) ≡ Some (index_bytes (length imask) spec iedges ibitmaps)
  unfolding index_of
  file_is =
      rests.indexes col icolumn (slice_get-get_or schema col no_column within)
      ∙ ap (option_map (λ s. column_index s icolumn.ty icells)) is

  of_column : AreOfColumn (length imask) ibins
  unfolding column_at
  of_column = record {
    keys = keys_by spec imask inumbers;
    column = cells imask inumbers;
    kept = kept_of spec.binning _ (column_indexed schema part col spec valid is).0.0;
    long = length-cells imask inumbers one_each;
    are = refl;
  }

  is_index : IsIndex (length imask) spec iedges ibitmaps
  unfolding column_at
  is_index =
      let can = column_indexed schema part col spec valid is in
      of_column_index (length imask) ibins of_column spec iedges ibitmaps can.0 (omega (arith, ilong, valid.few)) can.1 refl refl

  fit_ends : AllByRecursion EdgeFits iedges
  fit_ends =
      let many : length icells ≡ length part.records = length-map part.records _ in
      edges_fit icolumn.ty (keys_by spec imask inumbers) imask inumbers
      (stored_fit icolumn.ty icells (omega (arith, many, valid.few))
      (cells_fit part.records schema col icolumn valid.fit (slice_get-get_or schema col no_column within)))

  pub index_opens : index_in (length part.records) (file_at files (index_name dir part.number icolumn.name))
      ≡ Ok (Some (record { spec = spec; bins = iedges; places = places_of spec iedges ibitmaps }))
  index_opens =
      ap (index_in (length part.records)) file_is
      ∙ ap (λ (k : ℕ). some_head (head_in k (index_bytes (length imask) spec iedges ibitmaps))) (sym ilong)
      ∙ ap some_head (index_again (length imask) spec iedges ibitmaps is_index (omega (arith, ilong, valid.few)) fit_ends)

  -- an open index of it has its bitmaps
  pub bitmaps_there : (head : IndexHead) → head.name ≡ index_name dir part.number icolumn.name → head.rows ≡ length part.records
      → record { spec = spec; bins = iedges; places = places_of spec iedges ibitmaps } ≡ head_said head → HasBins (Some files) head imask ibins
  bitmaps_there head named rows says =
      let same : head.spec ≡ spec = ap (λ (h : Head). h.spec) (sym says) in
      let apart = bins_are (keys_by spec imask inumbers) imask inumbers one_each in
      written_has files head imask ibins (record {
        apart = apart;
        all = sym (bins_whole (keys_by spec imask inumbers) imask inumbers one_each);
        few = omega (arith, ilong, valid.few);
        rows = rows ∙ sym ilong;
        ends = ap (λ (h : Head). h.bins) (sym says);
        places = ap (λ (h : Head). h.places) (sym says)
            ∙ ap (λ (s : Spec). places_of s iedges (bitmaps_of s.encoding (length imask) (vectors ibins))) (sym same);
        file = ap (file_at files) named ∙ file_is
            ∙ ap (λ (s : Spec). Some (index_bytes (length imask) s iedges (bitmaps_of s.encoding (length imask) (vectors ibins)))) (sym same);
      })

-- ---- all of them

module _ (files : Files) (dir : List ℕ) (schema : List Column) (part : Partition) (col : ℕ) (valid : IsPartition schema part)
    (rests : PartRests files dir schema part) (within : col < length schema) where
  abbrev place : Placed
  place = placed_at dir (part_data schema part) col

  abbrev its : PartColumn
  its = column_at schema part col

  index_by : (o : Option Spec) → get part.specs col ≡ o
      → index_in (length part.records) (file_at files (index_file place)) ≡ Ok (head_under o its)
  unfolding column_at bins_in index_places
  index_by None e =
      ap (index_in (length part.records)) (rests.indexes col (get_or schema col no_column) (slice_get-get_or schema col no_column within)
      ∙ ap (λ o. option_map (λ s. column_index s (get_or schema col no_column).ty (column_cells col part.records)) o) e)
  index_by (Some spec) e =
      let ends = ap (λ (o : Option Spec). map edge_of (bins_under o (get_or schema col no_column).ty (column_cells col part.records))) (sym e) in
      index_opens files dir schema part col valid rests within spec e
      ∙ ap (λ (edges : List Edge). Ok (Some (record { spec = spec; bins = edges; places = index_places spec its }))) ends

  bitmaps_by_spec : (o : Option Spec) → get part.specs col ≡ o → (head : IndexHead) → head.name ≡ index_file place → head.rows ≡ length part.records
      → head_under o its ≡ Some (head_said head) → HasBins (Some files) head (present_rows its) (bins_in its)
  unfolding column_at bins_in index_places
  bitmaps_by_spec None e head named rows says = absurd cc
  bitmaps_by_spec (Some spec) e head named rows says =
      let ty = (get_or schema col no_column).ty in
      let own = column_cells col part.records in
      let same : bins_under (get part.specs col) ty own ≡ column_bins spec ty own = ap (λ (o : Option Spec). bins_under o ty own) e in
      let said : record { spec = spec; bins = map edge_of (bins_under (get part.specs col) ty own); places = index_places spec its } ≡ head_said head = cc in
      subst (λ (bins : List Bin). HasBins (Some files) head (map is_present own) bins) (sym same)
      (bitmaps_there files dir schema part col valid rests within spec e head named rows
      (ap (λ (bins : List Bin). record { spec = spec; bins = map edge_of bins; places = index_places spec its }) (sym same) ∙ said))

  pub rests_for_column : HasColumn (Some files) place its
  unfolding column_at bins_in
  rests_for_column =
      let is = is_column schema part col valid in
      let column = get_or schema col no_column in
      let own = column_cells col part.records in
      record {
        m = files;
        told = refl;
        named = refl;
        typed = refl;
        each = length-map part.records _;
        fits = is.fits;
        width = is.width;
        indexed = λ spec e. column_indexed schema part col spec valid e;
        mask = mask_opens files dir schema part col valid rests within;
        numbers = numbers_open files dir schema part col valid rests within;
        words = words_open files dir schema part col valid rests within;
        texts = texts_open files dir schema part col valid rests within;
        index = index_by (get part.specs col) refl;
        bitmaps = λ head of. bitmaps_by_spec (get part.specs col) refl head of.name of.rows of.says;
        codes = λ e. subst (λ (ty : ColType). All (λ bin. (pos 1 ≤ℤ bin.least) × (bin.least ≤ℤ bin.greatest) × (bin.greatest ≤ℤ pos (length (dictionary_of own))))
            (bins_under (get part.specs col) ty own)) (sym e)
            (code_ends (get part.specs col) own (λ spec h. (column_indexed schema part col spec valid h).0)
            (subst (λ (ty : ColType). All (λ cell. CellFits cell ty) own) e
            (cells_fit part.records schema col column valid.fit (slice_get-get_or schema col no_column within))));
      }

-- the files at a place of a part are those of the column there
pub has_column : (files : Option Files) (dir : List ℕ) (meta : PartMeta) (part : Partition) (col : ℕ) → IsPartAt files dir meta part
    → col < length meta.schema → HasColumn files (placed_at dir meta col) (column_at meta.schema part col)
has_column files dir meta part col at within =
    subst (λ (p : PartMeta). HasColumn files (placed_at dir p col) (column_at meta.schema part col)) (sym at.is)
    (by files at.rests)
  where
    by : (o : Option Files) → IsSomeAnd o (λ m. PartRests m dir meta.schema part)
        → HasColumn o (placed_at dir (part_data meta.schema part) col) (column_at meta.schema part col)
    by None h = absurd h
    by (Some m) h = rests_for_column m dir meta.schema part col at.valid h within
