-- What the files of a part say of an open column of it.
use Rattle.std.proofs.Common.{◌≡◌, ℕ, zero, suc, ◌+◌, ◌<◌, ◌≤◌, Bool, true, false, ◌&&◌, ◌||◌, List, [], ◌∷◌, All, length, map, get_or, Option, Some, None, Result, Ok, IsSome, refl, sym, ap, subst, ◌∙◌, arith}
use Rattle.std.specs.Prelude.{IfSome, IsSomeAnd}
use Rattle.std.specs.List.{list_any, range_with_len, slice_get}
use Rattle.std.specs.Str.{bytes_eq}
use Rattle.std.proofs.lemmas.List.{length-map}
use Rattle.std.proofs.lemmas.List.Elements.{All-head}
use Rattle.std.proofs.lemmas.Option.{slice_get-get_or}
use Rattle.std.proofs.lemmas.Slice.Eq.{bytes_eq-Decides}
use Rattle.fb_outside.specs.Files.{Files, file_at, told_at}
use Rattle.fb_outside.specs.Puts.{File, IsThere}
use Rattle.fb_outside.specs.Reads.{Look}
use Rattle.fb_types.specs.Names.{IsColumnName}
use Rattle.fb_types.specs.declared.cells.Cell.{Cell}
use Rattle.fb_types.specs.declared.schemas.Column.{Column}
use Rattle.fb_types.specs.declared.types.ColType.{ColType}
use Rattle.fb_types.specs.declared.types.ColType.TheVariants.{Category, Text}
use Rattle.wah_words.specs.Bytes.{spelling}
use Rattle.column_file.specs.Values.{ValueFits, values_bytes}
use Rattle.column_file.specs.declared.column.ColumnRef.{ColumnRef}
use Rattle.text_column.specs.OpenedDictionary.{dictionary_of as words_in}
use Rattle.text_column.specs.OpenedTexts.{text_in}
use Rattle.text_column.specs.Texts.{starts_bytes, starts_of, text_file}
use Rattle.text_column.specs.declared.text_ref.TextRef.{TextRef}
use Rattle.candidates.specs.Numbers.{HasNumbers}
use Rattle.candidates.specs.Texts.{HasTexts}
use Rattle.part_meta.specs.FileNames.{IsCalled, file_name, index_name, mask_name, values_name}
use Rattle.part_meta.specs.PartText.{IsPart}
use Rattle.part_meta.specs.declared.names.FileKind.{FileKind}
use Rattle.part_meta.specs.declared.names.FileKind.TheVariants.{PartText, Values, Mask, Words, Starts, Index}
use Rattle.part_meta.specs.declared.part.PartMeta.{PartMeta}
use Rattle.part_meta.proofs.FileNameLemmas.{same_file}
use Rattle.world.specs.Cells.{column_cells, dictionary_of, is_present, stored_numbers, texts_of}
use Rattle.world.specs.PartFiles.{column_files, part_data}
use Rattle.world.specs.Stands.{PartRests}
use Rattle.world.specs.World.{Partition}
use Rattle.world.proofs.PlaceLemmas.{All-at}
use Rattle.dataset.proofs.ColumnLemmas.{column_there, has_numbers_by}
use Rattle.part_meaning.specs.Columns.{PartColumn, column_at, no_column}
use Rattle.part_meaning.specs.Files.{is_bitmap_of}
use Rattle.part_meaning.specs.Meaning.{IsPartAt}
use Rattle.part_meaning.specs.Parts.{is_bitmap_in}
use Rattle.two_stage.specs.Kept.{IsNumbersOf, IsTextsOf}
use Rattle.two_stage.specs.Placed.{placed_at, values_file, words_file}
use Rattle.two_stage.proofs.FileLemmas.{texts_open, words_open}

-- ---- only an index has bitmaps

none_in_range : (p : ℕ → Bool) (a n : ℕ) → ((k : ℕ) → k < a + n → p k ≡ false) → list_any p (range_with_len a n) ≡ false
none_in_range p a zero each = refl
none_in_range p a (suc n) each =
    ap (λ b. b || list_any p (range_with_len (a + 1) n)) (each a (omega arith))
    ∙ none_in_range p (a + 1) n (λ k below. each k (omega arith))

pub called : (kind : FileKind) (name : List ℕ) → (kind ≡ PartText → ⊥) → IsColumnName name → IsCalled kind (Some name)
called PartText name column valid = absurd (column refl)
called Values name column valid = valid
called Mask name column valid = valid
called Words name column valid = valid
called Starts name column valid = valid
called Index name column valid = valid

module _ (dir : List ℕ) (meta : PartMeta) (part : Partition) (valid : IsPart meta) (is : meta ≡ part_data meta.schema part) where
  pub column_named : (col : ℕ) → col < length meta.schema → IsColumnName (get_or meta.schema col no_column).name
  column_named col within =
      All-at (λ (column : Column). IsColumnName column.name) meta.schema col (get_or meta.schema col no_column)
      (slice_get-get_or meta.schema col no_column within) valid.schema.named

  no_index : (col other : ℕ) (kind : FileKind) (read : Look) → col < length meta.schema → other < length meta.schema
      → (kind ≡ PartText → ⊥) → (kind ≡ Index → ⊥)
      → read.name ≡ file_name dir meta.number (Some (placed_at dir meta col).column.name) kind
      → is_bitmap_of dir part.number (column_at meta.schema part other) read ≡ false
  unfolding is_bitmap_of column_at
  no_index col other kind read within among column bitmap named =
      let number : meta.number ≡ part.number = ap (λ (p : PartMeta). p.number) is in
      by _ (bytes_eq read.name (index_name dir part.number (get_or meta.schema other no_column).name))
      (λ same.
      let equal = (bytes_eq-Decides read.name (index_name dir part.number (get_or meta.schema other no_column).name)).0 same in
      let both = same_file dir dir meta.number part.number (Some (get_or meta.schema col no_column).name) (Some (get_or meta.schema other no_column).name)
      kind Index valid.number (subst (λ n. n < 4096) number valid.number)
      (called kind (get_or meta.schema col no_column).name column (column_named col within)) (column_named other among) (sym named ∙ equal) in
      bitmap both.3)
    where
      by : (more b : Bool) → (b ≡ true → ⊥) → (b && more) ≡ false
      by more true differs = absurd (differs refl)
      by more false differs = refl

  -- a read of a column's file that is no index
  pub no_bitmap : (col : ℕ) (kind : FileKind) (read : Look) → col < length meta.schema → (kind ≡ PartText → ⊥) → (kind ≡ Index → ⊥)
      → read.name ≡ file_name dir meta.number (Some (placed_at dir meta col).column.name) kind
      → is_bitmap_in dir meta.schema part read ≡ false
  unfolding is_bitmap_in
  no_bitmap col kind read within column bitmap named =
      none_in_range (λ other. is_bitmap_of dir part.number (column_at meta.schema part other) read) 0 (length meta.schema)
      (λ other among. no_index col other kind read within (omega arith) column bitmap named)

-- ---- the values of an open column

record Told (files : Option Files) (P : Files → Type 0) : Type 0 where
  pub m : Files
  pub told : files ≡ Some m
  pub holds : P m

told_files : (files : Option Files) (P : Files → Type 0) → IsSomeAnd files P → Told files P
told_files None P h = absurd h
told_files (Some m) P h = record { m = m; told = refl; holds = h }

pub has_numbers : (files : Option Files) (dir : List ℕ) (meta : PartMeta) (part : Partition) (col : ℕ) (opened : ColumnRef)
    → IsPartAt files dir meta part → col < length meta.schema → IsNumbersOf files (placed_at dir meta col) opened
    → HasNumbers files opened (stored_numbers (column_at meta.schema part col).ty (column_at meta.schema part col).cells)
unfolding column_at
has_numbers files dir meta part col opened has within kept =
    let t = told_files files (λ m. PartRests m dir meta.schema part) has.rests in
    let column = get_or meta.schema col no_column in
    let cells = column_cells col part.records in
    let there = has_numbers_by t.m dir meta.schema part col column has.valid t.holds (slice_get-get_or meta.schema col no_column within) kept.width in
    let number : meta.number ≡ part.number = ap (λ (p : PartMeta). p.number) has.is in
    let rows : meta.rows ≡ length part.records = ap (λ (p : PartMeta). p.rows) has.is in
    let named : opened.name ≡ values_name dir part.number column.name = kept.name ∙ ap (λ n. values_name dir n column.name) number in
    record {
      told =
          ap (λ o. told_at o opened.name) t.told ∙ ap (file_at t.m) named ∙ there.values
          ∙ ap (λ ty. Some (values_bytes ty (stored_numbers column.ty cells))) (sym kept.typed);
      fit = subst (λ ty. All (λ value. ValueFits value ty) (stored_numbers column.ty cells)) (sym kept.typed) there.fit;
      rows = there.each_row ∙ length-map part.records _ ∙ sym rows ∙ sym kept.rows;
    }

text_there : (files : Files) (dir : List ℕ) (number : ℕ) (name : List ℕ) (cells : List Cell) (ty : ColType) → ty ≡ Text
    → All (IsThere files) (column_files dir number (record { name = name; ty = ty }) cells)
    → file_at files (values_name dir number name) ≡ Some (text_file (texts_of cells))
unfolding column_files
text_there files dir number name cells ty is h =
    All-head (IsThere files) (record { name = values_name dir number name; bytes = text_file (texts_of cells) })
    (record { name = mask_name dir number name; bytes = spelling (map is_present cells) }
    ∷ record { name = file_name dir number (Some name) Starts; bytes = starts_bytes (starts_of (texts_of cells)) } ∷ [])
    (subst (λ t. All (IsThere files) (column_files dir number (record { name = name; ty = t }) cells)) is h)

same_starts : {F : Type 0} (opened : Result (List ℕ × List Bool) F) (a b : List ℕ) (v w : List Bool) → opened ≡ Ok (a, v) → opened ≡ Ok (b, w) → a ≡ b
same_starts opened a b v w h k =
    let both : (a, v) ≡ (b, w) = cc in
    ap (λ (pair : List ℕ × List Bool). pair.0) both

pub has_texts : (files : Option Files) (dir : List ℕ) (meta : PartMeta) (part : Partition) (col : ℕ) (opened : TextRef)
    → IsPartAt files dir meta part → col < length meta.schema → IsTextsOf files (placed_at dir meta col) opened
    → HasTexts files opened (texts_of (column_at meta.schema part col).cells)
unfolding column_at
has_texts files dir meta part col opened has within kept =
    let t = told_files files (λ m. PartRests m dir meta.schema part) has.rests in
    let m = t.m in
    let column = get_or meta.schema col no_column in
    let cells = column_cells col part.records in
    let number : meta.number ≡ part.number = ap (λ (p : PartMeta). p.number) has.is in
    let rows : meta.rows ≡ length part.records = ap (λ (p : PartMeta). p.rows) has.is in
    let there = text_there m dir part.number column.name cells column.ty kept.typed
    (column_there m dir meta.schema part col column t.holds (slice_get-get_or meta.schema col no_column within)) in
    let opens : text_in meta.rows (file_at m (values_name dir meta.number column.name)) (file_at m (file_name dir meta.number (Some column.name) Starts))
    (file_at m (mask_name dir meta.number column.name)) ≡ Ok (opened.starts.items, kept.mask)
    = subst (λ o. IfSome o (λ m. text_in meta.rows (file_at m (values_name dir meta.number column.name)) (file_at m (file_name dir meta.number (Some column.name) Starts))
    (file_at m (mask_name dir meta.number column.name)) ≡ Ok (opened.starts.items, kept.mask))) t.told kept.opens in
    let written = texts_open m dir meta.schema part col has.valid t.holds within kept.typed in
    let opens_too = subst (λ k. text_in k (file_at m (values_name dir part.number column.name)) (file_at m (file_name dir part.number (Some column.name) Starts))
    (file_at m (mask_name dir part.number column.name)) ≡ Ok (starts_of (texts_of cells), map is_present cells)) (sym rows) written in
    let opens_here = subst (λ n. text_in meta.rows (file_at m (values_name dir n column.name)) (file_at m (file_name dir n (Some column.name) Starts))
    (file_at m (mask_name dir n column.name)) ≡ Ok (starts_of (texts_of cells), map is_present cells)) (sym number) opens_too in
    record {
      told =
          ap (λ o. told_at o opened.name) t.told
          ∙ ap (file_at m) (kept.name ∙ ap (λ n. values_name dir n column.name) number) ∙ there;
      starts = same_starts (text_in meta.rows (file_at m (values_name dir meta.number column.name)) (file_at m (file_name dir meta.number (Some column.name) Starts))
          (file_at m (mask_name dir meta.number column.name))) opened.starts.items (starts_of (texts_of cells)) kept.mask (map is_present cells) opens opens_here;
    }

same_words : {F : Type 0} (opened : Result (List (List ℕ)) F) (a b : List (List ℕ)) → opened ≡ Ok a → opened ≡ Ok b → a ≡ b
same_words opened a b h k = cc

pub words_are : (files : Option Files) (dir : List ℕ) (meta : PartMeta) (part : Partition) (col : ℕ) (words : List (List ℕ))
    → IsPartAt files dir meta part → col < length meta.schema → (placed_at dir meta col).column.ty ≡ Category
    → IfSome files (λ m. words_in (file_at m (words_file (placed_at dir meta col))) ≡ Ok words)
    → words ≡ dictionary_of (column_at meta.schema part col).cells
unfolding column_at
words_are files dir meta part col words has within typed read =
    let t = told_files files (λ m. PartRests m dir meta.schema part) has.rests in
    let column = get_or meta.schema col no_column in
    let cells = column_cells col part.records in
    let number : meta.number ≡ part.number = ap (λ (p : PartMeta). p.number) has.is in
    let opens : words_in (file_at t.m (file_name dir meta.number (Some column.name) Words)) ≡ Ok words
    = subst (λ o. IfSome o (λ m. words_in (file_at m (file_name dir meta.number (Some column.name) Words)) ≡ Ok words)) t.told read in
    let written = subst (λ n. words_in (file_at t.m (file_name dir n (Some column.name) Words)) ≡ Ok (dictionary_of cells)) (sym number)
    (words_open t.m dir meta.schema part col has.valid t.holds within typed) in
    same_words (words_in (file_at t.m (file_name dir meta.number (Some column.name) Words))) words (dictionary_of cells) opens written
