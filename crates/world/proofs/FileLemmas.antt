-- Which files a part has, and that no two of them have one name.
use Rattle.std.proofs.Common.{◌≡◌, ◌≢◌, ◌+◌, ◌<◌, ℕ, List, [], ◌∷◌, All, map, Option, Some, None, refl, sym, ◌∙◌}
use Rattle.std.specs.List.{AllPairs, flat_map}
use Rattle.std.proofs.lemmas.List.Elements.{All-append, All-cons, All-head, All-map, All-nil, All-tail, All-weaker}
use Rattle.fb_outside.specs.Puts.{File}
use Rattle.fb_outside.proofs.PutLemmas.{AreApart, AreApart-append}
use Rattle.fb_types.specs.declared.cells.Cell.{Cell}
use Rattle.fb_types.specs.declared.schemas.Column.{Column}
use Rattle.fb_types.specs.declared.types.ColType.{ColType}
use Rattle.fb_types.specs.declared.types.ColType.TheVariants.{Byte, UByte, Short, UShort, Int, UInt, Long, ULong, Category, Text}
use Rattle.fb_types.specs.Names.{IsColumnName}
use Rattle.fb_types.specs.Schemas.{IsSchema}
use Rattle.part_meta.specs.declared.names.FileKind.{FileKind}
use Rattle.part_meta.specs.declared.names.FileKind.TheVariants as file
use Rattle.part_meta.specs.FileNames.{IsCalled, file_name, part_name}
use Rattle.part_meta.specs.PartText.{part_text}
use Rattle.part_meta.proofs.FileNameLemmas.{same_file}
use Rattle.world.specs.World.{Partition}
use Rattle.world.specs.PartFiles.{column_files, columns_files, files_by_type, part_data, part_files}
use Rattle.world.specs.Cells.{column_cells}
use Rattle.world.proofs.ContentLemmas.{AllPairs-head, AllPairs-tail}

-- the name of a part's file that is no index
pub record IsWritten (dir : List ℕ) (number : ℕ) (name : List ℕ) : Type 0 where
  pub column : Option (List ℕ)
  pub kind : FileKind
  pub called : IsCalled kind column
  pub plain : kind ≢ file.Index
  pub is : name ≡ file_name dir number column kind

-- the same of a column whose name meets Q
record IsOfColumn (Q : List ℕ → Type 0) (dir : List ℕ) (number : ℕ) (name : List ℕ) : Type 0 where
  column : List ℕ
  holds : Q column
  kind : FileKind
  called : IsCalled kind (Some column)
  plain : kind ≢ file.Index
  is : name ≡ file_name dir number (Some column) kind

-- ---- the files of a column, by its type

abbrev Contents : Type 0
Contents = FileKind × List ℕ

by_type : (P : List Contents → Type 0)
    → ((values mask : List ℕ) → P ((file.Values, values) ∷ (file.Mask, mask) ∷ []))
    → ((values mask words : List ℕ) → P ((file.Values, values) ∷ (file.Mask, mask) ∷ (file.Words, words) ∷ []))
    → ((values mask starts : List ℕ) → P ((file.Values, values) ∷ (file.Mask, mask) ∷ (file.Starts, starts) ∷ []))
    → (ty : ColType) (cells : List Cell) → P (files_by_type ty cells)
by_type P whole category text Byte cells = whole _ _
by_type P whole category text UByte cells = whole _ _
by_type P whole category text Short cells = whole _ _
by_type P whole category text UShort cells = whole _ _
by_type P whole category text Int cells = whole _ _
by_type P whole category text UInt cells = whole _ _
by_type P whole category text Long cells = whole _ _
by_type P whole category text ULong cells = whole _ _
by_type P whole category text Category cells = category _ _ _
by_type P whole category text Text cells = text _ _ _

abbrev IsPlain : List ℕ → Contents → Type 0
IsPlain column f = IsCalled f.0 (Some column) × (f.0 ≢ file.Index)

plain-values : (column bytes : List ℕ) → IsColumnName column → IsPlain column (file.Values, bytes)
plain-values column bytes named = (named, λ e. cc)

plain-mask : (column bytes : List ℕ) → IsColumnName column → IsPlain column (file.Mask, bytes)
plain-mask column bytes named = (named, λ e. cc)

plain-words : (column bytes : List ℕ) → IsColumnName column → IsPlain column (file.Words, bytes)
plain-words column bytes named = (named, λ e. cc)

plain-starts : (column bytes : List ℕ) → IsColumnName column → IsPlain column (file.Starts, bytes)
plain-starts column bytes named = (named, λ e. cc)

plain-by_type : (column : List ℕ) → IsColumnName column → (ty : ColType) (cells : List Cell) → All (IsPlain column) (files_by_type ty cells)
plain-by_type column named ty cells =
    by_type (λ fs. All (IsPlain column) fs)
    (λ values mask.
    All-cons (IsPlain column) (file.Values, values) ((file.Mask, mask) ∷ []) (plain-values column values named)
    (All-cons (IsPlain column) (file.Mask, mask) [] (plain-mask column mask named) (All-nil (IsPlain column))))
    (λ values mask words.
    All-cons (IsPlain column) (file.Values, values) ((file.Mask, mask) ∷ (file.Words, words) ∷ []) (plain-values column values named)
    (All-cons (IsPlain column) (file.Mask, mask) ((file.Words, words) ∷ []) (plain-mask column mask named)
    (All-cons (IsPlain column) (file.Words, words) [] (plain-words column words named) (All-nil (IsPlain column)))))
    (λ values mask starts.
    All-cons (IsPlain column) (file.Values, values) ((file.Mask, mask) ∷ (file.Starts, starts) ∷ []) (plain-values column values named)
    (All-cons (IsPlain column) (file.Mask, mask) ((file.Starts, starts) ∷ []) (plain-mask column mask named)
    (All-cons (IsPlain column) (file.Starts, starts) [] (plain-starts column starts named) (All-nil (IsPlain column)))))
    ty cells

-- no two of one kind
abbrev KindsApart : List Contents → Type 0
KindsApart [] = Unit {0}
KindsApart (f ∷ fs) = All (λ g. g.0 ≢ f.0) fs × KindsApart fs

apart-of_three : (third : FileKind) → third ≢ file.Values → third ≢ file.Mask → (values mask more : List ℕ)
    → KindsApart ((file.Values, values) ∷ (file.Mask, mask) ∷ (third, more) ∷ [])
apart-of_three third no_values no_mask values mask more = (
  All-cons (λ (g : Contents). g.0 ≢ file.Values) (file.Mask, mask) ((third, more) ∷ []) (λ e. cc)
      (All-cons (λ (g : Contents). g.0 ≢ file.Values) (third, more) [] no_values (All-nil (λ (g : Contents). g.0 ≢ file.Values))),
  (
    All-cons (λ (g : Contents). g.0 ≢ file.Mask) (third, more) [] no_mask (All-nil (λ (g : Contents). g.0 ≢ file.Mask)),
    (All-nil (λ (g : Contents). g.0 ≢ third), tt),
  ),
)

apart-by_type : (ty : ColType) (cells : List Cell) → KindsApart (files_by_type ty cells)
apart-by_type ty cells =
    by_type KindsApart
    (λ values mask. (
      All-cons (λ (g : Contents). g.0 ≢ file.Values) (file.Mask, mask) [] (λ e. cc) (All-nil (λ (g : Contents). g.0 ≢ file.Values)),
      (All-nil (λ (g : Contents). g.0 ≢ file.Mask), tt),
    ))
    (apart-of_three file.Words (λ e. cc) (λ e. cc)) (apart-of_three file.Starts (λ e. cc) (λ e. cc)) ty cells

-- ---- under their names

abbrev named_file : List ℕ → ℕ → List ℕ → Contents → File
named_file dir number column f = record { name = file_name dir number (Some column) f.0; bytes = f.1 }

kinds-apart : (dir : List ℕ) (number : ℕ) (column : List ℕ) → number < 4096 → (fs : List Contents) → All (IsPlain column) fs → KindsApart fs
    → AreApart (map (named_file dir number column) fs)
kinds-apart dir number column low [] plain apart = tt
kinds-apart dir number column low (f ∷ fs) plain apart = (
  All-map (λ (y : File). y.name ≢ file_name dir number (Some column) f.0) (named_file dir number column) fs
      (λ k d within e.
      apart.0 k d within
      (same_file dir dir number number (Some column) (Some column) _ f.0 low low (All-tail (IsPlain column) f fs plain k d within).0
      (All-head (IsPlain column) f fs plain).0 e).3),
  kinds-apart dir number column low fs (All-tail (IsPlain column) f fs plain) apart.1,
)

column-apart : (dir : List ℕ) (number : ℕ) (column : Column) (cells : List Cell) → number < 4096 → IsColumnName column.name
    → AreApart (column_files dir number column cells)
unfolding column_files
column-apart dir number column cells low named =
    kinds-apart dir number column.name low (files_by_type column.ty cells) (plain-by_type column.name named column.ty cells)
    (apart-by_type column.ty cells)

column-written : (Q : List ℕ → Type 0) (dir : List ℕ) (number : ℕ) (column : Column) (cells : List Cell) → IsColumnName column.name → Q column.name
    → All (λ f. IsOfColumn Q dir number f.name) (column_files dir number column cells)
unfolding column_files
column-written Q dir number column cells named holds =
    All-map (λ (f : File). IsOfColumn Q dir number f.name) (named_file dir number column.name) (files_by_type column.ty cells)
    (All-weaker (IsPlain column.name) (λ f. IsOfColumn Q dir number (file_name dir number (Some column.name) f.0))
    (λ f plain. record { column = column.name; holds = holds; kind = f.0; called = plain.0; plain = plain.1; is = refl })
    (files_by_type column.ty cells) (plain-by_type column.name named column.ty cells))

columns-written : (Q : List ℕ → Type 0) (dir : List ℕ) (part : Partition) (col : ℕ) (columns : List Column)
    → All (λ column. IsColumnName column.name) columns → All (λ column. Q column.name) columns
    → All (λ f. IsOfColumn Q dir part.number f.name) (columns_files dir part col columns)
columns-written Q dir part col [] named holds = All-nil (λ (f : File). IsOfColumn Q dir part.number f.name)
columns-written Q dir part col (column ∷ columns) named holds =
    All-append (λ (f : File). IsOfColumn Q dir part.number f.name)
    (column_files dir part.number column (column_cells col part.records)) (columns_files dir part (col + 1) columns)
    (column-written Q dir part.number column (column_cells col part.records)
    (All-head (λ (c : Column). IsColumnName c.name) column columns named) (All-head (λ (c : Column). Q c.name) column columns holds))
    (columns-written Q dir part (col + 1) columns
    (All-tail (λ (c : Column). IsColumnName c.name) column columns named) (All-tail (λ (c : Column). Q c.name) column columns holds))

-- files of two columns are apart
other_column : (dir : List ℕ) (number : ℕ) (own x y : List ℕ) → number < 4096
    → IsOfColumn (λ name. name ≡ own) dir number x → IsOfColumn (λ name. own ≢ name) dir number y → y ≢ x
other_column dir number own x y low hx hy e =
    let same = same_file dir dir number number (Some hy.column) (Some hx.column) hy.kind hx.kind low low hy.called hx.called (sym hy.is ∙ e ∙ hx.is) in
    let names : hy.column ≡ hx.column = cc (same.2) in
    hy.holds (sym (names ∙ hx.holds))

columns-apart : (dir : List ℕ) (part : Partition) (col : ℕ) (columns : List Column) → part.number < 4096
    → All (λ column. IsColumnName column.name) columns → AllPairs (λ a b. a.name ≢ b.name) columns → AreApart (columns_files dir part col columns)
columns-apart dir part col [] low named distinct = tt
columns-apart dir part col (column ∷ columns) low named distinct =
    let cells = column_cells col part.records in
    let first : List File = column_files dir part.number column cells in
    let later : List File = columns_files dir part (col + 1) columns in
    let own : IsColumnName column.name = All-head (λ (c : Column). IsColumnName c.name) column columns named in
    let others = All-tail (λ (c : Column). IsColumnName c.name) column columns named in
    let across : All (λ x. All (λ y. y.name ≢ x.name) later) first
    = All-weaker (λ (x : File). IsOfColumn (λ name. name ≡ column.name) dir part.number x.name) (λ x. All (λ y. y.name ≢ x.name) later)
    (λ x hx.
    All-weaker (λ (y : File). IsOfColumn (λ name. column.name ≢ name) dir part.number y.name) (λ y. y.name ≢ x.name)
    (λ y hy. other_column dir part.number column.name x.name y.name low hx hy) later
    (columns-written (λ name. column.name ≢ name) dir part (col + 1) columns others
    (AllPairs-head (λ (a b : Column). a.name ≢ b.name) column columns distinct)))
    first (column-written (λ name. name ≡ column.name) dir part.number column cells own refl) in
    AreApart-append first later (column-apart dir part.number column cells low own)
    (columns-apart dir part (col + 1) columns low others (AllPairs-tail (λ (a b : Column). a.name ≢ b.name) column columns distinct)) across

-- ---- the files of a part

abbrev text_file : List ℕ → List Column → Partition → File
text_file dir schema part = record { name = part_name dir part.number; bytes = part_text (part_data schema part) }

no_text : (dir : List ℕ) (number : ℕ) (Q : List ℕ → Type 0) (x : List ℕ) → number < 4096 → IsOfColumn Q dir number x → part_name dir number ≢ x
no_text dir number Q x low hx e =
    let same = same_file dir dir number number None (Some hx.column) file.PartText hx.kind low low refl hx.called (e ∙ hx.is) in
    let bad : None ≡ Some hx.column = same.2 in
    cc

pub part-apart : (dir : List ℕ) (schema : List Column) (part : Partition) → IsSchema schema → part.number < 4096
    → AreApart (part_files dir schema part)
unfolding part_files
part-apart dir schema part valid low =
    AreApart-append (columns_files dir part 0 schema) (text_file dir schema part ∷ [])
    (columns-apart dir part 0 schema low valid.named valid.distinct)
    (All-nil (λ (f : File). f.name ≢ part_name dir part.number), tt)
    (All-weaker (λ (x : File). IsOfColumn IsColumnName dir part.number x.name) (λ x. All (λ y. y.name ≢ x.name) (text_file dir schema part ∷ []))
    (λ x hx.
    All-cons (λ (y : File). y.name ≢ x.name) (text_file dir schema part) [] (no_text dir part.number IsColumnName x.name low hx)
    (All-nil (λ (y : File). y.name ≢ x.name)))
    (columns_files dir part 0 schema) (columns-written IsColumnName dir part 0 schema valid.named valid.named))

pub part-written : (dir : List ℕ) (schema : List Column) (part : Partition) → IsSchema schema
    → All (λ f. IsWritten dir part.number f.name) (part_files dir schema part)
unfolding part_files
part-written dir schema part valid =
    All-append (λ (f : File). IsWritten dir part.number f.name) (columns_files dir part 0 schema) (text_file dir schema part ∷ [])
    (All-weaker (λ (f : File). IsOfColumn IsColumnName dir part.number f.name) (λ f. IsWritten dir part.number f.name)
    (λ f h. record { column = Some h.column; kind = h.kind; called = h.called; plain = h.plain; is = h.is })
    (columns_files dir part 0 schema) (columns-written IsColumnName dir part 0 schema valid.named valid.named))
    (All-cons (λ (f : File). IsWritten dir part.number f.name) (text_file dir schema part) []
    (record { column = None; kind = file.PartText; called = refl; plain = λ e. cc; is = refl })
    (All-nil (λ (f : File). IsWritten dir part.number f.name)))

-- ---- the files of parts

-- the name of a file, no index, of a part whose number meets P
pub record IsOfPart (P : ℕ → Type 0) (dir : List ℕ) (name : List ℕ) : Type 0 where
  pub number : ℕ
  pub holds : P number
  pub written : IsWritten dir number name

pub parts-written : (P : ℕ → Type 0) (dir : List ℕ) (schema : List Column) (parts : List Partition) → IsSchema schema
    → All (λ part. P part.number) parts → All (λ f. IsOfPart P dir f.name) (flat_map (part_files dir schema) parts)
parts-written P dir schema [] valid holds = All-nil (λ (f : File). IsOfPart P dir f.name)
parts-written P dir schema (part ∷ parts) valid holds =
    All-append (λ (f : File). IsOfPart P dir f.name) (part_files dir schema part) (flat_map (part_files dir schema) parts)
    (All-weaker (λ (f : File). IsWritten dir part.number f.name) (λ f. IsOfPart P dir f.name)
    (λ f h. record { number = part.number; holds = All-head (λ (p : Partition). P p.number) part parts holds; written = h })
    (part_files dir schema part) (part-written dir schema part valid))
    (parts-written P dir schema parts valid (All-tail (λ (p : Partition). P p.number) part parts holds))

other_part : (dir : List ℕ) (own : ℕ) (x y : List ℕ) → own < 4096 → IsWritten dir own x → IsOfPart (λ number. (number < 4096) × (own ≢ number)) dir y → y ≢ x
other_part dir own x y low hx hy e =
    let same = same_file dir dir hy.number own hy.written.column hx.column hy.written.kind hx.kind hy.holds.0 low hy.written.called hx.called
    (sym hy.written.is ∙ e ∙ hx.is) in
    hy.holds.1 (sym same.1)

pub parts-apart : (dir : List ℕ) (schema : List Column) (parts : List Partition) → IsSchema schema → All (λ part. part.number < 4096) parts
    → AllPairs (λ a b. a.number ≢ b.number) parts → AreApart (flat_map (part_files dir schema) parts)
parts-apart dir schema [] valid low distinct = tt
parts-apart dir schema (part ∷ parts) valid low distinct =
    let first : List File = part_files dir schema part in
    let later : List File = flat_map (part_files dir schema) parts in
    let own : part.number < 4096 = All-head (λ (p : Partition). p.number < 4096) part parts low in
    let others = All-tail (λ (p : Partition). p.number < 4096) part parts low in
    let numbers : All (λ p. (p.number < 4096) × (part.number ≢ p.number)) parts
    = λ k d within. (others k d within, AllPairs-head (λ (a b : Partition). a.number ≢ b.number) part parts distinct k d within) in
    AreApart-append first later (part-apart dir schema part valid own)
    (parts-apart dir schema parts valid others (AllPairs-tail (λ (a b : Partition). a.number ≢ b.number) part parts distinct))
    (All-weaker (λ (x : File). IsWritten dir part.number x.name) (λ x. All (λ y. y.name ≢ x.name) later)
    (λ x hx.
    All-weaker (λ (y : File). IsOfPart (λ number. (number < 4096) × (part.number ≢ number)) dir y.name) (λ y. y.name ≢ x.name)
    (λ y hy. other_part dir part.number x.name y.name own hx hy) later
    (parts-written (λ number. (number < 4096) × (part.number ≢ number)) dir schema parts valid numbers))
    first (part-written dir schema part valid))
