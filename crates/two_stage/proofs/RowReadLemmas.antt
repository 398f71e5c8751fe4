-- The bytes of a block of candidates are of these rows, so the reads of candidates are allowed.
use Rattle.std.proofs.Common.{◌≡◌, ℕ, zero, suc, ◌+◌, ◌-◌, ◌*◌, ◌<◌, ◌≤◌, Bool, true, false, IsTrue, ◌&&◌, ◌||◌, cond, nat_le, nat_lt, List, [], ◌∷◌, ◌++◌, get_or, Option, Some, None, IsSome, unwrap_or, refl, sym, ap, subst, ◌∙◌, arith}
use Rattle.std.specs.Prelude.{slice_index}
use Rattle.std.specs.List.{AllByRecursion, filter, list_all, list_any, range_with_len}
use Rattle.std.specs.Str.{bytes_eq}
use Rattle.std.proofs.lemmas.Bool.{le-leb, lt-ltb, ltb-false, ltb-true}
use Rattle.std.proofs.lemmas.Slice.Eq.{bytes_eq-Decides}
use Rattle.fb_outside.specs.Reads.{AddsOnly, Look}
use Rattle.fb_outside.proofs.ReadLemmas.{AddsReads-weaken, all_weaken}
use Rattle.fb_types.specs.Types.{width_of}
use Rattle.column_file.specs.Values.{width_in}
use Rattle.column_file.specs.declared.column.ColumnRef.{ColumnRef}
use Rattle.text_column.specs.Texts.{size_between, starts_of}
use Rattle.text_column.specs.declared.text_ref.TextRef.{TextRef}
use Rattle.wah_iter.specs.Rows.{rows_from, rows_of}
use Rattle.part_meta.specs.FileNames.{values_name}
use Rattle.candidates.specs.Numbers.{numbers_look}
use Rattle.candidates.specs.Reads.{IsBlockLook}
use Rattle.candidates.specs.Texts.{texts_look}
use Rattle.stages.specs.Looks.{AddsLooks, Looks}
use Rattle.part_meaning.specs.Columns.{PartColumn}
use Rattle.part_meaning.specs.Files.{is_between, is_byte_of, is_of_rows, row_bytes}
use Rattle.world.specs.Cells.{texts_of}

-- ---- bytes of rows

-- A row that has a byte, where the bytes of each row end at those of the next.
record HasByte (start : ℕ → ℕ) (first past byte : ℕ) : Type 0 where
  pub row : ℕ
  pub low : first ≤ row
  pub high : row < past
  pub begins : start row ≤ byte
  pub ends : byte < start (row + 1)

row_of_byte : (start : ℕ → ℕ) (byte first n : ℕ) → start first ≤ byte → byte < start (first + n) → HasByte start first (first + n) byte
row_of_byte start byte first zero low high =
    let none : first + 0 ≡ first = omega arith in
    let at : start (first + 0) ≡ start first = ap start none in
    absurd (omega (arith, at))
row_of_byte start byte first (suc n) low high =
    by (nat_lt byte (start (first + n))) refl (λ before. row_of_byte start byte first n low before)
  where
    by : (b : Bool) → nat_lt byte (start (first + n)) ≡ b → (byte < start (first + n) → HasByte start first (first + n) byte)
        → HasByte start first (first + suc n) byte
    by true before one_less =
        let one = one_less (ltb-true byte (start (first + n)) before) in
        record { row = one.row; low = one.low; high = omega (arith, one.high); begins = one.begins; ends = one.ends }
    by false past one_less =
        let next : first + suc n ≡ first + n + 1 = omega arith in
        record {
          row = first + n;
          low = omega arith;
          high = omega arith;
          begins = ltb-false byte (start (first + n)) past;
          ends = subst (λ k. byte < start k) next high;
        }

between_ends : (from to place : ℕ) → from ≤ place → place < to → is_between (from, to) place ≡ true
between_ends from to place low high = ap (λ t. t && nat_lt place to) (le-leb from place low) ∙ lt-ltb place to high

or_true : (a : Bool) {b : Bool} → b ≡ true → (a || b) ≡ true
or_true true h = refl
or_true false h = h

shifted : (place k : ℕ) → place + suc k ≡ place + 1 + k
shifted place k = omega arith

-- a test that is passed at a row of a vector
any_row : (p : ℕ → Bool) (place : ℕ) (rows : List Bool) (k : ℕ) → get_or rows k false ≡ true → p (place + k) ≡ true
    → list_any p (rows_from place rows) ≡ true
unfolding rows_from
any_row p place [] k there passes = absurd cc
any_row p place (true ∷ rows) zero there passes =
    let here : place + 0 ≡ place = omega arith in
    ap (λ b. b || list_any p (rows_from (place + 1) rows)) (sym (ap p here) ∙ passes)
any_row p place (false ∷ rows) zero there passes = absurd cc
any_row p place (true ∷ rows) (suc k) there passes =
    or_true (p place) (any_row p (place + 1) rows k there (sym (ap p (shifted place k)) ∙ passes))
any_row p place (false ∷ rows) (suc k) there passes = any_row p (place + 1) rows k there (sym (ap p (shifted place k)) ∙ passes)

all_in_range : (p : ℕ → Bool) (a n : ℕ) → ((k : ℕ) → a ≤ k → k < a + n → p k ≡ true) → list_all p (range_with_len a n) ≡ true
all_in_range p a zero each = refl
all_in_range p a (suc n) each =
    ap (λ b. b && list_all p (range_with_len (a + 1) n)) (each a (omega arith) (omega arith))
    ∙ all_in_range p (a + 1) n (λ k low high. each k (omega arith) (omega arith))

-- each byte of neighbouring rows of a vector is of one of its rows
bytes_of_rows : (column : PartColumn) (rows : List Bool) (start : ℕ → ℕ) (first past : ℕ) → first < past
    → ((row : ℕ) → first ≤ row → row < past → get_or rows row false ≡ true)
    → ((row byte : ℕ) → start row ≤ byte → byte < start (row + 1) → is_byte_of column byte row ≡ true)
    → list_all (λ byte. list_any (is_byte_of column byte) (rows_of rows)) (range_with_len (start first) (start past - start first)) ≡ true
bytes_of_rows column rows start first past some within bytes =
    all_in_range (λ byte. list_any (is_byte_of column byte) (rows_of rows)) (start first) (start past - start first) one
  where
    one : (byte : ℕ) → start first ≤ byte → byte < start first + (start past - start first)
        → list_any (is_byte_of column byte) (rows_of rows) ≡ true
    one byte low high =
        let all : first + (past - first) ≡ past = omega arith in
        let end : start (first + (past - first)) ≡ start past = ap start all in
        let r = row_of_byte start byte first (past - first) low (omega (arith, end)) in
        let from_top : 0 + r.row ≡ r.row = omega arith in
        any_row (is_byte_of column byte) 0 rows r.row (within r.row r.low (omega (arith, r.high)))
        (ap (is_byte_of column byte) from_top ∙ bytes r.row byte r.begins r.ends)

-- ---- reads of blocks

-- a read of the values file, of bytes of these rows
of_rows : (dir : List ℕ) (number : ℕ) (column : PartColumn) (rows : List ℕ) (read : Look) (name : List ℕ) (offset room : ℕ)
    → read ≡ record { name = name; offset = offset; room = room } → name ≡ values_name dir number column.name
    → list_all (λ byte. list_any (is_byte_of column byte) rows) (range_with_len offset room) ≡ true
    → IsTrue (is_of_rows dir number column rows read)
unfolding is_of_rows
of_rows dir number column rows read name offset room is named bytes =
    let same : read.name ≡ values_name dir number column.name = ap (λ (l : Look). l.name) is ∙ named in
    ap (λ b. b && list_all (λ byte. list_any (is_byte_of column byte) rows) (range_with_len read.offset read.room))
    ((bytes_eq-Decides read.name (values_name dir number column.name)).1 same)
    ∙ ap (λ (l : Look). list_all (λ byte. list_any (is_byte_of column byte) rows) (range_with_len l.offset l.room)) is
    ∙ bytes

-- a block of candidates of a column of numbers or codes
pub numbers_of_rows : (dir : List ℕ) (number : ℕ) (column : PartColumn) (opened : ColumnRef) (rows : List Bool) (read : Look)
    → opened.name ≡ values_name dir number column.name → opened.ty ≡ column.ty → IsSome (width_of column.ty)
    → IsBlockLook (numbers_look opened) rows read → IsTrue (is_of_rows dir number column (rows_of rows) read)
numbers_of_rows dir number column opened rows read named typed some block = by (width_of column.ty) refl some
  where
    by : (o : Option ℕ) → width_of column.ty ≡ o → IsSome o → IsTrue (is_of_rows dir number column (rows_of rows) read)
    by None e none = absurd cc
    by (Some width) e there =
        let first = block.first in
        let past = block.past in
        let start : ℕ → ℕ = λ row. row * width in
        let same : width_in opened.ty ≡ width = ap width_in typed ∙ ap (λ o. unwrap_or o 0) e in
        let room : (past - first) * width ≡ past * width - first * width = room_of first past width block.some in
        of_rows dir number column (rows_of rows) read opened.name (first * width) (past * width - first * width)
        (block.is
        ∙ ap (λ w. record { name = opened.name; offset = first * w; room = (past - first) * w }) same
        ∙ ap (λ r. record { name = opened.name; offset = first * width; room = r }) room)
        named
        (bytes_of_rows column rows (λ row. row * width) first past block.some block.within
        (λ row byte low high.
        ap (λ o. is_between (row_bytes o column.cells row) byte) e
        ∙ between_ends (row * width) (row * width + width) byte low (next_row row byte width high)))
      where
        room_of : (first past width : ℕ) → first < past → (past - first) * width ≡ past * width - first * width
        room_of first past width h =
            let all : first + (past - first) ≡ past = omega arith in
            let split : (first + (past - first)) * width ≡ first * width + (past - first) * width = grind arith in
            let whole : (first + (past - first)) * width ≡ past * width = ap (λ n. n * width) all in
            omega (arith, split, whole)

        next_row : (row byte width : ℕ) → byte < (row + 1) * width → byte < row * width + width
        next_row row byte width h =
            let split : (row + 1) * width ≡ row * width + width = grind arith in
            omega (arith, split)

-- a block of candidates of a column of texts
pub texts_of_rows : (dir : List ℕ) (number : ℕ) (column : PartColumn) (opened : TextRef) (rows : List Bool) (read : Look)
    → opened.name ≡ values_name dir number column.name → opened.starts.items ≡ starts_of (texts_of column.cells) → width_of column.ty ≡ None
    → IsBlockLook (texts_look opened) rows read → IsTrue (is_of_rows dir number column (rows_of rows) read)
texts_of_rows dir number column opened rows read named started none block =
    let starts = starts_of (texts_of column.cells) in
    of_rows dir number column (rows_of rows) read opened.name (slice_index starts block.first) (slice_index starts block.past - slice_index starts block.first)
    (block.is
    ∙ ap (λ s. record { name = opened.name; offset = slice_index s block.first; room = size_between s block.first block.past }) started)
    named
    (bytes_of_rows column rows (slice_index starts) block.first block.past block.some block.within
    (λ row byte low high.
    ap (λ o. is_between (row_bytes o column.cells row) byte) none
    ∙ between_ends (slice_index starts row) (slice_index starts (row + 1)) byte low high))

-- ---- reads that are allowed, and none of a bitmap

none_of : (P : Look → Type 0) (is_bitmap : Look → Bool) (reads : List Look) → ((read : Look) → P read → is_bitmap read ≡ false)
    → AllByRecursion P reads → filter is_bitmap reads ≡ []
none_of P is_bitmap [] other all = refl
none_of P is_bitmap (read ∷ reads) other all =
    ap (λ b. cond b (read ∷ filter is_bitmap reads) (filter is_bitmap reads)) (other read all.0) ∙ none_of P is_bitmap reads other all.1

pub adds_allowed : (old new : Option (List Look)) (P : Look → Type 0) (allowed is_bitmap : Look → Bool) (done : Type 0)
    → ((read : Look) → P read → IsTrue (allowed read)) → ((read : Look) → P read → is_bitmap read ≡ false)
    → AddsOnly P old new → AddsLooks old new allowed is_bitmap [] done
adds_allowed old new P allowed is_bitmap done is other reads =
    AddsReads-weaken {P = AllByRecursion P} {Q = Looks allowed is_bitmap [] done} old new
    (λ added all. record {
      each = all_weaken P (λ read. IsTrue (allowed read)) is added all;
      left = [];
      front = ap (λ l. l ++ []) (none_of P is_bitmap added other all);
      whole = λ is_done. refl;
    }) reads
