-- What the second stage of a condition on a part finds on its candidates, and that its reads are allowed.
use Rattle.std.proofs.Common.{◌≡◌, ℕ, ◌+◌, ◌*◌, ◌≤◌, ◌||◌, Bool, true, false, IsTrue, List, [], length, map, Option, Some, None, IsSome, ℤ, refl, sym, ap, subst, ◌∙◌, arith}
use Rattle.fb_outside.specs.Files.{Files}
use Rattle.fb_outside.specs.Reads.{AddsOnly, Look}
use Rattle.fb_types.specs.Types.{width_of}
use Rattle.binning.specs.Spans.{has}
use Rattle.binning.specs.declared.span_lists.Span.{Span}
use Rattle.column_file.specs.declared.column.ColumnRef.{ColumnRef}
use Rattle.text_column.specs.Texts.{starts_of}
use Rattle.text_column.specs.declared.text_ref.TextRef.{TextRef}
use Rattle.wah_iter.specs.Rows.{rows_of}
use Rattle.wah_logic.specs.Logic.{and, each_place}
use Rattle.where_grammar.specs.declared.clause.Atom.{Atom}
use Rattle.where_plan.specs.Plans.{FitsColumn, place_in}
use Rattle.where_plan.specs.SpansOf.{AreSpansOf, code_meets, code_range}
use Rattle.where_plan.specs.declared.plan.PlanAtom.{PlanAtom}
use Rattle.where_plan.specs.declared.plan.PlanAtom.TheVariants as atom
use Rattle.candidates.specs.Numbers.{HasNumbers, numbers_look}
use Rattle.candidates.specs.Reads.{IsBlockLook}
use Rattle.candidates.specs.Texts.{HasTexts, meets, texts_look}
use Rattle.part_meta.specs.FileNames.{values_name}
use Rattle.part_meta.specs.declared.part.PartMeta.{PartMeta}
use Rattle.stages.specs.Answer.{AreUnknown, is_allowed_on, met_of}
use Rattle.stages.specs.Looks.{AddsLooks}
use Rattle.stages.specs.Meaning.{Meaning}
use Rattle.world.specs.Cells.{dictionary_of, stored_numbers, texts_of}
use Rattle.world.specs.World.{Partition}
use Rattle.part_meaning.specs.Columns.{PartColumn, column_at}
use Rattle.part_meaning.specs.Meaning.{Means, meaning_of}
use Rattle.part_meaning.specs.Parts.{column_for, is_bitmap_in}
use Rattle.two_stage.specs.Placed.{placed_at, placed_of, values_file}
use Rattle.two_stage.proofs.CheckLemmas.{codes_met, exists_met, numbers_met, texts_met}
use Rattle.two_stage.proofs.RowReadLemmas.{adds_allowed, numbers_of_rows, texts_of_rows}

or_second : (a b : Bool) → b ≡ true → (a || b) ≡ true
or_second true b h = refl
or_second false b h = h

pub column_typed : (dir : List ℕ) (meta : PartMeta) (part : Partition) (col : ℕ) → (column_at meta.schema part col).ty ≡ (placed_at dir meta col).column.ty
unfolding column_at
column_typed dir meta part col = refl

column_named : (dir : List ℕ) (meta : PartMeta) (part : Partition) (col : ℕ) → (column_at meta.schema part col).name ≡ (placed_at dir meta col).column.name
unfolding column_at
column_named dir meta part col = refl

module _ (files : Option Files) (dir : List ℕ) (meta : PartMeta) (m : Meaning) (means : Means files dir meta m) where
  -- ---- what is found

  -- candidates are Unknown, and true, in the part as in what it means
  unknown_in : (condition : PlanAtom) (candidates : List Bool) → AreUnknown m condition candidates
      → AreUnknown (meaning_of dir meta.schema means.part) condition candidates
  unknown_in condition candidates unknown = subst (λ (x : Meaning). AreUnknown x condition candidates) means.meant unknown

  met_in : (condition : PlanAtom) (candidates : List Bool)
      → each_place and candidates (met_of (meaning_of dir meta.schema means.part) condition) ≡ each_place and candidates (met_of m condition)
  met_in condition candidates = ap (λ (x : Meaning). each_place and candidates (met_of x condition)) (sym means.meant)

  pub numbers_checked : (col : ℕ) (spans : List Span) (opened : ColumnRef) (candidates found : List Bool)
      → FitsColumn meta.schema (atom.Whole col spans) → AreUnknown m (atom.Whole col spans) candidates
      → IsSome (width_of (placed_at dir meta col).column.ty)
      → HasNumbers files opened (stored_numbers (column_at meta.schema means.part col).ty (column_at meta.schema means.part col).cells)
      → ((numbers : List ℤ) → HasNumbers files opened numbers → found ≡ each_place and candidates (map (has spans) numbers))
      → found ≡ each_place and candidates (met_of m (atom.Whole col spans))
  numbers_checked col spans opened candidates found fits unknown width has_numbers finds =
      let column = column_at meta.schema means.part col in
      finds (stored_numbers column.ty column.cells) has_numbers
      ∙ numbers_met dir meta.schema means.part means.has.valid col spans candidates fits (unknown_in (atom.Whole col spans) candidates unknown)
      (subst (λ ty. IsSome (width_of ty)) (sym (column_typed dir meta means.part col)) width)
      ∙ met_in (atom.Whole col spans) candidates

  pub codes_checked : (col : ℕ) (condition : Atom) (words : List (List ℕ)) (spans : List Span) (opened : ColumnRef) (candidates found : List Bool)
      → FitsColumn meta.schema (atom.Word col condition) → AreUnknown m (atom.Word col condition) candidates
      → IsSome (width_of (placed_at dir meta col).column.ty)
      → words ≡ dictionary_of (column_at meta.schema means.part col).cells
      → AreSpansOf (code_range words) (code_meets condition words) spans
      → HasNumbers files opened (stored_numbers (column_at meta.schema means.part col).ty (column_at meta.schema means.part col).cells)
      → ((numbers : List ℤ) → HasNumbers files opened numbers → found ≡ each_place and candidates (map (has spans) numbers))
      → found ≡ each_place and candidates (met_of m (atom.Word col condition))
  codes_checked col condition words spans opened candidates found fits unknown width are codes has_numbers finds =
      let column = column_at meta.schema means.part col in
      let numbers = subst (λ ws. AreSpansOf (code_range ws) (code_meets condition ws) spans) are codes in
      finds (stored_numbers column.ty column.cells) has_numbers
      ∙ codes_met dir meta.schema means.part means.has.valid col condition spans candidates fits (unknown_in (atom.Word col condition) candidates unknown)
      (subst (λ ty. IsSome (width_of ty)) (sym (column_typed dir meta means.part col)) width) numbers.numbers
      ∙ met_in (atom.Word col condition) candidates

  pub texts_checked : (col : ℕ) (condition : Atom) (opened : TextRef) (candidates found : List Bool)
      → FitsColumn meta.schema (atom.Word col condition) → AreUnknown m (atom.Word col condition) candidates
      → HasTexts files opened (texts_of (column_at meta.schema means.part col).cells)
      → ((texts : List (List ℕ)) → HasTexts files opened texts → found ≡ each_place and candidates (map (meets condition) texts))
      → found ≡ each_place and candidates (met_of m (atom.Word col condition))
  texts_checked col condition opened candidates found fits unknown has_texts finds =
      finds (texts_of (column_at meta.schema means.part col).cells) has_texts
      ∙ texts_met dir meta.schema means.part means.has.valid col condition candidates fits (unknown_in (atom.Word col condition) candidates unknown)
      ∙ met_in (atom.Word col condition) candidates

  pub exists_checked : (col : ℕ) (candidates found : List Bool) → AreUnknown m (atom.Exists col) candidates → length candidates ≡ meta.rows
      → found ≡ candidates → found ≡ each_place and candidates (met_of m (atom.Exists col))
  exists_checked col candidates found unknown long same =
      let rows : meta.rows ≡ length means.part.records = ap (λ (x : PartMeta). x.rows) means.has.is in
      same
      ∙ exists_met dir meta.schema means.part means.has.valid col candidates (unknown_in (atom.Exists col) candidates unknown) (long ∙ rows)
      ∙ met_in (atom.Exists col) candidates

  -- ---- reads

  values_named : (col : ℕ) → values_file (placed_at dir meta col) ≡ values_name dir means.part.number (column_at meta.schema means.part col).name
  values_named col =
      let number : meta.number ≡ means.part.number = ap (λ (x : PartMeta). x.number) means.has.is in
      ap (λ n. values_name dir n (placed_at dir meta col).column.name) number
      ∙ ap (values_name dir means.part.number) (sym (column_named dir meta means.part col))

  -- reads of the values of candidates, in a file that has no bitmap
  reads_in : (condition : PlanAtom) (candidates : List Bool) (old new : Option (List Look)) (P : Look → Type 0) (done : Type 0)
      → ((read : Look) → P read → IsTrue ((meaning_of dir meta.schema means.part).covers condition (rows_of candidates) read))
      → ((read : Look) → P read → is_bitmap_in dir meta.schema means.part read ≡ false)
      → AddsOnly P old new → AddsLooks old new (is_allowed_on m condition (rows_of candidates)) m.is_bitmap [] done
  reads_in condition candidates old new P done covered other reads =
      let part_means = meaning_of dir meta.schema means.part in
      subst (λ (x : Meaning). AddsLooks old new (is_allowed_on x condition (rows_of candidates)) x.is_bitmap [] done) (sym means.meant)
      (adds_allowed old new P (is_allowed_on part_means condition (rows_of candidates)) part_means.is_bitmap done
      (λ read p. or_second (part_means.is_free condition read) (part_means.covers condition (rows_of candidates) read) (covered read p)) other reads)

  pub numbers_reads : (condition : PlanAtom) (opened : ColumnRef) (candidates : List Bool) (old new : Option (List Look)) (done : Type 0)
      → opened.name ≡ values_file (placed_of dir meta condition) → opened.ty ≡ (placed_of dir meta condition).column.ty
      → IsSome (width_of (placed_of dir meta condition).column.ty)
      → ((read : Look) → read.name ≡ values_file (placed_of dir meta condition) → is_bitmap_in dir meta.schema means.part read ≡ false)
      → AddsOnly (IsBlockLook (numbers_look opened) candidates) old new
      → AddsLooks old new (is_allowed_on m condition (rows_of candidates)) m.is_bitmap [] done
  numbers_reads condition opened candidates old new done named typed width other reads =
      let col = place_in condition in
      reads_in condition candidates old new (IsBlockLook (numbers_look opened) candidates) done
      (λ read block.
      numbers_of_rows dir means.part.number (column_for meta.schema means.part condition) opened candidates read (named ∙ values_named col)
      (typed ∙ sym (column_typed dir meta means.part col)) (subst (λ ty. IsSome (width_of ty)) (sym (column_typed dir meta means.part col)) width) block)
      (λ read block. other read (ap (λ (l : Look). l.name) block.is ∙ named))
      reads

  pub texts_reads : (condition : PlanAtom) (opened : TextRef) (candidates : List Bool) (old new : Option (List Look)) (done : Type 0)
      → opened.name ≡ values_file (placed_of dir meta condition)
      → opened.starts.items ≡ starts_of (texts_of (column_for meta.schema means.part condition).cells)
      → width_of (placed_of dir meta condition).column.ty ≡ None
      → ((read : Look) → read.name ≡ values_file (placed_of dir meta condition) → is_bitmap_in dir meta.schema means.part read ≡ false)
      → AddsOnly (IsBlockLook (texts_look opened) candidates) old new
      → AddsLooks old new (is_allowed_on m condition (rows_of candidates)) m.is_bitmap [] done
  texts_reads condition opened candidates old new done named started none other reads =
      let col = place_in condition in
      reads_in condition candidates old new (IsBlockLook (texts_look opened) candidates) done
      (λ read block.
      texts_of_rows dir means.part.number (column_for meta.schema means.part condition) opened candidates read (named ∙ values_named col) started
      (ap width_of (column_typed dir meta means.part col) ∙ none) block)
      (λ read block. other read (ap (λ (l : Look). l.name) block.is ∙ named))
      reads
