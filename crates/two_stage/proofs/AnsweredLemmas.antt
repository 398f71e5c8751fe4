-- What a check of each kind of condition owes where the files are a part's, from what its column's values say.
use Rattle.std.proofs.Common.{◌≡◌, ℕ, ◌<◌, ◌≤◌, ◌+◌, Bool, true, false, List, [], length, map, Option, Some, None, IsSome, ℤ, Result, Ok, Err, IfOk, refl, sym, ap, subst, ◌∙◌, arith}
use Rattle.std.specs.Prelude.{IfErr, IsOk, is_none, option_map, slice_get}
use Rattle.std.proofs.lemmas.Option.{slice_get_within}
use Rattle.std.proofs.lemmas.Result.{IfOk-weaker}
use Rattle.fb_outside.specs.Files.{Files}
use Rattle.fb_outside.specs.Reads.{AddsOnly, Look}
use Rattle.fb_types.specs.declared.schemas.Column.{Column}
use Rattle.fb_types.specs.declared.types.ColType.{ColType}
use Rattle.fb_types.specs.declared.types.ColType.TheVariants.{Byte, UByte, Short, UShort, Int, UInt, Long, ULong, Category, Text}
use Rattle.fb_types.specs.Types.{ends_of, width_of}
use Rattle.binning.specs.Spans.{has}
use Rattle.binning.specs.declared.span_lists.Span.{Span}
use Rattle.column_file.specs.declared.column.ColumnRef.{ColumnRef}
use Rattle.text_column.specs.declared.text_ref.TextRef.{TextRef}
use Rattle.wah_iter.specs.Rows.{rows_of}
use Rattle.wah_logic.specs.Logic.{and, each_place}
use Rattle.where_grammar.specs.declared.clause.Atom.{Atom}
use Rattle.where_plan.specs.Plans.{FitsColumn, place_in}
use Rattle.where_plan.specs.declared.plan.PlanAtom.{PlanAtom}
use Rattle.where_plan.specs.declared.plan.PlanAtom.TheVariants as atom
use Rattle.candidates.specs.Numbers.{HasNumbers, numbers_look}
use Rattle.candidates.specs.Reads.{IsBlockLook}
use Rattle.candidates.specs.Texts.{HasTexts, meets, texts_look}
use Rattle.part_meta.specs.PartText.{IsPart}
use Rattle.part_meta.specs.declared.names.FileKind.TheVariants.{PartText, Values, Index}
use Rattle.part_meta.specs.declared.part.PartMeta.{PartMeta}
use Rattle.stages.specs.Answer.{AreUnknown, is_allowed_on, met_of}
use Rattle.stages.specs.Looks.{AddsLooks}
use Rattle.stages.specs.Meaning.{Meaning}
use Rattle.part_meaning.specs.Meaning.{Means}
use Rattle.part_meaning.proofs.KnownLemmas.{type_for}
use Rattle.two_stage.specs.Faults.{IsOutside}
use Rattle.two_stage.specs.Kept.{IsKept}
use Rattle.two_stage.specs.Placed.{placed_at}
use Rattle.two_stage.specs.declared.fault.EvalFault.{EvalFault}
use Rattle.two_stage.specs.declared.open_column.OpenColumn.{OpenColumn}
use Rattle.two_stage.specs.declared.open_column.OpenColumn.TheVariants.{Codes, Numbers, Texts}
use Rattle.two_stage.proofs.PartFileLemmas.{has_numbers, has_texts, no_bitmap, words_are}
use Rattle.two_stage.proofs.SecondStageLemmas.{codes_checked, column_typed, exists_checked, numbers_checked, numbers_reads, texts_checked, texts_reads}

-- ---- what is answered

-- by the values of numbers or codes, and by texts
pub record SaysNumbers (files : Option Files) (opened : ColumnRef) (spans : List Span) (candidates : List Bool) (old new : Option (List Look)) (result : Result (List Bool) EvalFault) : Type 0 where
  pub found : IfOk result (λ v. (numbers : List ℤ) → HasNumbers files opened numbers → v ≡ each_place and candidates (map (has spans) numbers))
  pub whole : IfErr result (λ fault. (numbers : List ℤ) → HasNumbers files opened numbers → IsOutside fault)
  pub reads : AddsOnly (IsBlockLook (numbers_look opened) candidates) old new

pub record SaysTexts (files : Option Files) (opened : TextRef) (condition : Atom) (candidates : List Bool) (old new : Option (List Look)) (result : Result (List Bool) EvalFault) : Type 0 where
  pub found : IfOk result (λ v. (texts : List (List ℕ)) → HasTexts files opened texts → v ≡ each_place and candidates (map (meets condition) texts))
  pub whole : IfErr result (λ fault. (texts : List (List ℕ)) → HasTexts files opened texts → IsOutside fault)
  pub reads : AddsOnly (IsBlockLook (texts_look opened) candidates) old new

-- of a part, by what it means
pub record IsAnswered (files : Option Files) (dir : List ℕ) (meta : PartMeta) (condition : PlanAtom) (candidates : List Bool) (old new : Option (List Look)) (result : Result (List Bool) EvalFault) : Type 0 where
  pub found : IfOk result (λ found. (m : Meaning) → Means files dir meta m → found ≡ each_place and candidates (met_of m condition))
  pub whole : IfErr result (λ fault. (m : Meaning) → Means files dir meta m → IsOutside fault)
  pub reads : (m : Meaning) → Means files dir meta m → AddsLooks old new (is_allowed_on m condition (rows_of candidates)) m.is_bitmap [] (IsOk result)

err_weaker : {A E : Type 0} (result : Result A E) (P Q : E → Type 0) → ((e : E) → P e → Q e) → IfErr result P → IfErr result Q
err_weaker (Ok x) P Q f h = tt
err_weaker (Err e) P Q f h = f e h

-- ---- the column of a condition

some_there : (o : Option Column) (ty : ColType) → option_map (λ (column : Column). column.ty) o ≡ Some ty → IsSome o
some_there None ty h = absurd cc
some_there (Some column) ty h = refl

pub within_schema : (schema : List Column) (condition : PlanAtom) → FitsColumn schema condition → place_in condition < length schema
within_schema schema condition fits = by (slice_get schema (place_in condition)) refl (some_there (slice_get schema (place_in condition)) fits.ty fits.there)
  where
    by : (o : Option Column) → slice_get schema (place_in condition) ≡ o → IsSome o → place_in condition < length schema
    by None e h = absurd cc
    by (Some column) e h = slice_get_within schema (place_in condition) column e

category_only : (ty : ColType) → is_none (ends_of ty) ≡ true → IsSome (width_of ty) → ty ≡ Category
category_only Byte h k = absurd cc
category_only UByte h k = absurd cc
category_only Short h k = absurd cc
category_only UShort h k = absurd cc
category_only Int h k = absurd cc
category_only UInt h k = absurd cc
category_only Long h k = absurd cc
category_only ULong h k = absurd cc
category_only Category h k = refl
category_only Text h k = absurd cc

module _ (files : Option Files) (dir : List ℕ) (meta : PartMeta) (valid : IsPart meta) (candidates : List Bool) (old new : Option (List Look)) (result : Result (List Bool) EvalFault) where
  -- what a check of the condition is given, and owes
  Owes : Type 0 → PlanAtom → OpenColumn → Type 0
  Owes said condition column =
      FitsColumn meta.schema condition → IsKept files dir meta condition column
      → ((m : Meaning) → Means files dir meta m → AreUnknown m condition candidates) → said
      → IsAnswered files dir meta condition candidates old new result

  whole_by : (col : ℕ) (spans : List Span) (opened : ColumnRef) → Owes (SaysNumbers files opened spans candidates old new result) (atom.Whole col spans) (Numbers opened)
  unfolding Owes
  whole_by col spans opened fits kept unknown says =
      let within = within_schema meta.schema (atom.Whole col spans) fits in
      record {
        found = IfOk-weaker result _ _
            (λ v finds m means.
            numbers_checked files dir meta m means col spans opened candidates v fits (unknown m means) kept.width
            (has_numbers files dir meta means.part col opened means.has within kept) finds) says.found;
        whole = err_weaker result _ _
            (λ fault outside m means. outside _ (has_numbers files dir meta means.part col opened means.has within kept)) says.whole;
        reads = λ m means.
            numbers_reads files dir meta m means (atom.Whole col spans) opened candidates old new (IsOk result) kept.name kept.typed kept.width
            (λ read named. no_bitmap dir meta means.part valid means.has.is col Values read within (λ (e : Values ≡ PartText). cc) (λ (e : Values ≡ Index). cc) named) says.reads;
      }

  codes_by : (col : ℕ) (condition : Atom) (spans : List Span) (opened : ColumnRef)
      → Owes (SaysNumbers files opened spans candidates old new result) (atom.Word col condition) (Codes opened spans)
  unfolding Owes
  codes_by col condition spans opened fits kept unknown says =
      let within = within_schema meta.schema (atom.Word col condition) fits in
      let numbers = kept.0 in
      let codes = kept.1 in
      record {
        found = IfOk-weaker result _ _
            (λ v finds m means.
            let typed = sym (column_typed dir meta means.part col) ∙ type_for meta.schema means.part (atom.Word col condition) fits in
            let category = category_only (placed_at dir meta col).column.ty (ap (λ ty. is_none (ends_of ty)) typed ∙ fits.suited) numbers.width in
            codes_checked files dir meta m means col condition codes.words spans opened candidates v fits (unknown m means) numbers.width
            (words_are files dir meta means.part col codes.words means.has within category codes.read) codes.codes
            (has_numbers files dir meta means.part col opened means.has within numbers) finds) says.found;
        whole = err_weaker result _ _
            (λ fault outside m means. outside _ (has_numbers files dir meta means.part col opened means.has within numbers)) says.whole;
        reads = λ m means.
            numbers_reads files dir meta m means (atom.Word col condition) opened candidates old new (IsOk result) numbers.name numbers.typed numbers.width
            (λ read named. no_bitmap dir meta means.part valid means.has.is col Values read within (λ (e : Values ≡ PartText). cc) (λ (e : Values ≡ Index). cc) named) says.reads;
      }

  texts_by : (col : ℕ) (condition : Atom) (opened : TextRef)
      → Owes (SaysTexts files opened condition candidates old new result) (atom.Word col condition) (Texts opened)
  unfolding Owes
  texts_by col condition opened fits kept unknown says =
      let within = within_schema meta.schema (atom.Word col condition) fits in
      record {
        found = IfOk-weaker result _ _
            (λ v finds m means.
            texts_checked files dir meta m means col condition opened candidates v fits (unknown m means)
            (has_texts files dir meta means.part col opened means.has within kept) finds) says.found;
        whole = err_weaker result _ _
            (λ fault outside m means. outside _ (has_texts files dir meta means.part col opened means.has within kept)) says.whole;
        reads = λ m means.
            texts_reads files dir meta m means (atom.Word col condition) opened candidates old new (IsOk result) kept.name
            (has_texts files dir meta means.part col opened means.has within kept).starts (ap width_of kept.typed)
            (λ read named. no_bitmap dir meta means.part valid means.has.is col Values read within (λ (e : Values ≡ PartText). cc) (λ (e : Values ≡ Index). cc) named) says.reads;
      }

  -- the same of a condition and a column that are so
  module _ (condition : PlanAtom) (column : OpenColumn) where
    as_is : (said : Type 0) (a : PlanAtom) (o : OpenColumn) → condition ≡ a → column ≡ o → Owes said a o → Owes said condition column
    as_is said a o is same owes = subst (λ x. Owes said x column) (sym is) (subst (λ y. Owes said a y) (sym same) owes)

    pub whole_answered : (col : ℕ) (spans : List Span) (opened : ColumnRef) → condition ≡ atom.Whole col spans → column ≡ Numbers opened
        → FitsColumn meta.schema condition → IsKept files dir meta condition column
        → ((m : Meaning) → Means files dir meta m → AreUnknown m condition candidates)
        → SaysNumbers files opened spans candidates old new result
        → IsAnswered files dir meta condition candidates old new result
    unfolding Owes
    whole_answered col spans opened is same =
        as_is (SaysNumbers files opened spans candidates old new result) (atom.Whole col spans) (Numbers opened) is same (whole_by col spans opened)

    pub codes_answered : (col : ℕ) (atom_ : Atom) (spans : List Span) (opened : ColumnRef) → condition ≡ atom.Word col atom_ → column ≡ Codes opened spans
        → FitsColumn meta.schema condition → IsKept files dir meta condition column
        → ((m : Meaning) → Means files dir meta m → AreUnknown m condition candidates)
        → SaysNumbers files opened spans candidates old new result
        → IsAnswered files dir meta condition candidates old new result
    unfolding Owes
    codes_answered col atom_ spans opened is same =
        as_is (SaysNumbers files opened spans candidates old new result) (atom.Word col atom_) (Codes opened spans) is same (codes_by col atom_ spans opened)

    pub texts_answered : (col : ℕ) (atom_ : Atom) (opened : TextRef) → condition ≡ atom.Word col atom_ → column ≡ Texts opened
        → FitsColumn meta.schema condition → IsKept files dir meta condition column
        → ((m : Meaning) → Means files dir meta m → AreUnknown m condition candidates)
        → SaysTexts files opened atom_ candidates old new result
        → IsAnswered files dir meta condition candidates old new result
    unfolding Owes
    texts_answered col atom_ opened is same =
        as_is (SaysTexts files opened atom_ candidates old new result) (atom.Word col atom_) (Texts opened) is same (texts_by col atom_ opened)

-- `exists` finds its candidates, of which there are none
pub exists_answered : (files : Option Files) (dir : List ℕ) (meta : PartMeta) (condition : PlanAtom) (col : ℕ) (candidates found : List Bool)
    → condition ≡ atom.Exists col → ((m : Meaning) → Means files dir meta m → AreUnknown m condition candidates)
    → length candidates ≡ meta.rows → found ≡ candidates
    → (m : Meaning) → Means files dir meta m → found ≡ each_place and candidates (met_of m condition)
exists_answered files dir meta condition col candidates found is unknown long same m means =
    exists_checked files dir meta m means col candidates found
    (subst (λ a. AreUnknown m a candidates) is (unknown m means)) long same
    ∙ ap (λ a. each_place and candidates (met_of m a)) (sym is)
