-- What opening the files of a column gives, where they are those of its cells.
use Rattle.std.proofs.Common.{◌≡◌, ◌⊎◌, inl, inr, ℕ, Bool, List, Option, Some, None, Result, Ok, Err, IfSome, IsSome, MatchOption, refl, sym, ap, subst, ◌∙◌}
use Rattle.answers.specs.Answers.{Answers}
use Rattle.fb_outside.specs.Files.{Files, file_at}
use Rattle.fb_types.specs.declared.types.ColType.TheVariants.{Category, Text}
use Rattle.fb_types.specs.Types.{width_of}
use Rattle.column_file.specs.Opening.{column_in, mask_in, told_by_files}
use Rattle.column_file.specs.Values.{width_in}
use Rattle.column_file.specs.declared.fault.ColFault.{ColFault}
use Rattle.column_file.specs.declared.fault.ColFault.TheVariants as column
use Rattle.index_file.specs.Opening.{Head, IsAnswer, index_in}
use Rattle.index_file.specs.declared.fault.IndexFault.{IndexFault}
use Rattle.index_file.specs.declared.fault.IndexFault.TheVariants as index
use Rattle.index_file.specs.declared.head.IndexHead.{IndexHead}
use Rattle.index_spec.specs.declared.spec.Spec.{Spec}
use Rattle.text_column.specs.OpenedDictionary.{told_by_file}
use Rattle.text_column.specs.OpenedDictionary.{dictionary_of as words_in}
use Rattle.text_column.specs.OpenedTexts.{text_in}
use Rattle.text_column.specs.OpenedTexts.{told_by_files as told_of_texts}
use Rattle.text_column.specs.declared.fault.DicFault.{DicFault}
use Rattle.text_column.specs.declared.fault.DicFault.TheVariants as words
use Rattle.text_column.specs.declared.fault.TextFault.{TextFault}
use Rattle.text_column.specs.declared.fault.TextFault.TheVariants as text
use Rattle.world.specs.Cells.{dictionary_of}
use Rattle.part_meaning.specs.Columns.{PartColumn, present_rows}
use Rattle.two_stage.specs.ColumnFiles.{HasColumn, IsHeadOf, head_under}
use Rattle.two_stage.specs.Faults.{IsOutside, column_fault, index_fault, texts_fault, words_fault}
use Rattle.two_stage.specs.Opened.{head_said}
use Rattle.two_stage.specs.Placed.{Placed, index_file, mask_file, starts_file, values_file, words_file}

-- ---- a fault that the files don't tell

column_outside : {T : Type 0} (col : ℕ) (why : ColFault) (given : Result T ColFault) (value : T) → given ≡ Ok value → Answers told_by_files (let r : Result T ColFault = Err why in r) given
    → IsOutside (column_fault col why)
column_outside col column.Missing given value e h = absurd cc
column_outside col (column.WrongLength want have) given value e h = absurd cc
column_outside col column.MaskMissing given value e h = absurd cc
column_outside col (column.Mask fault) given value e h = absurd cc
column_outside col column.MaskTrailing given value e h = absurd cc
column_outside col (column.MaskLength want have) given value e h = absurd cc
column_outside col column.Store given value e h = inl tt
column_outside col column.OutOfMemory given value e h = inr tt

index_outside : {T : Type 0} (col : ℕ) (why : IndexFault) (given : Result T IndexFault) (value : T) → given ≡ Ok value → IsAnswer (let r : Result T IndexFault = Err why in r) given
    → IsOutside (index_fault col why)
index_outside col index.Short given value e h = absurd cc
index_outside col index.Magic given value e h = absurd cc
index_outside col (index.Version version) given value e h = absurd cc
index_outside col (index.Rows want have) given value e h = absurd cc
index_outside col index.Spec given value e h = absurd cc
index_outside col (index.Order k) given value e h = absurd cc
index_outside col (index.Count want have) given value e h = absurd cc
index_outside col (index.Offsets k) given value e h = absurd cc
index_outside col (index.Bitmap k fault) given value e h = absurd cc
index_outside col (index.BitmapTrailing k) given value e h = absurd cc
index_outside col (index.BitmapLength k) given value e h = absurd cc
index_outside col index.Store given value e h = inl tt
index_outside col index.OutOfMemory given value e h = inr tt

words_outside : {T : Type 0} (col : ℕ) (why : DicFault) (given : Result T DicFault) (value : T) → given ≡ Ok value → Answers told_by_file (let r : Result T DicFault = Err why in r) given
    → IsOutside (words_fault col why)
words_outside col words.Short given value e h = absurd cc
words_outside col words.TooMany given value e h = absurd cc
words_outside col (words.Empty code) given value e h = absurd cc
words_outside col (words.Repeated code) given value e h = absurd cc
words_outside col words.Trailing given value e h = absurd cc
words_outside col words.Missing given value e h = absurd cc
words_outside col words.Store given value e h = inl tt
words_outside col words.OutOfMemory given value e h = inr tt

texts_outside : {T : Type 0} (col : ℕ) (why : TextFault) (given : Result T TextFault) (value : T) → given ≡ Ok value → Answers told_of_texts (let r : Result T TextFault = Err why in r) given
    → IsOutside (texts_fault col why)
texts_outside col text.Missing given value e h = absurd cc
texts_outside col text.StartsMissing given value e h = absurd cc
texts_outside col (text.StartsLength want have) given value e h = absurd cc
texts_outside col (text.NotRising place) given value e h = absurd cc
texts_outside col (text.LastStart want have) given value e h = absurd cc
texts_outside col text.ShortRead given value e h = absurd cc
texts_outside col (text.Mask fault) given value e h = absurd cc
texts_outside col text.Store given value e h = inl tt
texts_outside col text.OutOfMemory given value e h = inr tt

same_value : {T E : Type 0} (given : Result T E) (a b : T) → given ≡ Ok a → given ≡ Ok b → a ≡ b
same_value given a b e f = cc

-- ---- the files of a column

pub told_is : (P : Files → Type 0) (files : Option Files) (m : Files) → files ≡ Some m → IfSome files P → P m
told_is P files m e h = subst (λ (o : Option Files). IfSome o P) e h

module _ (files : Option Files) (p : Placed) (column : PartColumn) (has : HasColumn files p column) where
  pub mask_is : (name : List ℕ) (bits : List Bool) → name ≡ mask_file p
      → IfSome files (λ m. mask_in p.rows (file_at m name) ≡ Ok bits) → bits ≡ present_rows column
  mask_is name bits e h =
      let there = told_is (λ m. mask_in p.rows (file_at m name) ≡ Ok bits) files has.m has.told h in
      same_value _ bits (present_rows column) (ap (λ n. mask_in p.rows (file_at has.m n)) (sym e) ∙ there) has.mask

  pub mask_whole : (name : List ℕ) (why : ColFault) → name ≡ mask_file p
      → IfSome files (λ m. Answers told_by_files (let r : Result (List Bool) ColFault = Err why in r) (mask_in p.rows (file_at m name))) → IsOutside (column_fault p.col why)
  mask_whole name why e h =
      column_outside p.col why (mask_in p.rows (file_at has.m name)) (present_rows column) (ap (λ n. mask_in p.rows (file_at has.m n)) e ∙ has.mask)
      (told_is (λ m. Answers told_by_files (let r : Result (List Bool) ColFault = Err why in r) (mask_in p.rows (file_at m name))) files has.m has.told h)

  pub numbers_is : (name mask : List ℕ) (bits : List Bool) → IsSome (width_of p.column.ty) → name ≡ values_file p → mask ≡ mask_file p
      → IfSome files (λ m. column_in (width_in p.column.ty) p.rows (file_at m name) (file_at m mask) ≡ Ok bits) → bits ≡ present_rows column
  numbers_is name mask bits width e f h =
      let there = told_is (λ m. column_in (width_in p.column.ty) p.rows (file_at m name) (file_at m mask) ≡ Ok bits) files has.m has.told h in
      same_value _ bits (present_rows column)
      (ap (λ n. column_in (width_in p.column.ty) p.rows (file_at has.m n) (file_at has.m (mask_file p))) (sym e)
      ∙ ap (λ n. column_in (width_in p.column.ty) p.rows (file_at has.m name) (file_at has.m n)) (sym f) ∙ there) (has.numbers width)

  pub numbers_whole : (name mask : List ℕ) (why : ColFault) → IsSome (width_of p.column.ty) → name ≡ values_file p → mask ≡ mask_file p
      → IfSome files (λ m. Answers told_by_files (let r : Result (List Bool) ColFault = Err why in r) (column_in (width_in p.column.ty) p.rows (file_at m name) (file_at m mask)))
      → IsOutside (column_fault p.col why)
  numbers_whole name mask why width e f h =
      column_outside p.col why (column_in (width_in p.column.ty) p.rows (file_at has.m name) (file_at has.m mask)) (present_rows column)
      (ap (λ n. column_in (width_in p.column.ty) p.rows (file_at has.m n) (file_at has.m mask)) e
      ∙ ap (λ n. column_in (width_in p.column.ty) p.rows (file_at has.m (values_file p)) (file_at has.m n)) f ∙ has.numbers width)
      (told_is (λ m. Answers told_by_files (let r : Result (List Bool) ColFault = Err why in r) (column_in (width_in p.column.ty) p.rows (file_at m name) (file_at m mask))) files has.m has.told h)

  pub words_is : (name : List ℕ) (list : List (List ℕ)) → p.column.ty ≡ Category → name ≡ words_file p
      → IfSome files (λ m. words_in (file_at m name) ≡ Ok list) → list ≡ dictionary_of column.cells
  words_is name list ty e h =
      let there = told_is (λ m. words_in (file_at m name) ≡ Ok list) files has.m has.told h in
      same_value _ list (dictionary_of column.cells) (ap (λ n. words_in (file_at has.m n)) (sym e) ∙ there) (has.words ty)

  pub words_whole : (name : List ℕ) (why : DicFault) → p.column.ty ≡ Category → name ≡ words_file p
      → IfSome files (λ m. Answers told_by_file (let r : Result (List (List ℕ)) DicFault = Err why in r) (words_in (file_at m name))) → IsOutside (words_fault p.col why)
  words_whole name why ty e h =
      words_outside p.col why (words_in (file_at has.m name)) (dictionary_of column.cells) (ap (λ n. words_in (file_at has.m n)) e ∙ has.words ty)
      (told_is (λ m. Answers told_by_file (let r : Result (List (List ℕ)) DicFault = Err why in r) (words_in (file_at m name))) files has.m has.told h)

  pub texts_is : (name starts mask : List ℕ) (list : List ℕ) (bits : List Bool) → p.column.ty ≡ Text → name ≡ values_file p → starts ≡ starts_file p → mask ≡ mask_file p
      → IfSome files (λ m. text_in p.rows (file_at m name) (file_at m starts) (file_at m mask) ≡ Ok (list, bits)) → bits ≡ present_rows column
  texts_is name starts mask list bits ty e f g h =
      let there = told_is (λ m. text_in p.rows (file_at m name) (file_at m starts) (file_at m mask) ≡ Ok (list, bits)) files has.m has.told h in
      ap (λ (both : List ℕ × List Bool). both.1) (same_value _ (list, bits) _
      (ap (λ n. text_in p.rows (file_at has.m n) (file_at has.m (starts_file p)) (file_at has.m (mask_file p))) (sym e)
      ∙ ap (λ n. text_in p.rows (file_at has.m name) (file_at has.m n) (file_at has.m (mask_file p))) (sym f)
      ∙ ap (λ n. text_in p.rows (file_at has.m name) (file_at has.m starts) (file_at has.m n)) (sym g) ∙ there) (has.texts ty))

  pub texts_whole : (name starts mask : List ℕ) (why : TextFault) → p.column.ty ≡ Text → name ≡ values_file p → starts ≡ starts_file p → mask ≡ mask_file p
      → IfSome files (λ m. Answers told_of_texts (let r : Result (List ℕ × List Bool) TextFault = Err why in r) (text_in p.rows (file_at m name) (file_at m starts) (file_at m mask)))
      → IsOutside (texts_fault p.col why)
  texts_whole name starts mask why ty e f g h =
      texts_outside p.col why (text_in p.rows (file_at has.m name) (file_at has.m starts) (file_at has.m mask)) _
      (ap (λ n. text_in p.rows (file_at has.m n) (file_at has.m starts) (file_at has.m mask)) e
      ∙ ap (λ n. text_in p.rows (file_at has.m (values_file p)) (file_at has.m n) (file_at has.m mask)) f
      ∙ ap (λ n. text_in p.rows (file_at has.m (values_file p)) (file_at has.m (starts_file p)) (file_at has.m n)) g ∙ has.texts ty)
      (told_is (λ m. Answers told_of_texts (let r : Result (List ℕ × List Bool) TextFault = Err why in r) (text_in p.rows (file_at m name) (file_at m starts) (file_at m mask))) files has.m has.told h)

  pub index_whole : (name : List ℕ) (why : IndexFault) → name ≡ index_file p
      → IfSome files (λ m. IsAnswer (let r : Result (Option Head) IndexFault = Err why in r) (index_in p.rows (file_at m name))) → IsOutside (index_fault p.col why)
  index_whole name why e h =
      index_outside p.col why (index_in p.rows (file_at has.m name)) (head_under column.spec column) (ap (λ n. index_in p.rows (file_at has.m n)) e ∙ has.index)
      (told_is (λ m. IsAnswer (let r : Result (Option Head) IndexFault = Err why in r) (index_in p.rows (file_at m name))) files has.m has.told h)

  none_under : (o : Option Spec) → head_under o column ≡ None → o ≡ None
  none_under None e = refl
  none_under (Some spec) e = absurd cc

  pub index_none : IfSome files (λ m. index_in p.rows (file_at m (index_file p)) ≡ Ok None) → column.spec ≡ None
  index_none h =
      let there = told_is (λ m. index_in p.rows (file_at m (index_file p)) ≡ Ok None) files has.m has.told h in
      none_under column.spec (same_value _ (head_under column.spec column) None has.index there)

  pub index_is : (head : IndexHead) → head.name ≡ index_file p → head.rows ≡ p.rows
      → IfSome files (λ m. index_in p.rows (file_at m (index_file p)) ≡ Ok (Some (head_said head))) → IsHeadOf p column head
  index_is head e f h =
      let there = told_is (λ m. index_in p.rows (file_at m (index_file p)) ≡ Ok (Some (head_said head))) files has.m has.told h in
      record { name = e; rows = f; says = same_value _ (head_under column.spec column) (Some (head_said head)) has.index there }

-- the same of the place as its parts say it
pub at_view : (files : Option Files) (q p : Placed) (column : PartColumn) → q ≡ p → HasColumn files p column → HasColumn files q column
at_view files q p column e h = subst (λ (r : Placed). HasColumn files r column) (sym e) h
