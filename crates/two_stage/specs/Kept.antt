-- What the first stage of a condition keeps of its column for the second.
use Rattle.std.specs.Prelude.{◌≡◌, ⊤, ℕ, Bool, List, Option, Ok, IfSome, IsSome}
use Rattle.fb_outside.specs.Files.{Files, file_at}
use Rattle.fb_types.specs.declared.types.ColType.TheVariants.{Text}
use Rattle.fb_types.specs.Types.{width_of}
use Rattle.binning.specs.declared.span_lists.Span.{Span}
use Rattle.column_file.specs.Opening.{column_in}
use Rattle.column_file.specs.Values.{width_in}
use Rattle.column_file.specs.declared.column.ColumnRef.{ColumnRef}
use Rattle.part_meta.specs.declared.part.PartMeta.{PartMeta}
use Rattle.text_column.specs.OpenedDictionary.{dictionary_of}
use Rattle.text_column.specs.OpenedTexts.{text_in}
use Rattle.text_column.specs.declared.text_ref.TextRef.{TextRef}
use Rattle.where_grammar.specs.declared.clause.Atom.{Atom}
use Rattle.where_plan.specs.SpansOf.{AreSpansOf, code_meets, code_range}
use Rattle.where_plan.specs.declared.plan.PlanAtom.{PlanAtom}
use Rattle.where_plan.specs.declared.plan.PlanAtom.TheVariants as atom
use Rattle.two_stage.specs.Placed.{Placed, mask_file, placed_of, starts_file, values_file, words_file}
use Rattle.two_stage.specs.declared.open_column.OpenColumn.{OpenColumn}
use Rattle.two_stage.specs.declared.open_column.OpenColumn.TheVariants.{Nothing, Numbers, Codes, Texts}

-- the values file of numbers or codes, which opens beside some mask
pub record IsNumbersOf (files : Option Files) (p : Placed) (column : ColumnRef) : Type 0 where
  pub width : IsSome (width_of p.column.ty)
  pub name : column.name ≡ values_file p
  pub typed : column.ty ≡ p.column.ty
  pub rows : column.rows ≡ p.rows
  pub mask : List Bool
  pub opens : IfSome files (λ m. column_in (width_in p.column.ty) p.rows (file_at m (values_file p)) (file_at m (mask_file p)) ≡ Ok mask)

-- the text file, with its starts, which opens beside some mask
pub record IsTextsOf (files : Option Files) (p : Placed) (text : TextRef) : Type 0 where
  pub typed : p.column.ty ≡ Text
  pub name : text.name ≡ values_file p
  pub rows : text.rows ≡ p.rows
  pub mask : List Bool
  pub opens : IfSome files (λ m. text_in p.rows (file_at m (values_file p)) (file_at m (starts_file p)) (file_at m (mask_file p)) ≡ Ok (text.starts.items, mask))

-- the spans of the codes whose words meet the condition, by the words of the category's dictionary
pub record AreCodesIn (files : Option Files) (p : Placed) (condition : Atom) (spans : List Span) : Type 0 where
  pub words : List (List ℕ)
  pub read : IfSome files (λ m. dictionary_of (file_at m (words_file p)) ≡ Ok words)
  pub codes : AreSpansOf (code_range words) (code_meets condition words) spans

abbrev pub IsKeptOf : Option Files → Placed → PlanAtom → OpenColumn → Type 0
IsKeptOf files p (atom.Whole col spans) (Numbers column) = IsNumbersOf files p column
IsKeptOf files p (atom.Word col condition) (Codes column spans) = IsNumbersOf files p column × AreCodesIn files p condition spans
IsKeptOf files p (atom.Word col condition) (Texts text) = IsTextsOf files p text
IsKeptOf files p (atom.Exists col) Nothing = ⊤
IsKeptOf files p condition kept = ⊥

-- of a condition on numbers, words or texts the open column, and of `exists` nothing
abbrev pub IsKept : Option Files → List ℕ → PartMeta → PlanAtom → OpenColumn → Type 0
IsKept files dir meta condition kept = IsKeptOf files (placed_of dir meta condition) condition kept
