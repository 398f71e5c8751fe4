-- What the first stage keeps of a category: the open column of its codes, and the spans of those whose words meet the condition.
use Rattle.std.proofs.Common.{◌≡◌, ℕ, List, Option, Ok, IsSome, IfSome, refl, sym, subst, ◌∙◌}
use Rattle.fb_outside.specs.Files.{Files, file_at}
use Rattle.fb_types.specs.declared.types.ColType.{ColType}
use Rattle.fb_types.specs.declared.types.ColType.TheVariants.{Category}
use Rattle.fb_types.specs.Types.{width_of}
use Rattle.binning.specs.declared.span_lists.Span.{Span}
use Rattle.column_file.specs.Opening.{column_in}
use Rattle.column_file.specs.Values.{width_in}
use Rattle.column_file.specs.declared.column.ColumnRef.{ColumnRef}
use Rattle.text_column.specs.OpenedDictionary.{dictionary_of}
use Rattle.where_grammar.specs.declared.clause.Atom.{Atom}
use Rattle.where_plan.specs.SpansOf.{AreSpansOf, code_meets, code_range}
use Rattle.two_stage.specs.Kept.{AreCodesIn, IsNumbersOf}
use Rattle.two_stage.specs.Placed.{Placed, mask_file, values_file, words_file}

pub codes_kept : (files mid : Option Files) (p : Placed) (condition : Atom) (opened column : ColumnRef) (words : List (List ℕ)) (spans : List Span) → p.column.ty ≡ Category
    → (opened.name ≡ values_file p) × (opened.ty ≡ p.column.ty) × (opened.rows ≡ p.rows)
    → IfSome files (λ m. column_in (width_in p.column.ty) p.rows (file_at m (values_file p)) (file_at m (mask_file p)) ≡ Ok opened.mask)
    → (column.name ≡ opened.name) × (column.ty ≡ opened.ty) × (column.rows ≡ opened.rows)
    → mid ≡ files → IfSome mid (λ m. dictionary_of (file_at m (words_file p)) ≡ Ok words) → AreSpansOf (code_range words) (code_meets condition words) spans
    → IsNumbersOf files p column × AreCodesIn files p condition spans
codes_kept files mid p condition opened column words spans ty is opens same stayed read are = (
  record {
    width = subst (λ (t : ColType). IsSome (width_of t)) (sym ty) refl;
    name = same.0 ∙ is.0;
    typed = same.1 ∙ is.1;
    rows = same.2 ∙ is.2;
    mask = opened.mask;
    opens = opens;
  },
  record { words = words; read = subst (λ (o : Option Files). IfSome o (λ m. dictionary_of (file_at m (words_file p)) ≡ Ok words)) stayed read; codes = are },
)
