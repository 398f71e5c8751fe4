-- Each read of a check of a condition is of a file of the condition's column.
use Rattle.std.proofs.Common.{◌≡◌, ℕ, Bool, List, Option, subst}
use Rattle.fb_outside.specs.Files.{Files}
use Rattle.fb_outside.specs.Reads.{AddsOnly, Look}
use Rattle.binning.specs.declared.span_lists.Span.{Span}
use Rattle.column_file.specs.declared.column.ColumnRef.{ColumnRef}
use Rattle.text_column.specs.declared.text_ref.TextRef.{TextRef}
use Rattle.where_grammar.specs.declared.clause.Atom.{Atom}
use Rattle.where_plan.specs.declared.plan.PlanAtom.{PlanAtom}
use Rattle.where_plan.specs.declared.plan.PlanAtom.TheVariants as atom
use Rattle.candidates.specs.Numbers.{numbers_look}
use Rattle.candidates.specs.Reads.{IsBlockLook}
use Rattle.candidates.specs.Texts.{texts_look}
use Rattle.part_meta.specs.declared.part.PartMeta.{PartMeta}
use Rattle.two_stage.specs.Kept.{IsKept, IsKeptOf, IsNumbersOf, IsTextsOf}
use Rattle.two_stage.specs.Placed.{IsColumnLook, Placed, placed_of}
use Rattle.two_stage.specs.declared.open_column.OpenColumn.{OpenColumn}
use Rattle.two_stage.specs.declared.open_column.OpenColumn.TheVariants.{Codes, Numbers, Texts}
use Rattle.two_stage.proofs.ColumnLookLemmas.{numbers_looks, texts_looks}

module _ (files : Option Files) (dir : List ℕ) (meta : PartMeta) (condition : PlanAtom) (column : OpenColumn) (candidates : List Bool) (old new : Option (List Look)) where
  abbrev its : Placed
  its = placed_of dir meta condition

  kept_as : (a : PlanAtom) (o : OpenColumn) → condition ≡ a → column ≡ o → IsKept files dir meta condition column → IsKeptOf files its a o
  kept_as a o is same kept = subst (λ y. IsKeptOf files its a y) same (subst (λ x. IsKeptOf files its x column) is kept)

  pub whole_looks : (col : ℕ) (spans : List Span) (opened : ColumnRef) → condition ≡ atom.Whole col spans → column ≡ Numbers opened
      → IsKept files dir meta condition column → AddsOnly (IsBlockLook (numbers_look opened) candidates) old new → AddsOnly (IsColumnLook (placed_of dir meta condition)) old new
  whole_looks col spans opened is same kept h =
      let here : IsNumbersOf files its opened = kept_as (atom.Whole col spans) (Numbers opened) is same kept in
      numbers_looks its opened candidates old new here.name h

  pub codes_looks : (col : ℕ) (atom_ : Atom) (spans : List Span) (opened : ColumnRef) → condition ≡ atom.Word col atom_ → column ≡ Codes opened spans
      → IsKept files dir meta condition column → AddsOnly (IsBlockLook (numbers_look opened) candidates) old new → AddsOnly (IsColumnLook (placed_of dir meta condition)) old new
  codes_looks col atom_ spans opened is same kept h =
      let here : IsNumbersOf files its opened = (kept_as (atom.Word col atom_) (Codes opened spans) is same kept).0 in
      numbers_looks its opened candidates old new here.name h

  pub word_looks : (col : ℕ) (atom_ : Atom) (opened : TextRef) → condition ≡ atom.Word col atom_ → column ≡ Texts opened
      → IsKept files dir meta condition column → AddsOnly (IsBlockLook (texts_look opened) candidates) old new → AddsOnly (IsColumnLook (placed_of dir meta condition)) old new
  word_looks col atom_ opened is same kept h =
      let here : IsTextsOf files its opened = kept_as (atom.Word col atom_) (Texts opened) is same kept in
      texts_looks its opened candidates old new here.name h
