use Rattle.std.proofs.Common.{ap, sym, subst, ◌∙◌}
use Rattle.fb_types.specs.declared.types.ColType.TheVariants.{Text}
use Rattle.two_stage.specs.Placed.{Placed, mask_file, starts_file, values_file}
use Rattle.two_stage.specs.Faults.{IsOutside}
use Rattle.two_stage.specs.declared.fault.EvalFault.{EvalFault}
use Rattle.two_stage.proofs.OpenLemmas.{at_view, texts_is, texts_whole}
use Rattle.std.specs.Prelude.{◌≡◌, ◌⊎◌, ℕ, List, Option}
use Rattle.fb_outside.specs.Files.{Files}
use Rattle.fb_outside.specs.Reads.{AddsOnly, IsWholeLook, Look}
use Rattle.two_stage.proofs.placed.PlacedColumn.texts.Goals as goal

-- the same of the files of these names
named : (files : Option Files) (starts mask p q : List ℕ) (old new : Option (List Look)) → starts ≡ p → mask ≡ q
    → AddsOnly (λ look. IsWholeLook files starts look ⊎ IsWholeLook files mask look) old new
    → AddsOnly (λ look. IsWholeLook files p look ⊎ IsWholeLook files q look) old new
named files starts mask p q old new e f h =
    subst (λ (s : List ℕ). AddsOnly (λ look. IsWholeLook files s look ⊎ IsWholeLook files q look) old new) e
    (subst (λ (s : List ℕ). AddsOnly (λ look. IsWholeLook files starts look ⊎ IsWholeLook files s look) old new) f h)

pub returns-in-Ok-clause-reads : goal.returns-in-Ok-clause-reads
returns-in-Ok-clause-reads g c = named _ _ _ _ _ _ _ c.in_ok-starts_name.ensures c.in_ok-mask_name.ensures c.open_text.ensures.reads

pub returns-clause-reads : goal.returns-clause-reads
returns-clause-reads g c = named _ _ _ _ _ _ _ c.in_ok-starts_name.ensures c.in_ok-mask_name.ensures c.open_text.ensures.reads

pub returns-in-Ok-clause-found : goal.returns-in-Ok-clause-found
returns-in-Ok-clause-found g c = λ column h.
    texts_is _ _ column (at_view _ _ _ column c.self.view_is h) c.in_ok-name.name c.in_ok-starts_name.starts_name c.in_ok-mask_name.mask_name
    c.in-Ok.text.starts.items c.in-Ok.text.mask
    (subst (λ (p : Placed). p.column.ty ≡ Text) (sym c.self.view_is) c.requires)
    (c.in_ok-name.ensures ∙ ap values_file (sym c.self.view_is)) (c.in_ok-starts_name.ensures ∙ ap starts_file (sym c.self.view_is))
    (c.in_ok-mask_name.ensures ∙ ap mask_file (sym c.self.view_is)) c.in-Ok.ensures.exact

pub returns-clause-whole : goal.returns-clause-whole
returns-clause-whole g c = λ column h.
    subst (λ (f : EvalFault). IsOutside f) (sym c.of_texts.ensures)
    (texts_whole _ _ column (at_view _ _ _ column c.self.view_is h) c.in_ok-name.name c.in_ok-starts_name.starts_name c.in_ok-mask_name.mask_name c.in-Err.fault
    (subst (λ (p : Placed). p.column.ty ≡ Text) (sym c.self.view_is) c.requires)
    (c.in_ok-name.ensures ∙ ap values_file (sym c.self.view_is)) (c.in_ok-starts_name.ensures ∙ ap starts_file (sym c.self.view_is))
    (c.in_ok-mask_name.ensures ∙ ap mask_file (sym c.self.view_is)) c.in-Err.ensures.exact)
