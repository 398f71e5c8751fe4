use Rattle.std.proofs.Common.{ap, sym, subst, ◌∙◌, IsSome}
use Rattle.fb_types.specs.Types.{width_of}
use Rattle.two_stage.specs.Placed.{Placed, index_file, mask_file, starts_file, values_file, words_file}
use Rattle.two_stage.specs.Faults.{IsOutside}
use Rattle.two_stage.specs.declared.fault.EvalFault.{EvalFault}
use Rattle.two_stage.proofs.OpenLemmas.{at_view, mask_is, mask_whole}
use Rattle.two_stage.proofs.placed.PlacedColumn.mask.Goals as goal

pub returns-in-Ok-clause-found : goal.returns-in-Ok-clause-found
returns-in-Ok-clause-found g c = λ column h.
    mask_is _ _ column (at_view _ _ _ column c.self.view_is h) c.in_ok-name.name c.in-Ok.mask
    (c.in_ok-name.ensures ∙ ap mask_file (sym c.self.view_is)) c.in-Ok.ensures.exact

pub returns-clause-whole : goal.returns-clause-whole
returns-clause-whole g c = λ column h.
    subst (λ (f : EvalFault). IsOutside f) (sym c.of_column.ensures)
    (mask_whole _ _ column (at_view _ _ _ column c.self.view_is h) c.in_ok-name.name c.in-Err.fault
    (c.in_ok-name.ensures ∙ ap mask_file (sym c.self.view_is)) c.in-Err.ensures.exact)
