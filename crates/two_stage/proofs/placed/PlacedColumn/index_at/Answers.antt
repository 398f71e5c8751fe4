use Rattle.std.proofs.Common.{ap, sym, subst, ◌∙◌, IsSome}
use Rattle.fb_types.specs.Types.{width_of}
use Rattle.two_stage.specs.Placed.{Placed, index_file, mask_file, starts_file, values_file, words_file}
use Rattle.two_stage.specs.Faults.{IsOutside}
use Rattle.two_stage.specs.declared.fault.EvalFault.{EvalFault}
use Rattle.std.specs.Prelude.{ℕ, List}
use Rattle.fb_outside.specs.Reads.{AddsOnly}
use Rattle.index_file.specs.Opening.{IsHeadLook}
use Rattle.two_stage.proofs.OpenLemmas.{at_view, index_whole}
use Rattle.two_stage.proofs.placed.PlacedColumn.index_at.Goals as goal

pub returns-in-Err-clause-whole : goal.returns-in-Err-clause-whole
returns-in-Err-clause-whole g c = λ column h.
    subst (λ (f : EvalFault). IsOutside f) (sym c.of_index.ensures)
    (index_whole _ _ column (at_view _ _ _ column c.self.view_is h) c.args.name.now c.in-Err.fault
    (c.requires ∙ ap index_file (sym c.self.view_is)) c.in-Err.ensures.exact)

pub returns-in-Ok-clause-reads : goal.returns-in-Ok-clause-reads
returns-in-Ok-clause-reads g c =
    subst (λ (n : List ℕ). AddsOnly (IsHeadLook (g.S.Store.files c.args.store.now) n) (g.S.Store.reads c.args.store.now) (g.S.Store.reads c.open_index.new.store)) c.requires
    c.open_index.ensures.reads

pub returns-in-Err-clause-reads : goal.returns-in-Err-clause-reads
returns-in-Err-clause-reads g c =
    subst (λ (n : List ℕ). AddsOnly (IsHeadLook (g.S.Store.files c.args.store.now) n) (g.S.Store.reads c.args.store.now) (g.S.Store.reads c.open_index.new.store)) c.requires
    c.open_index.ensures.reads
