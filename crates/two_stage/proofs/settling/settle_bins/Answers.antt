use Rattle.std.proofs.Common.{ap, sym, subst, ◌∙◌}
use Rattle.part_meaning.specs.Columns.{bins_in}
use Rattle.two_stage.specs.Faults.{IsOutside, StopsAt, bins_fault}
use Rattle.two_stage.specs.Placed.{Placed}
use Rattle.two_stage.specs.declared.fault.EvalFault.{EvalFault}
use Rattle.two_stage.proofs.ColumnLookLemmas.{index_looks}
use Rattle.two_stage.proofs.IndexedLemmas.{bins_outside, bins_stop, has_bins, index_answers, index_reads, index_steps}
use Rattle.two_stage.proofs.settling.settle_bins.Goals as goal

pub returns-in-Ok-clause-answers : goal.returns-in-Ok-clause-answers
returns-in-Ok-clause-answers g c = λ column h is.
    index_answers _ c.args.placed.now column c.args.index.now.head c.args.spans.now h c.requires.name c.requires.rows c.requires.opened c.args.index.now.mask c.in-Ok.answers
    c.args.index.now.long
    (c.in-Ok.ensures.answers (bins_in column) (has_bins _ c.args.placed.now column c.args.index.now.head c.args.spans.now h c.requires.name c.requires.rows c.requires.opened c.args.index.now.mask is))

pub returns-in-Ok-clause-reads : goal.returns-in-Ok-clause-reads
returns-in-Ok-clause-reads g c = λ column h.
    index_reads _ c.args.placed.now column c.args.index.now.head c.args.spans.now h c.requires.name c.requires.rows c.requires.opened _ _ _ c.in-Ok.ensures.reads

pub returns-in-Ok-clause-steps : goal.returns-in-Ok-clause-steps
returns-in-Ok-clause-steps g c = λ column h.
    index_steps _ c.args.placed.now column c.args.index.now.head c.args.spans.now h c.requires.name c.requires.rows c.requires.opened c.args.index.now.mask _ _
    c.args.index.now.long c.in-Ok.ensures.steps

pub returns-in-Err-clause-stop : goal.returns-in-Err-clause-stop
returns-in-Err-clause-stop g c =
    subst (λ (f : EvalFault). StopsAt (g.S.Store.files c.args.store.now) c.args.placed.now f)
    (ap (λ (p : Placed). bins_fault p.col c.in-Err.fault) (sym c.placed.view_is) ∙ sym c.of_bins.ensures)
    (bins_stop _ c.args.placed.now c.args.index.now.head c.args.spans.now c.in-Err.fault c.requires.name c.requires.rows c.requires.opened c.in-Err.ensures.exact)

pub returns-in-Err-clause-whole : goal.returns-in-Err-clause-whole
returns-in-Err-clause-whole g c = λ column h is.
    subst (λ (f : EvalFault). IsOutside f) (sym c.of_bins.ensures)
    (bins_outside c.placed.inside.col c.in-Err.fault
    (c.in-Err.ensures.whole (bins_in column) (has_bins _ c.args.placed.now column c.args.index.now.head c.args.spans.now h c.requires.name c.requires.rows c.requires.opened c.args.index.now.mask is)))

pub returns-in-Err-clause-reads : goal.returns-in-Err-clause-reads
returns-in-Err-clause-reads g c = λ column h.
    index_reads _ c.args.placed.now column c.args.index.now.head c.args.spans.now h c.requires.name c.requires.rows c.requires.opened _ _ _ c.in-Err.ensures.reads

pub returns-in-Err-clause-steps : goal.returns-in-Err-clause-steps
returns-in-Err-clause-steps g c = λ column h.
    index_steps _ c.args.placed.now column c.args.index.now.head c.args.spans.now h c.requires.name c.requires.rows c.requires.opened c.args.index.now.mask _ _
    c.args.index.now.long c.in-Err.ensures.steps

pub returns-in-Ok-clause-looks : goal.returns-in-Ok-clause-looks
returns-in-Ok-clause-looks g c = index_looks c.args.placed.now c.args.index.now.head.name _ _ c.requires.name c.in-Ok.ensures.looks

pub returns-in-Err-clause-looks : goal.returns-in-Err-clause-looks
returns-in-Err-clause-looks g c = index_looks c.args.placed.now c.args.index.now.head.name _ _ c.requires.name c.in-Err.ensures.looks
