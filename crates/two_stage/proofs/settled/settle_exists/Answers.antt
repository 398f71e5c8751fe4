use Rattle.std.proofs.lemmas.Result.{err_from_is_err_and}
use Rattle.where_plan.specs.declared.plan.PlanAtom.TheVariants as atom
use Rattle.two_stage.proofs.AnswerLemmas.{exists_rows}
use Rattle.two_stage.proofs.ColumnLookLemmas.{mask_looks}
use Rattle.two_stage.proofs.ExistsLemmas.{exists_looks}
use Rattle.two_stage.proofs.SettleLemmas.{mask_reads}
use Rattle.two_stage.proofs.settled.settle_exists.Goals as goal

pub returns-in_err-mask-clause-whole : goal.returns-in_err-mask-clause-whole
returns-in_err-mask-clause-whole g c =
    let p = err_from_is_err_and c.from_residual.result c.from_residual.ensures.1 in
    rw (p.1, p.2) (λ column h. c.in_err-mask.ensures.whole column h)

pub returns-in_err-mask-clause-reads : goal.returns-in_err-mask-clause-reads
returns-in_err-mask-clause-reads g c =
    let p = err_from_is_err_and c.from_residual.result c.from_residual.ensures.1 in
    rw p.1 (λ column h. mask_reads _ c.args.placed.now column h (atom.Exists c.args.placed.now.col) _ _ _ (λ e. absurd cc) c.in_err-mask.ensures.reads)

pub returns-in_err-mask-clause-looks : goal.returns-in_err-mask-clause-looks
returns-in_err-mask-clause-looks g c = mask_looks _ c.args.placed.now _ _ c.in_err-mask.ensures.reads

pub returns-clause-answers : goal.returns-clause-answers
returns-clause-answers g c = λ column h.
    exists_rows _ c.args.placed.now column c.in_ok-mask.mask c.known.result c.args.placed.now.col h (c.in_ok-mask.ensures.found column h) c.known.ensures

pub returns-clause-reads : goal.returns-clause-reads
returns-clause-reads g c = λ column h.
    mask_reads _ c.args.placed.now column h (atom.Exists c.args.placed.now.col) _ _ _
    (λ d. exists_looks c.args.placed.now.dir c.args.placed.now.number column c.args.placed.now.col) c.in_ok-mask.ensures.reads

pub returns-clause-looks : goal.returns-clause-looks
returns-clause-looks g c = mask_looks _ c.args.placed.now _ _ c.in_ok-mask.ensures.reads
