use Rattle.std.proofs.Common.{ap, sym, ◌∙◌, length}
use Rattle.std.proofs.lemmas.Result.{err_from_is_err_and}
use Rattle.fb_types.specs.Types.{ends_of}
use Rattle.where_plan.specs.declared.plan.PlanAtom.TheVariants as atom
use Rattle.two_stage.specs.Placed.{Placed}
use Rattle.two_stage.proofs.ColumnLookLemmas.{both_looks, mask_looks}
use Rattle.two_stage.proofs.KeptEndLemmas.{numbers_between}
use Rattle.two_stage.proofs.SettleLemmas.{mask_reads, mask_then, still_column}
use Rattle.two_stage.proofs.settled.settle_numbers.Goals as goal

pub returns-in_err-numbers-clause-whole : goal.returns-in_err-numbers-clause-whole
returns-in_err-numbers-clause-whole g c =
    let p = err_from_is_err_and c.from_residual.result c.from_residual.ensures.1 in
    rw (p.1, p.2) (λ column h. c.in_err-numbers.ensures.whole column h)

pub returns-in_err-numbers-clause-reads : goal.returns-in_err-numbers-clause-reads
returns-in_err-numbers-clause-reads g c =
    let p = err_from_is_err_and c.from_residual.result c.from_residual.ensures.1 in
    rw p.1 (λ column h. mask_reads _ c.args.placed.now column h (atom.Whole c.args.placed.now.col c.args.spans.now) _ _ _ (λ e. absurd cc) c.in_err-numbers.ensures.reads)

pub returns-in_err-column-clause-reads : goal.returns-in_err-column-clause-reads
returns-in_err-column-clause-reads g c =
    let p = err_from_is_err_and c.from_residual-in_err-column.result c.from_residual-in_err-column.ensures.1 in
    rw p.1 (λ column h. mask_reads _ c.args.placed.now column h (atom.Whole c.args.placed.now.col c.args.spans.now) _ _ _ (λ e. absurd cc) c.in_ok-numbers.ensures.reads)

pub settle_spans-requires : goal.settle_spans-requires
settle_spans-requires g c = ap length c.in_ok-column.ensures.mask ∙ c.in_ok-numbers.ensures.length

pub returns-in_err-answers-clause-whole : goal.returns-in_err-answers-clause-whole
returns-in_err-answers-clause-whole g c =
    let p = err_from_is_err_and c.from_residual-in_err-answers.result c.from_residual-in_err-answers.ensures.1 in
    rw (p.1, p.2) (λ column h. c.in_err-answers.ensures.whole column (still_column _ _ c.args.placed.now column c.in_ok-numbers.ensures.files h) (c.in_ok-column.ensures.mask ∙ c.in_ok-numbers.ensures.found column h))

pub returns-in_err-answers-clause-reads : goal.returns-in_err-answers-clause-reads
returns-in_err-answers-clause-reads g c =
    let p = err_from_is_err_and c.from_residual-in_err-answers.result c.from_residual-in_err-answers.ensures.1 in
    rw p.1 (λ column h. mask_then _ c.args.placed.now column h (atom.Whole c.args.placed.now.col c.args.spans.now) _ _ _ _ c.in_ok-numbers.ensures.reads (c.in_err-answers.ensures.reads column (still_column _ _ c.args.placed.now column c.in_ok-numbers.ensures.files h) (c.in_ok-column.ensures.mask ∙ c.in_ok-numbers.ensures.found column h)))

pub returns-clause-answers : goal.returns-clause-answers
returns-clause-answers g c = λ column h.
    c.in_ok-answers.ensures.answers column (still_column _ _ c.args.placed.now column c.in_ok-numbers.ensures.files h) (c.in_ok-column.ensures.mask ∙ c.in_ok-numbers.ensures.found column h) (numbers_between _ c.args.placed.now column c.in-Some.least c.in-Some.greatest h (ap (λ (p : Placed). ends_of p.column.ty) (sym c.placed.view_is) ∙ sym c.ends.ensures ∙ c.in-Some.is))

pub returns-clause-reads : goal.returns-clause-reads
returns-clause-reads g c = λ column h.
    mask_then _ c.args.placed.now column h (atom.Whole c.args.placed.now.col c.args.spans.now) _ _ _ _ c.in_ok-numbers.ensures.reads (c.in_ok-answers.ensures.reads column (still_column _ _ c.args.placed.now column c.in_ok-numbers.ensures.files h) (c.in_ok-column.ensures.mask ∙ c.in_ok-numbers.ensures.found column h))

pub returns-in_err-numbers-clause-looks : goal.returns-in_err-numbers-clause-looks
returns-in_err-numbers-clause-looks g c = mask_looks _ c.args.placed.now _ _ c.in_err-numbers.ensures.reads

pub returns-in_err-column-clause-looks : goal.returns-in_err-column-clause-looks
returns-in_err-column-clause-looks g c = mask_looks _ c.args.placed.now _ _ c.in_ok-numbers.ensures.reads

pub returns-in_err-answers-clause-looks : goal.returns-in_err-answers-clause-looks
returns-in_err-answers-clause-looks g c =
    both_looks c.args.placed.now _ _ _ (mask_looks _ c.args.placed.now _ _ c.in_ok-numbers.ensures.reads) c.in_err-answers.ensures.looks

pub returns-clause-looks : goal.returns-clause-looks
returns-clause-looks g c =
    both_looks c.args.placed.now _ _ _ (mask_looks _ c.args.placed.now _ _ c.in_ok-numbers.ensures.reads) c.in_ok-answers.ensures.looks
