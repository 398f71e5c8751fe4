use Rattle.std.proofs.Common.{◌≡◌, Option, None, Some, ap, ◌∙◌}
use Rattle.std.specs.Prelude.{MatchOption}
use Rattle.std.proofs.lemmas.Result.{err_from_is_err_and}
use Rattle.binning.specs.Spans.{int_le}
use Rattle.binning.specs.declared.span_lists.Span.{Span}
use Rattle.where_plan.specs.declared.plan.PlanAtom.TheVariants as atom
use Rattle.index_file.specs.declared.head.IndexHead.{IndexHead}
use Rattle.part_meaning.specs.Columns.{PartColumn}
use Rattle.two_stage.specs.ColumnFiles.{IsHeadOf}
use Rattle.two_stage.specs.Placed.{Placed}
use Rattle.two_stage.proofs.AnswerLemmas.{ends_order, whole_rows}
use Rattle.two_stage.proofs.ColumnLookLemmas.{both_looks, head_looks}
use Rattle.two_stage.proofs.SettleLemmas.{fetched_reads, head_reads, head_then, no_looks, still_column}
use Rattle.two_stage.proofs.settling.settle_spans.Goals as goal

-- a column that opens with no index has none
unindexed : (p : Placed) (column : PartColumn) (o : Option IndexHead) → o ≡ None → MatchOption o (column.spec ≡ None) (IsHeadOf p column) → column.spec ≡ None
unindexed p column None e h = h
unindexed p column (Some head) e h = absurd cc

pub returns-in_err-head-clause-whole : goal.returns-in_err-head-clause-whole
returns-in_err-head-clause-whole g c =
    let p = err_from_is_err_and c.from_residual.result c.from_residual.ensures.1 in
    rw (p.1, p.2) (λ column h is. c.in_err-head.ensures.whole column h)

pub returns-in_err-head-clause-reads : goal.returns-in_err-head-clause-reads
returns-in_err-head-clause-reads g c =
    let p = err_from_is_err_and c.from_residual.result c.from_residual.ensures.1 in
    rw p.1 (λ column h is. head_reads _ c.args.placed.now column h (atom.Whole c.args.placed.now.col c.args.spans.now) _ _ _ c.in_err-head.ensures.none c.in_err-head.ensures.reads (λ e. absurd cc))

pub returns-in_err-answers_of-in-None-clause-reads : goal.returns-in_err-answers_of-in-None-clause-reads
returns-in_err-answers_of-in-None-clause-reads g c =
    let p = err_from_is_err_and c.from_residual-in_err-answers_of-in-None.result c.from_residual-in_err-answers_of-in-None.ensures.1 in
    rw p.1 (λ column h is. head_reads _ c.args.placed.now column h (atom.Whole c.args.placed.now.col c.args.spans.now) _ _ _ c.in_ok-head.ensures.none c.in_ok-head.ensures.reads (λ e. absurd cc))

pub returns-in-Some-clause-reads : goal.returns-in-Some-clause-reads
returns-in-Some-clause-reads g c = λ column h is.
    head_then _ c.args.placed.now column h (atom.Whole c.args.placed.now.col c.args.spans.now) _ _ _ _ c.in_ok-head.ensures.none c.in_ok-head.ensures.reads
    (fetched_reads _ c.args.placed.now column h (atom.Whole c.args.placed.now.col c.args.spans.now) _ _ _ (c.settle_bins.ensures.reads column (still_column _ _ c.args.placed.now column c.in_ok-head.ensures.files h)))

pub returns-in_err-head-clause-looks : goal.returns-in_err-head-clause-looks
returns-in_err-head-clause-looks g c = head_looks _ c.args.placed.now _ _ c.in_err-head.ensures.reads

pub returns-in_err-answers_of-in-None-clause-looks : goal.returns-in_err-answers_of-in-None-clause-looks
returns-in_err-answers_of-in-None-clause-looks g c = head_looks _ c.args.placed.now _ _ c.in_ok-head.ensures.reads

pub returns-in_ok-answers_of-in-None-clause-looks : goal.returns-in_ok-answers_of-in-None-clause-looks
returns-in_ok-answers_of-in-None-clause-looks g c = head_looks _ c.args.placed.now _ _ c.in_ok-head.ensures.reads

pub returns-in-Some-clause-looks : goal.returns-in-Some-clause-looks
returns-in-Some-clause-looks g c =
    both_looks c.args.placed.now _ _ _ (head_looks _ c.args.placed.now _ _ c.in_ok-head.ensures.reads) c.settle_bins.ensures.looks

pub returns-in_ok-answers_of-in-None-clause-answers : goal.returns-in_ok-answers_of-in-None-clause-answers
returns-in_ok-answers_of-in-None-clause-answers g c = λ column h is its.
    let none = unindexed c.args.placed.now column _ c.in-None.is (c.in_ok-head.ensures.said column h) in
    whole_rows _ c.args.placed.now column c.args.mask _ c.whole_answer.result c.args.ends c.args.spans.now c.args.placed.now.col h none is its c.whole_answer.ensures
    (λ row there. ap (λ (s : Span). int_le s.least s.greatest) its ∙ ends_order _ c.args.placed.now column row h none there) c.in_ok-answers_of-in-None.ensures

pub returns-in_ok-answers_of-in-None-clause-reads : goal.returns-in_ok-answers_of-in-None-clause-reads
returns-in_ok-answers_of-in-None-clause-reads g c = λ column h is.
    let none = unindexed c.args.placed.now column _ c.in-None.is (c.in_ok-head.ensures.said column h) in
    head_reads _ c.args.placed.now column h (atom.Whole c.args.placed.now.col c.args.spans.now) _ _ _ c.in_ok-head.ensures.none c.in_ok-head.ensures.reads
    (λ d. no_looks c.args.placed.now column (atom.Whole c.args.placed.now.col c.args.spans.now) none)
