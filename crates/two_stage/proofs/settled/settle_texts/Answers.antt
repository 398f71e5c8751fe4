use Rattle.std.proofs.Common.{ap, ◌∙◌, length}
use Rattle.std.proofs.lemmas.List.{length-map}
use Rattle.std.proofs.lemmas.Result.{err_from_is_err_and}
use Rattle.three_valued.specs.Tables.{undecided}
use Rattle.where_plan.specs.declared.plan.PlanAtom.TheVariants as atom
use Rattle.two_stage.proofs.AnswerLemmas.{texts_rows}
use Rattle.two_stage.proofs.ColumnLookLemmas.{starts_looks}
use Rattle.two_stage.proofs.SettleLemmas.{texts_reads}
use Rattle.two_stage.proofs.settled.settle_texts.Goals as goal

pub returns-in_err-texts-clause-whole : goal.returns-in_err-texts-clause-whole
returns-in_err-texts-clause-whole g c =
    let p = err_from_is_err_and c.from_residual.result c.from_residual.ensures.1 in
    rw (p.1, p.2) (λ column h. c.in_err-texts.ensures.whole column h)

pub returns-in_err-texts-clause-reads : goal.returns-in_err-texts-clause-reads
returns-in_err-texts-clause-reads g c = λ condition column h.
    texts_reads _ c.args.placed.now column h (atom.Word c.args.placed.now.col condition) _ c.requires _ _ c.in_err-texts.ensures.reads

pub returns-in_err-text-clause-reads : goal.returns-in_err-text-clause-reads
returns-in_err-text-clause-reads g c = λ condition column h.
    texts_reads _ c.args.placed.now column h (atom.Word c.args.placed.now.col condition) _ c.requires _ _ c.in_ok-texts.ensures.reads

pub returns-in_err-answers-clause-reads : goal.returns-in_err-answers-clause-reads
returns-in_err-answers-clause-reads g c = λ condition column h.
    texts_reads _ c.args.placed.now column h (atom.Word c.args.placed.now.col condition) _ c.requires _ _ c.in_ok-texts.ensures.reads

pub returns-clause-length : goal.returns-clause-length
returns-clause-length g c =
    ap length c.in_ok-answers.ensures ∙ length-map c.in_ok-text.mask undecided ∙ ap length c.in_ok-text.ensures.mask ∙ c.in_ok-texts.ensures.length

pub returns-clause-answers : goal.returns-clause-answers
returns-clause-answers g c = λ condition column h.
    texts_rows _ c.args.placed.now column c.in_ok-text.mask c.in_ok-answers.answers c.args.placed.now.col condition h c.requires
    (c.in_ok-text.ensures.mask ∙ c.in_ok-texts.ensures.found column h) c.in_ok-answers.ensures

pub returns-clause-reads : goal.returns-clause-reads
returns-clause-reads g c = λ condition column h.
    texts_reads _ c.args.placed.now column h (atom.Word c.args.placed.now.col condition) _ c.requires _ _ c.in_ok-texts.ensures.reads

pub returns-in_err-texts-clause-looks : goal.returns-in_err-texts-clause-looks
returns-in_err-texts-clause-looks g c = starts_looks _ c.args.placed.now _ _ c.in_err-texts.ensures.reads

pub returns-in_err-text-clause-looks : goal.returns-in_err-text-clause-looks
returns-in_err-text-clause-looks g c = starts_looks _ c.args.placed.now _ _ c.in_ok-texts.ensures.reads

pub returns-in_err-answers-clause-looks : goal.returns-in_err-answers-clause-looks
returns-in_err-answers-clause-looks g c = starts_looks _ c.args.placed.now _ _ c.in_ok-texts.ensures.reads

pub returns-clause-looks : goal.returns-clause-looks
returns-clause-looks g c = starts_looks _ c.args.placed.now _ _ c.in_ok-texts.ensures.reads
