use Rattle.std.proofs.Common.{ap, ◌∙◌, length, arith}
use Rattle.std.proofs.lemmas.Int.{ints}
use Rattle.std.proofs.lemmas.Result.{err_from_is_err_and}
use Rattle.where_plan.specs.declared.plan.PlanAtom.TheVariants as atom
use Rattle.two_stage.proofs.ColumnLookLemmas.{both_looks, mask_looks, words_looks}
use Rattle.two_stage.proofs.KeptEndLemmas.{codes_between}
use Rattle.two_stage.proofs.KeptLemmas.{codes_kept}
use Rattle.two_stage.proofs.SettleLemmas.{mask_reads, mask_then, still_column, words_reads, words_then}
use Rattle.two_stage.proofs.WordsKnownLemmas.{words_fetched, words_rows, words_steps}
use Rattle.two_stage.proofs.settled.settle_words.Goals as goal

-- ---- the column of codes doesn't open

pub returns-in_err-numbers-clause-whole : goal.returns-in_err-numbers-clause-whole
returns-in_err-numbers-clause-whole g c =
    let p = err_from_is_err_and c.from_residual.result c.from_residual.ensures.1 in
    rw (p.1, p.2) (λ column h. c.in_err-numbers.ensures.whole column h)

pub returns-in_err-numbers-clause-reads : goal.returns-in_err-numbers-clause-reads
returns-in_err-numbers-clause-reads g c =
    let p = err_from_is_err_and c.from_residual.result c.from_residual.ensures.1 in
    rw p.1 (λ column h. mask_reads _ c.args.placed.now column h (atom.Word c.args.placed.now.col c.args.condition.now) _ _ _ (λ e. absurd cc) c.in_err-numbers.ensures.reads)

pub returns-in_err-numbers-clause-looks : goal.returns-in_err-numbers-clause-looks
returns-in_err-numbers-clause-looks g c = mask_looks _ c.args.placed.now _ _ c.in_err-numbers.ensures.reads

pub returns-in_err-column-clause-reads : goal.returns-in_err-column-clause-reads
returns-in_err-column-clause-reads g c =
    let p = err_from_is_err_and c.from_residual-in_err-column.result c.from_residual-in_err-column.ensures.1 in
    rw p.1 (λ column h. mask_reads _ c.args.placed.now column h (atom.Word c.args.placed.now.col c.args.condition.now) _ _ _ (λ e. absurd cc) c.in_ok-numbers.ensures.reads)

pub returns-in_err-column-clause-looks : goal.returns-in_err-column-clause-looks
returns-in_err-column-clause-looks g c = mask_looks _ c.args.placed.now _ _ c.in_ok-numbers.ensures.reads

-- ---- the dictionary doesn't

pub returns-in_err-words-clause-whole : goal.returns-in_err-words-clause-whole
returns-in_err-words-clause-whole g c =
    let p = err_from_is_err_and c.from_residual-in_err-words.result c.from_residual-in_err-words.ensures.1 in
    rw (p.1, p.2) (λ column h. c.in_err-words.ensures.whole column (still_column _ _ c.args.placed.now column c.in_ok-numbers.ensures.files h))

pub returns-in_err-words-clause-reads : goal.returns-in_err-words-clause-reads
returns-in_err-words-clause-reads g c =
    let p = err_from_is_err_and c.from_residual-in_err-words.result c.from_residual-in_err-words.ensures.1 in
    rw p.1 (λ column h.
    let its = still_column _ _ c.args.placed.now column c.in_ok-numbers.ensures.files h in
    mask_then _ c.args.placed.now column h (atom.Word c.args.placed.now.col c.args.condition.now) _ _ _ _ c.in_ok-numbers.ensures.reads
    (words_reads _ c.args.placed.now column its (atom.Word c.args.placed.now.col c.args.condition.now) _ c.requires.category _ _ (λ e. absurd cc) c.in_err-words.ensures.reads))

pub returns-in_err-words-clause-looks : goal.returns-in_err-words-clause-looks
returns-in_err-words-clause-looks g c =
    both_looks c.args.placed.now _ _ _ (mask_looks _ c.args.placed.now _ _ c.in_ok-numbers.ensures.reads) (words_looks _ c.args.placed.now _ _ c.in_err-words.ensures.reads)

-- ---- no memory for the spans

pub returns-in_err-spans-clause-reads : goal.returns-in_err-spans-clause-reads
returns-in_err-spans-clause-reads g c =
    let p = err_from_is_err_and c.from_residual-in_err-spans.result c.from_residual-in_err-spans.ensures.1 in
    rw p.1 (λ column h.
    let its = still_column _ _ c.args.placed.now column c.in_ok-numbers.ensures.files h in
    mask_then _ c.args.placed.now column h (atom.Word c.args.placed.now.col c.args.condition.now) _ _ _ _ c.in_ok-numbers.ensures.reads
    (words_reads _ c.args.placed.now column its (atom.Word c.args.placed.now.col c.args.condition.now) _ c.requires.category _ _ (λ e. absurd cc) c.in_ok-words.ensures.reads))

pub returns-in_err-spans-clause-looks : goal.returns-in_err-spans-clause-looks
returns-in_err-spans-clause-looks g c =
    both_looks c.args.placed.now _ _ _ (mask_looks _ c.args.placed.now _ _ c.in_ok-numbers.ensures.reads) (words_looks _ c.args.placed.now _ _ c.in_ok-words.ensures.reads)

-- ---- by the spans of the codes

pub settle_spans-requires : goal.settle_spans-requires
settle_spans-requires g c = ap length c.in_ok-column.ensures.mask ∙ c.in_ok-numbers.ensures.length

pub returns-in_err-answers-clause-whole : goal.returns-in_err-answers-clause-whole
returns-in_err-answers-clause-whole g c =
    let p = err_from_is_err_and c.from_residual-in_err-answers.result c.from_residual-in_err-answers.ensures.1 in
    rw (p.1, p.2) (λ column h.
    let its = still_column _ _ c.args.placed.now column c.in_ok-numbers.ensures.files h in
    c.in_err-answers.ensures.whole column (still_column _ _ c.args.placed.now column c.in_ok-words.ensures.files its)
    (c.in_ok-column.ensures.mask ∙ c.in_ok-numbers.ensures.found column h))

pub returns-in_err-answers-clause-reads : goal.returns-in_err-answers-clause-reads
returns-in_err-answers-clause-reads g c =
    let p = err_from_is_err_and c.from_residual-in_err-answers.result c.from_residual-in_err-answers.ensures.1 in
    rw p.1 (λ column h.
    let its = still_column _ _ c.args.placed.now column c.in_ok-numbers.ensures.files h in
    let last = still_column _ _ c.args.placed.now column c.in_ok-words.ensures.files its in
    mask_then _ c.args.placed.now column h (atom.Word c.args.placed.now.col c.args.condition.now) _ _ _ _ c.in_ok-numbers.ensures.reads
    (words_then _ c.args.placed.now column its (atom.Word c.args.placed.now.col c.args.condition.now) _ c.requires.category _ _ _ c.in_ok-words.ensures.reads
    (words_fetched _ c.args.placed.now column h c.requires.category c.args.condition.now c.in_ok-words.words (c.in_ok-words.ensures.found column its)
    c.in_ok-spans.spans c.in_ok-spans.ensures c.args.placed.now.col _ _ _
    (c.in_err-answers.ensures.reads column last (c.in_ok-column.ensures.mask ∙ c.in_ok-numbers.ensures.found column h)))))

pub returns-in_err-answers-clause-looks : goal.returns-in_err-answers-clause-looks
returns-in_err-answers-clause-looks g c =
    both_looks c.args.placed.now _ _ _ (mask_looks _ c.args.placed.now _ _ c.in_ok-numbers.ensures.reads)
    (both_looks c.args.placed.now _ _ _ (words_looks _ c.args.placed.now _ _ c.in_ok-words.ensures.reads) c.in_err-answers.ensures.looks)

pub returns-in_err-answers-clause-steps : goal.returns-in_err-answers-clause-steps
returns-in_err-answers-clause-steps g c = λ column h.
    let its = still_column _ _ c.args.placed.now column c.in_ok-numbers.ensures.files h in
    let last = still_column _ _ c.args.placed.now column c.in_ok-words.ensures.files its in
    words_steps _ c.args.placed.now column h c.requires.category c.args.condition.now c.in_ok-words.words (c.in_ok-words.ensures.found column its)
    c.in_ok-spans.spans c.in_ok-spans.ensures c.args.placed.now.col _ _
    (c.in_err-answers.ensures.steps column last (c.in_ok-column.ensures.mask ∙ c.in_ok-numbers.ensures.found column h))

pub returns-clause-kept : goal.returns-clause-kept
returns-clause-kept g c =
    codes_kept _ _ c.args.placed.now c.args.condition.now c.in_ok-numbers.field-0 c.in_ok-column.column c.in_ok-words.words c.in_ok-spans.spans c.requires.category
    c.in_ok-numbers.ensures.opened c.in_ok-numbers.ensures.exact (c.in_ok-column.ensures.name, c.in_ok-column.ensures.typed, c.in_ok-column.ensures.rows)
    c.in_ok-numbers.ensures.files c.in_ok-words.ensures.exact c.in_ok-spans.ensures

pub returns-clause-answers : goal.returns-clause-answers
returns-clause-answers g c = λ column h.
    let its = still_column _ _ c.args.placed.now column c.in_ok-numbers.ensures.files h in
    let last = still_column _ _ c.args.placed.now column c.in_ok-words.ensures.files its in
    words_rows _ c.args.placed.now column h c.requires.category c.args.condition.now c.in_ok-words.words (c.in_ok-words.ensures.found column its)
    c.in_ok-spans.spans c.in_ok-spans.ensures c.args.placed.now.col _
    (c.in_ok-answers.ensures.answers column last (c.in_ok-column.ensures.mask ∙ c.in_ok-numbers.ensures.found column h)
    (codes_between _ c.args.placed.now column c.in_ok-words.words c.from.result h c.requires.category (c.in_ok-words.ensures.found column its)
    (omega (arith, ints, c.from.ensures, c.len.ensures.len)) (omega (arith, c.len.type_inv, c.len.ensures.len))))

pub returns-clause-reads : goal.returns-clause-reads
returns-clause-reads g c = λ column h.
    let its = still_column _ _ c.args.placed.now column c.in_ok-numbers.ensures.files h in
    let last = still_column _ _ c.args.placed.now column c.in_ok-words.ensures.files its in
    mask_then _ c.args.placed.now column h (atom.Word c.args.placed.now.col c.args.condition.now) _ _ _ _ c.in_ok-numbers.ensures.reads
    (words_then _ c.args.placed.now column its (atom.Word c.args.placed.now.col c.args.condition.now) _ c.requires.category _ _ _ c.in_ok-words.ensures.reads
    (words_fetched _ c.args.placed.now column h c.requires.category c.args.condition.now c.in_ok-words.words (c.in_ok-words.ensures.found column its)
    c.in_ok-spans.spans c.in_ok-spans.ensures c.args.placed.now.col _ _ _
    (c.in_ok-answers.ensures.reads column last (c.in_ok-column.ensures.mask ∙ c.in_ok-numbers.ensures.found column h))))

pub returns-clause-looks : goal.returns-clause-looks
returns-clause-looks g c =
    both_looks c.args.placed.now _ _ _ (mask_looks _ c.args.placed.now _ _ c.in_ok-numbers.ensures.reads)
    (both_looks c.args.placed.now _ _ _ (words_looks _ c.args.placed.now _ _ c.in_ok-words.ensures.reads) c.in_ok-answers.ensures.looks)

pub returns-clause-steps : goal.returns-clause-steps
returns-clause-steps g c = λ column h.
    let its = still_column _ _ c.args.placed.now column c.in_ok-numbers.ensures.files h in
    let last = still_column _ _ c.args.placed.now column c.in_ok-words.ensures.files its in
    words_steps _ c.args.placed.now column h c.requires.category c.args.condition.now c.in_ok-words.words (c.in_ok-words.ensures.found column its)
    c.in_ok-spans.spans c.in_ok-spans.ensures c.args.placed.now.col _ _
    (c.in_ok-answers.ensures.steps column last (c.in_ok-column.ensures.mask ∙ c.in_ok-numbers.ensures.found column h))
