use Rattle.std.proofs.Common.{◌≡◌, ◌+◌, ◌-◌, ◌^◌, ◌<◌, ◌++◌, ◌≤◌, [], ◌∷◌, length, take, get_or, sym, ap, subst, ◌∙◌, arith}
use Rattle.std.proofs.lemmas.List.{take_more, take_all}
use Rattle.std.proofs.lemmas.Nat.{pow_below}
use Rattle.wah_iter.proofs.PackLaws.{Packed, packed_none, packed_more, packed_rows, packed_fits, packed_below, reached, reached_more, reached_le, one_shifted}
use Rattle.wah_iter.proofs.packing.word_of_rows.Goals as goal

pub loop-count-init : goal.loop-count-init
loop-count-init c = packed_none c.args.base c.args.width

pub overflow_sub-place : goal.overflow_sub-place
overflow_sub-place c = omega (arith, reached_le c.args.base c.loop-count.count c.args.rows.now c.requires.rising c.requires.from c.loop-count-test.true)

pub returns-then-place-width-clause-rows : goal.returns-then-place-width-clause-rows
returns-then-place-width-clause-rows c =
    packed_rows c.args.base c.args.width (reached c.args.base c.args.rows.now c.loop-count.count) c.loop-count.word (take c.loop-count.count c.args.rows.now) c.loop-count.invariant

pub returns-then-place-width-clause-fits : goal.returns-then-place-width-clause-fits
returns-then-place-width-clause-fits c =
    packed_below c.args.base c.args.width (reached c.args.base c.args.rows.now c.loop-count.count) c.loop-count.word (take c.loop-count.count c.args.rows.now) c.loop-count.invariant

pub returns-then-place-width-clause-past : goal.returns-then-place-width-clause-past
returns-then-place-width-clause-past c = λ h.
    omega (arith, c.if-place-width.true, reached_le c.args.base c.loop-count.count c.args.rows.now c.requires.rising c.requires.from h)

pub overflow_add-word : goal.overflow_add-word
overflow_add-word c =
    let rows = c.args.rows.now in
    let i = c.loop-count.count in
    let base = c.args.base in
    let width = c.args.width in
    let p = get_or rows i 0 - base in
    let from = reached_le base i rows c.requires.rising c.requires.from c.loop-count-test.true in
    let fits = packed_fits base width (reached base rows i) c.loop-count.word p (take i rows) c.loop-count.invariant (omega (arith, from)) c.if-place-width.false in
    let wide : 2 ^ width < 4294967296 = pow_below width 32 (omega (arith, c.requires.few)) in
    rw (one_shifted (width - 1 - p) (omega (arith, c.requires.few))) (omega (arith, fits, wide))

pub loop-count-preserved : goal.loop-count-preserved
loop-count-preserved c =
    let rows = c.args.rows.now in
    let i = c.loop-count.count in
    let base = c.args.base in
    let width = c.args.width in
    let row = get_or rows i 0 in
    let p = row - base in
    let from = reached_le base i rows c.requires.rising c.requires.from c.loop-count-test.true in
    let more = packed_more base width (reached base rows i) c.loop-count.word p (take i rows) c.loop-count.invariant (omega (arith, from)) c.if-place-width.false in
    let at : p + 1 ≡ reached base rows (i + 1) = omega (arith, from) ∙ sym (reached_more base i rows) in
    let done : take i rows ++ (base + p) ∷ [] ≡ take (i + 1) rows = (let e : base + p ≡ row = omega (arith, from) in ap (λ r. take i rows ++ r ∷ []) e) ∙ sym (take_more rows i 0 c.loop-count-test.true) in
    rw (one_shifted (width - 1 - p) (omega (arith, c.requires.few)), ← at, ← done) more

pub returns-clause-rows : goal.returns-clause-rows
returns-clause-rows c =
    packed_rows c.args.base c.args.width (reached c.args.base c.args.rows.now c.loop-count.count) c.loop-count.word (take c.loop-count.count c.args.rows.now) c.loop-count.invariant ∙ take_all c.loop-count.count c.args.rows.now (omega (arith, c.loop-count-test.false)) ∙ sym (take_all (length c.args.rows.now) c.args.rows.now (omega arith))

pub returns-clause-fits : goal.returns-clause-fits
returns-clause-fits c =
    packed_below c.args.base c.args.width (reached c.args.base c.args.rows.now c.loop-count.count) c.loop-count.word (take c.loop-count.count c.args.rows.now) c.loop-count.invariant
