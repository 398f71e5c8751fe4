use Rattle.std.proofs.Common.{◌≡◌, ◌==◌, ◌∷◌, ◌++◌, [], length, true, sym, ap, ◌∙◌, arith, append-nil, eqb-true, subst, Some}
use Rattle.std.proofs.lemmas.List.{length_push, nil_from_length}
use Rattle.part_meta.specs.Lines.{GoesOn, line, lines_in}
use Rattle.part_meta.proofs.CutLemmas.{ended_early, lines_in-line, step_in, unended, wrong_line}
use Rattle.part_meta.proofs.reading.read_lines.Goals as goal

pub returns-in-Ok-None : goal.returns-in-Ok-None
returns-in-Ok-None g c =
    let front = g.F.Front.front_lines c.loop-text.front in
    let next : lines_in c.loop-text.rest.now ≡ line c.in-Some.text.now ∷ lines_in c.in-Some.after.now =
    ap lines_in c.in-Some.ensures.1 ∙ lines_in-line c.in-Some.text.now c.in-Some.after.now c.in-Some.ensures.0 in
    wrong_line g.F.Front.is_of g.F.Front.lines c.args.bytes.now front (line c.in-Some.text.now) (lines_in c.in-Some.after.now) c.loop-text.number
    (c.loop-text.invariant.cut ∙ ap (λ t. front ++ t) next) c.loop-text.invariant.counted (c.laws.ensures.begins c.loop-text.front c.loop-text.invariant.valid)
    (subst (GoesOn g.F.Front.is_of g.F.Front.lines g.F.Front.is_front g.F.Front.front_lines c.loop-text.front c.in-Some.text.now) c.in-Ok-None.field-0-is c.in-Ok-None.ensures)

pub loop-text-preserved : goal.loop-text-preserved
loop-text-preserved g c =
    let front = g.F.Front.front_lines c.loop-text.front in
    let next : lines_in c.loop-text.rest.now ≡ line c.in-Some.text.now ∷ lines_in c.in-Some.after.now =
    ap lines_in c.in-Some.ensures.1 ∙ lines_in-line c.in-Some.text.now c.in-Some.after.now c.in-Some.ensures.0 in
    let goes : GoesOn g.F.Front.is_of g.F.Front.lines g.F.Front.is_front g.F.Front.front_lines c.loop-text.front c.in-Some.text.now (Some c.in-Ok-Some.longer) = subst (GoesOn g.F.Front.is_of g.F.Front.lines g.F.Front.is_front g.F.Front.front_lines c.loop-text.front c.in-Some.text.now) c.in-Ok-Some.field-0-is c.in-Ok-Some.ensures in
    let longer : g.F.Front.front_lines c.in-Ok-Some.longer ≡ front ++ line c.in-Some.text.now ∷ [] = goes.1 in
    record {
      valid = goes.0;
      cut = c.loop-text.invariant.cut ∙ ap (λ t. front ++ t) next ∙ step_in front (line c.in-Some.text.now) (lines_in c.in-Some.after.now) ∙ ap (λ t. t ++ lines_in c.in-Some.after.now) (sym longer);
      counted = omega (arith, ap length longer, length_push front (line c.in-Some.text.now), c.loop-text.invariant.counted);
    }

pub returns-then-not-is_empty : goal.returns-then-not-is_empty
returns-then-not-is_empty g c =
    unended g.F.Front.is_of g.F.Front.lines c.laws.ensures.each_line c.args.bytes.now (g.F.Front.front_lines c.loop-text.front) c.loop-text.rest.now c.loop-text.number c.loop-text.invariant.cut c.loop-text.invariant.counted
    (c.laws.ensures.begins c.loop-text.front c.loop-text.invariant.valid) c.in_default.ensures
    (sym c.is_empty.ensures ∙ c.if-not-is_empty.true)

pub returns-in-None : goal.returns-in-None
returns-in-None g c =
    let none : (length c.loop-text.rest.now == 0) ≡ true = sym c.is_empty.ensures ∙ c.if-not-is_empty.false in
    let ended : lines_in c.loop-text.rest.now ≡ [] = ap lines_in (nil_from_length c.loop-text.rest.now (eqb-true (length c.loop-text.rest.now) 0 none)) in
    ended_early g.F.Front.is_of g.F.Front.lines c.args.bytes.now (g.F.Front.front_lines c.loop-text.front) c.loop-text.number
    (c.loop-text.invariant.cut ∙ ap (λ t. g.F.Front.front_lines c.loop-text.front ++ t) ended ∙ append-nil (g.F.Front.front_lines c.loop-text.front))
    c.loop-text.invariant.counted (c.laws.ensures.begins c.loop-text.front c.loop-text.invariant.valid) c.in-None.ensures

pub overflow_add-number : goal.overflow_add-number
overflow_add-number g c = omega (arith, c.laws.ensures.short c.loop-text.front c.loop-text.invariant.valid, c.loop-text.invariant.counted)
