use Rattle.std.proofs.Common.{◌≡◌, ◌++◌, length, ap, ◌∙◌, arith}
use Rattle.wah_words.specs.Places.{places}
use Rattle.wah_logic.proofs.GroupLemmas.{front_long, front_end, front_all, no_rest}
use Rattle.wah_logic.proofs.groups.Groups.vector.Goals as goal
use Rattle.wah_logic.proofs.groups.Groups.vector.Goals.{then-self-gt0, else-self-gt0}

pub push_literal-requires-clause-aligned : goal.push_literal-requires-clause-aligned
push_literal-requires-clause-aligned c =
    let long = front_long c.self.inside.whole.items c.loop-group.group-index (omega (arith, c.loop-group-test.true, ap length c.deref-group-items.ensures.value)) in
    omega (arith, ap length c.loop-group.invariant.values, long)

pub push_literal-requires-clause-limit : goal.push_literal-requires-clause-limit
push_literal-requires-clause-limit c =
    let long = front_long c.self.inside.whole.items c.loop-group.group-index (omega (arith, c.loop-group-test.true, ap length c.deref-group-items.ensures.value)) in
    omega (arith, ap length c.loop-group.invariant.values, long, c.loop-group-test.true, ap length c.deref-group-items.ensures.value, c.self.invariant.within)

pub push_tail-requires-clause-aligned : goal.push_tail-requires-clause-aligned
push_tail-requires-clause-aligned c =
    let long = front_end c.self.inside.whole.items c.loop-group.group-index (omega (arith, c.loop-group-test.false, ap length c.deref-group-items.ensures.value)) in
    omega (arith, ap length c.loop-group.invariant.values, long)

pub push_tail-requires-clause-limit : goal.push_tail-requires-clause-limit
push_tail-requires-clause-limit c =
    let long = front_end c.self.inside.whole.items c.loop-group.group-index (omega (arith, c.loop-group-test.false, ap length c.deref-group-items.ensures.value)) in
    omega (arith, ap length c.loop-group.invariant.values, long, c.self.invariant.within)

pub returns : goal.returns
returns c =
    let rest = c.self.inside.rest in
    let tail = c.self.inside.tail in
    let end : c.if-self-gt0.out.values ≡ c.loop-group.out.values ++ places rest tail =
    elim c.if-self-gt0.branch [
      | then-self-gt0 w ↦ ap (λ o. o.values) w.out-is ∙ w.push_tail.ensures.values
      | else-self-gt0 w ↦ ap (λ o. o.values) w.out-is ∙ no_rest c.loop-group.out.values rest tail w.if-self-gt0.false
    ] in
    c.finish.ensures ∙ end ∙ ap (λ l. l ++ places rest tail) c.loop-group.invariant.values ∙ front_all c.self.inside.whole.items c.loop-group.group-index rest tail (omega (arith, c.loop-group-test.false, ap length c.deref-group-items.ensures.value)) ∙ c.self.view_is
