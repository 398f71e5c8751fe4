use Rattle.std.proofs.Common.{◌≡◌, ◌≢◌, not, Bool, ◌<◌, ◌≤◌, ◌+◌, ◌++◌, [], ◌∷◌, length, length-append, false, true, sym, ap, ◌∙◌, arith}
use Rattle.std.specs.Prelude.{Option, Some, None, is_some}
use Rattle.std.specs.Option.{option_map}
use Rattle.where_grammar.specs.Grammar.{joins}
use Rattle.where_grammar.specs.Parsing.{after, bare, clause_within}
use Rattle.where_grammar.proofs.Joints.{enclosed_none, enclosed_open, enclosed_some, ended, part-shrinks, part_of, parts_here, parts_here-some, within_less}
use Rattle.where_grammar.proofs.Lists.{length-bare, put-with, put_items}
use Rattle.where_grammar.proofs.TokenTests.{after_told}
use Rattle.where_grammar.proofs.parsing.+clauses.Goals as goal

pub enclosed-returns-in-Some-after_sign : goal.enclosed-returns-in-Some-after_sign
enclosed-returns-in-Some-after_sign t c =
    let some : 0 < c.args.depth = omega arith in
    let tokens = bare c.args.tokens.now in
    let inner : clause_within c.args.depth tokens ≡ Some (c.in-Some.clause, bare c.in-Some.rest.now) = within_less c.args.depth tokens some ∙ sym (rw c.in-Some.is at c.in_ok-clause.ensures) in
    enclosed_some (clause_within c.args.depth) tokens c.in-Some.clause (bare c.in-Some.rest.now) (bare c.in-Some-after_sign.rest.now) inner (sym (rw c.in-Some-after_sign.is at c.after_sign.ensures))

pub enclosed-returns-in-None-after_sign : goal.enclosed-returns-in-None-after_sign
enclosed-returns-in-None-after_sign t c =
    let some : 0 < c.args.depth = omega arith in
    let tokens = bare c.args.tokens.now in
    let inner : clause_within c.args.depth tokens ≡ Some (c.in-Some.clause, bare c.in-Some.rest.now) = within_less c.args.depth tokens some ∙ sym (rw c.in-Some.is at c.in_ok-clause.ensures) in
    enclosed_open (clause_within c.args.depth) tokens c.in-Some.clause (bare c.in-Some.rest.now) inner (sym (rw c.in-None-after_sign.is at c.after_sign.ensures))

pub enclosed-returns-in-None : goal.enclosed-returns-in-None
enclosed-returns-in-None t c =
    let some : 0 < c.args.depth = omega arith in
    let tokens = bare c.args.tokens.now in
    enclosed_none (clause_within c.args.depth) tokens (within_less c.args.depth tokens some ∙ sym (rw c.in-None.is at c.in_ok-clause.ensures))

pub more_joined-loop-behind-smaller : goal.more_joined-loop-behind-smaller
more_joined-loop-behind-smaller t c =
    let rest = bare c.loop-behind.rest.now in
    let behind = bare c.in-Some.behind.now in
    let joint : after (joins c.args.join) rest ≡ Some behind = sym (rw c.in-Some.is at c.after_joint-in-loop-behind.ensures) in
    let found : part_of c.args.join c.args.depth behind ≡ Some (c.in-Some-2.next, bare c.in-Some-2.after.now) = sym (rw c.in-Some-2.is at c.in_ok-next.ensures) in
    let h = after_told (joins c.args.join) rest behind joint in
    let longer : length rest ≡ length (h.token ∷ behind) = ap length h.cut in
    let less = part-shrinks c.args.join c.args.depth behind (c.in-Some-2.next, bare c.in-Some-2.after.now) found in
    let a = length-bare c.loop-behind.rest.now in
    let b = length-bare c.in-Some-2.after.now in
    let goal_is : length c.in-Some-2.after.now < length c.loop-behind.rest.now = omega arith in
    goal_is

pub more_joined-loop-behind-preserved : goal.more_joined-loop-behind-preserved
more_joined-loop-behind-preserved t c =
    let j = c.args.join in
    let depth = c.args.depth in
    let rest = bare c.loop-behind.rest.now in
    let behind = bare c.in-Some.behind.now in
    let next = c.in-Some-2.next in
    let after_part = bare c.in-Some-2.after.now in
    let joint : after (joins j) rest ≡ Some behind = sym (rw c.in-Some.is at c.after_joint-in-loop-behind.ensures) in
    let found : part_of j depth behind ≡ Some (next, after_part) = sym (rw c.in-Some-2.is at c.in_ok-next.ensures) in
    let step = parts_here-some j depth rest behind next after_part joint found in
    let pushed : c.push-in-Some-2.new.self ≡ c.loop-behind.parts ++ (next ∷ []) = c.in_ok-push-in-Some-2.ensures.ok in
    let size : length c.push-in-Some-2.new.self ≡ length c.loop-behind.parts + 1 = ap length pushed ∙ length-append c.loop-behind.parts (next ∷ []) in
    let some = c.loop-behind.invariant.some in
    record {
      so_far = ap (λ xs. put_items xs (parts_here j (part_of j depth) after_part)) pushed ∙ (sym (put-with c.loop-behind.parts next (parts_here j (part_of j depth) after_part)) ∙ (ap (put_items c.loop-behind.parts) (sym step) ∙ c.loop-behind.invariant.so_far));
      some = omega arith;
      first_alone = λ one. absurd (omega arith);
    }

no_joint : {A B : Type 0} (f : A → B) (o : Option A) (none : Bool) → is_some o ≡ not none → none ≡ false → option_map f o ≡ None → ⊥
no_joint f None none is e none_is = let same : false ≡ true = is ∙ ap not e in cc
no_joint f (Some x) none is e none_is = cc

pub more_joined-returns : goal.more_joined-returns
more_joined-returns t c =
    let j = c.args.join in
    let rest = bare c.loop-behind.rest.now in
    let none : after (joins j) rest ≡ None = sym c.in_default.ensures in
    let some = c.loop-behind.invariant.some in
    let several : length c.loop-behind.parts ≢ 1 = λ one. no_joint _ c.after_joint.result c.is_none.result c.is_none.ensures c.if-is_none.false (c.after_joint.ensures ∙ (ap (after (joins j)) (sym (c.loop-behind.invariant.first_alone one)) ∙ none)) in
    let two : 2 ≤ length c.loop-behind.parts = omega arith in
    ap (λ g. Some (g, rest)) c.group.ensures ∙ ended j (part_of j c.args.depth) c.args.first c.loop-behind.parts (bare c.args.tokens.now) rest two none c.loop-behind.invariant.so_far
