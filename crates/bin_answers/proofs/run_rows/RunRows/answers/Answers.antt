use Rattle.std.proofs.Common.{◌≡◌, ◌+◌, ◌*◌, ◌≤◌, ℕ, Bool, true, false, eqb, List, length, map, vec_len, ap, sym, subst, ◌∙◌, arith}
use Rattle.wah_logic.specs.Logic.{groups_and_rest, union}
use Rattle.bin_answers.proofs.RowLemmas.{known_only, none_there, of_length, some_there, three_parts}
use Rattle.bin_answers.proofs.run_rows.RunRows.answers.Goals as goal

pub returns-then-is_empty-clause-answers : goal.returns-then-is_empty-clause-answers
returns-then-is_empty-clause-answers g c =
    let rows = c.args.rows in
    let is : c.in_ok-definite.definite ≡ union rows (map (λ v. v) c.args.self.now.definite.items) =
    c.in_ok-definite.ensures.values ∙ ap (λ (vs : List (List Bool)). union rows (map (λ v. v) vs)) c.deref.ensures.value in
    let size : vec_len c.args.self.now.unknown ≡ length c.args.self.now.unknown.items = omega (arith, c.args.self.now.unknown.ok.0) in
    let none : eqb (length c.args.self.now.unknown.items) 0 ≡ true = ap (λ (n : ℕ). eqb n 0) (sym size) ∙ sym c.is_empty.ensures ∙ c.if-is_empty.true in
    c.known.ensures ∙ known_only rows c.in_ok-definite.definite c.args.self.now.definite.items c.args.self.now.unknown.items is c.requires.definite (none_there c.args.self.now.unknown.items none)

pub with_unknown-requires : goal.with_unknown-requires
with_unknown-requires g c =
    let rows = c.args.rows in
    let is : c.in_ok-definite.definite ≡ union rows (map (λ v. v) c.args.self.now.definite.items) =
    c.in_ok-definite.ensures.values ∙ ap (λ (vs : List (List Bool)). union rows (map (λ v. v) vs)) c.deref.ensures.value in
    let also : c.in_ok-unknown.unknown ≡ union rows (map (λ v. v) c.args.self.now.unknown.items) =
    c.in_ok-unknown.ensures.values ∙ ap (λ (vs : List (List Bool)). union rows (map (λ v. v) vs)) c.deref-2.ensures.value in
    of_length rows c.in_ok-definite.definite c.args.self.now.definite.items is c.requires.definite ∙ sym (of_length rows c.in_ok-unknown.unknown c.args.self.now.unknown.items also c.requires.unknown)

pub returns-clause-steps : goal.returns-clause-steps
returns-clause-steps g c =
    let rows = c.args.rows in
    let is : c.in_ok-definite.definite ≡ union rows (map (λ v. v) c.args.self.now.definite.items) =
    c.in_ok-definite.ensures.values ∙ ap (λ (vs : List (List Bool)). union rows (map (λ v. v) vs)) c.deref.ensures.value in
    let size : vec_len c.args.self.now.unknown ≡ length c.args.self.now.unknown.items = omega (arith, c.args.self.now.unknown.ok.0) in
    let some : eqb (length c.args.self.now.unknown.items) 0 ≡ false = ap (λ (n : ℕ). eqb n 0) (sym size) ∙ sym c.is_empty.ensures ∙ c.if-is_empty.false in
    three_parts (groups_and_rest rows) (length c.args.self.now.definite.items) (length c.args.self.now.unknown.items) c.args.steps.now c.or_many.new.steps c.or_many-2.new.steps
    c.with_unknown.new.steps (some_there c.args.self.now.unknown.items some)
    (subst (λ (vs : List (List Bool)). c.or_many.new.steps ≤ c.args.steps.now + 2 * groups_and_rest rows * length vs) c.deref.ensures.value c.in_ok-definite.ensures.steps)
    (subst (λ (vs : List (List Bool)). c.or_many-2.new.steps ≤ c.or_many.new.steps + 2 * groups_and_rest rows * length vs) c.deref-2.ensures.value c.in_ok-unknown.ensures.steps)
    (subst (λ (n : ℕ). c.with_unknown.new.steps ≤ c.or_many-2.new.steps + 2 * groups_and_rest n)
    (of_length rows c.in_ok-definite.definite c.args.self.now.definite.items is c.requires.definite) c.with_unknown.ensures.steps)
