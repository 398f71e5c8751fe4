use Rattle.std.proofs.Common.{◌≡◌, ◌+◌, ◌*◌, ◌/◌, length, map, sym, ◌∙◌, rules, arith, subst, ap, IfOk}
use Rattle.wah_logic.specs.Logic.{groups_and_rest, words_in}
use Rattle.wah_logic.proofs.UnionLemmas.{all_front, all_back, halves_union, halves_words, halves_long, halves_digits, halves_steps, words_few}
use Rattle.wah_logic.proofs.unions.+or_halves.Goals as goal

pub or_halves-requires : goal.or_halves-requires
or_halves-requires g t c κs within =
    let same = all_front g.T.HasRows.row_bits c.args.len (length c.args.list.now / 2) c.args.list.now c.split_at.result.0.now c.split_at.ensures.front c.requires.same in
    search (rules, same)

pub or_halves-requires-2 : goal.or_halves-requires-2
or_halves-requires-2 g t c κs within =
    let same = all_back g.T.HasRows.row_bits c.args.len (length c.args.list.now / 2) c.args.list.now c.split_at.result.1.now c.split_at.ensures.back c.requires.same in
    search (rules, same)

pub returns-in_err-right-clause-digits : goal.returns-in_err-right-clause-digits
returns-in_err-right-clause-digits g t c = λ d h.
    let front = c.split_at.ensures.front_len in
    let back = c.split_at.ensures.back_len in
    let p = words_in (map g.T.HasRows.row_bits c.split_at.result.0.now) in
    let q = words_in (map g.T.HasRows.row_bits c.split_at.result.1.now) in
    let both = halves_digits d (length c.args.list.now) c.args.steps.now c.or_halves.new.steps c.or_halves-2.new.steps p q (omega arith) h (λ e l. c.or_halves.ensures.digits e (omega (arith, l, front))) (λ e l. c.or_halves-2.ensures.digits e (omega (arith, l, front, back))) in
    let all : d * words_in (map g.T.HasRows.row_bits c.args.list.now) ≡ d * (p + q) = ap (λ n. d * n) (halves_words g.T.HasRows.row_bits c.args.list.now c.split_at.result.0.now c.split_at.result.1.now c.split_at.ensures.by_index.0) in
    omega (arith, both, all)

pub returns-in_err-right-clause-steps : goal.returns-in_err-right-clause-steps
returns-in_err-right-clause-steps g t c =
    halves_steps (groups_and_rest c.args.len) c.args.steps.now c.or_halves.new.steps c.or_halves-2.new.steps c.or_halves-2.new.steps (length c.split_at.result.0.now) (length c.split_at.result.1.now) (length c.args.list.now) (omega (arith, c.split_at.ensures.front_len, c.split_at.ensures.back_len)) c.or_halves.ensures.steps c.or_halves-2.ensures.steps (omega (arith))

pub or_both-requires : goal.or_both-requires
or_both-requires g t c =
    let long = halves_long g.T.HasRows.row_bits c.args.len (length c.args.list.now / 2) c.args.list.now c.split_at.result.0.now c.split_at.result.1.now c.in_ok-left.left c.in_ok-right.right c.split_at.ensures.front c.split_at.ensures.back c.requires.same c.in_ok-left.ensures.values c.in_ok-right.ensures.values in
    record { same = long.0 ∙ sym long.1 }

pub returns-clause-values : goal.returns-clause-values
returns-clause-values g t c =
    let all = halves_union g.T.HasRows.row_bits c.args.len (length c.args.list.now / 2) c.args.list.now c.split_at.result.0.now c.split_at.result.1.now c.in_ok-left.left c.in_ok-right.right c.split_at.ensures.by_index.0 c.split_at.ensures.front c.split_at.ensures.back c.requires.same c.in_ok-left.ensures.values c.in_ok-right.ensures.values in
    subst (λ u. IfOk c.or_both.result (λ v. v ≡ u)) all c.or_both.ensures.values

pub returns-clause-digits : goal.returns-clause-digits
returns-clause-digits g t c = λ d h.
    let front = c.split_at.ensures.front_len in
    let back = c.split_at.ensures.back_len in
    let p = words_in (map g.T.HasRows.row_bits c.split_at.result.0.now) in
    let q = words_in (map g.T.HasRows.row_bits c.split_at.result.1.now) in
    let both = halves_digits d (length c.args.list.now) c.args.steps.now c.or_halves.new.steps c.or_halves-2.new.steps p q (omega arith) h (λ e l. c.or_halves.ensures.digits e (omega (arith, l, front))) (λ e l. c.or_halves-2.ensures.digits e (omega (arith, l, front, back))) in
    let all : d * words_in (map g.T.HasRows.row_bits c.args.list.now) ≡ d * (p + q) = ap (λ n. d * n) (halves_words g.T.HasRows.row_bits c.args.list.now c.split_at.result.0.now c.split_at.result.1.now c.split_at.ensures.by_index.0) in
    omega (arith, both, all, c.or_both.ensures.steps, c.in_ok-left.ensures.words, c.in_ok-right.ensures.words)

pub returns-clause-steps : goal.returns-clause-steps
returns-clause-steps g t c =
    let long = halves_long g.T.HasRows.row_bits c.args.len (length c.args.list.now / 2) c.args.list.now c.split_at.result.0.now c.split_at.result.1.now c.in_ok-left.left c.in_ok-right.right c.split_at.ensures.front c.split_at.ensures.back c.requires.same c.in_ok-left.ensures.values c.in_ok-right.ensures.values in
    halves_steps (groups_and_rest c.args.len) c.args.steps.now c.or_halves.new.steps c.or_halves-2.new.steps c.or_both.new.steps (length c.split_at.result.0.now) (length c.split_at.result.1.now) (length c.args.list.now) (omega (arith, c.split_at.ensures.front_len, c.split_at.ensures.back_len)) c.or_halves.ensures.steps c.or_halves-2.ensures.steps (omega (arith, c.or_both.ensures.steps, words_few c.args.len c.in_ok-left.left long.0, words_few c.args.len c.in_ok-right.right long.1))
