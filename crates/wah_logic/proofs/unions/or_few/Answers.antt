use Rattle.std.proofs.Common.{◌≡◌, length, map, refl, sym, ap, ◌∙◌, arith, subst, IfOk}
use Rattle.wah_words.specs.Spelling.{words_of}
use Rattle.wah_logic.specs.Logic.{each_place, or, groups_and_rest, words_in}
use Rattle.wah_logic.proofs.JoinLemmas.{length-each}
use Rattle.wah_logic.proofs.UnionLemmas.{two_items, three_items, two_long, three_long, two_union, three_union, two_words, three_words, one_digit, two_digits, so_many_times, few_steps, words_few}
use Rattle.wah_logic.proofs.unions.or_few.Goals as goal

pub or_both-requires-in-len3 : goal.or_both-requires-in-len3
or_both-requires-in-len3 g c =
    let e = three_items c.args.list.now c.a-item-then-list-lt4.result c.b-item-then-list-lt4.result c.c-item.result (omega arith) c.a-item-then-list-lt4.is c.b-item-then-list-lt4.is c.c-item.is in
    let long = three_long g.T.HasRows.row_bits c.args.len c.args.list.now c.a-item-then-list-lt4.result c.b-item-then-list-lt4.result c.c-item.result e c.requires.same in
    record { same = rw (c.rows-in-len3.ensures, c.rows-in-len3-2.ensures) (long.1 ∙ sym long.2) }

pub returns-in_err-right-in-len3-clause-digits : goal.returns-in_err-right-in-len3-clause-digits
returns-in_err-right-in-len3-clause-digits g c = λ d h.
    let e = three_items c.args.list.now c.a-item-then-list-lt4.result c.b-item-then-list-lt4.result c.c-item.result (omega arith) c.a-item-then-list-lt4.is c.b-item-then-list-lt4.is c.c-item.is in
    let long = three_long g.T.HasRows.row_bits c.args.len c.args.list.now c.a-item-then-list-lt4.result c.b-item-then-list-lt4.result c.c-item.result e c.requires.same in
    let words = three_words g.T.HasRows.row_bits c.args.list.now c.a-item-then-list-lt4.result c.b-item-then-list-lt4.result c.c-item.result e in
    let b = ap words_of c.rows-in-len3.ensures in
    let c' = ap words_of c.rows-in-len3-2.ensures in
    so_many_times 1 d (words_in (map g.T.HasRows.row_bits c.args.list.now)) c.args.steps.now c.or_both-in-len3.new.steps (one_digit d (omega arith)) (omega (arith, c.or_both-in-len3.ensures.steps, words, b, c'))

pub returns-in_err-right-in-len3-clause-steps : goal.returns-in_err-right-in-len3-clause-steps
returns-in_err-right-in-len3-clause-steps g c =
    let e = three_items c.args.list.now c.a-item-then-list-lt4.result c.b-item-then-list-lt4.result c.c-item.result (omega arith) c.a-item-then-list-lt4.is c.b-item-then-list-lt4.is c.c-item.is in
    let long = three_long g.T.HasRows.row_bits c.args.len c.args.list.now c.a-item-then-list-lt4.result c.b-item-then-list-lt4.result c.c-item.result e c.requires.same in
    few_steps (groups_and_rest c.args.len) 1 (length c.args.list.now) c.args.steps.now c.or_both-in-len3.new.steps (omega arith) (omega (arith, c.or_both-in-len3.ensures.steps, words_few c.args.len (g.T.HasRows.row_bits c.b-item-then-list-lt4.result) long.1, words_few c.args.len (g.T.HasRows.row_bits c.c-item.result) long.2, ap words_of c.rows-in-len3.ensures, ap words_of c.rows-in-len3-2.ensures))

pub or_both-requires-in-len3-2 : goal.or_both-requires-in-len3-2
or_both-requires-in-len3-2 g c =
    let e = three_items c.args.list.now c.a-item-then-list-lt4.result c.b-item-then-list-lt4.result c.c-item.result (omega arith) c.a-item-then-list-lt4.is c.b-item-then-list-lt4.is c.c-item.is in
    let long = three_long g.T.HasRows.row_bits c.args.len c.args.list.now c.a-item-then-list-lt4.result c.b-item-then-list-lt4.result c.c-item.result e c.requires.same in
    let right : c.in_ok-right-in-len3.right ≡ each_place or (g.T.HasRows.row_bits c.b-item-then-list-lt4.result) (g.T.HasRows.row_bits c.c-item.result) = c.in_ok-right-in-len3.ensures.values ∙ rw (c.rows-in-len3.ensures, c.rows-in-len3-2.ensures) refl in
    let right_long : length c.in_ok-right-in-len3.right ≡ c.args.len = ap length right ∙ length-each or (g.T.HasRows.row_bits c.b-item-then-list-lt4.result) (g.T.HasRows.row_bits c.c-item.result) (long.1 ∙ sym long.2) ∙ long.1 in
    record { same = rw c.rows-in-len3-3.ensures (long.0 ∙ sym right_long) }

pub returns-in_ok-right-in-len3-clause-values : goal.returns-in_ok-right-in-len3-clause-values
returns-in_ok-right-in-len3-clause-values g c =
    let e = three_items c.args.list.now c.a-item-then-list-lt4.result c.b-item-then-list-lt4.result c.c-item.result (omega arith) c.a-item-then-list-lt4.is c.b-item-then-list-lt4.is c.c-item.is in
    let long = three_long g.T.HasRows.row_bits c.args.len c.args.list.now c.a-item-then-list-lt4.result c.b-item-then-list-lt4.result c.c-item.result e c.requires.same in
    let right : c.in_ok-right-in-len3.right ≡ each_place or (g.T.HasRows.row_bits c.b-item-then-list-lt4.result) (g.T.HasRows.row_bits c.c-item.result) = c.in_ok-right-in-len3.ensures.values ∙ rw (c.rows-in-len3.ensures, c.rows-in-len3-2.ensures) refl in
    let right_long : length c.in_ok-right-in-len3.right ≡ c.args.len = ap length right ∙ length-each or (g.T.HasRows.row_bits c.b-item-then-list-lt4.result) (g.T.HasRows.row_bits c.c-item.result) (long.1 ∙ sym long.2) ∙ long.1 in
    subst (λ u. IfOk c.or_both-in-len3-2.result (λ v. v ≡ u)) (three_union g.T.HasRows.row_bits c.args.len c.args.list.now c.a-item-then-list-lt4.result c.b-item-then-list-lt4.result c.c-item.result c.rows-in-len3-3.result.now c.in_ok-right-in-len3.right e c.requires.same c.rows-in-len3-3.ensures right) c.or_both-in-len3-2.ensures.values

pub returns-in_ok-right-in-len3-clause-digits : goal.returns-in_ok-right-in-len3-clause-digits
returns-in_ok-right-in-len3-clause-digits g c = λ d h.
    let e = three_items c.args.list.now c.a-item-then-list-lt4.result c.b-item-then-list-lt4.result c.c-item.result (omega arith) c.a-item-then-list-lt4.is c.b-item-then-list-lt4.is c.c-item.is in
    let long = three_long g.T.HasRows.row_bits c.args.len c.args.list.now c.a-item-then-list-lt4.result c.b-item-then-list-lt4.result c.c-item.result e c.requires.same in
    let words = three_words g.T.HasRows.row_bits c.args.list.now c.a-item-then-list-lt4.result c.b-item-then-list-lt4.result c.c-item.result e in
    let b = ap words_of c.rows-in-len3.ensures in
    let c' = ap words_of c.rows-in-len3-2.ensures in
    let a = ap words_of c.rows-in-len3-3.ensures in
    so_many_times 2 d (words_in (map g.T.HasRows.row_bits c.args.list.now)) c.args.steps.now c.or_both-in-len3-2.new.steps (two_digits d (omega arith)) (omega (arith, c.or_both-in-len3.ensures.steps, c.or_both-in-len3-2.ensures.steps, c.in_ok-right-in-len3.ensures.words, words, a, b, c'))

pub returns-in_ok-right-in-len3-clause-steps : goal.returns-in_ok-right-in-len3-clause-steps
returns-in_ok-right-in-len3-clause-steps g c =
    let e = three_items c.args.list.now c.a-item-then-list-lt4.result c.b-item-then-list-lt4.result c.c-item.result (omega arith) c.a-item-then-list-lt4.is c.b-item-then-list-lt4.is c.c-item.is in
    let long = three_long g.T.HasRows.row_bits c.args.len c.args.list.now c.a-item-then-list-lt4.result c.b-item-then-list-lt4.result c.c-item.result e c.requires.same in
    let right : c.in_ok-right-in-len3.right ≡ each_place or (g.T.HasRows.row_bits c.b-item-then-list-lt4.result) (g.T.HasRows.row_bits c.c-item.result) = c.in_ok-right-in-len3.ensures.values ∙ rw (c.rows-in-len3.ensures, c.rows-in-len3-2.ensures) refl in
    let right_long : length c.in_ok-right-in-len3.right ≡ c.args.len = ap length right ∙ length-each or (g.T.HasRows.row_bits c.b-item-then-list-lt4.result) (g.T.HasRows.row_bits c.c-item.result) (long.1 ∙ sym long.2) ∙ long.1 in
    few_steps (groups_and_rest c.args.len) 2 (length c.args.list.now) c.args.steps.now c.or_both-in-len3-2.new.steps (omega arith) (omega (arith, c.or_both-in-len3.ensures.steps, c.or_both-in-len3-2.ensures.steps, words_few c.args.len c.in_ok-right-in-len3.right right_long, words_few c.args.len (g.T.HasRows.row_bits c.a-item-then-list-lt4.result) long.0, words_few c.args.len (g.T.HasRows.row_bits c.b-item-then-list-lt4.result) long.1, words_few c.args.len (g.T.HasRows.row_bits c.c-item.result) long.2, ap words_of c.rows-in-len3.ensures, ap words_of c.rows-in-len3-2.ensures, ap words_of c.rows-in-len3-3.ensures))

pub returns-in-len2-clause-values : goal.returns-in-len2-clause-values
returns-in-len2-clause-values g c =
    let e = two_items c.args.list.now c.a-item.result c.b-item.result (omega arith) c.a-item.is c.b-item.is in
    subst (λ u. IfOk c.or_both.result (λ v. v ≡ u)) (two_union g.T.HasRows.row_bits c.args.len c.args.list.now c.a-item.result c.b-item.result c.rows.result.now c.rows-in-len2.result.now e c.requires.same c.rows.ensures c.rows-in-len2.ensures) c.or_both.ensures.values

pub returns-in-len2-clause-digits : goal.returns-in-len2-clause-digits
returns-in-len2-clause-digits g c = λ d h.
    let e = two_items c.args.list.now c.a-item.result c.b-item.result (omega arith) c.a-item.is c.b-item.is in
    let words = two_words g.T.HasRows.row_bits c.args.list.now c.a-item.result c.b-item.result e in
    so_many_times 1 d (words_in (map g.T.HasRows.row_bits c.args.list.now)) c.args.steps.now c.or_both.new.steps (one_digit d (omega arith)) (omega (arith, c.or_both.ensures.steps, words, ap words_of c.rows.ensures, ap words_of c.rows-in-len2.ensures))

pub returns-in-len2-clause-steps : goal.returns-in-len2-clause-steps
returns-in-len2-clause-steps g c =
    let e = two_items c.args.list.now c.a-item.result c.b-item.result (omega arith) c.a-item.is c.b-item.is in
    let long = two_long g.T.HasRows.row_bits c.args.len c.args.list.now c.a-item.result c.b-item.result e c.requires.same in
    few_steps (groups_and_rest c.args.len) 1 (length c.args.list.now) c.args.steps.now c.or_both.new.steps (omega arith) (omega (arith, c.or_both.ensures.steps, words_few c.args.len (g.T.HasRows.row_bits c.a-item.result) long.0, words_few c.args.len (g.T.HasRows.row_bits c.b-item.result) long.1, ap words_of c.rows.ensures, ap words_of c.rows-in-len2.ensures))
