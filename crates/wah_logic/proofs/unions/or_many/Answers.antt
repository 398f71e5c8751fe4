use Rattle.std.proofs.Common.{◌≡◌, length, map, ap, ◌∙◌, arith, subst, IfOk}
use Rattle.wah_words.specs.Spelling.{words_of}
use Rattle.wah_logic.specs.Logic.{groups_and_rest, words_in}
use Rattle.wah_logic.proofs.UnionLemmas.{no_item, one_item, one_words, one_union, some_digits, so_many_times, words_few, copy_steps, twice_each}
use Rattle.wah_logic.proofs.unions.or_many.Goals as goal

pub returns-in-empty-clause-values : goal.returns-in-empty-clause-values
returns-in-empty-clause-values g c =
    subst (λ u. IfOk c.zeros.result (λ v. v ≡ u)) (no_item g.T.HasRows.row_bits c.args.len c.args.list.now c.in-empty.len_below) c.zeros.ensures

pub returns-in-len1-clause-values : goal.returns-in-len1-clause-values
returns-in-len1-clause-values g c =
    let e = one_item c.args.list.now c.vector-item.result (omega arith) c.vector-item.is in
    subst (λ u. IfOk c.copy.result (λ v. v ≡ u)) (c.rows.ensures ∙ (one_union g.T.HasRows.row_bits c.args.len c.args.list.now c.vector-item.result e c.requires.same).1) c.copy.ensures.copied

pub returns-in-len1-clause-digits : goal.returns-in-len1-clause-digits
returns-in-len1-clause-digits g c = λ d h.
    let e = one_item c.args.list.now c.vector-item.result (omega arith) c.vector-item.is in
    let all = copy_steps c.copy.result c.args.steps.now c.copy.new.steps (words_of c.rows.result.now) c.copy.ensures.steps c.copy.ensures.no_steps in
    so_many_times 1 d (words_in (map g.T.HasRows.row_bits c.args.list.now)) c.args.steps.now c.copy.new.steps (some_digits d (length c.args.list.now) (omega arith) h) (omega (arith, all, one_words g.T.HasRows.row_bits c.args.list.now c.vector-item.result e, ap words_of c.rows.ensures))

pub returns-in-len1-clause-steps : goal.returns-in-len1-clause-steps
returns-in-len1-clause-steps g c =
    let e = one_item c.args.list.now c.vector-item.result (omega arith) c.vector-item.is in
    let all = copy_steps c.copy.result c.args.steps.now c.copy.new.steps (words_of c.rows.result.now) c.copy.ensures.steps c.copy.ensures.no_steps in
    let long = (one_union g.T.HasRows.row_bits c.args.len c.args.list.now c.vector-item.result e c.requires.same).0 in
    twice_each (groups_and_rest c.args.len) (length c.args.list.now) c.args.steps.now c.copy.new.steps (omega arith) (omega (arith, all, words_few c.args.len (g.T.HasRows.row_bits c.vector-item.result) long, ap words_of c.rows.ensures))
