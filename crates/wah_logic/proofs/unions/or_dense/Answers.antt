use Rattle.std.proofs.Common.{◌≡◌, map, length, refl, sym, ap, subst, ◌∙◌, arith, IfOk}
use Rattle.wah_words.specs.Spelling.{words_of}
use Rattle.wah_logic.specs.Logic.{union}
use Rattle.wah_logic.proofs.UnionLemmas.{length-union, rest_union, rest_words, next_long, union_all, union_start}
use Rattle.wah_logic.proofs.unions.or_dense.Goals as goal

pub loop-vector-init : goal.loop-vector-init
loop-vector-init g c =
    let vs = map g.T.HasRows.row_bits c.args.list.now in
    let start = union_start c.args.len c.in_ok-groups.groups (union c.args.len vs) c.in_ok-groups.ensures (length-union c.args.len vs c.requires.same) in
    record {
      values = start.0;
      long = start.1;
      steps = refl;
    }

pub or_vector-requires : goal.or_vector-requires
or_vector-requires g c = record {
  same = ap length c.rows.ensures ∙ next_long g.T.HasRows.row_bits c.args.len c.loop-vector.vector-index c.args.list.now c.vector-item.result c.loop-vector-test.true c.vector-item.is c.requires.same ∙ sym c.loop-vector.invariant.long;
}

pub loop-vector-preserved : goal.loop-vector-preserved
loop-vector-preserved g c =
    let f = g.T.HasRows.row_bits in
    let i = c.loop-vector.invariant in
    let next = rest_union f c.args.len c.loop-vector.vector-index c.args.list.now c.vector-item.result c.loop-vector.groups c.rows.result.now c.or_vector.new.self c.loop-vector-test.true c.vector-item.is c.rows.ensures c.requires.same i.long c.or_vector.ensures.values in
    let words = rest_words f c.loop-vector.vector-index c.args.list.now c.vector-item.result c.loop-vector-test.true c.vector-item.is in
    record {
      values = next.0 ∙ i.values;
      long = next.1;
      steps = omega (arith, i.steps, words, ap words_of c.rows.ensures, c.or_vector.ensures.steps);
    }

pub returns-clause-values : goal.returns-clause-values
returns-clause-values g c =
    let f = g.T.HasRows.row_bits in
    let i = c.loop-vector.invariant in
    subst (λ u. IfOk c.vector.result (λ v. v ≡ u)) (union_all f c.args.len c.loop-vector.vector-index c.args.list.now c.loop-vector.groups (union c.args.len (map f c.args.list.now)) c.loop-vector-test.false i.long i.values) c.vector.ensures
