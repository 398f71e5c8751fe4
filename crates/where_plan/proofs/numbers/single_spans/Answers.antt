use Rattle.std.proofs.Common.{◌≡◌, ◌&&◌, ℤ, get_or, pos, refl, rules}
use Rattle.std.specs.Int.{w128}
use Rattle.std.specs.Ordering.{int_eq}
use Rattle.std.proofs.lemmas.Int.{to_z-of_z}
use mir.Val.{SFits}
use Rattle.binning.specs.Spans.{IsSpanInRange, in_span}
use Rattle.binning.proofs.SpanLemmas.{all_push}
use Rattle.where_plan.proofs.RangeLemmas.{number_step}
use Rattle.where_plan.proofs.numbers.single_spans.Goals as goal

pub loop-number-preserved : goal.loop-number-preserved
loop-number-preserved c =
    let i = c.loop-number.number-index in
    let list = c.args.list.now in
    let fits : SFits w128 (get_or list i (pos 0)) = search rules in
    let h : (n : ℤ) → in_span n c.only.result ≡ (in_span n c.args.ends && int_eq n (get_or list i (pos 0))) = λ n. simp to_z-of_z at (c.only.ensures.numbers n) in
    record {
      numbers = λ n. number_step c.args.ends c.only.result c.loop-number.spans.items c.push.new.self.items list i n c.loop-number-test.true c.in_ok-push.ensures.items (c.loop-number.invariant.numbers n) (h n);
      within = rw c.in_ok-push.ensures.items (all_push IsSpanInRange c.loop-number.spans.items c.only.result c.loop-number.invariant.within c.only.ensures.within);
      same = refl;
    }
