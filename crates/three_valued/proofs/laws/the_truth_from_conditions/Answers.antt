use Rattle.three_valued.proofs.PlanLemmas.{is_true-all, is_true-one, is_true-or, is_true-xor, is_true-and, is_true-not, record_truth}
use Rattle.three_valued.proofs.laws.the_truth_from_conditions.Goals as goal

pub returns : goal.returns
returns c = record {
  all = is_true-all;
  one = is_true-one;
  or = is_true-or;
  xor = is_true-xor;
  and = is_true-and;
  not = is_true-not;
  on_a_record = record_truth;
}
