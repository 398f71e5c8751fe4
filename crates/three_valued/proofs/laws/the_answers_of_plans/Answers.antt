use Rattle.std.proofs.Common.{◌∙◌, ap}
use Rattle.three_valued.specs.Tables.{three_not}
use Rattle.three_valued.specs.Plans.{three}
use Rattle.three_valued.proofs.TableLemmas.{joined-or, joined-xor, joined-and}
use Rattle.three_valued.proofs.PlanLemmas.{three-all, three-one, three-or, three-xor, three-and, three-not}
use Rattle.three_valued.proofs.laws.the_answers_of_plans.Goals as goal

pub returns : goal.returns
returns c = record {
  all = three-all;
  one = three-one;
  or = λ answer parts. three-or answer parts ∙ joined-or (three answer) parts;
  xor = λ answer parts. three-xor answer parts ∙ joined-xor (three answer) parts;
  and = λ answer parts. three-and answer parts ∙ joined-and (three answer) parts;
  not_yes = λ answer part is. three-not answer part ∙ ap three_not is;
  not_no = λ answer part is. three-not answer part ∙ ap three_not is;
  not_unknown = λ answer part is. three-not answer part ∙ ap three_not is;
}
