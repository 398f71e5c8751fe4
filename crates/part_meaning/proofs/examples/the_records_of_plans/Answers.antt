use Rattle.index_spec.specs.declared.spec.EncodingSpec.TheVariants.{Equality, Range}
use Rattle.part_meaning.specs.Samples.{b_is_1, below, from_1024, from_4_to_7, from_4_to_8, from_5, is_5, isnt_5, null_part, pair_part, ten_part, two_part}
use Rattle.part_meaning.proofs.HeldLemmas.{both_held, not_held, one_held}
use Rattle.part_meaning.proofs.examples.the_records_of_plans.Goals as goal

pub returns : goal.returns
returns c = record {
  interval = one_held from_4_to_8 (ten_part Equality);
  low = one_held (below 4) (ten_part Equality);
  list = one_held from_4_to_7 (ten_part Range);
  pair = both_held (below 9) b_is_1 pair_part;
  scanned = one_held from_1024 two_part;
  not_below = not_held (below 5) null_part;
  differs = one_held isnt_5 null_part;
  not_equal = not_held is_5 null_part;
  at_least = one_held from_5 null_part;
}
