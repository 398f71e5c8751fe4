use Rattle.std.proofs.Common.{sym, rules}
use Rattle.std.proofs.lemmas.List.Sorted.{IsPartitionPoint-from_clause}
use Rattle.binning.specs.Spans.{int_le}
use Rattle.binning.proofs.KeyLemmas.{bounds_parted, count_point}
use Rattle.binning.proofs.rules.count_at_most.Goals as goal

pub returns : goal.returns
returns c =
    let point = IsPartitionPoint-from_clause (λ b. int_le b c.args.v) _ _ c.partition_point.ensures.partitioned (bounds_parted c.args.bounds.now c.args.v c.requires) (λ a r q k. search rules) in
    sym (count_point (λ b. int_le b c.args.v) c.args.bounds.now c.partition_point.result c.partition_point.ensures.bound point)
