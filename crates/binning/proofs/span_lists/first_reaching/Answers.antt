use Rattle.std.proofs.Common.{rules}
use Rattle.std.proofs.lemmas.List.Sorted.{IsPartitionPoint-from_clause}
use Rattle.std.proofs.Common.{int_lt}
use Rattle.binning.proofs.SpanLemmas.{parted_by, first_reaching_from}
use Rattle.binning.proofs.span_lists.first_reaching.Goals as goal

pub returns : goal.returns
returns c =
    let point = IsPartitionPoint-from_clause (λ s. int_lt s.greatest c.args.v) _ _ c.partition_point.ensures.partitioned (parted_by c.args.spans.now c.args.v c.requires) (λ a r q k. search rules) in
    first_reaching_from c.args.spans.now c.args.v c.partition_point.result c.partition_point.ensures.bound point
