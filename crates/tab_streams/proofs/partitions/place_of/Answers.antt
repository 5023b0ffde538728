use Rattle.std.proofs.Common.{nat_lt, rules}
use Rattle.std.proofs.lemmas.List.Sorted.{IsPartitionPoint-from_clause}
use Rattle.tab_streams.proofs.Placing.{partitioned}
use Rattle.tab_streams.proofs.partitions.place_of.Goals as goal

pub returns : goal.returns
returns c = record {
  within = c.partition_point.ensures.bound;
  splits =
      IsPartitionPoint-from_clause (λ p. nat_lt p.partition c.args.partition) c.args.offsets.now c.partition_point.result c.partition_point.ensures.partitioned
      (partitioned c.args.partition c.args.offsets.now c.requires) (λ a r f' k. search rules);
}
