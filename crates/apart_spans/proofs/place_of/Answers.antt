use Rattle.std.specs.Prelude.{int_le}
use Rattle.std.proofs.Common.{rules}
use Rattle.std.proofs.lemmas.List.Sorted.{IsPartitionPoint-from_clause}
use Rattle.apart_spans.proofs.Deciding.{ends_part}
use Rattle.apart_spans.proofs.place_of.Goals as goal

pub returns : goal.returns
returns c =
    IsPartitionPoint-from_clause (λ s. int_le s.end c.args.span.start) c.args.spans.now c.partition_point.result c.partition_point.ensures.partitioned
    (ends_part c.args.span.start c.args.spans.now c.requires) (λ a r f' k. search rules)
