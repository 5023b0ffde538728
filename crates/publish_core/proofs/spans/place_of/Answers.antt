use Rattle.std.specs.Prelude.{int_lt}
use Rattle.std.proofs.Common.{rules}
use Rattle.std.proofs.lemmas.List.Sorted.{IsPartitionPoint-from_clause}
use Rattle.apart_spans.proofs.SpanPlaces.{starts_part}
use Rattle.publish_core.proofs.spans.place_of.Goals as goal

pub returns : goal.returns
returns c =
    IsPartitionPoint-from_clause (λ s. int_lt s.start c.args.span.start) c.args.spans.now c.partition_point.result c.partition_point.ensures.partitioned
    (starts_part c.args.span.start c.args.spans.now c.requires) (λ a r f' k. search rules)
