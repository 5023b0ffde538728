use Rattle.std.proofs.Common.{rules}
use Rattle.std.specs.Prelude.{int_lt}
use Rattle.std.proofs.lemmas.List.Sorted.{IsPartitionPoint-from_clause}
use Rattle.book_rows.specs.Over.{Target}
use Rattle.apart_spans.proofs.SpanPlaces.{partitioned}
use Rattle.publish_core.proofs.versions.place_of.Goals as goal

pub returns : goal.returns
returns c =
    IsPartitionPoint-from_clause (λ x. int_lt x.span.start c.args.span.start) c.args.targets.now c.partition_point.result c.partition_point.ensures.partitioned
    (partitioned (λ (x : Target). x.span) c.args.span.start c.args.targets.now c.requires) (λ a r f' k. search rules)
