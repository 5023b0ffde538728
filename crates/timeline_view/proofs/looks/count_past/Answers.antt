use Rattle.std.proofs.Common.{rules}
use Rattle.std.proofs.lemmas.List.Sorted.{IsPartitionPoint-from_clause}
use Rattle.timeline_view.specs.Looks.{is_past}
use Rattle.timeline_view.proofs.Tops.{past_splits}
use Rattle.timeline_view.proofs.looks.count_past.Goals as goal

pub returns : goal.returns
returns c =
    IsPartitionPoint-from_clause (is_past c.args.at) c.args.stretches.now c.partition_point.result c.partition_point.ensures.partitioned
    (past_splits c.args.at c.args.stretches.now c.requires)
    (λ a r f' k. search rules)
