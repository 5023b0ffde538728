use Rattle.std.proofs.Common.{rules}
use Rattle.std.proofs.lemmas.List.Sorted.{IsPartitionPoint-from_clause}
use Rattle.upgrade_plan.proofs.Ascending.{is_up_to, up_to_splits, without_after}
use Rattle.upgrade_plan.proofs.spans.not_after.Goals as goal

pub returns : goal.returns
returns c =
    without_after c.args.span c.partition_point-to.result c.args.ids.now
    (IsPartitionPoint-from_clause (is_up_to c.args.span) c.args.ids.now c.partition_point-to.result c.partition_point-to.ensures.partitioned (up_to_splits c.args.span c.args.ids.now c.requires) (λ a r f' k. search rules))
