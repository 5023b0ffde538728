use Rattle.std.proofs.Common.{rules}
use Rattle.std.proofs.lemmas.List.Sorted.{IsPartitionPoint-from_clause}
use Rattle.timeline_view.specs.Turns.{is_turn_before}
use Rattle.timeline_view.proofs.Turning.{before_splits}
use Rattle.timeline_view.proofs.turns.turns_before.Goals as goal

pub returns-clause-split : goal.returns-clause-split
returns-clause-split c =
    IsPartitionPoint-from_clause (is_turn_before c.args.at) c.args.turns.now c.partition_point.result c.partition_point.ensures.partitioned
    (before_splits c.args.at c.args.turns.now c.requires)
    (λ a r f' k. search rules)
