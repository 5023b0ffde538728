use Rattle.std.proofs.Common.{◌-◌, ◌≡◌, filter}
use Rattle.std.specs.List.{range_with_len}
use Rattle.book_rows.specs.Ticks.{groups_of, has_partitions}
use Rattle.sup_core.specs.Planning.{planned_groups}
use Rattle.sup_core.proofs.planning.plan_groups.Given as goal

-- what the groups that are left make of the plan is what all make of the first one
abbrev pub invariant-loop-group : goal.invariant-loop-group
invariant-loop-group l =
    planned_groups l.streams.offsets l.row l.moment l.sequences (filter (has_partitions l.row) (range_with_len l.group (l.row.task_count - l.group))) l.plan
    ≡ planned_groups l.streams.offsets l.row l.moment l.sequences (groups_of l.row) l.fn.plan
