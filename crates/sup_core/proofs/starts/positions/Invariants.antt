use Rattle.std.proofs.Common.{◌%◌, ◌++◌, ◌-◌, ◌==◌, ◌≡◌, filter, map}
use Rattle.std.specs.List.{range_with_len}
use Rattle.book_rows.specs.Sequences.{offset_at, partitions_of, positions}
use Rattle.sup_core.proofs.starts.positions.Given as goal

abbrev pub invariant-loop-partition : goal.invariant-loop-partition
invariant-loop-partition l =
    l.made.items
    ++ map (offset_at l.streams.offsets l.row.source l.row.stream) (filter (λ p. (p % l.row.task_count) == l.group) (range_with_len l.partition (l.row.partitions - l.partition)))
    ≡ positions l.streams.offsets l.row.source l.row.stream (partitions_of l.row l.group)
