use Rattle.std.proofs.Common.{◌%◌, ◌∙◌, ◌++◌, ◌-◌, ◌+◌, ◌==◌, List, ap, filter, map}
use Rattle.std.specs.List.{range_with_len}
use Rattle.book_rows.specs.Sequences.{offset_at}
use Rattle.book_rows.specs.declared.rows.Offset.{Offset}
use Rattle.sup_core.proofs.Loops.{made_further}
use Rattle.sup_core.proofs.starts.positions.Goals as goal

pub loop-partition-preserved : goal.loop-partition-preserved
loop-partition-preserved c =
    ap (λ (xs : List Offset). xs ++ map (offset_at c.args.streams.now.offsets c.args.row.now.source c.args.row.now.stream) (filter (λ p. (p % c.args.row.now.task_count) == c.args.group) (range_with_len (c.loop-partition.partition + 1) (c.args.row.now.partitions - (c.loop-partition.partition + 1))))) c.in_ok-push_where.ensures
    ∙ (
    made_further (offset_at c.args.streams.now.offsets c.args.row.now.source c.args.row.now.stream) (λ p. (p % c.args.row.now.task_count) == c.args.group) c.loop-partition.partition c.args.row.now.partitions c.loop-partition.made.items c.loop-partition-test.true
    ∙ c.loop-partition.invariant
    )
