use Rattle.std.proofs.Common.{take, ◌++◌, ◌≡◌}
use Rattle.tab_streams.specs.ByName.{stream_rows}
use Rattle.tab_streams.proofs.partitions.push_rows.Given as goal

abbrev pub invariant-loop-offset : goal.invariant-loop-offset
invariant-loop-offset l = l.rows.items ≡ l.fn.rows.items ++ stream_rows l.source l.stream (take l.offset-index l.offsets)
