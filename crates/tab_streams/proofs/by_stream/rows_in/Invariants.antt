use Rattle.std.proofs.Common.{◌++◌, ◌≡◌}
use Rattle.tab_streams.specs.ByName.{source_rows}
use Rattle.tab_streams.proofs.by_stream.rows_in.Given as goal

abbrev pub invariant-loop-stream : goal.invariant-loop-stream
invariant-loop-stream l = l.rows.items ++ source_rows l.source l.stream-iterator ≡ source_rows l.source l.streams.entries
