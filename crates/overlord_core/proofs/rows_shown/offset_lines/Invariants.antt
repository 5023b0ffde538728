use Rattle.std.proofs.Common.{bytes_eq, filter, map, ◌++◌, ◌≡◌}
use Rattle.book_rows.specs.ShowSteps.{offset_line}
use Rattle.overlord_core.proofs.rows_shown.offset_lines.Given as goal

abbrev pub invariant-loop-row : goal.invariant-loop-row
invariant-loop-row l = l.lines.items ++ map offset_line l.row-iterator.rest.items ≡ map offset_line (filter (λ r. bytes_eq r.source l.source) l.streams.offsets)
