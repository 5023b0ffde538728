use Rattle.std.proofs.Common.{map, ◌++◌, ◌≡◌}
use Rattle.book_rows.specs.ShowSteps.{lock_line}
use Rattle.overlord_core.proofs.rows_shown.lock_lines.Given as goal

abbrev pub invariant-loop-lock : goal.invariant-loop-lock
invariant-loop-lock l = l.lines.items ++ map lock_line l.lock-iterator ≡ map lock_line l.posses
