use Rattle.std.proofs.Common.{◌≡◌, drop}
use Rattle.book_rows.specs.Lists.{stands_in}
use Rattle.book_rows.specs.Locks.{stripped_upgrades}
use Rattle.tab_pending.proofs.strips.strip_upgrades.Given as goal

-- what the others leave of the rows is what all leave of the first rows
abbrev pub invariant-loop-lock : goal.invariant-loop-lock
invariant-loop-lock l = stripped_upgrades (stands_in (drop l.lock-index l.locks)) l.rows ≡ stripped_upgrades (stands_in l.locks) l.fn.rows
