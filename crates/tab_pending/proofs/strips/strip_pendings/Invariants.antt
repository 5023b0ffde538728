use Rattle.std.proofs.Common.{◌≡◌, drop}
use Rattle.book_rows.specs.Lists.{stands_in}
use Rattle.book_rows.specs.Locks.{stripped}
use Rattle.tab_pending.proofs.strips.strip_pendings.Given as goal

-- what the others leave of the rows is what all leave of the first rows
abbrev pub invariant-loop-lock : goal.invariant-loop-lock
invariant-loop-lock l = stripped (stands_in (drop l.lock-index l.locks)) l.rows ≡ stripped (stands_in l.locks) l.fn.rows
