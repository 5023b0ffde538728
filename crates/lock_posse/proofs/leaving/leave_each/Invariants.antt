use Rattle.std.proofs.Common.{◌≡◌, drop}
use Rattle.lock_posse.specs.Leaving.{left_rows}
use Rattle.lock_posse.proofs.leaving.leave_each.Given as goal

-- to leave the others, after those before, is to leave all
abbrev pub invariant-loop-number : goal.invariant-loop-number
invariant-loop-number l = left_rows (drop l.number-index l.numbers) l.task l.rows ≡ left_rows l.numbers l.task l.fn.rows
