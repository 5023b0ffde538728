use Rattle.std.proofs.Common.{◌≡◌, take}
use Rattle.lock_posse.specs.Granting.{member_lists}
use Rattle.lock_posse.proofs.grants.lists_after.Given as goal

abbrev pub invariant-loop-row : goal.invariant-loop-row
invariant-loop-row l = l.lists.items ≡ member_lists l.joins l.task (take l.row-index l.rows)
