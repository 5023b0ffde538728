use Rattle.std.proofs.Common.{◌≡◌, ◌++◌, map, take}
use Rattle.lock_posse.specs.Updates.{joinings, revoking}
use Rattle.lock_posse.proofs.updates.grantings.Given as goal

abbrev pub invariant-loop-number : goal.invariant-loop-number
invariant-loop-number l = l.updates.items ≡ map revoking (take l.number-index l.granted.revoked)

abbrev pub invariant-loop-join : goal.invariant-loop-join
invariant-loop-join l = l.updates.items ≡ map revoking l.granted.revoked ++ joinings l.rows l.joins l.task (take l.join-index l.joins)
