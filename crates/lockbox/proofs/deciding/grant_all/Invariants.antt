use Rattle.std.proofs.Common.{◌≡◌, ◌+◌, ◌≤◌, drop}
use Rattle.book_rows.specs.Grant.{grant_all, granted_then, posses_after}
use Rattle.book_rows.specs.Lists.{ascending}
use Rattle.lockbox.specs.Decided.{AreCounters}
use Rattle.lockbox.proofs.deciding.grant_all.Given as goal

-- what is left to decide, after what was granted so far, gives the whole answer
abbrev pub invariant-loop-want : goal.invariant-loop-want
invariant-loop-want l = record {
  left : granted_then l.task.task l.so_far (grant_all (posses_after l.posses l.task.task l.so_far) l.so_far.after l.task (drop l.want-index l.wants)) ≡ grant_all l.posses l.fn.counters l.task l.wants;
  counters : AreCounters l.so_far.after;
  numbers : l.so_far.after.next_lock ≤ l.fn.counters.next_lock + l.want-index;
  revoked : ascending l.so_far.revoked ≡ l.so_far.revoked;
}
