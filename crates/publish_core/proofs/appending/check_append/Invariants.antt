use Rattle.std.proofs.Common.{drop, find, not, ◌≡◌}
use Rattle.std.specs.Option.{ForSome}
use Rattle.book_rows.specs.Append.{is_allocated}
use Rattle.publish_core.specs.Memberships.{IsTold}
use Rattle.publish_core.proofs.appending.check_append.Given as goal

-- the first that isn't allocated is still to come, and what is told of a lock is right
abbrev pub invariant-loop-id : goal.invariant-loop-id
invariant-loop-id l = record {
  first : find (λ a. not (is_allocated l.posses l.pendings.pendings l.task.task a)) (drop l.id-index l.ids) ≡ find (λ a. not (is_allocated l.posses l.pendings.pendings l.task.task a)) l.ids;
  told : ForSome l.told (IsTold l.posses l.task.task);
}
