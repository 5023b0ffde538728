-- What is kept of a lock while ids are checked.
use Rattle.std.specs.Prelude.{◌≡◌, List, ℕ}
use Rattle.book_rows.specs.Locks.{is_member_of, posse_of}
use Rattle.book_rows.specs.declared.rows.PosseRow.{PosseRow}
use Rattle.publish_core.specs.declared.memberships.Membership.{Membership}

-- whether the task is a member of the lock
abbrev pub IsTold : List PosseRow → List ℕ → Membership → Type 0
IsTold qs task m = m.is_member ≡ is_member_of (posse_of m.lock qs) task
