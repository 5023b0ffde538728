-- Locks, which are the posses: which may be valid at once, and what a change makes of a list of them.
use Rattle.std.specs.Prelude.{◌&&◌, ◌++◌, ◌==◌, ◌||◌, ◌∷◌, ◌≡◌, Bool, List, None, Option, Some, [], bytes_eq, cond, false, filter, find, fold, map, nat_lt, not, ℕ}
use Rattle.std.specs.List.{list_any}
use Rattle.iv_span.specs.Extent.{Extent, covers, overlap}
use Rattle.book_rows.specs.Kinds.{go_together, same_kind}
use Rattle.book_rows.specs.Lists.{Pairs, is_empty}
use Rattle.book_rows.specs.declared.answers.Clear.{Clear}
use Rattle.book_rows.specs.declared.kinds.LockKind.{LockKind}
use Rattle.book_rows.specs.declared.rows.Book.{Book}
use Rattle.book_rows.specs.declared.rows.PendingRow.{PendingRow}
use Rattle.book_rows.specs.declared.rows.PosseRow.{PosseRow}
use Rattle.book_rows.specs.declared.rows.UpgradeRow.{UpgradeRow}
use Rattle.book_rows.specs.declared.answers.Clear.TheVariants as Clears
use Rattle.book_rows.specs.declared.kinds.LockKind.TheVariants as LockKinds

-- a lock is valid where it isn't revoked
abbrev pub is_valid : PosseRow → Bool
is_valid p = not p.revoked

-- two locks may be valid at once
abbrev pub compatible : PosseRow → PosseRow → Bool
compatible p q = not (bytes_eq p.source q.source) || go_together p.lock_kind p.span q.lock_kind q.span

abbrev pub is_member : List ℕ → PosseRow → Bool
is_member task p = list_any (λ m. bytes_eq m task) p.members

-- a valid lock of this source whose span overlaps this one
abbrev pub is_valid_over : List ℕ → Extent → PosseRow → Bool
is_valid_over source span p = not p.revoked && bytes_eq p.source source && overlap p.span span

-- a valid replacing lock of this source whose span contains this one
abbrev pub is_replacing : List ℕ → Extent → PosseRow → Bool
is_replacing source span p = not p.revoked && bytes_eq p.source source && same_kind p.lock_kind LockKinds.Replace && covers p.span span

-- ---- look-ups

-- the one of the lower number, and the earlier of two that have one number
abbrev pub better : Option PosseRow → PosseRow → PosseRow
better None p = p
better (Some q) p = cond (nat_lt p.number q.number) p q

abbrev pub least_step : (PosseRow → Bool) → Option PosseRow → PosseRow → Option PosseRow
least_step test best p = cond (test p) (Some (better best p)) best

-- the lock of the least number among those that pass
abbrev pub least : (PosseRow → Bool) → List PosseRow → Option PosseRow
least test ps = fold (least_step test) None ps

-- a revoked lock of which the task is a member, and whose span overlaps this one
abbrev pub is_lost : List ℕ → List ℕ → Extent → PosseRow → Bool
is_lost task source span p = p.revoked && bytes_eq p.source source && overlap p.span span && is_member task p

-- a valid lock of the kind of which the task is a member, and whose span contains this one
abbrev pub is_held : List ℕ → List ℕ → Extent → LockKind → PosseRow → Bool
is_held task source span kind p = not p.revoked && bytes_eq p.source source && same_kind p.lock_kind kind && covers p.span span && is_member task p

abbrev pub clear_by : Option PosseRow → Option PosseRow → Clear
clear_by (Some lost) held = Clears.Revoked lost.number
clear_by None (Some held) = Clears.Held held.number
clear_by None None = Clears.Missing

-- whether the task may publish in the span: it lost a lock there, or it holds one that contains it, or neither
abbrev pub clear : List PosseRow → List ℕ → List ℕ → Extent → LockKind → Clear
clear ps task source span kind = clear_by (least (is_lost task source span) ps) (least (is_held task source span kind) ps)

-- the lock of this number
abbrev pub posse_of : ℕ → List PosseRow → Option PosseRow
posse_of number ps = find (λ p. p.number == number) ps

-- the lock is there, with the task as a member
abbrev pub is_member_of : Option PosseRow → List ℕ → Bool
is_member_of None task = false
is_member_of (Some p) task = is_member task p

-- the numbers of the locks of which the task is a member, valid or revoked
abbrev pub locks_of : List ℕ → List PosseRow → List ℕ
locks_of task ps = map (λ p. p.number) (filter (is_member task) ps)

-- ---- changes

-- a task joins the lock of this number
abbrev pub joined : ℕ → List ℕ → PosseRow → PosseRow
joined number task p = record p { members = cond (p.number == number) (p.members ++ task ∷ []) p.members }

-- the lock of this number is revoked
abbrev pub revoked_at : ℕ → PosseRow → PosseRow
revoked_at number p = record p { revoked = p.revoked || (p.number == number) }

-- a task leaves the lock of this number
abbrev pub left : ℕ → List ℕ → PosseRow → PosseRow
left number task p = record p { members = cond (p.number == number) (filter (λ m. not (bytes_eq m task)) p.members) p.members }

-- a lock of this number without members goes
abbrev pub stays : ℕ → PosseRow → Bool
stays number p = not ((p.number == number) && is_empty p.members)

-- whether the lock ends when the task leaves it
abbrev pub ends : ℕ → List ℕ → List PosseRow → Bool
ends number task ps = list_any (λ p. (p.number == number) && is_empty p.members) (map (left number task) ps)

abbrev pub after_leave : ℕ → List ℕ → List PosseRow → List PosseRow
after_leave number task ps = filter (stays number) (map (left number task) ps)

abbrev pub same_number : PosseRow → PosseRow → Bool
same_number p q = p.number == q.number

-- no two locks have one number
abbrev pub HasDistinctNumbers : List PosseRow → Type 0
HasDistinctNumbers ps = Pairs (λ p q. same_number p q ≡ false) ps

-- ---- what goes with a lock that is revoked or ends: its pendings and its upgrade rows

abbrev pub stripped : (ℕ → Bool) → List PendingRow → List PendingRow
stripped gone ps = filter (λ p. not (gone p.posse)) ps

abbrev pub stripped_upgrades : (ℕ → Bool) → List UpgradeRow → List UpgradeRow
stripped_upgrades gone us = filter (λ u. not (gone u.posse)) us

-- the number is that of the lock that ends
abbrev pub ends_at : ℕ → List ℕ → List PosseRow → ℕ → Bool
ends_at number task ps n = (n == number) && ends number task ps

-- the book after a task has left a lock, which ends where it was the last member
abbrev pub left_lock : ℕ → List ℕ → Book → Book
left_lock number task b = record b {
  posses = after_leave number task b.posses;
  pendings = stripped (ends_at number task b.posses) b.pendings;
  upgrades = stripped_upgrades (ends_at number task b.posses) b.upgrades;
}

abbrev pub left_locks : List ℕ → List ℕ → Book → Book
left_locks [] task b = b
left_locks (n ∷ ns) task b = left_locks ns task (left_lock n task b)

-- the book after a task has left all its locks
abbrev pub left_all_locks : List ℕ → Book → Book
left_all_locks task b = left_locks (locks_of task b.posses) task b
