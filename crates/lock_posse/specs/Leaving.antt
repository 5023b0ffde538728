-- A task that leaves all its locks, one after another.
use Rattle.std.specs.Prelude.{◌&&◌, ◌∷◌, Bool, List, [], bytes_eq, cond, filter, map, not, ℕ}
use Rattle.book_rows.specs.Lists.{is_empty}
use Rattle.book_rows.specs.Locks.{after_leave, ends, is_member}
use Rattle.book_rows.specs.declared.rows.PosseRow.{PosseRow}

-- the locks after the task has left these, in turn
abbrev pub left_rows : List ℕ → List ℕ → List PosseRow → List PosseRow
left_rows [] task ps = ps
left_rows (n ∷ ns) task ps = left_rows ns task (after_leave n task ps)

-- which of these end as the task leaves them, in turn
abbrev pub ended_of : List ℕ → List ℕ → List PosseRow → List ℕ
ended_of [] task ps = []
ended_of (n ∷ ns) task ps = cond (ends n task ps) (n ∷ ended_of ns task (after_leave n task ps)) (ended_of ns task (after_leave n task ps))

-- ---- the same, lock by lock

-- the lock without the task
abbrev pub left_by : List ℕ → PosseRow → PosseRow
left_by task p = record p { members = filter (λ m. not (bytes_eq m task)) p.members }

-- the task is a member, and no other task is
abbrev pub is_last : List ℕ → PosseRow → Bool
is_last task p = is_member task p && is_empty (left_by task p).members

abbrev pub numbers_last : List ℕ → List PosseRow → List ℕ
numbers_last task ps = map (λ p. p.number) (filter (is_last task) ps)
