-- Facts of lock numbers, locks, pendings and chunks, and what has to be shown of each so that every command keeps it.
use Rattle.std.proofs.Common.{◌≡◌, ℕ, ◌+◌, List, [], ◌∷◌, ◌++◌, map, Ok}
use Rattle.seg_names.specs.declared.seg_id.SegId.{SegId}
use Rattle.book_rows.specs.Allocation.{allotted_chunks, allotted_id, allotted_row}
use Rattle.book_rows.specs.Append.{without_roots}
use Rattle.book_rows.specs.Grant.{revoked_in}
use Rattle.book_rows.specs.Lists.{stands_in}
use Rattle.book_rows.specs.Locks.{after_leave, ends_at, stripped}
use Rattle.book_rows.specs.Over.{Inserting, Replacing, Target, check_over}
use Rattle.book_rows.specs.Publications.{Publish}
use Rattle.book_rows.specs.Rewrite.{after_insert, after_replace}
use Rattle.book_rows.specs.declared.answers.NewPending.{NewPending}
use Rattle.book_rows.specs.declared.commands.Command.{Command}
use Rattle.book_rows.specs.declared.commands.Command.TheVariants as Commands
use Rattle.book_rows.specs.declared.rows.Book.{Book}
use Rattle.book_rows.specs.declared.rows.ChunkRow.{ChunkRow}
use Rattle.book_rows.specs.declared.rows.PendingRow.{PendingRow}
use Rattle.book_rows.specs.declared.rows.PosseRow.{PosseRow}
use Rattle.book_rows.specs.declared.rows.TaskRow.{TaskRow}
use Rattle.laws_revocation.specs.LockNumbers.{HasValidLock}

-- of the number of the next lock, and of locks, pendings and chunks
abbrev pub Fact : Type 1
Fact = ℕ → List PosseRow → List PendingRow → List ChunkRow → Type 0

abbrev pub Of : Fact → Book → Type 0
Of fact b = fact b.next_lock b.posses b.pendings b.chunks

-- a lock with whatever members
abbrev pub with_members : (PosseRow → List (List ℕ)) → PosseRow → PosseRow
with_members ms q = record q { members = ms q }

-- each small change keeps the fact. A premise on the form of a command may be wanted where it inserts or replaces
pub record IsKept (Formed : Command → Type 0) (fact : Fact) : Type 0 where
  pub members : (ms : PosseRow → List (List ℕ)) (next : ℕ) (qs : List PosseRow) (ps : List PendingRow) (cs : List ChunkRow) → fact next qs ps cs → fact next (map (with_members ms) qs) ps cs
  pub revoked : (ns : List ℕ) (next : ℕ) (qs : List PosseRow) (ps : List PendingRow) (cs : List ChunkRow) → fact next qs ps cs → fact next (map (revoked_in ns) qs) (stripped (stands_in ns) ps) cs
  pub made : (q : PosseRow) (next : ℕ) (qs : List PosseRow) (ps : List PendingRow) (cs : List ChunkRow) → q.number ≡ next → fact next qs ps cs → fact (next + 1) (qs ++ q ∷ []) ps cs
  pub left : (n : ℕ) (task : List ℕ) (next : ℕ) (qs : List PosseRow) (ps : List PendingRow) (cs : List ChunkRow) → fact next qs ps cs → fact next (after_leave n task qs) (stripped (ends_at n task qs) ps) cs
  pub allotted : (n : NewPending) (next : ℕ) (qs : List PosseRow) (ps : List PendingRow) (cs : List ChunkRow) → HasValidLock qs n.posse → fact next qs ps cs
      → fact next qs (ps ++ allotted_row (allotted_id cs n) n ∷ []) (allotted_chunks (allotted_id cs n) cs)
  pub appended : (ids : List SegId) (next : ℕ) (qs : List PosseRow) (ps : List PendingRow) (cs : List ChunkRow) → fact next qs ps cs → fact next qs (without_roots ids ps) cs
  pub inserted : (b : Book) (t : TaskRow) (task : List ℕ) (given : Publish) (xs : List Target) → Formed (Commands.Insert task given.spans given.ids given.tombstones given.ranges)
      → check_over Inserting b given t ≡ Ok xs → Of fact b → Of fact (after_insert t given xs b)
  pub replaced : (b : Book) (t : TaskRow) (task : List ℕ) (given : Publish) (xs : List Target) → Formed (Commands.Replace task given.spans given.ids given.tombstones given.ranges)
      → check_over Replacing b given t ≡ Ok xs → Of fact b → Of fact (after_replace t given xs b)
