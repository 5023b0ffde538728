-- Worked cases of the laws on places, chunks and pendings, on the books of the day.
use Rattle.std.specs.Prelude.{◌++◌, ◌∷◌, ◌≡◌, List, None, Ok, Some, [], codes, pos, ℕ}
use Rattle.iv_span.specs.Extent.{Extent}
use Rattle.iv_time.specs.declared.granularity.Granularity.TheVariants as Granularities
use Rattle.seg_names.specs.declared.seg_id.SegId.{SegId}
use Rattle.book_rows.specs.Allocation.{allotted, place}
use Rattle.book_rows.specs.Grant.{book_granted, counters_at, grant_lock}
use Rattle.book_rows.specs.LockSteps.{IdRequest, pending_for}
use Rattle.book_rows.specs.declared.answers.GrantedLock.{GrantedLock}
use Rattle.book_rows.specs.declared.answers.NewPending.{NewPending}
use Rattle.book_rows.specs.declared.answers.Place.{Place}
use Rattle.book_rows.specs.declared.commands.Command.{Command}
use Rattle.book_rows.specs.declared.commands.Command.TheVariants as Commands
use Rattle.book_rows.specs.declared.kinds.LockKind.TheVariants as LockKinds
use Rattle.book_rows.specs.declared.rows.Book.{Book}
use Rattle.book_rows.specs.declared.rows.ChunkRow.{ChunkRow}
use Rattle.book_rows.specs.declared.rows.PendingRow.{PendingRow}
use Rattle.laws_chunks.specs.Allotments.{IsNewPending}
use Rattle.cases_locks.specs.Day.{first_pending, hour, hour_id, locked, pending_row, source, writer}
use Rattle.scenes.specs.Script.{after, now}
use Rattle.scenes.specs.Publishing.{used_row}
use Rattle.scenes.specs.Rows.{p_row}
use Rattle.cases_locks.specs.LockCases.{AreBothSound, third_hour, third_lock, under}
use Rattle.laws_chunks.specs.LockMoves.{granted, joined_locks, revoked}
use Rattle.laws_chunks.specs.Openings.{IsAllotment, IsChunk, chunk_made, root_allotted}
use Rattle.laws_chunks.specs.Places.{IsBare, IsBucket, IsOpenIn, IsUncut}

-- ---- the next part of the hour is open in each of three ways

-- the pendings go with their lock, and the hour is locked anew: its chunk is there, and nothing live meets it
abbrev pub relocked : List Command
relocked = locked ++ Commands.Unlock writer 1 ∷ Commands.Lock writer LockKinds.Append hour now ∷ []

-- in the chunk of the used row, of a pending where no row is, and of a lock's version where nothing is
pub record PlacesAreOpen : Type 0 where
  pub by_row : IsUncut under (used_row (hour_id 0) (hour_id 0) 0)
  pub row_open : IsOpenIn under (hour_id 2)
  pub by_pending : IsBare (after locked) first_pending (pos 0)
  pub pending_open : IsOpenIn (after locked) (hour_id 2)
  pub by_bucket : IsBucket (after relocked) (hour_id 2)
  pub bucket_open : IsOpenIn (after relocked) (hour_id 2)

-- the place by the used row stays open where both locks are revoked and the pending in its chunk goes, where a task joins, and where another lock is granted
pub record PlacesStayOpen : Type 0 where
  pub no_pending : (revoked (1 ∷ 2 ∷ []) under).pendings ≡ []
  pub after_revoking : IsOpenIn (revoked (1 ∷ 2 ∷ []) under) (hour_id 2)
  pub after_joining : IsOpenIn (joined_locks (1 ∷ []) (codes "x") under) (hour_id 2)
  pub after_granting : IsOpenIn (granted third_lock now under) (hour_id 2)

-- ---- a chunk and pendings come

abbrev pub chunk_row : Extent → ℕ → ChunkRow
chunk_row span next = record { source = source; span = span; version = pos 0; core = 0; next = next }

-- a third id of the hour, of the sequence `u`
abbrev pub new_row : PendingRow
new_row = record { id = hour_id 2; root = hour_id 2; posse = 1; sequence = codes "u"; previous = None }

abbrev pub new_in_hour : NewPending
new_in_hour = record { source = source; span = hour; version = pos 0; posse = 1; sequence = codes "u"; previous = None }

-- a first id of the third hour, where no chunk is
abbrev pub new_in_third : NewPending
new_in_third = record { source = source; span = third_hour; version = pos 0; posse = 3; sequence = codes "u"; previous = None }

abbrev pub third_id : SegId
third_id = record { source = source; span = third_hour; version = pos 0; part = 0 }

abbrev pub third_row : PendingRow
third_row = record { id = third_id; root = third_id; posse = 3; sequence = codes "u"; previous = None }

-- the book under the lock, with a third lock
abbrev pub with_third : Book
with_third = granted third_lock now under

pub record IdsAreAllotted : Type 0 where
  pub is_chunk : IsChunk under (chunk_row third_hour 0)
  pub made : AreBothSound under (chunk_made (chunk_row third_hour 0) under)
  pub made_chunks : (chunk_made (chunk_row third_hour 0) under).chunks ≡ chunk_row hour 2 ∷ chunk_row third_hour 0 ∷ []
  pub is_allotment : IsAllotment under new_row
  pub with_root : AreBothSound under (root_allotted new_row under)
  pub root_chunks : (root_allotted new_row under).chunks ≡ chunk_row hour 3 ∷ []
  pub root_pendings : (root_allotted new_row under).pendings ≡ pending_row (hour_id 1) (hour_id 1) ∷ new_row ∷ []
  pub is_new : IsNewPending under new_in_hour
  pub with_new : AreBothSound under (allotted new_in_hour under)
  pub new_pendings : (allotted new_in_hour under).pendings ≡ pending_row (hour_id 1) (hour_id 1) ∷ new_row ∷ []
  pub is_first : IsNewPending with_third new_in_third
  pub with_first : AreBothSound with_third (allotted new_in_third with_third)
  pub first_chunks : (allotted new_in_third with_third).chunks ≡ chunk_row hour 2 ∷ chunk_row third_hour 1 ∷ []
  pub first_pendings : (allotted new_in_third with_third).pendings ≡ pending_row (hour_id 1) (hour_id 1) ∷ third_row ∷ []

-- ---- a whole allocation: its place is that of the used row, and its lock is the writer's own

abbrev pub hour_place : Place
hour_place = record { span = hour; version = Some (pos 0) }

-- the writer asks for the next id of the sequence `u`
abbrev pub asked_hour : IdRequest
asked_hour = record { lock_kind = LockKinds.Append; sequence = codes "u"; previous = None; at = pos 0; granularity = Granularities.Hour; now = now }

abbrev pub own_lock : GrantedLock
own_lock = record {
  number = 1;
  span = hour;
  version = pos 0;
  granted = record { locks = 1 ∷ []; joins = []; rows = []; revoked = []; after = record { clock = now; last = now; next_lock = 3; since = 1 } };
}

abbrev pub allocated_under : Book
allocated_under = allotted (pending_for p_row asked_hour hour_place own_lock) (book_granted under writer own_lock.granted)

pub record AnIdIsAllocated : Type 0 where
  pub not_replacing : LockKinds.Append ≡ LockKinds.Replace → ⊥
  pub place_is : place under.segments under.pendings source (pos 0) Granularities.Hour ≡ Ok hour_place
  pub lock_is : grant_lock under.posses (counters_at under now) p_row (record { lock_kind = LockKinds.Append; span = hour }) ≡ Ok own_lock
  pub both : AreBothSound under allocated_under
  pub pendings_are : allocated_under.pendings ≡ pending_row (hour_id 1) (hour_id 1) ∷ new_row ∷ []
