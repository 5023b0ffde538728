-- An id is allocated: a root pending with the next part of its chunk, whose row comes with it where it isn't there yet.
use Rattle.std.specs.Prelude.{◌≡◌, ◌⊎◌, Ok, false, int_lt, true}
use Rattle.iv_span.specs.Extent.{covers, overlap}
use Rattle.seg_names.specs.declared.seg_id.SegId.{SegId}
use Rattle.book_rows.specs.Allocation.{allotted, place}
use Rattle.book_rows.specs.Grant.{book_granted, counters_at, grant_lock}
use Rattle.book_rows.specs.Live.{IsLive, IsValid}
use Rattle.book_rows.specs.LockSteps.{IdRequest, pending_for}
use Rattle.book_rows.specs.declared.answers.GrantedLock.{GrantedLock}
use Rattle.book_rows.specs.declared.answers.NewPending.{NewPending}
use Rattle.book_rows.specs.declared.answers.Place.{Place}
use Rattle.book_rows.specs.declared.rows.Book.{Book}
use Rattle.book_rows.specs.declared.rows.PosseRow.{PosseRow}
use Rattle.book_rows.specs.declared.rows.TaskRow.{TaskRow}
use Rattle.book_rows.specs.declared.kinds.LockKind.TheVariants as LockKinds
use Rattle.laws_chunks.specs.ChunksSound.{AreChunksSound}
use Rattle.laws_chunks.specs.Places.{IsOpenIn}

-- an id of the pending's chunk
abbrev pub id_in : NewPending → SegId
id_in n = record { source = n.source; span = n.span; version = n.version; part = 0 }

-- a valid lock, not a replacing one, of the pending's number and source, that contains its span
pub record HasLock (b : Book) (n : NewPending) : Type 0 where
  pub lock : PosseRow
  pub is_valid : IsValid b.posses lock
  pub number_is : lock.number ≡ n.posse
  pub kind_is : lock.lock_kind ≡ LockKinds.Replace → ⊥
  pub source_is : lock.source ≡ n.source
  pub within : covers lock.span n.span ≡ true

-- a span, not an empty one, that no live chunk meets, under the lock of the pending's version
pub record IsUnmet (b : Book) (n : NewPending) (q : PosseRow) : Type 0 where
  pub version_is : n.version ≡ q.version
  pub proper : int_lt n.span.start n.span.end ≡ true
  pub empty : (x : SegId) → IsLive b.segments b.pendings x → x.source ≡ n.source → overlap x.span n.span ≡ false

pub record IsNewPending (b : Book) (n : NewPending) : Type 0 where
  pub has_lock : HasLock b n
  pub at : IsOpenIn b (id_in n) ⊎ IsUnmet b n has_lock.lock

abbrev pub AllottedKeeps : Type 0
AllottedKeeps = (n : NewPending) (b : Book) → IsNewPending b n → AreChunksSound b → AreChunksSound (allotted n b)

-- the place is found on the book before, and then the lock on its span is granted
abbrev pub AllocatedKeeps : Type 0
AllocatedKeeps = (b : Book) (r : IdRequest) (t : TaskRow) (x : Place) (l : GrantedLock)
    → (r.lock_kind ≡ LockKinds.Replace → ⊥) → place b.segments b.pendings t.source r.at r.granularity ≡ Ok x → grant_lock b.posses (counters_at b r.now) t (record { lock_kind = r.lock_kind; span = x.span }) ≡ Ok l → AreChunksSound b
    → AreChunksSound (allotted (pending_for t r x l) (book_granted b t.task l.granted))
