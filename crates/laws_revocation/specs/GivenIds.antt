-- Ids are given once: the next part of a chunk never falls, and a chunk's row never goes.
use Rattle.std.specs.Prelude.{◌≡◌, ◌≤◌, ◌⊎◌, Bool, List, Option, false, nat_lt, true, ℕ, ℤ}
use Rattle.iv_time.specs.declared.granularity.Granularity.{Granularity}
use Rattle.seg_names.specs.declared.seg_id.SegId.{SegId}
use Rattle.book_rows.specs.Allocation.{chunk_of, next_of}
use Rattle.book_rows.specs.Answer.{answer, book_after, empty_book, next}
use Rattle.book_rows.specs.Form.{AllKeepForm}
use Rattle.book_rows.specs.Lists.{In}
use Rattle.book_rows.specs.Sound.{Sound}
use Rattle.book_rows.specs.declared.commands.Command.{Command}
use Rattle.book_rows.specs.declared.commands.Command.TheVariants as Commands
use Rattle.book_rows.specs.declared.kinds.LockKind.{LockKind}
use Rattle.book_rows.specs.declared.replies.Reply.TheVariants as Replies
use Rattle.book_rows.specs.declared.rows.Book.{Book}
use Rattle.book_rows.specs.declared.rows.ChunkRow.{ChunkRow}
use Rattle.book_rows.specs.declared.rows.PendingRow.{PendingRow}
use Rattle.laws_chunks.specs.ChunksSound.{HaveDistinctIds}
use Rattle.laws_revocation.specs.LockNumbers.{HasNumbers}
use Rattle.laws_revocation.specs.LostLocks.{IsNotPending}

-- ---- chunks

-- the second is the first, later: its next part isn't less
pub record IsLaterChunk (c d : ChunkRow) : Type 0 where
  pub source_is : c.source ≡ d.source
  pub span_is : c.span ≡ d.span
  pub version_is : c.version ≡ d.version
  pub core_is : c.core ≡ d.core
  pub grows : c.next ≤ d.next

-- after any commands each chunk row is there, later
abbrev pub ChunksGoOn : Type 0
ChunksGoOn = (b : Book) (cs : List Command) (c : ChunkRow) → In c b.chunks → (d : ChunkRow) × In d (book_after b cs).chunks × IsLaterChunk c d

-- the next part of the id's chunk: 0 where the chunk isn't there
abbrev pub next_part : List ChunkRow → SegId → ℕ
next_part cs a = next_of (chunk_of a cs)

-- after any commands it isn't less
abbrev pub NextPartsGrow : Type 0
NextPartsGrow = (b : Book) (cs : List Command) (a : SegId) → next_part b.chunks a ≤ next_part (book_after b cs).chunks a

-- ---- ids that were given

-- an id was given where the next part of its chunk is above its own
abbrev pub is_given : List ChunkRow → SegId → Bool
is_given cs a = nat_lt a.part (next_part cs a)

abbrev pub GivenStays : Type 0
GivenStays = (b : Book) (cs : List Command) (a : SegId) → is_given b.chunks a ≡ true → is_given (book_after b cs).chunks a ≡ true

-- each pending's id was given, and no two pendings have one id
pub record AreGiven (cs : List ChunkRow) (ps : List PendingRow) : Type 0 where
  pub given : (p : PendingRow) → In p ps → is_given cs p.id ≡ true
  pub distinct : HaveDistinctIds ps

abbrev pub HasGivenPendings : Book → Type 0
HasGivenPendings b = AreGiven b.chunks b.pendings

abbrev pub SoundHasGivenPendings : Type 0
SoundHasGivenPendings = (b : Book) → Sound b → HasGivenPendings b

abbrev pub GivenPendingsStay : Type 0
GivenPendingsStay = (b : Book) (cs : List Command) → AllKeepForm cs → HasNumbers b → HasGivenPendings b → HasGivenPendings (book_after b cs)

-- of any commands that keep their form
abbrev pub ReachedHasGivenPendings : Type 0
ReachedHasGivenPendings = (cs : List Command) → AllKeepForm cs → HasGivenPendings (book_after empty_book cs)

-- a pending whose id was given before some commands was a pending before them
abbrev pub GivenIdsComeNoMore : Type 0
GivenIdsComeNoMore = (b : Book) (cs : List Command) (p : PendingRow) → AllKeepForm cs → HasNumbers b → is_given b.chunks p.id ≡ true → In p (book_after b cs).pendings → In p b.pendings

-- ---- allocate

-- the id and the lock that allocate answers are those of a pending after it: one that was there before, or one whose id wasn't given before
pub record IsAnswered (before after : Book) (a : SegId) (n : ℕ) : Type 0 where
  pub pending : PendingRow
  pub among : In pending after.pendings
  pub id_is : pending.id ≡ a
  pub posse_is : pending.posse ≡ n
  pub was : In pending before.pendings ⊎ (is_given before.chunks a ≡ false)

abbrev pub AllocateAnswers : Type 0
AllocateAnswers = (b : Book) (task : List ℕ) (kind : LockKind) (sequence : List ℕ) (previous : Option SegId) (at : ℤ) (granularity : Granularity) (now : ℤ) (a : SegId) (n : ℕ) (revoked : List ℕ)
    → answer b (Commands.Allocate task kind sequence previous at granularity now) ≡ Replies.Allocate a n revoked → IsAnswered b (next b (Commands.Allocate task kind sequence previous at granularity now)) a n

-- no allocate answers the id in the book
abbrev pub IsAnsweredByNone : Book → SegId → Type 0
IsAnsweredByNone b a = (task : List ℕ) (kind : LockKind) (sequence : List ℕ) (previous : Option SegId) (at : ℤ) (granularity : Granularity) (now : ℤ) (n : ℕ) (revoked : List ℕ)
    → answer b (Commands.Allocate task kind sequence previous at granularity now) ≡ Replies.Allocate a n revoked → ⊥

-- an id that was given, and that no pending has any more, is no pending's again and is answered by no allocate, after any commands that keep their form
abbrev pub AllocatedOnce : Type 0
AllocatedOnce = (b : Book) (cs : List Command) (a : SegId) → AllKeepForm cs → HasNumbers b → is_given b.chunks a ≡ true → IsNotPending b a → IsNotPending (book_after b cs) a × IsAnsweredByNone (book_after b cs) a
