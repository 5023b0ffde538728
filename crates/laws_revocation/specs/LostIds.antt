-- Ids that were given and that no pending has: no command that keeps its form puts one in a segment or a publication; and those of the pendings that a lock has as it is revoked or ends are in none.
use Rattle.std.specs.Prelude.{◌++◌, ◌≡◌, List, Option, false, true, ℕ}
use Rattle.iv_span.specs.Extent.{Extent}
use Rattle.seg_names.specs.declared.seg_id.SegId.{SegId}
use Rattle.book_rows.specs.Answer.{book_after, changes, empty_book, next}
use Rattle.book_rows.specs.Form.{AllKeepForm, KeepsForm}
use Rattle.book_rows.specs.Lists.{In}
use Rattle.book_rows.specs.Sound.{Sound}
use Rattle.book_rows.specs.declared.commands.Command.{Command}
use Rattle.book_rows.specs.declared.commands.Command.TheVariants as Commands
use Rattle.book_rows.specs.declared.rows.Book.{Book}
use Rattle.book_rows.specs.declared.rows.PendingRow.{PendingRow}
use Rattle.book_rows.specs.declared.rows.Publication.{Publication}
use Rattle.book_rows.specs.declared.rows.Ranges.{Ranges}
use Rattle.book_rows.specs.declared.rows.SegmentRow.{SegmentRow}
use Rattle.laws_revocation.specs.GivenIds.{IsAnsweredByNone, is_given}
use Rattle.laws_revocation.specs.LockNumbers.{HasNumbers, IsOver}
use Rattle.laws_revocation.specs.LostLocks.{IsNotPending}

-- ---- publishes of the id change nothing

-- no append of the id changes the book
abbrev pub IsAppendedByNone : Book → SegId → Type 0
IsAppendedByNone b a = (task : List ℕ) (ids : List SegId) (ranges : Option Ranges) → In a ids → changes b (Commands.Append task ids ranges) ≡ false

-- nor does an insert or a replacement that keeps its form and has it among its ids or tombstones; the form of the two commands is the same
abbrev pub IsInsertedByNone : Book → SegId → Type 0
IsInsertedByNone b a = (task : List ℕ) (spans : List Extent) (ids tombs : List SegId) (ranges : Option Ranges) → In a (ids ++ tombs) → KeepsForm (Commands.Insert task spans ids tombs ranges)
    → (changes b (Commands.Insert task spans ids tombs ranges) ≡ false) × (changes b (Commands.Replace task spans ids tombs ranges) ≡ false)

-- also where it is a pending's still
abbrev pub GivenIdsAreInsertedByNone : Type 0
GivenIdsAreInsertedByNone = (b : Book) (a : SegId) → HasNumbers b → is_given b.chunks a ≡ true → IsInsertedByNone b a

-- ---- each row of the id was there before

-- the row was there, the same but for being used
abbrev pub WasRow : Book → SegmentRow → Type 0
WasRow b r = (was : SegmentRow) × In was b.segments × (r ≡ record was { used = r.used })

-- each row of the id, and each publication that lists it as an id or a tombstone, was there before
pub record HasNoMoreOf (a : SegId) (before after : Book) : Type 0 where
  pub rows : (r : SegmentRow) → In r after.segments → r.id ≡ a → WasRow before r
  pub publications : (m : Publication) → In m after.publications → In a (m.adds ++ m.empties) → In m before.publications

-- so it is after each command that keeps its form
abbrev pub IsPutByNone : Book → SegId → Type 0
IsPutByNone b a = (c : Command) → KeepsForm c → HasNoMoreOf a b (next b c)

abbrev pub GivenIdsArePutByNone : Type 0
GivenIdsArePutByNone = (b : Book) (a : SegId) → HasNumbers b → is_given b.chunks a ≡ true → IsNotPending b a → IsPutByNone b a

-- and after any such commands
abbrev pub GivenIdsArePutNoMore : Type 0
GivenIdsArePutNoMore = (b : Book) (cs : List Command) (a : SegId) → AllKeepForm cs → HasNumbers b → is_given b.chunks a ≡ true → IsNotPending b a → HasNoMoreOf a b (book_after b cs)

-- ---- the ids of a lock that is revoked or gone

-- the id is no pending's, nor is it allocated, appended, inserted or put in a replacement, and each row of it was there before
pub record IsLostId (b : Book) (a : SegId) : Type 0 where
  pub not_pending : IsNotPending b a
  pub not_answered : IsAnsweredByNone b a
  pub not_appended : IsAppendedByNone b a
  pub not_inserted : IsInsertedByNone b a
  pub not_put : IsPutByNone b a

-- so is the id of a pending of a sound book after any commands that keep their form, once its lock is revoked or gone
abbrev pub LostIdsAreLost : Type 0
LostIdsAreLost = (b : Book) (cs : List Command) (p : PendingRow) → Sound b → AllKeepForm cs → In p b.pendings → IsOver p.posse (book_after b cs) → IsLostId (book_after b cs) p.id

-- no segment has the id or is a copy of it, and no publication lists it
pub record IsNowhere (b : Book) (a : SegId) : Type 0 where
  pub rows : (r : SegmentRow) → In r b.segments → r.id ≡ a → ⊥
  pub copies : (r : SegmentRow) → In r b.segments → r.root ≡ a → ⊥
  pub publications : (m : Publication) → In m b.publications → In a (m.adds ++ m.empties) → ⊥

-- in a sound book, where a command revokes or ends a lock, the ids of the lock's pendings are nowhere after it and any further commands, all of which keep their form
abbrev pub LostPendingsAreNowhere : Type 0
LostPendingsAreNowhere = (b : Book) (c : Command) (cs : List Command) (p : PendingRow) → Sound b → KeepsForm c → AllKeepForm cs → In p b.pendings → IsOver p.posse (next b c) → IsNowhere (book_after (next b c) cs) p.id

-- from the book without rows on
abbrev pub ReachedLostPendingsAreNowhere : Type 0
ReachedLostPendingsAreNowhere = (before after : List Command) (c : Command) (p : PendingRow) → AllKeepForm before → KeepsForm c → AllKeepForm after → In p (book_after empty_book before).pendings → IsOver p.posse (next (book_after empty_book before) c)
    → IsNowhere (book_after (next (book_after empty_book before) c) after) p.id
