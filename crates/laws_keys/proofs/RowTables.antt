-- What is said of chunks, segments, publications, pendings and upgrade rows alone: where it stays for fewer pendings and upgrade rows, only allocations and publications matter.
use Rattle.std.proofs.Common.{Bool, List, [], filter, not, ℕ, ◌∷◌}
use Rattle.book_rows.specs.Answer.{next}
use Rattle.book_rows.specs.Form.{KeepsForm}
use Rattle.book_rows.specs.Lists.{stands_in}
use Rattle.book_rows.specs.Locks.{ends_at, left_lock, left_locks, locks_of}
use Rattle.book_rows.specs.Sound.{Sound}
use Rattle.book_rows.specs.declared.commands.Command.{Command}
use Rattle.book_rows.specs.declared.rows.Book.{Book}
use Rattle.book_rows.specs.declared.rows.ChunkRow.{ChunkRow}
use Rattle.book_rows.specs.declared.rows.PendingRow.{PendingRow}
use Rattle.book_rows.specs.declared.rows.Publication.{Publication}
use Rattle.book_rows.specs.declared.rows.SegmentRow.{SegmentRow}
use Rattle.book_rows.specs.declared.rows.UpgradeRow.{UpgradeRow}
use Rattle.laws_chunks.specs.ChunksSound.{AreChunksSound}
use Rattle.laws_chunks.proofs.EveryCommand.{every_command_keeps}
use Rattle.laws_chunks.proofs.LockSteps.{IsKeptByLocks}
use Rattle.laws_chunks.proofs.PublishSteps.{IsKeptByPublishing, every_command}
use Rattle.laws_chunks.proofs.SoundChunks.{sound_has_sound_chunks}
use Rattle.laws_locks.proofs.WholeShape.{shape_has_lock_shape}

-- something said of these tables
abbrev pub OfRows : Type 1
OfRows = List ChunkRow → List SegmentRow → List Publication → List PendingRow → List UpgradeRow → Type 0

abbrev pub of_book : OfRows → Book → Type 0
of_book F b = F b.chunks b.segments b.publications b.pendings b.upgrades

-- it stays where there are fewer pendings and upgrade rows
abbrev pub StaysForFewer : OfRows → Type 0
StaysForFewer F = (cs : List ChunkRow) (rows : List SegmentRow) (pubs : List Publication) (ps : List PendingRow) (us : List UpgradeRow) (p : PendingRow → Bool) (u : UpgradeRow → Bool) → F cs rows pubs ps us → F cs rows pubs (filter p ps) (filter u us)

module _ (F : OfRows) (fewer : StaysForFewer F) where
  left : (lock : ℕ) (task : List ℕ) (b : Book) → of_book F b → of_book F (left_lock lock task b)
  left lock task b h = fewer b.chunks b.segments b.publications b.pendings b.upgrades (λ p. not (ends_at lock task b.posses p.posse)) (λ u. not (ends_at lock task b.posses u.posse)) h

  left_each : (ns task : List ℕ) (b : Book) → of_book F b → of_book F (left_locks ns task b)
  left_each [] task b h = h
  left_each (n ∷ ns) task b h = left_each ns task (left_lock n task b) (left n task b h)

  kept_by_locks : IsKeptByLocks (of_book F)
  kept_by_locks = record {
    others = λ clock ts os ss us b h. h;
    left = left;
    left_all = λ task b h. left_each (locks_of task b.posses) task b h;
    joined = λ lock task b h. h;
    granted = λ b now t w g e h. fewer b.chunks b.segments b.publications b.pendings b.upgrades (λ p. not (stands_in g.revoked p.posse)) (λ u. not (stands_in g.revoked u.posse)) h;
    all_granted = λ b now t ws g e h. fewer b.chunks b.segments b.publications b.pendings b.upgrades (λ p. not (stands_in g.revoked p.posse)) (λ u. not (stands_in g.revoked u.posse)) h;
  }

  -- where it stays for each allocation and publication, it stays for each command
  pub rows_after : (b : Book) (c : Command) → KeepsForm c → of_book F b → IsKeptByPublishing (of_book F) b → of_book F (next b c)
  rows_after b c form h published = every_command (of_book F) kept_by_locks b h published c form

-- chunks stay sound
pub chunks_after : (b : Book) (c : Command) → KeepsForm c → Sound b → AreChunksSound (next b c)
chunks_after b c form s = every_command_keeps c b form (shape_has_lock_shape b s.shape) (sound_has_sound_chunks b s)
