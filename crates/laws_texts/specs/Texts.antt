-- Answers have texts: each instant that a reply names is one of the years 0000 to 9999.
use Rattle.std.specs.Prelude.{◌≡◌, Bool, false, true}
use Rattle.std.specs.List.{list_all}
use Rattle.book_rows.specs.Answer.{answer}
use Rattle.book_rows.specs.Fits.{reply_fits}
use Rattle.book_rows.specs.Form.{KeepsForm}
use Rattle.book_rows.specs.Shape.{is_upgrade_row}
use Rattle.book_rows.specs.Sound.{Sound}
use Rattle.book_rows.specs.declared.commands.Command.{Command}
use Rattle.book_rows.specs.declared.commands.Command.TheVariants as Commands
use Rattle.book_rows.specs.declared.commands.What.{What}
use Rattle.book_rows.specs.declared.commands.What.TheVariants as Whats
use Rattle.book_rows.specs.declared.rows.Book.{Book}
use Rattle.laws_locks.specs.Commands.{HasPlaces}
use Rattle.laws_locks.specs.LockShape.{HasSoundLocks}

-- whatever command that keeps its form is asked of a sound book
abbrev pub AnswersHaveTexts : Type 0
AnswersHaveTexts = (b : Book) (c : Command) → KeepsForm c → Sound b → reply_fits (answer b c) ≡ true

-- ---- what of soundness it takes

-- tasks and locks are sound; ids of segments, pendings and upgrade rows are within their limits, and each pending has its root and a valid lock
pub record HasLimitedRows (b : Book) : Type 0 where
  pub locks : HasSoundLocks b
  pub places : HasPlaces b
  pub upgrades : list_all is_upgrade_row b.upgrades ≡ true

abbrev pub SoundHasLimitedRows : Type 0
SoundHasLimitedRows = (b : Book) → Sound b → HasLimitedRows b

abbrev pub LimitedRowsHaveTexts : Type 0
LimitedRowsHaveTexts = (b : Book) (c : Command) → KeepsForm c → HasLimitedRows b → reply_fits (answer b c) ≡ true

-- ---- commands whose answers name no id of a row

abbrev pub shows_ids : What → Bool
shows_ids Whats.Tasks = false
shows_ids Whats.Locks = false
shows_ids (Whats.Timeline source) = true
shows_ids (Whats.Contents source) = true
shows_ids (Whats.Offsets source) = false
shows_ids (Whats.Sequences source) = false

-- the answer may name an id, or a span, of a segment, a pending or an upgrade row
abbrev pub names_rows : Command → Bool
names_rows (Commands.Submit task group source kind priority locks) = false
names_rows (Commands.Manage now) = false
names_rows (Commands.Lock task lock_kind span now) = false
names_rows (Commands.Unlock task lock) = false
names_rows (Commands.Allocate task lock_kind sequence previous at granularity now) = true
names_rows (Commands.Append task ids ranges) = false
names_rows (Commands.Insert task spans ids tombstones ranges) = true
names_rows (Commands.Replace task spans ids tombstones ranges) = true
names_rows (Commands.End task status) = false
names_rows (Commands.Drop source span) = true
names_rows (Commands.Reset source stream offsets) = false
names_rows (Commands.Supervise source stream partitions task_count replicas task_duration completion_timeout) = false
names_rows (Commands.Tick now) = false
names_rows (Commands.Paused task offsets) = false
names_rows (Commands.Checkpoint task offsets) = false
names_rows (Commands.ToReplace task span) = true
names_rows (Commands.Show what) = shows_ids what

-- of these the tasks and locks are enough
abbrev pub SoundLocksHaveTexts : Type 0
SoundLocksHaveTexts = (b : Book) (c : Command) → KeepsForm c → names_rows c ≡ false → HasSoundLocks b → reply_fits (answer b c) ≡ true
