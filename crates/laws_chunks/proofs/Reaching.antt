-- The books of the worked cases: their locks and their chunks are sound, command by command.
use Rattle.std.proofs.Common.{List, [], true, ◌∷◌, ◌≡◌}
use Rattle.std.specs.List.{list_all}
use Rattle.book_rows.specs.Answer.{book_after, empty_book, next}
use Rattle.book_rows.specs.Form.{KeepsForm}
use Rattle.book_rows.specs.Shape.{is_pending_row, is_segment_row}
use Rattle.book_rows.specs.declared.commands.Command.{Command}
use Rattle.book_rows.specs.declared.commands.Command.TheVariants as Commands
use Rattle.book_rows.specs.declared.rows.Book.{Book}
use Rattle.book_rows.proofs.EmptySound.{empty_is_sound}
use Rattle.laws_locks.specs.LockShape.{HasSoundLocks}
use Rattle.laws_locks.proofs.Allocating.{allocate_keeps_locks}
use Rattle.laws_locks.proofs.Reaching.{empty_sound, is_of_locks, next_sound}
use Rattle.laws_chunks.specs.ChunksSound.{AreChunksSound}
use Rattle.laws_chunks.proofs.EveryCommand.{every_command_keeps}
use Rattle.laws_chunks.proofs.SoundChunks.{sound_has_sound_chunks}

pub record IsReached (b : Book) : Type 0 where
  pub locks : HasSoundLocks b
  pub chunks : AreChunksSound b

-- what is computed of a step: that it keeps its form and isn't a tick, and, where it allocates an id, that the ids that are there are within their limits
abbrev pub IsComputed : Book → Command → Type 0
IsComputed b (Commands.Allocate task lock_kind sequence previous at granularity now) = (list_all is_segment_row b.segments ≡ true) × (list_all is_pending_row b.pendings ≡ true)
IsComputed b c = is_of_locks c ≡ true

abbrev pub AreComputed : Book → List Command → Type 0
AreComputed b [] = Unit {0}
AreComputed b (c ∷ cs) = KeepsForm c × IsComputed b c × AreComputed (next b c) cs

locks_stay : (b : Book) (c : Command) → KeepsForm c → IsComputed b c → IsReached b → HasSoundLocks (next b c)
locks_stay b (Commands.Allocate task lock_kind sequence previous at granularity now) form is h =
    allocate_keeps_locks task lock_kind sequence previous at granularity now b form (record { segments = is.0; pendings = is.1; rooted = h.chunks.rooted }) h.locks
locks_stay b c form is h = next_sound b c is form h.locks

pub reached_on : (cs : List Command) (b : Book) → AreComputed b cs → IsReached b → IsReached (book_after b cs)
reached_on [] b are h = h
reached_on (c ∷ cs) b are h = reached_on cs (next b c) are.2 (record { locks = locks_stay b c are.0 are.1 h; chunks = every_command_keeps c b are.0 h.locks.0 h.chunks })

pub reached : (cs : List Command) → AreComputed empty_book cs → IsReached (book_after empty_book cs)
reached cs are = reached_on cs empty_book are (record { locks = empty_sound; chunks = sound_has_sound_chunks empty_book empty_is_sound })
