-- Every command keeps the tasks and locks of a sound book.
use Rattle.std.proofs.Common.{refl}
use Rattle.book_rows.specs.Answer.{next}
use Rattle.book_rows.specs.Form.{KeepsForm}
use Rattle.book_rows.specs.Sound.{Sound}
use Rattle.book_rows.specs.declared.commands.Command.{Command}
use Rattle.book_rows.specs.declared.commands.Command.TheVariants as Commands
use Rattle.book_rows.specs.declared.rows.Book.{Book}
use Rattle.laws_locks.specs.LockShape.{HasSoundLocks}
use Rattle.laws_locks.proofs.Allocating.{allocate_keeps_locks}
use Rattle.laws_locks.proofs.Reaching.{next_sound}
use Rattle.laws_locks.proofs.WholeShape.{shape_has_lock_shape}
use Rattle.laws_sequences.proofs.TickedIds.{sound_has_own_ids, tick_keeps_sound_locks}

pub locks_of : (b : Book) → Sound b → HasSoundLocks b
locks_of b s = (shape_has_lock_shape b s.shape, s.compatible_locks)

pub locks_stay : (b : Book) (c : Command) → KeepsForm c → Sound b → HasSoundLocks (next b c)
locks_stay b (Commands.Submit task group source kind priority locks) form s = next_sound b (Commands.Submit task group source kind priority locks) refl form (locks_of b s)
locks_stay b (Commands.Manage now) form s = next_sound b (Commands.Manage now) refl form (locks_of b s)
locks_stay b (Commands.Lock task kind span now) form s = next_sound b (Commands.Lock task kind span now) refl form (locks_of b s)
locks_stay b (Commands.Unlock task lock) form s = next_sound b (Commands.Unlock task lock) refl form (locks_of b s)
locks_stay b (Commands.Allocate task kind sequence previous at granularity now) form s =
    allocate_keeps_locks task kind sequence previous at granularity now b form (record { segments = s.shape.limits.segments; pendings = s.shape.limits.pendings; rooted = s.rooted }) (locks_of b s)
locks_stay b (Commands.Append task ids ranges) form s = next_sound b (Commands.Append task ids ranges) refl form (locks_of b s)
locks_stay b (Commands.Insert task spans ids tombstones ranges) form s = next_sound b (Commands.Insert task spans ids tombstones ranges) refl form (locks_of b s)
locks_stay b (Commands.Replace task spans ids tombstones ranges) form s = next_sound b (Commands.Replace task spans ids tombstones ranges) refl form (locks_of b s)
locks_stay b (Commands.End task status) form s = next_sound b (Commands.End task status) refl form (locks_of b s)
locks_stay b (Commands.Drop source span) form s = next_sound b (Commands.Drop source span) refl form (locks_of b s)
locks_stay b (Commands.Reset source stream offsets) form s = next_sound b (Commands.Reset source stream offsets) refl form (locks_of b s)
locks_stay b (Commands.Supervise source stream partitions task_count replicas task_duration completion_timeout) form s =
    next_sound b (Commands.Supervise source stream partitions task_count replicas task_duration completion_timeout) refl form (locks_of b s)
locks_stay b (Commands.Tick now) form s = tick_keeps_sound_locks now b form (sound_has_own_ids b s) (locks_of b s)
locks_stay b (Commands.Paused task offsets) form s = next_sound b (Commands.Paused task offsets) refl form (locks_of b s)
locks_stay b (Commands.Checkpoint task offsets) form s = next_sound b (Commands.Checkpoint task offsets) refl form (locks_of b s)
locks_stay b (Commands.ToReplace task span) form s = next_sound b (Commands.ToReplace task span) refl form (locks_of b s)
locks_stay b (Commands.Show what) form s = next_sound b (Commands.Show what) refl form (locks_of b s)
