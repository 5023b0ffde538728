-- The books of the worked cases are reached: their locks and their chunks are sound.
use Rattle.std.proofs.Common.{[], refl, ◌∷◌}
use Rattle.std.specs.Prelude.{None, codes, pos}
use Rattle.std.specs.Str.{chars, is_utf8}
use lib.Utf8.{encode}
use Rattle.iv_time.specs.declared.granularity.Granularity.TheVariants as Granularities
use Rattle.book_rows.specs.declared.commands.Command.TheVariants as Commands
use Rattle.book_rows.specs.declared.kinds.LockKind.TheVariants as LockKinds
use Rattle.book_rows.specs.declared.kinds.TaskKind.TheVariants as TaskKinds
use Rattle.book_rows.specs.declared.kinds.TaskStatus.TheVariants as Statuses
use Rattle.cases_locks.specs.Day.{day, day_id, hour, hour_id, left, locked, replaced, replacer, source, the_day, writer}
use Rattle.scenes.specs.Script.{after, now}
use Rattle.cases_locks.specs.LockCases.{under}
use Rattle.cases_locks.specs.PlaceCases.{relocked}
use Rattle.cases_locks.specs.PublishCases.{and_later, held, inserter, later, next_id}
use Rattle.laws_chunks.proofs.Reaching.{IsReached, reached, reached_on}

pub locked_reached : IsReached (after locked)
unfolding is_utf8 chars encode
locked_reached = reached locked (refl, refl, (refl, refl, (refl, refl, (refl, (refl, refl), (refl, (refl, refl), (refl, refl, tt))))))

pub under_reached : IsReached under
unfolding is_utf8 chars encode
under_reached = reached_on (Commands.Append writer (hour_id 0 ∷ []) None ∷ []) (after locked) (refl, refl, tt) locked_reached

pub replaced_reached : IsReached (after replaced)
unfolding is_utf8 chars encode
replaced_reached = reached_on (Commands.Replace replacer (day ∷ []) (day_id 0 ∷ []) [] None ∷ []) under (refl, refl, tt) under_reached

pub left_reached : IsReached (after left)
unfolding is_utf8 chars encode
left_reached = reached_on (Commands.Append writer (hour_id 1 ∷ []) None ∷ Commands.End writer Statuses.Success ∷ Commands.End replacer Statuses.Success ∷ []) (after replaced) (refl, refl, (refl, refl, (refl, refl, tt))) replaced_reached

day_reached : IsReached (after the_day)
unfolding is_utf8 chars encode
day_reached = reached_on (Commands.Drop source day ∷ []) (after left) (refl, refl, tt) left_reached

pub later_reached : IsReached (after and_later)
unfolding is_utf8 chars encode
later_reached =
    reached_on
    (Commands.Submit later later source TaskKinds.Realtime 75 []
    ∷ Commands.Manage now
    ∷ Commands.Allocate later LockKinds.Append (codes "s") None (pos 86400000) Granularities.Hour now
    ∷ Commands.Append later (next_id ∷ []) None
    ∷ [])
    (after the_day) (refl, refl, (refl, refl, (refl, (refl, refl), (refl, refl, tt)))) day_reached

pub relocked_reached : IsReached (after relocked)
unfolding is_utf8 chars encode
relocked_reached = reached_on (Commands.Unlock writer 1 ∷ Commands.Lock writer LockKinds.Append hour now ∷ []) (after locked) (refl, refl, (refl, refl, tt)) locked_reached

pub held_reached : IsReached held
unfolding is_utf8 chars encode
held_reached = reached (Commands.Submit inserter inserter source TaskKinds.Batch 50 [] ∷ Commands.Manage now ∷ Commands.Lock inserter LockKinds.Exclusive day now ∷ []) (refl, refl, (refl, refl, (refl, refl, tt)))
