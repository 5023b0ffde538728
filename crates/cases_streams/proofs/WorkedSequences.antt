-- The worked cases of names, of sequences in line, and of what a tick adds, computed.
use Rattle.std.proofs.Common.{ℕ, ℤ, List, [], ◌∷◌, arith, false, inl, inr, pos, refl, subst, sym}
use Rattle.std.specs.Fmt.{digits}
use Rattle.std.specs.Str.{chars, is_utf8}
use lib.Utf8.{encode}
use Rattle.iv_span.specs.Extent.{Extent}
use Rattle.book_rows.specs.Answer.{next}
use Rattle.book_rows.specs.Lists.{In}
use Rattle.book_rows.specs.Shape.{HasMembers, HaveMembers, IsMemberTask}
use Rattle.book_rows.specs.declared.commands.Command.TheVariants as Commands
use Rattle.book_rows.specs.declared.kinds.LockKind.TheVariants as LockKinds
use Rattle.book_rows.specs.declared.kinds.TaskKind.TheVariants as TaskKinds
use Rattle.book_rows.specs.declared.kinds.TaskStatus.TheVariants as Statuses
use Rattle.book_rows.specs.declared.rows.PosseRow.{PosseRow}
use Rattle.book_rows.specs.declared.rows.TaskRow.{TaskRow}
use Rattle.laws_locks.specs.LockShape.{AreLockRows, AreTaskRows, HasSoundLocks}
use Rattle.cases_streams.specs.SequenceCases.{IdsAreOwn, LineGoesOn, NamesAreTexts, NamesTell, ReplicaLeaves, ReplicasTell, SequencesAreInLine, SoundIsInLine, SoundTickAdds, StatesChange, TickAddsNewIds, TickKeepsTwoLocks, batch, locked}
use Rattle.scenes.specs.Script.{day, next_day, after}
use Rattle.scenes.specs.Supervising.{minutes_later}
use Rattle.book_rows.specs.Form.{AllKeepForm}
use Rattle.cases_streams.specs.SequenceScenes.{first_closed, source}
use Rattle.laws_sequences.proofs.Reaching.{links_give_own_ids, links_stay}
use Rattle.cases_streams.proofs.WorkedRows.{forms_opened, key, links_closed, links_opened, seen_opened, seen_published}
use Rattle.cases_streams.proofs.WorkedSound.{opened_is_sound}

-- ---- names

pub names_are_texts : NamesAreTexts
unfolding digits
names_are_texts = (key 0 12 (omega arith) (omega arith), refl, refl)

pub names_tell : NamesTell
unfolding digits
names_tell = (
  key 0 0 (omega arith) (omega arith),
  refl,
  key 1 12 (omega arith) (omega arith),
  key 11 2 (omega arith) (omega arith),
  refl,
  record { source_is = refl; group_fits = omega arith; index_fits = omega arith },
  refl,
)

pub replicas_tell : ReplicasTell
unfolding digits
replicas_tell = (key 0 1 (omega arith) (omega arith), key 0 12 (omega arith) (omega arith), refl, refl, refl)

-- ---- sequences in line

pub sequences_are_in_line : SequencesAreInLine
unfolding digits
sequences_are_in_line = (forms_opened, links_opened, refl, refl, refl, seen_opened)

pub line_goes_on : LineGoesOn
unfolding digits chars is_utf8 encode
line_goes_on = (refl, links_opened, refl, refl, seen_published)

pub sound_is_in_line : SoundIsInLine
unfolding digits
sound_is_in_line = (opened_is_sound, refl, seen_opened)

pub ids_are_own : IdsAreOwn
unfolding digits
ids_are_own = (links_opened, opened_is_sound, refl, refl, refl)

-- ---- what a tick adds

rows_closed : AreTaskRows (after first_closed).tasks
unfolding digits chars is_utf8 encode
rows_closed = record { rows = refl; keys = ((refl, (refl, (refl, tt))), ((refl, (refl, tt)), ((refl, tt), (tt, tt)))) }

pub tick_adds_new_ids : TickAddsNewIds
unfolding digits chars is_utf8 encode
tick_adds_new_ids = (
  rows_closed,
  links_give_own_ids (after first_closed) links_closed,
  refl,
  refl,
  record { rows = refl; keys = ((refl, (refl, (refl, (refl, (refl, tt))))), ((refl, (refl, (refl, (refl, tt)))), ((refl, (refl, (refl, tt))), ((refl, (refl, tt)), ((refl, tt), (tt, tt)))))) },
)

pub sound_tick_adds : SoundTickAdds
unfolding digits chars is_utf8 encode
sound_tick_adds = (opened_is_sound, refl, record { rows = refl; keys = ((refl, (refl, (refl, (refl, (refl, (refl, (refl, tt))))))), ((refl, (refl, (refl, (refl, (refl, (refl, tt)))))), ((refl, (refl, (refl, (refl, (refl, tt))))), ((refl, (refl, (refl, (refl, tt)))), ((refl, (refl, (refl, tt))), ((refl, (refl, tt)), ((refl, tt), (tt, tt)))))))) })

-- ---- two locks

abbrev batch_row : TaskRow
batch_row = record { task = batch; group = batch; source = source; kind = TaskKinds.Batch; priority = 50; status = Statuses.Running; wants = [] }

abbrev lock_row : ℕ → Extent → ℤ → PosseRow
lock_row number span version = record { number = number; lock_kind = LockKinds.Exclusive; group = batch; source = source; span = span; version = version; priority = 50; since = 0; revoked = false; members = batch ∷ [] }

abbrev two_locks : List PosseRow
two_locks = lock_row 1 day (minutes_later 0) ∷ lock_row 2 next_day (pos 1711929600001) ∷ []

has_members : (ts : List TaskRow) (number : ℕ) (span : Extent) (version : ℤ) → In batch_row ts → HasMembers ts (lock_row number span version)
has_members ts number span version i = record { some = refl; distinct = (tt, tt); tasks = member } where
  member : (task : List ℕ) → In task (batch ∷ []) → IsMemberTask ts (lock_row number span version) task
  member task (inl same) = record { row = batch_row; among = i; task_is = sym same; runs = refl; group_is = refl; source_is = refl; priority_is = refl }
  member task (inr j) = absurd j

have_members : (ts : List TaskRow) → In batch_row ts → HaveMembers ts two_locks
have_members ts i q (inl same) = subst (λ (x : PosseRow). HasMembers ts x) (sym same) (has_members ts 1 day (minutes_later 0) i)
have_members ts i q (inr (inl same)) = subst (λ (x : PosseRow). HasMembers ts x) (sym same) (has_members ts 2 next_day (pos 1711929600001) i)
have_members ts i q (inr (inr j)) = absurd j

lock_rows : AreLockRows (pos 1711929600001) 3 0 two_locks
unfolding chars is_utf8 encode
lock_rows = record {
  rows = refl;
  numbers = ((refl, tt), (tt, tt));
  ascending = ((omega arith, tt), (tt, tt));
  below = (omega arith, (omega arith, tt));
  versions = refl;
  kinds = refl;
  distinct = ((refl, tt), (tt, tt));
  since = refl;
}

forms_locked : AllKeepForm locked
unfolding digits chars is_utf8 encode
forms_locked = refl

locks_before : HasSoundLocks (after locked)
unfolding digits chars is_utf8 encode
locks_before = (
  record {
    room = record { tasks = refl; locks = refl; numbers = refl };
    instants = record { clock = refl; last = refl };
    tasks = record { rows = refl; keys = ((refl, (refl, (refl, (refl, tt)))), ((refl, (refl, (refl, tt))), ((refl, (refl, tt)), ((refl, tt), (tt, tt))))) };
    locks = lock_rows;
    members = have_members (after locked).tasks (inr (inr (inr (inr (inl refl)))));
  },
  ((λ x y. refl, tt), (tt, tt)),
)

locks_after : HasSoundLocks (next (after locked) (Commands.Tick (minutes_later 1)))
unfolding digits chars is_utf8 encode
locks_after = (
  record {
    room = record { tasks = refl; locks = refl; numbers = refl };
    instants = record { clock = refl; last = refl };
    tasks = record { rows = refl; keys = ((refl, (refl, (refl, (refl, (refl, (refl, tt)))))), ((refl, (refl, (refl, (refl, (refl, tt))))), ((refl, (refl, (refl, (refl, tt)))), ((refl, (refl, (refl, tt))), ((refl, (refl, tt)), ((refl, tt), (tt, tt))))))) };
    locks = lock_rows;
    members = have_members (next (after locked) (Commands.Tick (minutes_later 1))).tasks (inr (inr (inr (inr (inl refl)))));
  },
  ((λ x y. refl, tt), (tt, tt)),
)

pub tick_keeps_two_locks : TickKeepsTwoLocks
unfolding digits
tick_keeps_two_locks = (refl, links_give_own_ids (after locked) (links_stay locked forms_locked), locks_before, refl, refl, locks_after)

-- ---- states, and who is live

pub states_change : StatesChange
unfolding digits
states_change = (refl, refl, refl, refl, refl, refl, refl, refl, refl)

pub replica_leaves : ReplicaLeaves
unfolding digits
replica_leaves = (refl, refl, refl)
