-- The answers to all commands.
use Rattle.std.proofs.Common.{◌&&◌, ◌≡◌, false, inl, inr, refl, sym, true}
use Rattle.std.proofs.lemmas.Bool.{and_parts, cases_Bool, false≢true}
use Rattle.iv_time.specs.Range.{is_instant}
use Rattle.seg_names.specs.Names.{is_name, is_task_id}
use Rattle.book_rows.specs.Answer.{answer}
use Rattle.book_rows.specs.Fits.{reply_fits}
use Rattle.book_rows.specs.Form.{KeepsForm, are_ids, are_lists, are_ranges_of, is_optional_id, may_allocate}
use Rattle.book_rows.specs.LockSteps.{IdRequest, allocated, locked}
use Rattle.book_rows.specs.Outcome.{task_of}
use Rattle.book_rows.specs.Over.{Inserting, Replacing}
use Rattle.book_rows.specs.Publications.{in_spans}
use Rattle.book_rows.specs.PublishSteps.{asked}
use Rattle.book_rows.specs.Sequences.{supervisor_of}
use Rattle.book_rows.specs.Spans.{is_span}
use Rattle.book_rows.specs.SupSteps.{report_step}
use Rattle.book_rows.specs.TaskSteps.{waiting_row}
use Rattle.book_rows.specs.declared.commands.Command.{Command}
use Rattle.book_rows.specs.declared.commands.Command.TheVariants as Commands
use Rattle.book_rows.specs.declared.rows.Book.{Book}
use Rattle.book_rows.specs.declared.rows.Want.{Want}
use Rattle.laws_locks.specs.LockShape.{HasSoundLocks}
use Rattle.laws_locks.proofs.Allocating.{allocate_keeps_locks}
use Rattle.laws_locks.proofs.Granting.{lock_keeps_locks}
use Rattle.laws_locks.proofs.WholeShape.{shape_has_lock_shape}
use Rattle.laws_texts.specs.Texts.{AnswersHaveTexts, HasLimitedRows, LimitedRowsHaveTexts, SoundHasLimitedRows, SoundLocksHaveTexts, names_rows}
use Rattle.laws_texts.proofs.Allocating.{allocated_fits}
use Rattle.laws_texts.proofs.Limited.{span_texts}
use Rattle.laws_texts.proofs.Locking.{locked_fits}
use Rattle.laws_texts.proofs.Outcomes.{running_fits, running_given}
use Rattle.laws_texts.proofs.Checks.{lists_form}
use Rattle.laws_texts.proofs.Publishing.{appended_fits, dropped_fits, over_fits, reset_fits}
use Rattle.laws_texts.proofs.Reading.{asked_fits}
use Rattle.laws_texts.proofs.Showing.{locks_shown_fit, shown_fits}
use Rattle.laws_texts.proofs.Tasks.{ended_fits, report_fits, submitted_fits, supervised_fits, tick_fits, unlocked_fits}

pub sound_has_limited_rows : SoundHasLimitedRows
sound_has_limited_rows b s = record {
  locks = (shape_has_lock_shape b s.shape, s.compatible_locks);
  places = record { segments = s.shape.limits.segments; pendings = s.shape.limits.pendings; rooted = s.rooted };
  upgrades = s.shape.limits.upgrades;
}

pub sound_locks_have_texts : SoundLocksHaveTexts
sound_locks_have_texts b (Commands.Submit task group source kind priority locks) form is h = submitted_fits (task_of task b.tasks) b (waiting_row task group source kind priority locks)
sound_locks_have_texts b (Commands.Manage now) form is h = refl
sound_locks_have_texts b (Commands.Lock task kind span now) form is h =
    let w : Want = record { lock_kind = kind; span = span } in
    running_given HasSoundLocks (task_of task b.tasks) b (locked b w now) (locked_fits b w now) (lock_keeps_locks task kind span now b form h)
sound_locks_have_texts b (Commands.Unlock task lock) form is h = unlocked_fits (task_of task b.tasks) b task lock
sound_locks_have_texts b (Commands.Append task ids ranges) form is h =
    let lists = and_parts (is_task_id task && are_ids ids && are_ranges_of ranges) _ form in
    let named = and_parts (is_task_id task && are_ids ids) (are_ranges_of ranges) lists.0 in
    appended_fits (task_of task b.tasks) b ids ranges (and_parts (is_task_id task) (are_ids ids) named.0).1
sound_locks_have_texts b (Commands.End task status) form is h = ended_fits (task_of task b.tasks) b status
sound_locks_have_texts b (Commands.Reset source stream offsets) form is h = reset_fits b source stream offsets
sound_locks_have_texts b (Commands.Supervise source stream partitions task_count replicas task_duration completion_timeout) form is h = supervised_fits (supervisor_of source b.supervisors) b _
sound_locks_have_texts b (Commands.Tick now) form is h = tick_fits b now
sound_locks_have_texts b (Commands.Paused task offsets) form is h = running_fits (task_of task b.tasks) b (report_step false b offsets) (report_fits false b offsets)
sound_locks_have_texts b (Commands.Checkpoint task offsets) form is h = running_fits (task_of task b.tasks) b (report_step true b offsets) (report_fits true b offsets)
sound_locks_have_texts b (Commands.Show what) form is h = locks_shown_fit b what is h.0.locks.rows
sound_locks_have_texts b _ form is h = absurd (false≢true (sym is))

named_rows_have_texts : (b : Book) (c : Command) → KeepsForm c → names_rows c ≡ true → HasLimitedRows b → reply_fits (answer b c) ≡ true
named_rows_have_texts b (Commands.Allocate task kind sequence previous at granularity now) form is rows =
    let earlier = and_parts (is_task_id task && may_allocate kind && is_name sequence && is_optional_id previous && is_instant at) (is_instant now) form in
    let moment = and_parts (is_task_id task && may_allocate kind && is_name sequence && is_optional_id previous) (is_instant at) earlier.0 in
    let r : IdRequest = record { lock_kind = kind; sequence = sequence; previous = previous; at = at; granularity = granularity; now = now } in
    running_given HasSoundLocks (task_of task b.tasks) b (allocated b r) (λ t h. allocated_fits b r t rows.places moment.1 h)
    (allocate_keeps_locks task kind sequence previous at granularity now b form rows.places rows.locks)
named_rows_have_texts b (Commands.Insert task spans ids tombstones ranges) form is rows =
    over_fits Inserting (task_of task b.tasks) b (in_spans spans ids tombstones ranges) rows (lists_form (in_spans spans ids tombstones ranges) (and_parts (is_task_id task) (are_lists spans ids tombstones ranges) form).1)
named_rows_have_texts b (Commands.Replace task spans ids tombstones ranges) form is rows =
    over_fits Replacing (task_of task b.tasks) b (in_spans spans ids tombstones ranges) rows (lists_form (in_spans spans ids tombstones ranges) (and_parts (is_task_id task) (are_lists spans ids tombstones ranges) form).1)
named_rows_have_texts b (Commands.Drop source span) form is rows = dropped_fits b source span rows
named_rows_have_texts b (Commands.ToReplace task span) form is rows =
    running_fits (task_of task b.tasks) b (asked b span) (λ t. asked_fits b span t rows (span_texts span (and_parts (is_task_id task) (is_span span) form).1))
named_rows_have_texts b (Commands.Show what) form is rows = shown_fits b what rows
named_rows_have_texts b _ form is rows = absurd (false≢true is)

pub limited_rows_have_texts : LimitedRowsHaveTexts
limited_rows_have_texts b c form rows = elim (cases_Bool (names_rows c)) [
  | inl on ↦ named_rows_have_texts b c form on rows
  | inr off ↦ sound_locks_have_texts b c form off rows.locks
]

pub answers_have_texts : AnswersHaveTexts
answers_have_texts b c form s = limited_rows_have_texts b c form (sound_has_limited_rows b s)
