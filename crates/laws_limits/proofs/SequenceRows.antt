-- Sequences stay within their limits, and have what their states have.
use Rattle.std.proofs.Common.{◌≡◌, ℕ, ℤ, ◌<◌, ◌^◌, Bool, true, false, cond, ◌&&◌, List, [], ◌∷◌, map, Some, None, Option, refl, sym, subst, arith, inl, inr, length, nat_lt}
use Rattle.std.specs.List.{list_all}
use Rattle.std.proofs.lemmas.Bool.{and_from, and_parts}
use Rattle.std.proofs.lemmas.Bool.Decides.{nat_tests}
use Rattle.iv_time.specs.Range.{is_instant}
use Rattle.seg_names.specs.Names.{is_task_id}
use Rattle.book_rows.specs.Answer.{next}
use Rattle.book_rows.specs.Form.{are_offsets}
use Rattle.book_rows.specs.Grant.{moment}
use Rattle.book_rows.specs.Kinds.{is_unpublished}
use Rattle.book_rows.specs.Lists.{is_empty}
use Rattle.book_rows.specs.Locks.{left_all_locks}
use Rattle.book_rows.specs.Outcome.{no_room, row_limit}
use Rattle.book_rows.specs.PublishSteps.{offsets_reset, reads_stream, sequences_dropped}
use Rattle.book_rows.specs.Reports.{Ended, closed_at, ended, ended_by, left_all, left_by, reported}
use Rattle.book_rows.specs.Sequences.{abandoned, dropped_sequence, published, sequence_named, supervisor_of, tasks_abandoned, tasks_dropped}
use Rattle.book_rows.specs.Shape.{fits_state, is_sequence_row}
use Rattle.book_rows.specs.Sound.{Sound}
use Rattle.book_rows.specs.SupSteps.{after_tick}
use Rattle.book_rows.specs.TaskSteps.{after_end, all_failed, with_status}
use Rattle.book_rows.specs.Ticks.{Ticking, nothing_ticked}
use Rattle.book_rows.specs.declared.kinds.Table.TheVariants as Tables
use Rattle.book_rows.specs.declared.kinds.TaskStatus.{TaskStatus}
use Rattle.book_rows.specs.declared.rows.Book.{Book}
use Rattle.book_rows.specs.declared.rows.Offset.{Offset}
use Rattle.book_rows.specs.declared.rows.Report.{Report}
use Rattle.book_rows.specs.declared.rows.SequenceRow.{SequenceRow}
use Rattle.book_rows.specs.declared.rows.TaskRow.{TaskRow}
use Rattle.laws_locks.proofs.Instants.{later_is_instant}
use Rattle.laws_locks.proofs.Lists.{all_map}
use Rattle.laws_limits.specs.Rows.{SequenceRowsStay}
use Rattle.laws_limits.proofs.FitRows.{AreFit, IsFitRow, fit_abandoned, fit_closed, fit_dropped, fit_left, fit_published, fit_reported, fit_row, row_of_fit, state_of_fit}
use Rattle.laws_limits.proofs.Forms.{texts_of}
use Rattle.laws_offsets.proofs.Outcomes.{has_room}
use Rattle.laws_limits.proofs.TickedSequences.{ticked_fit}
use Rattle.laws_limits.proofs.Walk.{DoesRun, Moves, Steps, after_any, fails_all, tick_of}

-- ---- rows that pass both tests

all_fit : (us : List SequenceRow) → list_all is_sequence_row us ≡ true → list_all (λ u. fits_state u.state u) us ≡ true → AreFit us
all_fit [] h k = tt
all_fit (u ∷ us) h k =
    let row = and_parts (is_sequence_row u) (list_all is_sequence_row us) h in
    let state = and_parts (fits_state u.state u) (list_all (λ u. fits_state u.state u) us) k in
    (fit_row u row.0 state.0, all_fit us row.1 state.1)

rows_fit : (us : List SequenceRow) → AreFit us → list_all is_sequence_row us ≡ true
rows_fit [] a = refl
rows_fit (u ∷ us) a = and_from (is_sequence_row u) (list_all is_sequence_row us) (row_of_fit u a.0) (rows_fit us a.1)

states_fit : (us : List SequenceRow) → AreFit us → list_all (λ u. fits_state u.state u) us ≡ true
states_fit [] a = refl
states_fit (u ∷ us) a = and_from (fits_state u.state u) (list_all (λ u. fits_state u.state u) us) (state_of_fit u a.0) (states_fit us a.1)

-- ---- the end of a task

either_fits : (x : Bool) (e f : Ended) → AreFit e.sequences → AreFit f.sequences → AreFit (cond x e f).sequences
either_fits true e f h k = h
either_fits false e f h k = k

ended_fits : (o : Option SequenceRow) (name : List ℕ) (clock : ℤ) (us : List SequenceRow) → is_instant clock ≡ true → AreFit us → AreFit (ended_by o name clock us).sequences
ended_fits None name clock us is h = h
ended_fits (Some u) name clock us is h =
    either_fits (is_unpublished u.state && is_empty u.live) (record { sequences = map (abandoned u.source u.group u.index) us; tasks = tasks_abandoned u.source u.group u.index us })
    (record { sequences = map (closed_at name clock) us; tasks = [] }) (all_map IsFitRow IsFitRow (abandoned u.source u.group u.index) (fit_abandoned u.source u.group u.index) us h)
    (all_map IsFitRow IsFitRow (closed_at name clock) (λ v fits. fit_closed name clock v is fits) us h)

-- ---- the walk

abbrev HasFit : Book → Type 0
HasFit m = AreFit m.sequences

moves : Moves HasFit
moves = record { clock = λ now m h. h; status = λ task status m h. h; granted = λ task g m locks numbers h. h; left = λ n task m h. h; joined = λ n task m h. h }

-- tasks that fail leave the sequences
failed_leave : (us : List SequenceRow) (tasks : List (List ℕ)) (m : Book) → m.sequences ≡ us → (all_failed tasks m).sequences ≡ us
failed_leave us tasks m e =
    fails_all (λ (b : Book). b.sequences ≡ us) (record { clock = λ now m h. h; status = λ task status m h. h; granted = λ task g m locks numbers h. h; left = λ n task m h. h; joined = λ n task m h. h }) tasks m e

module _ (b : Book) (sound : Sound b) where
  start : AreFit b.sequences
  start = all_fit b.sequences sound.shape.limits.sequences sound.shape.limits.states

  publishes : (t : TaskRow) → AreFit (map (published t.group) b.sequences)
  publishes t = all_map IsFitRow IsFitRow (published t.group) (fit_published t.group) b.sequences start

  resets : (reads : Bool) (source stream : List ℕ) (offsets : List Offset) → HasFit (cond reads (sequences_dropped source (offsets_reset source stream offsets b)) (offsets_reset source stream offsets b))
  resets true source stream offsets =
      fails_all HasFit moves (tasks_dropped source b.sequences) (record (offsets_reset source stream offsets b) { sequences = map (dropped_sequence source) b.sequences })
      (all_map IsFitRow IsFitRow (dropped_sequence source) (fit_dropped source) b.sequences start)
  resets false source stream offsets = start

  ends : (t : TaskRow) (status : TaskStatus) → HasFit (after_end t status b)
  ends t status =
      let e : Ended = ended t.group t.task b.clock b.sequences in
      fails_all HasFit moves e.tasks (record (with_status t.task status (left_all_locks t.task b)) { sequences = e.sequences })
      (ended_fits (sequence_named t.group (left_all t.task b.sequences)) t.group b.clock (left_all t.task b.sequences) sound.shape.limits.clock (all_map IsFitRow IsFitRow (left_by t.task) (fit_left t.task) b.sequences start))

  ticks : (now : ℤ) → is_instant now ≡ true → no_room (Tables.Tasks ∷ Tables.Sequences ∷ []) (after_tick (tick_of b now) (moment b now) b) ≡ None → HasFit (after_tick (tick_of b now) (moment b now) b)
  ticks now is room =
      let k : Ticking = tick_of b now in
      let m : Book = record b { clock = moment b now; sequences = k.rows } in
      let same : (all_failed k.told.ended m).sequences ≡ k.rows = failed_leave k.rows k.told.ended m refl in
      let few : nat_lt row_limit (length (all_failed k.told.ended m).sequences) ≡ false = has_room Tables.Sequences (Tables.Tasks ∷ Tables.Sequences ∷ []) (after_tick k (moment b now) b) room (inr (inl refl)) in
      subst (λ (us : List SequenceRow). AreFit us) (sym same)
      (ticked_fit b.offsets (moment b now) sound.shape.limits.offsets (later_is_instant now b.clock is sound.shape.limits.clock) b.supervisors (record { rows = b.sequences; told = nothing_ticked }) sound.shape.limits.supervisors
      (within (length k.rows) (subst (λ (us : List SequenceRow). nat_lt row_limit (length us) ≡ false) same few)) start) where
        within : (n : ℕ) → nat_lt row_limit n ≡ false → n < 10 ^ 10
        within n h = grind (arith, nat_tests)

  reports : (t : TaskRow) (offsets : List Offset) → are_offsets offsets ≡ true → DoesRun b t → AreFit (map (reported t.group (record { task = t.task; offsets = offsets }) b.clock) b.sequences)
  reports t offsets fits runs =
      let new : Report = record { task = t.task; offsets = offsets } in
      all_map IsFitRow IsFitRow (reported t.group new b.clock)
      (λ u h. fit_reported t.group new b.clock u (and_from (is_task_id t.task) (are_offsets offsets) (texts_of b.tasks t sound.shape.limits.tasks runs.among).task fits) sound.shape.limits.clock h) b.sequences start

  steps : Steps HasFit b
  steps = record {
    submits = λ row room. start;
    allots = λ task r t x l form runs placed grants room h. h;
    appends = λ task ids ranges t form runs room. publishes t;
    inserts = λ task given t xs form runs found room. publishes t;
    replaces = λ task given t xs form runs found room. publishes t;
    drops = λ source span form room. start;
    resets = λ source stream offsets form room. resets (reads_stream (supervisor_of source b.supervisors) stream) source stream offsets;
    supervises = λ row fits new room. start;
    ticks = ticks;
    ends = ends;
    reports = reports;
  }

pub sequence_rows_stay : SequenceRowsStay
sequence_rows_stay b c form sound =
    let fit = after_any HasFit moves b (start b sound) (steps b sound) c form in
    record { sequences = rows_fit (next b c).sequences fit; states = states_fit (next b c).sequences fit }
