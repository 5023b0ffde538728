-- Every command keeps the keys of supervisors and sequences.
use Rattle.std.proofs.Common.{Bool, List, None, Option, Some, [], cond, false, map, refl, subst, sym, true, ℕ, ℤ, ◌&&◌}
use Rattle.book_rows.specs.Answer.{next}
use Rattle.book_rows.specs.Grant.{moment}
use Rattle.book_rows.specs.Kinds.{is_unpublished}
use Rattle.book_rows.specs.Lists.{is_empty}
use Rattle.book_rows.specs.Locks.{left_all_locks, locks_of}
use Rattle.book_rows.specs.PublishSteps.{offsets_reset, reads_stream, sequences_dropped}
use Rattle.book_rows.specs.Reports.{Ended, closed_at, ended, ended_by, left_all, left_by, reported}
use Rattle.book_rows.specs.Sequences.{abandoned, dropped_sequence, published, sequence_named, supervisor_of, tasks_abandoned, tasks_dropped}
use Rattle.book_rows.specs.Sound.{Sound}
use Rattle.book_rows.specs.SupSteps.{after_tick}
use Rattle.book_rows.specs.TaskSteps.{after_end, with_status}
use Rattle.book_rows.specs.Ticks.{nothing_ticked}
use Rattle.book_rows.specs.declared.commands.Command.{Command}
use Rattle.book_rows.specs.declared.kinds.TaskStatus.{TaskStatus}
use Rattle.book_rows.specs.declared.rows.Book.{Book}
use Rattle.book_rows.specs.declared.rows.Offset.{Offset}
use Rattle.book_rows.specs.declared.rows.SequenceRow.{SequenceRow}
use Rattle.book_rows.specs.declared.rows.SupervisorRow.{SupervisorRow}
use Rattle.book_rows.specs.declared.rows.TaskRow.{TaskRow}
use Rattle.book_rows.specs.Form.{KeepsForm}
use Rattle.laws_limits.proofs.Walk.{Moves, Steps, after_any, fails_all, tick_of}
use Rattle.laws_keys.specs.KeyLaws.{SequencesStayDistinct, SupervisorsStayDistinct}
use Rattle.laws_keys.proofs.GroupKeys.{HasGroupKeys, KeepsKeys, keys_before, keys_mapped, keys_supervised, keys_ticked}
use Rattle.laws_offsets.proofs.Others.{supervisors_left}

-- the keys of a book's supervisors and sequences
abbrev IsKeyed : Book → Type 0
IsKeyed b = HasGroupKeys b.supervisors b.sequences

-- the clock, tasks and locks don't matter to them
moves : Moves IsKeyed
moves = record {
  clock = λ now m h. h;
  status = λ task status m h. h;
  granted = λ task g m rooms numbers h. h;
  left = λ n task m h. h;
  joined = λ n task m h. h;
}

-- ---- end

ended_keep : (ss : List SupervisorRow) (o : Option SequenceRow) (name : List ℕ) (clock : ℤ) (us : List SequenceRow) → HasGroupKeys ss us → HasGroupKeys ss (ended_by o name clock us).sequences
ended_keep ss None name clock us h = h
ended_keep ss (Some u) name clock us h = go (is_unpublished u.state && is_empty u.live) where
  go : (x : Bool) → HasGroupKeys ss (cond {A = Ended} x (record { sequences = map (abandoned u.source u.group u.index) us; tasks = tasks_abandoned u.source u.group u.index us }) (record { sequences = map (closed_at name clock) us; tasks = [] })).sequences
  go true = keys_mapped (abandoned u.source u.group u.index) (record { source_is = λ u. refl; group_is = λ u. refl; index_is = λ u. refl }) ss us h
  go false = keys_mapped (closed_at name clock) (record { source_is = λ u. refl; group_is = λ u. refl; index_is = λ u. refl }) ss us h

-- ---- the commands of one book

module _ (b : Book) (h : IsKeyed b) where
  -- a change of other fields of the sequences
  mapped_keep : (f : SequenceRow → SequenceRow) → KeepsKeys f → HasGroupKeys b.supervisors (map f b.sequences)
  mapped_keep f k = keys_mapped f k b.supervisors b.sequences h

  -- the sequence of the task's group is published
  published_keys : (name : List ℕ) → HasGroupKeys b.supervisors (map (published name) b.sequences)
  published_keys name = mapped_keep (published name) (record { source_is = λ u. refl; group_is = λ u. refl; index_is = λ u. refl })

  ends : (t : TaskRow) (status : TaskStatus) → IsKeyed (after_end t status b)
  ends t status =
      let left : Book = with_status t.task status (left_all_locks t.task b) in
      let e = ended t.group t.task b.clock b.sequences in
      fails_all IsKeyed moves e.tasks (record left { sequences = e.sequences })
      (subst (λ ss. HasGroupKeys ss e.sequences) (sym (supervisors_left (locks_of t.task b.posses) t.task b))
      (ended_keep b.supervisors (sequence_named t.group (left_all t.task b.sequences)) t.group b.clock (left_all t.task b.sequences)
      (mapped_keep (left_by t.task) (record { source_is = λ u. refl; group_is = λ u. refl; index_is = λ u. refl }))))

  reset_by : (x : Bool) (source stream : List ℕ) (os : List Offset) → IsKeyed (cond x (sequences_dropped source (offsets_reset source stream os b)) (offsets_reset source stream os b))
  reset_by true source stream os =
      fails_all IsKeyed moves (tasks_dropped source b.sequences) (record (offsets_reset source stream os b) { sequences = map (dropped_sequence source) b.sequences })
      (mapped_keep (dropped_sequence source) (record { source_is = λ u. refl; group_is = λ u. refl; index_is = λ u. refl }))
  reset_by false source stream os = h

  ticks : (now : ℤ) → IsKeyed (after_tick (tick_of b now) (moment b now) b)
  ticks now =
      let k = tick_of b now in
      fails_all IsKeyed moves k.told.ended (record b { clock = moment b now; sequences = k.rows })
      (keys_ticked b.supervisors b.offsets (moment b now) b.supervisors (record { rows = b.sequences; told = nothing_ticked }) h)

  steps : Steps IsKeyed b
  steps = record {
    submits = λ row room. h;
    allots = λ task r t x l form runs placed grants room h. h;
    appends = λ task ids ranges t form runs room. published_keys t.group;
    inserts = λ task given t xs form runs found room. published_keys t.group;
    replaces = λ task given t xs form runs found room. published_keys t.group;
    drops = λ source span form room. h;
    resets = λ source stream offsets form room. reset_by (reads_stream (supervisor_of source b.supervisors) stream) source stream offsets;
    supervises = λ row fits new room. keys_supervised b.supervisors b.sequences row new h;
    ticks = λ now fits room. ticks now;
    ends = ends;
    reports = λ t offsets fits runs. mapped_keep (reported t.group (record { task = t.task; offsets = offsets }) b.clock) (record { source_is = λ u. refl; group_is = λ u. refl; index_is = λ u. refl });
  }

keyed_after : (b : Book) (c : Command) → KeepsForm c → Sound b → IsKeyed (next b c)
keyed_after b c form s = after_any IsKeyed moves b (keys_before b s) (steps b (keys_before b s)) c form

pub supervisors_stay_distinct : SupervisorsStayDistinct
supervisors_stay_distinct b c form s = (keyed_after b c form s).supervisors

pub sequences_stay_distinct : SequencesStayDistinct
sequences_stay_distinct b c form s = (keyed_after b c form s).sequences
