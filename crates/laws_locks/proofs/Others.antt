-- The commands that publish, reset, supervise, report or ask: what they keep of tasks and locks, whatever it is.
use Rattle.std.proofs.Common.{◌≡◌, ℕ, ℤ, Bool, true, false, cond, List, [], ◌∷◌, ◌++◌, map, Some, None, Option, Result, Ok, Err, length}
use Rattle.std.proofs.lemmas.Bool.{false≢true}
use Rattle.iv_span.specs.Extent.{Extent}
use Rattle.book_rows.specs.Answer.{next}
use Rattle.book_rows.specs.Append.{after_append, append_fault}
use Rattle.book_rows.specs.Lists.{or_else}
use Rattle.book_rows.specs.Outcome.{Outcome, changed, fitted, refused_or, task_of, unless}
use Rattle.book_rows.specs.Over.{Filling, Inserting, Replacing, Target, check_over, held_for, kind_of}
use Rattle.book_rows.specs.Publications.{Publish, appending, drop_publication, in_spans, publication_of, ranges_fault, repeat_of, reset_publication, without_since}
use Rattle.book_rows.specs.PublishSteps.{after_reset, append_running, asked, commit_reply, dropped, offsets_reset, over_checked, over_running, over_step, publish_step, published_or, reads_stream, reset_step, sequences_dropped, told_of}
use Rattle.book_rows.specs.Reports.{first_bad, reported}
use Rattle.book_rows.specs.Rewrite.{after_drop, after_insert, after_replace, drop_fault}
use Rattle.book_rows.specs.Sequences.{dropped_sequence, sequence_named, supervisor_of, tasks_dropped}
use Rattle.book_rows.specs.SupSteps.{report_as, report_by, report_fault, report_kept, report_step, row_reply, supervised}
use Rattle.book_rows.specs.TaskSteps.{all_failed, failed}
use Rattle.book_rows.specs.declared.commands.Command.{Command}
use Rattle.book_rows.specs.declared.commands.Command.TheVariants as Commands
use Rattle.book_rows.specs.declared.kinds.LockKind.TheVariants as LockKinds
use Rattle.book_rows.specs.declared.kinds.PubKind.{PubKind}
use Rattle.book_rows.specs.declared.kinds.PubKind.TheVariants as PubKinds
use Rattle.book_rows.specs.declared.kinds.SeqState.{SeqState}
use Rattle.book_rows.specs.declared.kinds.SeqState.TheVariants as States
use Rattle.book_rows.specs.declared.kinds.Table.{Table}
use Rattle.book_rows.specs.declared.kinds.Table.TheVariants as Tables
use Rattle.book_rows.specs.declared.kinds.TaskStatus.{TaskStatus}
use Rattle.book_rows.specs.declared.replies.Refusal.{Refusal}
use Rattle.book_rows.specs.declared.replies.Reply.{Reply}
use Rattle.book_rows.specs.declared.replies.Reply.TheVariants as Replies
use Rattle.book_rows.specs.declared.rows.Book.{Book}
use Rattle.book_rows.specs.declared.rows.Offset.{Offset}
use Rattle.book_rows.specs.declared.rows.PosseRow.{PosseRow}
use Rattle.book_rows.specs.declared.rows.Publication.{Publication}
use Rattle.book_rows.specs.declared.rows.Report.{Report}
use Rattle.book_rows.specs.declared.rows.SequenceRow.{SequenceRow}
use Rattle.book_rows.specs.declared.rows.SupervisorRow.{SupervisorRow}
use Rattle.book_rows.specs.declared.rows.TaskRow.{TaskRow}
use Rattle.laws_locks.specs.Commands.{is_other}
use Rattle.laws_locks.proofs.Rooms.{fitted_keeps, running_as_keeps, running_keeps}

-- a fact of clock, last version, next number, number of publications, tasks and locks
abbrev pub Fact : Type 1
Fact = ℤ → ℤ → ℕ → ℕ → List TaskRow → List PosseRow → Type 0

abbrev pub Of : Fact → Book → Type 0
Of fact b = fact b.clock b.last b.next_lock (length b.publications) b.tasks b.posses

-- it holds of one publication more, and where a task fails
pub record IsKept (fact : Fact) : Type 0 where
  pub published : (clock last : ℤ) (next : ℕ) (ms : List Publication) (m : Publication) (ts : List TaskRow) (qs : List PosseRow) → fact clock last next (length ms) ts qs → fact clock last next (length (ms ++ m ∷ [])) ts qs
  pub fails : (task : List ℕ) (b : Book) → Of fact b → Of fact (failed task b)

module _ (fact : Fact) (kept : IsKept fact) where
  unless_keeps : (o : Option Refusal) (b : Book) (out : Outcome) → Of fact b → Of fact out.book → Of fact (unless o b out).book
  unless_keeps (Some why) b out h k = h
  unless_keeps None b out h k = k

  -- what is published, where nothing speaks against it and there is room
  fitted_unless : (o : Option Refusal) (tables : List Table) (b after : Book) (reply : Reply) → Of fact b → Of fact after → Of fact (unless o b (fitted tables b after reply)).book
  fitted_unless (Some why) tables b after reply h k = h
  fitted_unless None tables b after reply h k = fitted_keeps (Of fact) tables b after reply h (λ room. k)

  more : (m : Publication) (b : Book) → Of fact b → fact b.clock b.last b.next_lock (length (b.publications ++ m ∷ [])) b.tasks b.posses
  more m b h = kept.published b.clock b.last b.next_lock b.publications m b.tasks b.posses h

  published_or_keeps : (k : Option ℕ) (b : Book) (status : TaskStatus) (reply : ℕ → Reply) (out : Outcome) → Of fact b → Of fact out.book → Of fact (published_or k b status reply out).book
  published_or_keeps (Some k) b status reply out h after = h
  published_or_keeps None b status reply out h after = running_as_keeps (Of fact) status b out h (λ runs. after)

  -- a publish of a task, decided as it is
  publish_keeps : (kind : PubKind) (o : Option TaskRow) (b : Book) (given : Publish) (decided : TaskRow → Outcome) → Of fact b → ((t : TaskRow) → Of fact (decided t).book) → Of fact (publish_step kind o b given decided).book
  publish_keeps kind None b given decided h each = h
  publish_keeps kind (Some t) b given decided h each =
      published_or_keeps (repeat_of (publication_of kind t (without_since given.spans) given) b.publications) b t.status (commit_reply kind) (decided t) h (each t)

  -- ---- append

  append_keeps : (b : Book) (given : Publish) (t : TaskRow) → Of fact b → Of fact (append_running b given t).book
  append_keeps b given t h =
      fitted_unless (or_else (append_fault b.posses b.pendings t.task given.ids) (ranges_fault b t given.ranges)) (Tables.Segments ∷ Tables.Upgrades ∷ Tables.Publications ∷ Tables.Offsets ∷ []) b (after_append t given b)
      (Replies.Append (length b.publications)) h (more (publication_of PubKinds.Append t [] given) b h)

  -- ---- insert and replace

  checked_keeps : (f : Filling) (b : Book) (given : Publish) (t : TaskRow) (xs : List Target) → Of fact b → Of fact (over_checked f b given t xs).book
  checked_keeps Inserting b given t xs h =
      fitted_unless (ranges_fault b t given.ranges) (Tables.Chunks ∷ Tables.Parts ∷ Tables.Segments ∷ Tables.Publications ∷ Tables.Offsets ∷ []) b (after_insert t given xs b)
      (Replies.Insert (length b.publications)) h (more (publication_of PubKinds.Over t (map (λ (x : Target). record { span = x.span; since = 0 }) xs) given) b h)
  checked_keeps Replacing b given t xs h =
      fitted_unless (ranges_fault b t given.ranges) (Tables.Chunks ∷ Tables.Parts ∷ Tables.Segments ∷ Tables.Pendings ∷ Tables.Publications ∷ Tables.Offsets ∷ []) b (after_replace t given xs b)
      (Replies.Replace (length b.publications)) h (more (publication_of PubKinds.Replace t (map (λ (x : Target). record { span = x.span; since = x.since }) xs) given) b h)

  over_keeps : (r : Result (List Target) Refusal) (f : Filling) (b : Book) (given : Publish) (t : TaskRow) → Of fact b → Of fact (refused_or r b (over_checked f b given t)).book
  over_keeps (Err why) f b given t h = h
  over_keeps (Ok xs) f b given t h = checked_keeps f b given t xs h

  step_keeps : (f : Filling) (o : Option TaskRow) (b : Book) (given : Publish) → Of fact b → Of fact (over_step f o b given).book
  step_keeps f o b given h = publish_keeps (kind_of f) o b given (over_running f b given) h (λ t. over_keeps (check_over f b given t) f b given t h)

  -- ---- drop and reset

  dropped_keeps : (b : Book) (source : List ℕ) (span : Extent) → Of fact b → Of fact (dropped b source span).book
  dropped_keeps b source span h =
      fitted_unless (drop_fault b.posses b.segments source span) (Tables.Publications ∷ []) b (after_drop source span b) (Replies.Drop (length b.publications)) h (more (drop_publication source span) b h)

  -- several tasks fail
  pub all_fail : (tasks : List (List ℕ)) (b : Book) → Of fact b → Of fact (all_failed tasks b)
  all_fail [] b h = h
  all_fail (task ∷ rest) b h = all_fail rest (failed task b) (kept.fails task b h)

  sequences_keeps : (reads : Bool) (source : List ℕ) (b : Book) → Of fact b → Of fact (cond reads (sequences_dropped source b) b)
  sequences_keeps true source b h = all_fail (tasks_dropped source b.sequences) (record b { sequences = map (dropped_sequence source) b.sequences }) h
  sequences_keeps false source b h = h

  reset_keeps : (b : Book) (source stream : List ℕ) (offsets : List Offset) → Of fact b → Of fact (reset_step b source stream offsets).book
  reset_keeps b source stream offsets h =
      fitted_keeps (Of fact) (Tables.Publications ∷ Tables.Offsets ∷ []) b (after_reset source stream offsets b) (Replies.Reset (length b.publications)) h
      (λ room. sequences_keeps (reads_stream (supervisor_of source b.supervisors) stream) source (offsets_reset source stream offsets b) (more (reset_publication source stream offsets) b h))

  -- ---- supervisors and reports

  supervised_keeps : (o : Option SupervisorRow) (b : Book) (row : SupervisorRow) → Of fact b → Of fact (supervised o b row).book
  supervised_keeps (Some s) b row h = h
  supervised_keeps None b row h = fitted_keeps (Of fact) (Tables.Supervisors ∷ []) b (record b { supervisors = b.supervisors ++ row ∷ [] }) (Replies.Supervise row.source) h (λ room. h)

  report_kept_keeps : (begin : Bool) (b : Book) (name : List ℕ) (new : Report) (u : SequenceRow) → Of fact b → Of fact (report_kept begin b name new u).book
  report_kept_keeps begin b name new u h =
      unless_keeps (report_fault (first_bad u.starts new.offsets)) b (changed (record b { sequences = map (reported name new b.clock) b.sequences }) (row_reply begin (reported name new b.clock u))) h h

  report_as_keeps : (s : SeqState) (begin : Bool) (b : Book) (name : List ℕ) (new : Report) (u : SequenceRow) → Of fact b → Of fact (report_as s begin b name new u).book
  report_as_keeps States.Published begin b name new u h = h
  report_as_keeps States.Abandoned begin b name new u h = h
  report_as_keeps States.Closed begin b name new u h = h
  report_as_keeps States.Reading false b name new u h = h
  report_as_keeps States.Reading true b name new u h = report_kept_keeps true b name new u h
  report_as_keeps States.Paused begin b name new u h = report_kept_keeps begin b name new u h

  report_by_keeps : (o : Option SequenceRow) (begin : Bool) (b : Book) (name : List ℕ) (new : Report) → Of fact b → Of fact (report_by o begin b name new).book
  report_by_keeps None begin b name new h = h
  report_by_keeps (Some u) begin b name new h = report_as_keeps u.state begin b name new u h

  report_keeps : (begin : Bool) (b : Book) (offsets : List Offset) (t : TaskRow) → Of fact b → Of fact (report_step begin b offsets t).book
  report_keeps begin b offsets t h = report_by_keeps (sequence_named t.group b.sequences) begin b t.group (record { task = t.task; offsets = offsets }) h

  asked_keeps : (r : Result PosseRow Refusal) (b : Book) → Of fact b → Of fact (refused_or r b (told_of b)).book
  asked_keeps (Err why) b h = h
  asked_keeps (Ok q) b h = h

  -- ---- any of these commands

  pub other_keeps : (b : Book) (c : Command) → is_other c ≡ true → Of fact b → Of fact (next b c)
  other_keeps b (Commands.Append task ids ranges) is h = publish_keeps PubKinds.Append (task_of task b.tasks) b (appending ids ranges) (append_running b (appending ids ranges)) h (λ t. append_keeps b (appending ids ranges) t h)
  other_keeps b (Commands.Insert task spans ids tombstones ranges) is h = step_keeps Inserting (task_of task b.tasks) b (in_spans spans ids tombstones ranges) h
  other_keeps b (Commands.Replace task spans ids tombstones ranges) is h = step_keeps Replacing (task_of task b.tasks) b (in_spans spans ids tombstones ranges) h
  other_keeps b (Commands.Drop source span) is h = dropped_keeps b source span h
  other_keeps b (Commands.Reset source stream offsets) is h = reset_keeps b source stream offsets h
  other_keeps b (Commands.Supervise source stream partitions task_count replicas task_duration completion_timeout) is h = supervised_keeps (supervisor_of source b.supervisors) b
      (record { source = source; stream = stream; partitions = partitions; task_count = task_count; replicas = replicas; duration = task_duration; timeout = completion_timeout }) h
  other_keeps b (Commands.Paused task offsets) is h = running_keeps (Of fact) (task_of task b.tasks) b (report_step false b offsets) h (λ t found runs. report_keeps false b offsets t h)
  other_keeps b (Commands.Checkpoint task offsets) is h = running_keeps (Of fact) (task_of task b.tasks) b (report_step true b offsets) h (λ t found runs. report_keeps true b offsets t h)
  other_keeps b (Commands.ToReplace task span) is h =
      running_keeps (Of fact) (task_of task b.tasks) b (asked b span) h (λ t found runs. asked_keeps (held_for b.posses t LockKinds.Replace span) b h)
  other_keeps b (Commands.Show what) is h = h
  other_keeps b _ is h = absurd (false≢true is)
