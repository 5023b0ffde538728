-- Every command that keeps its form keeps supervisors, sequences and their tasks in line.
use Rattle.std.proofs.Common.{◌≡◌, ℕ, Bool, true, false, cond, not, List, [], ◌∷◌, ◌++◌, map, Some, refl, sym, ◌∙◌, subst, inl, inr, length, nat_le, bytes_eq}
use Rattle.std.specs.List.{list_all}
use Rattle.std.proofs.lemmas.Bool.{and_parts, false≢true, not-true, or_from}
use Rattle.seg_names.specs.Names.{is_name}
use Rattle.book_rows.specs.Form.{KeepsForm, is_submit_text, is_want, priority_limit}
use Rattle.book_rows.specs.Names.{begins_with, compact_prefix, sup_prefix}
use Rattle.book_rows.specs.Over.{Target}
use Rattle.book_rows.specs.Publications.{drop_publication, publication_of, reset_publication}
use Rattle.book_rows.specs.PublishSteps.{offsets_reset, reads_stream, sequences_dropped}
use Rattle.book_rows.specs.Reports.{ended, reported}
use Rattle.book_rows.specs.SequenceRules.{is_sup_task}
use Rattle.book_rows.specs.Sequences.{dropped_sequence, supervisor_of, tasks_dropped}
use Rattle.book_rows.specs.Locks.{left_all_locks}
use Rattle.book_rows.specs.TaskSteps.{after_end, waiting_row, with_status}
use Rattle.book_rows.specs.declared.commands.Command.TheVariants as Commands
use Rattle.book_rows.specs.declared.kinds.PubKind.TheVariants as PubKinds
use Rattle.book_rows.specs.declared.kinds.TaskKind.{TaskKind}
use Rattle.book_rows.specs.declared.kinds.TaskStatus.{TaskStatus}
use Rattle.book_rows.specs.declared.kinds.TaskStatus.TheVariants as Statuses
use Rattle.book_rows.specs.declared.rows.Book.{Book}
use Rattle.book_rows.specs.declared.rows.Offset.{Offset}
use Rattle.book_rows.specs.declared.rows.Publication.{Publication}
use Rattle.book_rows.specs.declared.rows.Report.{Report}
use Rattle.book_rows.specs.declared.rows.SupervisorRow.{SupervisorRow}
use Rattle.book_rows.specs.declared.rows.TaskRow.{TaskRow}
use Rattle.book_rows.specs.declared.rows.Want.{Want}
use Rattle.laws_locks.proofs.TaskRows.{bytes_differ}
use Rattle.laws_sequences.specs.CommandLaws.{CommandsKeepLinks}
use Rattle.laws_sequences.specs.Links.{ArePublished, AreReplicas, HasLinks}
use Rattle.laws_sequences.proofs.Abandoned.{dropped_keys, dropped_published, linked_dropped, linked_reset}
use Rattle.laws_sequences.proofs.CommittedRows.{line_committed}
use Rattle.laws_sequences.proofs.EachStep.{KeepsSteps, each_keeps, managed_keeps, supervisor_row}
use Rattle.laws_sequences.proofs.KeptLinks.{keeps_reported}
use Rattle.laws_sequences.proofs.Lines.{line_all_failed, line_ended_task, line_map, line_moved, line_set}
use Rattle.laws_sequences.proofs.Publishings.{published_beside, published_map}
use Rattle.laws_sequences.proofs.Replicas.{replicas_append}
use Rattle.laws_sequences.proofs.Supervising.{line_supervised}
use Rattle.laws_sequences.proofs.TickedBook.{tick_in_line}
use Rattle.laws_sequences.proofs.Turns.{other_streams}

-- ---- submit

-- a text that may be submitted isn't one that the program makes itself
submitted_text : (text : List ℕ) → is_submit_text text ≡ true → begins_with sup_prefix text ≡ false
submitted_text text h =
    let one = and_parts _ (not (begins_with compact_prefix text)) h in
    not-true (begins_with sup_prefix text) (and_parts _ (not (begins_with sup_prefix text)) one.0).1

-- the id and the group of a command that submits and keeps its form
pub submit_texts : (task group source : List ℕ) (kind : TaskKind) (priority : ℕ) (locks : List Want) → KeepsForm (Commands.Submit task group source kind priority locks) → is_sup_task (waiting_row task group source kind priority locks) ≡ false
submit_texts task group source kind priority locks form =
    let wants = and_parts _ (list_all is_want locks) form in
    let count = and_parts _ (nat_le (length locks) 64) wants.0 in
    let high = and_parts _ (nat_le priority priority_limit) count.0 in
    let named = and_parts _ (is_name source) high.0 in
    let texts = and_parts (is_submit_text task) (is_submit_text group) named.0 in
    or_from (begins_with sup_prefix task) (begins_with sup_prefix group) (submitted_text task texts.0) (submitted_text group texts.1)

submits_in_line : (b : Book) (row : TaskRow) → is_sup_task row ≡ false → HasLinks b → HasLinks (record b { tasks = b.tasks ++ row ∷ [] })
submits_in_line b row off h = record {
  supervisors = h.supervisors;
  supervised = h.supervised;
  linked = h.linked;
  replicas = replicas_append b.supervisors b.sequences b.tasks (row ∷ []) h.replicas none;
  published = h.published;
} where
  none : AreReplicas b.supervisors b.sequences (row ∷ [])
  none t (inl same) e = absurd (false≢true (sym off ∙ subst (λ (x : TaskRow). is_sup_task x ≡ true) same e))
  none t (inr i) e = absurd i

-- ---- drop and reset

-- a publication of no task
beside : (b : Book) (m : Publication) → begins_with sup_prefix m.group ≡ false → HasLinks b → HasLinks (record b { publications = b.publications ++ m ∷ [] })
beside b m off h = record {
  supervisors = h.supervisors;
  supervised = h.supervised;
  linked = h.linked;
  replicas = h.replicas;
  published = published_beside b.publications b.sequences m off h.published;
}

module _ (b : Book) (source stream : List ℕ) (os : List Offset) (h : HasLinks b) where
  reset_published : ArePublished (b.publications ++ reset_publication source stream os ∷ []) b.sequences
  reset_published = published_beside b.publications b.sequences (reset_publication source stream os) refl h.published

  reset_other : reads_stream (supervisor_of source b.supervisors) stream ≡ false → HasLinks (offsets_reset source stream os b)
  reset_other e = record {
    supervisors = h.supervisors;
    supervised = h.supervised;
    linked = linked_reset source stream os b.offsets b.supervisors b.sequences (other_streams b.supervisors source stream h.supervisors.sources off) h.linked;
    replicas = h.replicas;
    published = reset_published;
  } where
    off : (v : SupervisorRow) → supervisor_of source b.supervisors ≡ Some v → bytes_eq stream v.stream ≡ false
    off v found = bytes_differ v.stream stream (rw found at e)

  reset_read : HasLinks (sequences_dropped source (offsets_reset source stream os b))
  reset_read =
      line_all_failed (tasks_dropped source b.sequences) (record (offsets_reset source stream os b) { sequences = map (dropped_sequence source) b.sequences })
      (line_moved b.tasks b.publications b.offsets b.supervisors (dropped_sequence source) (dropped_keys source) (offsets_reset source stream os b).publications (offsets_reset source stream os b).offsets b.sequences h
      (linked_dropped source stream os b.offsets b.supervisors b.sequences h.linked) (published_map (dropped_sequence source) (dropped_published source) (offsets_reset source stream os b).publications b.sequences reset_published))

  after_reset_keeps : (x : Bool) → reads_stream (supervisor_of source b.supervisors) stream ≡ x → HasLinks (cond x (sequences_dropped source (offsets_reset source stream os b)) (offsets_reset source stream os b))
  after_reset_keeps true e = reset_read
  after_reset_keeps false e = reset_other e

-- ---- end

ends_in_line : (b : Book) (t : TaskRow) (status : TaskStatus) → HasLinks b → HasLinks (after_end t status b)
ends_in_line b t status h =
    let e = ended t.group t.task b.clock b.sequences in
    line_all_failed e.tasks (record (with_status t.task status (left_all_locks t.task b)) { sequences = e.sequences }) (line_ended_task t.group t.task status b.clock b h)

-- ---- any command

pub links_kept : KeepsSteps KeepsForm HasLinks
links_kept = record {
  submits = λ b task group source kind priority locks form new h. submits_in_line b (waiting_row task group source kind priority locks) (submit_texts task group source kind priority locks form) h;
  manages = managed_keeps HasLinks (λ b now h. h) (λ b task g h. h) (λ b task h. line_set task Statuses.Running b h);
  grants = λ b task g h. h;
  leaves = λ b lock task h. h;
  joins = λ b now qs h. h;
  allots = λ b n h. h;
  appends = λ b t given i fault h. line_committed b t h i given.ranges (publication_of PubKinds.Append t [] given) refl refl fault;
  inserts = λ b t xs given i fault h. line_committed b t h i given.ranges (publication_of PubKinds.Over t (map (λ (x : Target). record { span = x.span; since = 0 }) xs) given) refl refl fault;
  replaces = λ b t xs given i fault h. line_committed b t h i given.ranges (publication_of PubKinds.Replace t (map (λ (x : Target). record { span = x.span; since = x.since }) xs) given) refl refl fault;
  drops = λ b source span h. beside b (drop_publication source span) refl h;
  resets = λ b source stream os h. after_reset_keeps b source stream os h (reads_stream (supervisor_of source b.supervisors) stream) refl;
  ends = λ b task t status form i h. ends_in_line b t status h;
  reports = λ b t offsets u i found fits h. (
      let new : Report = record { task = t.task; offsets = offsets } in
      line_map b.tasks b.publications b.offsets b.supervisors (reported t.group new b.clock) (keeps_reported t.group new b.clock) b.sequences h);
  supervises = λ b source stream partitions task_count replicas duration timeout form none room h. line_supervised b (supervisor_row source stream partitions task_count replicas duration timeout) none form room h;
  ticks = λ b now room h. tick_in_line b now h room;
}

pub commands_keep_links : CommandsKeepLinks
commands_keep_links = each_keeps KeepsForm HasLinks links_kept
