-- What changes of sequences and of tasks keep of supervisors, their sequences and their tasks.
use Rattle.std.proofs.Common.{ℕ, ℤ, Bool, true, false, cond, ◌&&◌, List, [], ◌∷◌, map, Some, None, Option}
use Rattle.std.proofs.lemmas.List.{length-map}
use Rattle.book_rows.specs.Kinds.{is_unpublished}
use Rattle.book_rows.specs.Lists.{is_empty}
use Rattle.book_rows.specs.Locks.{left_all_locks, left_lock, left_locks, locks_of}
use Rattle.book_rows.specs.Reports.{Ended, closed_at, ended, ended_by, left_all, left_by}
use Rattle.book_rows.specs.Sequences.{abandoned, sequence_named, tasks_abandoned}
use Rattle.book_rows.specs.SupSteps.{with_tasks}
use Rattle.book_rows.specs.TaskSteps.{all_failed, failed, status_set, with_status}
use Rattle.book_rows.specs.declared.kinds.TaskStatus.{TaskStatus}
use Rattle.book_rows.specs.declared.kinds.TaskStatus.TheVariants as Statuses
use Rattle.book_rows.specs.declared.rows.Book.{Book}
use Rattle.book_rows.specs.declared.rows.OffsetRow.{OffsetRow}
use Rattle.book_rows.specs.declared.rows.Publication.{Publication}
use Rattle.book_rows.specs.declared.rows.SequenceRow.{SequenceRow}
use Rattle.book_rows.specs.declared.rows.SupervisorRow.{SupervisorRow}
use Rattle.book_rows.specs.declared.rows.TaskRow.{TaskRow}
use Rattle.laws_locks.proofs.Lists.{In-left}
use Rattle.laws_sequences.specs.Links.{AreInLine, AreLinked, ArePublished, HasLinks}
use Rattle.laws_sequences.proofs.Abandoned.{abandoned_keys, abandoned_published, linked_abandoned}
use Rattle.laws_sequences.proofs.Counts.{KeepsKeys}
use Rattle.laws_sequences.proofs.KeptLinks.{KeepsRows, keeps_closed, keeps_left, linked_map}
use Rattle.laws_sequences.proofs.Publishings.{published_map}
use Rattle.laws_sequences.proofs.Replicas.{In-right, replicas_append, replicas_moved, replicas_set, supervised_moved}

-- ---- other sequences of the same keys

module _ (ts : List TaskRow) (pubs : List Publication) (rows : List OffsetRow) (ss : List SupervisorRow) where
  pub line_moved : (f : SequenceRow → SequenceRow) → KeepsKeys f → (more : List Publication) (after : List OffsetRow) (us : List SequenceRow) → AreInLine ts pubs rows ss us → AreLinked after ss (map f us) → ArePublished more (map f us) → AreInLine ts more after ss (map f us)
  line_moved f k more after us h linked published = record {
    supervisors = h.supervisors;
    supervised = record { room = rw (length-map us f) h.supervised.room; each = supervised_moved ss f k us h.supervised.each };
    linked = linked;
    replicas = replicas_moved ss f k us ts h.replicas;
    published = published;
  }

  pub line_map : (f : SequenceRow → SequenceRow) → KeepsRows f → (us : List SequenceRow) → AreInLine ts pubs rows ss us → AreInLine ts pubs rows ss (map f us)
  line_map f k us h = line_moved f k.keys pubs rows us h (linked_map f k rows ss us h.linked) (published_map f k.published pubs us h.published)

  line_abandoned : (source : List ℕ) (group from : ℕ) (us : List SequenceRow) → AreInLine ts pubs rows ss us → AreInLine ts pubs rows ss (map (abandoned source group from) us)
  line_abandoned source group from us h = line_moved (abandoned source group from) (abandoned_keys source group from) pubs rows us h (linked_abandoned source group from rows ss us h.linked) (published_map (abandoned source group from) (abandoned_published source group from) pubs us h.published)

  line_ended_by : (o : Option SequenceRow) (name : List ℕ) (clock : ℤ) (us : List SequenceRow) → AreInLine ts pubs rows ss us → AreInLine ts pubs rows ss (ended_by o name clock us).sequences
  line_ended_by None name clock us h = h
  line_ended_by (Some u) name clock us h =
      either (is_unpublished u.state && is_empty u.live) (record { sequences = map (abandoned u.source u.group u.index) us; tasks = tasks_abandoned u.source u.group u.index us }) (record { sequences = map (closed_at name clock) us; tasks = [] })
      (line_abandoned u.source u.group u.index us h) (line_map (closed_at name clock) (keeps_closed name clock) us h) where
        either : (b : Bool) (x y : Ended) → AreInLine ts pubs rows ss x.sequences → AreInLine ts pubs rows ss y.sequences → AreInLine ts pubs rows ss (cond b x y).sequences
        either true x y h k = h
        either false x y h k = k

  -- a task ends
  pub line_ended : (name task : List ℕ) (clock : ℤ) (us : List SequenceRow) → AreInLine ts pubs rows ss us → AreInLine ts pubs rows ss (ended name task clock us).sequences
  line_ended name task clock us h = line_ended_by (sequence_named name (left_all task us)) name clock (left_all task us) (line_map (left_by task) (keeps_left task) us h)

-- ---- other tasks

pub line_set : (task : List ℕ) (status : TaskStatus) (b : Book) → HasLinks b → HasLinks (with_status task status b)
line_set task status b h = record {
  supervisors = h.supervisors;
  supervised = h.supervised;
  linked = h.linked;
  replicas = replicas_set b.supervisors b.sequences task status b.tasks h.replicas;
  published = h.published;
}

-- what holds where a lock is left holds where several are
pub left_keeps : (P : Book → Type 0) → ((n : ℕ) (task : List ℕ) (b : Book) → P b → P (left_lock n task b)) → (ns task : List ℕ) (b : Book) → P b → P (left_locks ns task b)
left_keeps P f [] task b h = h
left_keeps P f (n ∷ ns) task b h = left_keeps P f ns task (left_lock n task b) (f n task b h)

-- and what holds also where a task fails holds where several do
pub all_failed_keeps : (P : Book → Type 0) → ((n : ℕ) (task : List ℕ) (b : Book) → P b → P (left_lock n task b)) → ((task : List ℕ) (b : Book) → P b → P (with_status task Statuses.Failed b)) → (tasks : List (List ℕ)) (b : Book) → P b → P (all_failed tasks b)
all_failed_keeps P f g [] b h = h
all_failed_keeps P f g (task ∷ rest) b h = all_failed_keeps P f g rest (failed task b) (g task (left_all_locks task b) (left_keeps P f (locks_of task b.posses) task b h))

pub line_all_failed : (tasks : List (List ℕ)) (b : Book) → HasLinks b → HasLinks (all_failed tasks b)
line_all_failed tasks b h = all_failed_keeps HasLinks (λ n task b h. h) (λ task b h. line_set task Statuses.Failed b h) tasks b h

-- ---- a task leaves its locks and gets another status, and its sequence looks at who is left

pub line_ended_task : (name task : List ℕ) (status : TaskStatus) (clock : ℤ) (b : Book) → HasLinks b → HasLinks (record (with_status task status (left_all_locks task b)) { sequences = (ended name task clock b.sequences).sequences })
line_ended_task name task status clock b h =
    let left : Book = record (left_all_locks task b) { sequences = b.sequences } in
    let held : HasLinks left = left_keeps (λ c. HasLinks (record c { sequences = b.sequences })) (λ n task c k. k) (locks_of task b.posses) task b h in
    line_ended (with_status task status left).tasks left.publications left.offsets left.supervisors name task clock b.sequences (line_set task status left held)

-- ---- tasks that others follow

-- tasks follow that stay as they are
set_followed : (rows : List TaskRow) (task : List ℕ) (status : TaskStatus) (b : Book) → HasLinks (with_tasks rows b) → HasLinks (with_tasks rows (with_status task status b))
set_followed rows task status b h = record {
  supervisors = h.supervisors;
  supervised = h.supervised;
  linked = h.linked;
  replicas = replicas_append b.supervisors b.sequences (map (status_set task status) b.tasks) rows
      (replicas_set b.supervisors b.sequences task status b.tasks (λ t i e. h.replicas t (In-left t b.tasks rows i) e)) (λ t i e. h.replicas t (In-right t b.tasks rows i) e);
  published = h.published;
}

pub line_failed_followed : (rows : List TaskRow) (tasks : List (List ℕ)) (b : Book) → HasLinks (with_tasks rows b) → HasLinks (with_tasks rows (all_failed tasks b))
line_failed_followed rows tasks b h = all_failed_keeps (λ c. HasLinks (with_tasks rows c)) (λ n task c k. k) (λ task c k. set_followed rows task Statuses.Failed c k) tasks b h
