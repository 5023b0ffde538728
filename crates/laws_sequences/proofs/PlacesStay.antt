-- Whatever is committed stays at its place, whatever command comes.
use Rattle.std.proofs.Common.{◌≡◌, ℕ, zero, suc, Bool, true, false, cond, List, [], ◌∷◌, ◌++◌, map, Some, refl, length}
use Rattle.book_rows.specs.Lists.{at_place}
use Rattle.book_rows.specs.Locks.{left_all_locks, locks_of}
use Rattle.book_rows.specs.Over.{Target}
use Rattle.book_rows.specs.Publications.{drop_publication, publication_of, reset_publication}
use Rattle.book_rows.specs.PublishSteps.{offsets_reset, reads_stream, sequences_dropped}
use Rattle.book_rows.specs.Reports.{ended}
use Rattle.book_rows.specs.Sequences.{dropped_sequence, supervisor_of, tasks_dropped}
use Rattle.book_rows.specs.TaskSteps.{after_end, all_failed, with_status}
use Rattle.book_rows.specs.Ticks.{ticked}
use Rattle.book_rows.specs.declared.kinds.PubKind.TheVariants as PubKinds
use Rattle.book_rows.specs.declared.kinds.TaskStatus.{TaskStatus}
use Rattle.book_rows.specs.declared.rows.Book.{Book}
use Rattle.book_rows.specs.declared.rows.Offset.{Offset}
use Rattle.book_rows.specs.declared.rows.Publication.{Publication}
use Rattle.book_rows.specs.declared.rows.TaskRow.{TaskRow}
use Rattle.laws_sequences.specs.PublishLaws.{PublicationsStay}
use Rattle.laws_sequences.proofs.EachStep.{KeepsSteps, each_keeps, managed_keeps}
use Rattle.laws_sequences.proofs.Lines.{all_failed_keeps, left_keeps}

-- ---- places of a list

pub place_push : {X : Type 0} (k : ℕ) (x : X) (xs : List X) (y : X) → at_place k xs ≡ Some x → at_place k (xs ++ y ∷ []) ≡ Some x
place_push k x [] y e = cc
place_push zero x (z ∷ xs) y e = e
place_push (suc k) x (z ∷ xs) y e = place_push k x xs y e

pub last_place : {X : Type 0} (xs : List X) (y : X) → at_place (length xs) (xs ++ y ∷ []) ≡ Some y
last_place [] y = refl
last_place (x ∷ xs) y = last_place xs y

-- ---- the place of one publication

module _ (k : ℕ) (m : Publication) where
  abbrev Stands : Book → Type 0
  Stands b = at_place k b.publications ≡ Some m

  push : (b : Book) (n : Publication) → Stands b → at_place k (b.publications ++ n ∷ []) ≡ Some m
  push b n h = place_push k m b.publications n h

  fails : (tasks : List (List ℕ)) (b : Book) → Stands b → Stands (all_failed tasks b)
  fails tasks b h = all_failed_keeps Stands (λ n task c e. e) (λ task c e. e) tasks b h

  reset_stands : (x : Bool) (b : Book) (source stream : List ℕ) (os : List Offset) → Stands b → Stands (cond x (sequences_dropped source (offsets_reset source stream os b)) (offsets_reset source stream os b))
  reset_stands false b source stream os h = push b (reset_publication source stream os) h
  reset_stands true b source stream os h =
      fails (tasks_dropped source b.sequences) (record (offsets_reset source stream os b) { sequences = map (dropped_sequence source) b.sequences }) (push b (reset_publication source stream os) h)

  end_stands : (b : Book) (t : TaskRow) (status : TaskStatus) → Stands b → Stands (after_end t status b)
  end_stands b t status h =
      let e = ended t.group t.task b.clock b.sequences in
      fails e.tasks (record (with_status t.task status (left_all_locks t.task b)) { sequences = e.sequences }) (left_keeps Stands (λ n task c s. s) (locks_of t.task b.posses) t.task b h)

  stands_kept : KeepsSteps (λ c. Unit {0}) Stands
  stands_kept = record {
    submits = λ b task group source kind priority locks form new h. h;
    manages = managed_keeps Stands (λ b now h. h) (λ b task g h. h) (λ b task h. h);
    grants = λ b task g h. h;
    leaves = λ b lock task h. h;
    joins = λ b now qs h. h;
    allots = λ b n h. h;
    appends = λ b t given i fault h. push b (publication_of PubKinds.Append t [] given) h;
    inserts = λ b t xs given i fault h. push b (publication_of PubKinds.Over t (map (λ (x : Target). record { span = x.span; since = 0 }) xs) given) h;
    replaces = λ b t xs given i fault h. push b (publication_of PubKinds.Replace t (map (λ (x : Target). record { span = x.span; since = x.since }) xs) given) h;
    drops = λ b source span h. push b (drop_publication source span) h;
    resets = λ b source stream os h. reset_stands (reads_stream (supervisor_of source b.supervisors) stream) b source stream os h;
    ends = λ b task t status form i h. end_stands b t status h;
    reports = λ b t offsets u i found fits h. h;
    supervises = λ b source stream partitions task_count replicas duration timeout form none room h. h;
    ticks = λ b now room h. fails (ticked b.offsets now b.supervisors b.sequences).told.ended (record b { clock = now; sequences = (ticked b.offsets now b.supervisors b.sequences).rows }) h;
  }

pub publications_stay : PublicationsStay
publications_stay b c k m h = each_keeps (λ c. Unit {0}) (Stands k m) (stands_kept k m) b c tt h
