-- No command changes or removes a publication.
use Rattle.std.proofs.Common.{List, [], ap, append_assoc, cond, false, filter, map, refl, true, ℕ, ℤ, ◌++◌, ◌∙◌, ◌∷◌, ◌≡◌}
use Rattle.book_rows.specs.Answer.{book_after, next}
use Rattle.book_rows.specs.Grant.{book_granted, counters_at, grant_all, moment}
use Rattle.book_rows.specs.Locks.{left_all_locks, left_lock, left_locks, locks_of}
use Rattle.book_rows.specs.Outcome.{no_room}
use Rattle.book_rows.specs.PublishSteps.{after_reset, offsets_reset, reads_stream, sequences_dropped}
use Rattle.book_rows.specs.Publications.{appending, drop_publication, publication_of, reset_publication}
use Rattle.book_rows.specs.Reports.{ended}
use Rattle.book_rows.specs.Sequences.{dropped_sequence, supervisor_of, tasks_dropped}
use Rattle.book_rows.specs.TaskSteps.{Managed, after_end, all_failed, failed, is_waiting, managed_all, managed_by, managed_one, started_by, with_status}
use Rattle.book_rows.specs.declared.answers.Granted.{Granted}
use Rattle.book_rows.specs.declared.kinds.Table.{Table}
use Rattle.book_rows.specs.declared.kinds.TaskStatus.{TaskStatus}
use Rattle.book_rows.specs.declared.replies.Refusal.{Refusal}
use Rattle.book_rows.specs.declared.rows.Book.{Book}
use Rattle.book_rows.specs.declared.rows.Offset.{Offset}
use Rattle.book_rows.specs.declared.rows.Publication.{Publication}
use Rattle.book_rows.specs.declared.rows.TaskRow.{TaskRow}
use Rattle.std.specs.Prelude.{Err, None, Ok, Option, Result, Some}
use Rattle.laws_shown.specs.Growth.{GoesOn, PublicationsGoOn, PublicationsStay}
use Rattle.laws_shown.proofs.EachCommand.{HoldsAfterEach, after_each}
use Rattle.book_rows.specs.declared.kinds.PubKind.TheVariants as PubKinds
use Rattle.book_rows.specs.declared.kinds.Table.TheVariants as Tables
use Rattle.book_rows.specs.declared.kinds.TaskStatus.TheVariants as Statuses

nothing_more : (ms : List Publication) → ms ≡ ms ++ []
nothing_more [] = refl
nothing_more (m ∷ ms) = ap (λ (xs : List Publication). m ∷ xs) (nothing_more ms)

same_go_on : (ms later : List Publication) → later ≡ ms → GoesOn ms later
same_go_on ms later e = ([], e ∙ nothing_more ms)

then_go_on : (ms mid later : List Publication) → GoesOn ms mid → GoesOn mid later → GoesOn ms later
then_go_on ms mid later g h = (g.0 ++ h.0, h.1 ∙ ap (λ (xs : List Publication). xs ++ h.0) g.1 ∙ append_assoc ms g.0 h.0)

-- ---- tasks that leave their locks or are granted some

left_locks_same : (ns task : List ℕ) (b : Book) → (left_locks ns task b).publications ≡ b.publications
left_locks_same [] task b = refl
left_locks_same (n ∷ ns) task b = left_locks_same ns task (left_lock n task b)

left_all_same : (task : List ℕ) (b : Book) → (left_all_locks task b).publications ≡ b.publications
left_all_same task b = left_locks_same (locks_of task b.posses) task b

all_failed_same : (tasks : List (List ℕ)) (b : Book) → (all_failed tasks b).publications ≡ b.publications
all_failed_same [] b = refl
all_failed_same (task ∷ rest) b = all_failed_same rest (failed task b) ∙ left_all_same task b

started_same : (table : Option Table) (t : TaskRow) (after : Book) (m : Managed) → after.publications ≡ m.book.publications → (started_by table t after m).book.publications ≡ m.book.publications
started_same (Some table) t after m e = refl
started_same None t after m e = e

managed_same : (g : Result Granted Refusal) (t : TaskRow) (m : Managed) → (managed_by g t m).book.publications ≡ m.book.publications
managed_same (Err why) t m = refl
managed_same (Ok g) t m = started_same (no_room (Tables.Locks ∷ Tables.Numbers ∷ []) (with_status t.task Statuses.Running (book_granted m.book t.task g))) t (with_status t.task Statuses.Running (book_granted m.book t.task g)) m refl

managed_all_same : (now : ℤ) (ts : List TaskRow) (m : Managed) → (managed_all now ts m).book.publications ≡ m.book.publications
managed_all_same now [] m = refl
managed_all_same now (t ∷ ts) m = managed_all_same now ts (managed_one now t m) ∙ managed_same (grant_all m.book.posses (counters_at m.book now) t t.wants) t m

-- ---- all commands

module _ (b : Book) where
  stays : GoesOn b.publications b.publications
  stays = same_go_on b.publications b.publications refl

  ended_same : (t : TaskRow) (status : TaskStatus) → (after_end t status b).publications ≡ b.publications
  ended_same t status = all_failed_same (ended t.group t.task b.clock b.sequences).tasks (record (with_status t.task status (left_all_locks t.task b)) { sequences = (ended t.group t.task b.clock b.sequences).sequences }) ∙ left_all_same t.task b

  dropped_same : (source : List ℕ) (x : Book) → (sequences_dropped source x).publications ≡ x.publications
  dropped_same source x = all_failed_same (tasks_dropped source x.sequences) (record x { sequences = map (dropped_sequence source) x.sequences })

  reset_goes_on : (source stream : List ℕ) (offsets : List Offset) → GoesOn b.publications (after_reset source stream offsets b).publications
  reset_goes_on source stream offsets =
      elim (reads_stream (supervisor_of source b.supervisors) stream) as (λ c. GoesOn b.publications (cond c (sequences_dropped source (offsets_reset source stream offsets b)) (offsets_reset source stream offsets b)).publications)
      [ true ↦ (reset_publication source stream offsets ∷ [], dropped_same source (offsets_reset source stream offsets b)) | false ↦ (reset_publication source stream offsets ∷ [], refl) ]

  goes_on_after_each : HoldsAfterEach (λ x. GoesOn b.publications x.publications) b
  goes_on_after_each = record {
    before = stays;
    submitted_one = λ row. stays;
    managed_all = λ now. same_go_on b.publications (managed_all now (filter is_waiting b.tasks) (record { book = record b { clock = moment b now }; running = []; waiting = [] })).book.publications
        (managed_all_same now (filter is_waiting b.tasks) (record { book = record b { clock = moment b now }; running = []; waiting = [] }));
    locked_one = λ t w now g e. stays;
    left_one = λ lock task. stays;
    joined_one = λ now lock task. stays;
    allotted_one = λ t w now g n e. stays;
    appended_ids = λ t ids ranges. (publication_of PubKinds.Append t [] (appending ids ranges) ∷ [], refl);
    inserted_spans = λ t xs given. (publication_of PubKinds.Over t (map (λ x. record { span = x.span; since = 0 }) xs) given ∷ [], refl);
    replaced_spans = λ t xs given. (publication_of PubKinds.Replace t (map (λ x. record { span = x.span; since = x.since }) xs) given ∷ [], refl);
    ended_one = λ t status. same_go_on b.publications (after_end t status b).publications (ended_same t status);
    dropped_span = λ source span. (drop_publication source span ∷ [], refl);
    reset_stream = reset_goes_on;
    supervised_one = λ row. stays;
    ticked_at = λ k now. same_go_on b.publications (all_failed k.told.ended (record b { clock = now; sequences = k.rows })).publications (all_failed_same k.told.ended (record b { clock = now; sequences = k.rows }));
    reported_one = λ name new. stays;
  }

pub publications_go_on : PublicationsGoOn
publications_go_on b c = after_each (λ x. GoesOn b.publications x.publications) b (goes_on_after_each b) c

pub publications_stay : PublicationsStay
publications_stay b [] = stays b
publications_stay b (c ∷ cs) = then_go_on b.publications (next b c).publications (book_after (next b c) cs).publications (publications_go_on b c) (publications_stay (next b c) cs)
