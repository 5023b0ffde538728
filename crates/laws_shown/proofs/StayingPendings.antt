-- A pending waits as long as its lock is valid and its root isn't appended.
use Rattle.std.proofs.Common.{List, [], ap, cond, false, filter, inl, inr, map, not, refl, subst, true, ℕ, ℤ, ◌++◌, ◌<◌, ◌∷◌, ◌≡◌, ◌⊎◌}
use Rattle.std.proofs.lemmas.Bool.{cases_Bool}
use Rattle.std.specs.Prelude.{Err, None, Ok, Option, Result, Some}
use Rattle.seg_names.specs.declared.seg_id.SegId.{SegId}
use Rattle.book_rows.specs.Allocation.{allotted, allotted_id, allotted_row}
use Rattle.book_rows.specs.Answer.{next}
use Rattle.book_rows.specs.Append.{after_append}
use Rattle.book_rows.specs.Grant.{book_granted, counters_at, grant_all, moment, posses_after}
use Rattle.book_rows.specs.Ids.{is_listed}
use Rattle.book_rows.specs.Lists.{In, gathered, stands_in}
use Rattle.book_rows.specs.Locks.{HasDistinctNumbers, ends_at, left_all_locks, left_lock, left_locks, locks_of}
use Rattle.book_rows.specs.Outcome.{no_room}
use Rattle.book_rows.specs.Publications.{appending, publication_of}
use Rattle.book_rows.specs.PublishSteps.{after_reset, offsets_reset, reads_stream, sequences_dropped}
use Rattle.book_rows.specs.Reports.{ended}
use Rattle.book_rows.specs.Rewrite.{copies_of}
use Rattle.book_rows.specs.Sequences.{dropped_sequence, supervisor_of, tasks_dropped}
use Rattle.book_rows.specs.Sound.{Sound}
use Rattle.book_rows.specs.TaskSteps.{Managed, after_end, all_failed, failed, is_waiting, managed, managed_all, managed_by, managed_one, started_by, with_status}
use Rattle.book_rows.specs.declared.answers.Granted.{Granted}
use Rattle.book_rows.specs.declared.answers.NewPending.{NewPending}
use Rattle.book_rows.specs.declared.commands.Command.{Command}
use Rattle.book_rows.specs.declared.kinds.Table.{Table}
use Rattle.book_rows.specs.declared.kinds.TaskStatus.{TaskStatus}
use Rattle.book_rows.specs.declared.replies.Refusal.{Refusal}
use Rattle.book_rows.specs.declared.rows.Book.{Book}
use Rattle.book_rows.specs.declared.rows.Offset.{Offset}
use Rattle.book_rows.specs.declared.rows.PendingRow.{PendingRow}
use Rattle.book_rows.specs.declared.rows.Publication.{Publication}
use Rattle.book_rows.specs.declared.rows.Ranges.{Ranges}
use Rattle.book_rows.specs.declared.rows.TaskRow.{TaskRow}
use Rattle.laws_chunks.proofs.Members.{In-all, In-left, In-right, filter_In}
use Rattle.laws_shown.specs.Waiting.{IsHeldIn, IsHeldOn, IsLost, PendingsStay, PendingsWait, WaitsOrEnded}
use Rattle.laws_shown.proofs.Alike.{In-gathered}
use Rattle.laws_shown.proofs.EachCommand.{HoldsAfterEach, after_each}
use Rattle.laws_shown.proofs.Histories.{listed_In}
use Rattle.laws_shown.proofs.LostNumbers.{all_gone, all_low, all_revoked, distinct_left, ended_lost, one_fate, still_lost}
use Rattle.book_rows.specs.declared.kinds.Table.TheVariants as Tables
use Rattle.book_rows.specs.declared.kinds.TaskStatus.TheVariants as Statuses
use Rattle.book_rows.specs.declared.kinds.PubKind.TheVariants as PubKinds

module _ (p : PendingRow) where
  -- it is there, or its lock isn't valid any more
  abbrev IsHeld : Book → Type 0
  IsHeld b = In p b.pendings ⊎ IsLost b.posses p.posse

  waits : (b : Book) → IsHeld b → WaitsOrEnded b p
  waits b (inl i) = inl i
  waits b (inr lost) = inr (inr lost)

  -- ---- locks are left

  leave_held : (number : ℕ) (task : List ℕ) (b : Book) → HasDistinctNumbers b.posses → IsHeld b → IsHeld (left_lock number task b)
  leave_held number task b d (inl i) = elim (cases_Bool (ends_at number task b.posses p.posse)) [
    | inl on ↦ inr (ended_lost number task b.posses p.posse d on)
    | inr off ↦ inl (filter_In (λ x. not (ends_at number task b.posses x.posse)) p b.pendings i (ap not off))
  ]
  leave_held number task b d (inr lost) = inr (still_lost number task b.posses p.posse lost)

  locks_held : (ns task : List ℕ) (b : Book) → HasDistinctNumbers b.posses → IsHeld b → IsHeld (left_locks ns task b) × HasDistinctNumbers (left_locks ns task b).posses
  locks_held [] task b d h = (h, d)
  locks_held (m ∷ ns) task b d h = locks_held ns task (left_lock m task b) (distinct_left m task b.posses d) (leave_held m task b d h)

  fail_held : (tasks : List (List ℕ)) (b : Book) → HasDistinctNumbers b.posses → IsHeld b → IsHeld (all_failed tasks b)
  fail_held [] b d h = h
  fail_held (task ∷ rest) b d h = let l = locks_held (locks_of task b.posses) task b d h in fail_held rest (failed task b) l.1 l.0

  -- ---- locks are granted

  granted_held : (b : Book) (task : List ℕ) (g : Granted) → (IsLost b.posses p.posse → IsLost (posses_after b.posses task g) p.posse) → (stands_in g.revoked p.posse ≡ true → IsLost (posses_after b.posses task g) p.posse) → IsHeld b → IsHeld (book_granted b task g)
  granted_held b task g old new (inl i) = elim (cases_Bool (stands_in g.revoked p.posse)) [
    | inl on ↦ inr (new on)
    | inr off ↦ inl (filter_In (λ x. not (stands_in g.revoked x.posse)) p b.pendings i (ap not off))
  ]
  granted_held b task g old new (inr lost) = inr (old lost)

  -- and the number of its lock was given
  abbrev IsHeldLow : Book → Type 0
  IsHeldLow b = IsHeld b × (p.posse < b.next_lock)

  started_held : (table : Option Table) (t : TaskRow) (after : Book) (m : Managed) → IsHeldLow m.book → IsHeldLow after → IsHeldLow (started_by table t after m).book
  started_held (Some table) t after m h k = h
  started_held None t after m h k = k

  managed_held : (r : Result Granted Refusal) (now : ℤ) (t : TaskRow) (m : Managed) → grant_all m.book.posses (counters_at m.book now) t t.wants ≡ r → IsHeldLow m.book → IsHeldLow (managed_by r t m).book
  managed_held (Err why) now t m e h = h
  managed_held (Ok g) now t m e h = started_held (no_room (Tables.Locks ∷ Tables.Numbers ∷ []) (with_status t.task Statuses.Running (book_granted m.book t.task g))) t (with_status t.task Statuses.Running (book_granted m.book t.task g)) m h (
    granted_held m.book t.task g (λ lost. (all_gone p.posse t t.wants m.book.posses (counters_at m.book now) g (h.1, lost) e).1) (λ on. all_revoked p.posse t t.wants m.book.posses (counters_at m.book now) g h.1 e on) h.0,
    all_low p.posse t t.wants m.book.posses (counters_at m.book now) g h.1 e,
  )

  managed_all_held : (now : ℤ) (ts : List TaskRow) (m : Managed) → IsHeldLow m.book → IsHeldLow (managed_all now ts m).book
  managed_all_held now [] m h = h
  managed_all_held now (t ∷ ts) m h = managed_all_held now ts (managed_one now t m) (managed_held (grant_all m.book.posses (counters_at m.book now) t t.wants) now t m refl h)

  allotted_held : (n : NewPending) (b : Book) → IsHeld b → WaitsOrEnded (allotted n b) p
  allotted_held n b (inl i) = inl (In-left p b.pendings (allotted_row (allotted_id b.chunks n) n ∷ []) i)
  allotted_held n b (inr lost) = inr (inr lost)

  -- ---- the commands

  module _ (b : Book) (sound : Sound b) (i : In p b.pendings) where
    numbers : HasDistinctNumbers b.posses
    numbers = sound.shape.keys.numbers

    low : p.posse < b.next_lock
    low =
        let held = (sound.rooted p i).has_posse in
        subst (λ (n : ℕ). n < b.next_lock) held.number_is (In-all (λ q. q.number < b.next_lock) held.posse b.posses held.is_valid.among sound.shape.keys.below)

    append_waits : (t : TaskRow) (ids : List SegId) (ranges : Option Ranges) → WaitsOrEnded (after_append t (appending ids ranges) b) p
    append_waits t ids ranges = elim (cases_Bool (is_listed ids p.root)) [
      | inl on ↦ inr (inl (In-gathered (λ (m : Publication). m.adds) (b.publications ++ publication_of PubKinds.Append t [] (appending ids ranges) ∷ []) (publication_of PubKinds.Append t [] (appending ids ranges)) p.root (In-right (publication_of PubKinds.Append t [] (appending ids ranges)) b.publications (publication_of PubKinds.Append t [] (appending ids ranges) ∷ []) (inl refl)) (listed_In ids p.root on)))
      | inr off ↦ inl (filter_In (λ x. not (is_listed ids x.root)) p b.pendings i (ap not off))
    ]

    end_waits : (t : TaskRow) (status : TaskStatus) → WaitsOrEnded (after_end t status b) p
    end_waits t status =
        let l = locks_held (locks_of t.task b.posses) t.task b numbers (inl i) in
        waits (after_end t status b) (fail_held (ended t.group t.task b.clock b.sequences).tasks (record (with_status t.task status (left_all_locks t.task b)) { sequences = (ended t.group t.task b.clock b.sequences).sequences }) l.1 l.0)

    reset_waits : (source stream : List ℕ) (offsets : List Offset) → WaitsOrEnded (after_reset source stream offsets b) p
    reset_waits source stream offsets =
        elim (reads_stream (supervisor_of source b.supervisors) stream) as (λ c. WaitsOrEnded (cond c (sequences_dropped source (offsets_reset source stream offsets b)) (offsets_reset source stream offsets b)) p)
        [ true ↦ dropped (offsets_reset source stream offsets b) numbers (inl i) | false ↦ inl i ] where
          dropped : (x : Book) → HasDistinctNumbers x.posses → IsHeld x → WaitsOrEnded (sequences_dropped source x) p
          dropped x d h = waits (sequences_dropped source x) (fail_held (tasks_dropped source x.sequences) (record x { sequences = map (dropped_sequence source) x.sequences }) d h)

    waits_after_each : HoldsAfterEach (λ x. WaitsOrEnded x p) b
    waits_after_each = record {
      before = inl i;
      submitted_one = λ row. inl i;
      managed_all = λ now. waits (managed b now).book (managed_all_held now (filter is_waiting b.tasks) (record { book = record b { clock = moment b now }; running = []; waiting = [] }) (inl i, low)).0;
      locked_one = λ t w now g e. (let f = one_fate p.posse t b.posses (counters_at b now) w g low e in waits (book_granted b t.task g) (granted_held b t.task g f.0 f.1 (inl i)));
      left_one = λ lock task. waits (left_lock lock task b) (leave_held lock task b numbers (inl i));
      joined_one = λ now lock task. inl i;
      allotted_one = λ t w now g n e. (let f = one_fate p.posse t b.posses (counters_at b now) w g low e in allotted_held n (book_granted b t.task g) (granted_held b t.task g f.0 f.1 (inl i)));
      appended_ids = append_waits;
      inserted_spans = λ t xs given. inl i;
      replaced_spans = λ t xs given. inl (In-left p b.pendings (gathered (λ x. (copies_of b t given.ids x).pendings) xs) i);
      ended_one = end_waits;
      dropped_span = λ source span. inl i;
      reset_stream = reset_waits;
      supervised_one = λ row. inl i;
      ticked_at = λ k now. waits (all_failed k.told.ended (record b { clock = now; sequences = k.rows })) (fail_held k.told.ended (record b { clock = now; sequences = k.rows }) numbers (inl i));
      reported_one = λ name new. inl i;
    }

pub pendings_wait : PendingsWait
pendings_wait b c p sound i = after_each (λ x. WaitsOrEnded x p) b (waits_after_each p b sound i) c

first_held : (b : Book) (cs : List Command) (p : PendingRow) → IsHeldOn b cs p → IsHeldIn b p
first_held b [] p h = h
first_held b (c ∷ cs) p h = h.0

pub pendings_stay : PendingsStay
pendings_stay b [] p i h = i
pendings_stay b (c ∷ cs) p i h = pendings_stay (next b c) cs p (there (pendings_wait b c p h.0.sound i) (first_held (next b c) cs p h.1)) h.1 where
  there : WaitsOrEnded (next b c) p → IsHeldIn (next b c) p → In p (next b c).pendings
  there (inl j) held = j
  there (inr (inl added)) held = absurd (held.not_added added)
  there (inr (inr lost)) held = absurd (lost held.lock held.is_valid held.number_is)
