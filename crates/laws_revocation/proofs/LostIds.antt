-- The ids of locks that are revoked or gone.
use Rattle.std.proofs.Common.{◌≡◌, ℕ, Bool, true, false, cond, List, [], ◌∷◌, ◌++◌, map, Option, Some, None, refl, sym, ◌∙◌, inl, inr, ap, subst}
use Rattle.std.proofs.lemmas.Bool.{cases_Bool, false≢true}
use Rattle.seg_names.specs.Ids.{same_id}
use Rattle.seg_names.specs.declared.seg_id.SegId.{SegId}
use Rattle.book_rows.specs.Answer.{book_after, changes, empty_book, next}
use Rattle.book_rows.specs.Lists.{In}
use Rattle.book_rows.specs.Locks.{left_all_locks}
use Rattle.book_rows.specs.Outcome.{task_of}
use Rattle.book_rows.specs.PublishSteps.{after_reset, appended, offsets_reset, reads_stream, sequences_dropped}
use Rattle.book_rows.specs.Publications.{appending, reset_publication}
use Rattle.book_rows.specs.Reports.{ended}
use Rattle.book_rows.specs.Sequences.{dropped_sequence, supervisor_of, tasks_dropped}
use Rattle.book_rows.specs.Shape.{all_adds, all_empties, pending_ids, segment_ids}
use Rattle.book_rows.specs.Sound.{Sound}
use Rattle.book_rows.specs.TaskSteps.{after_end, with_status}
use Rattle.book_rows.specs.declared.commands.Command.{Command}
use Rattle.book_rows.specs.declared.commands.Command.TheVariants as Commands
use Rattle.book_rows.specs.declared.kinds.TaskStatus.{TaskStatus}
use Rattle.book_rows.specs.declared.rows.Book.{Book}
use Rattle.book_rows.specs.declared.rows.Offset.{Offset}
use Rattle.book_rows.specs.declared.rows.PendingRow.{PendingRow}
use Rattle.book_rows.specs.declared.rows.Publication.{Publication}
use Rattle.book_rows.specs.declared.rows.SegmentRow.{SegmentRow}
use Rattle.book_rows.specs.declared.rows.TaskRow.{TaskRow}
use Rattle.laws_chunks.proofs.LockSteps.{all_failed_keeps, all_managed, sequences_fail}
use Rattle.laws_chunks.proofs.Members.{In-append, In-left, In-right, map_In, pairs_between}
use Rattle.laws_chunks.proofs.Spans.{one_pending, same_id_from}
use Rattle.laws_shown.proofs.Alike.{In-gathered}
use Rattle.laws_shown.proofs.EachCommand.{HoldsAfterEach, after_each}
use Rattle.laws_shown.proofs.Histories.{place_In}
use Rattle.laws_sound.proofs.Joined.{every_command_keeps_sound, reached_books_are_sound, sound_after}
use Rattle.book_rows.specs.Form.{AllKeepForm}
use Rattle.laws_revocation.specs.GivenIds.{HasGivenPendings, is_given}
use Rattle.laws_revocation.specs.LockNumbers.{HasNumbers, IsOver}
use Rattle.laws_revocation.specs.LostIds.{HasNoMoreOf, IsAppendedByNone, IsNowhere, LostIdsAreLost, LostPendingsAreNowhere, ReachedLostPendingsAreNowhere}
use Rattle.laws_revocation.specs.LostLocks.{IsNotPending}
use Rattle.laws_revocation.proofs.AllocatedIds.{not_answered}
use Rattle.laws_revocation.proofs.GivenOnce.{given_ids_come_no_more, given_stays, sound_has_given_pendings}
use Rattle.laws_revocation.proofs.Numbering.{numbers_stay, sound_has_numbers}
use Rattle.laws_revocation.proofs.PendingLocks.{held_pendings_stay, over_has_none, sound_has_held_pendings}
use Rattle.laws_revocation.proofs.PutIds.{HasNoMore, given_ids_are_inserted_by_none, given_ids_are_put_by_none, given_ids_are_put_no_more, kept_by_locks, none_yet, one_command, one_more}
use Rattle.laws_revocation.proofs.RefusedPublishes.{foreign_id_changes_nothing, not_pending_is_not_allocated}

-- ---- what becomes of them

not_appended : (b : Book) (a : SegId) → IsNotPending b a → IsAppendedByNone b a
not_appended b a none task ids ranges i = by_task (task_of task b.tasks) refl where
  by_task : (o : Option TaskRow) → task_of task b.tasks ≡ o → changes b (Commands.Append task ids ranges) ≡ false
  by_task None e = ap (λ (o : Option TaskRow). (appended o b (appending ids ranges)).changes) e
  by_task (Some t) e = foreign_id_changes_nothing b task t ids a ranges e i (not_pending_is_not_allocated b t.task a none)

lost_is_not_pending : (b : Book) (cs : List Command) (p : PendingRow) → AllKeepForm cs → HasNumbers b → HasGivenPendings b → ((q : PendingRow) → In q (book_after b cs).pendings → q.posse ≡ p.posse → ⊥) → In p b.pendings → IsNotPending (book_after b cs) p.id
lost_is_not_pending b cs p forms numbers given none i q j e =
    let old = given_ids_come_no_more b cs q forms numbers (subst (λ (x : SegId). is_given b.chunks x ≡ true) (sym e) (given.given p i)) j in
    none q j (ap (λ (x : PendingRow). x.posse) (one_pending b.pendings q p given.distinct old i e))

pub lost_ids_are_lost : LostIdsAreLost
lost_ids_are_lost b cs p sound forms i over =
    let given = sound_has_given_pendings b sound in
    let none = over_has_none p.posse (book_after b cs) (held_pendings_stay b cs (sound_has_held_pendings b sound)) over in
    let gone = lost_is_not_pending b cs p forms (sound_has_numbers b sound) given none i in
    let numbers = numbers_stay b cs (sound_has_numbers b sound) in
    let still = given_stays b cs p.id (given.given p i) in
    record {
      not_pending = gone;
      not_answered = not_answered (book_after b cs) p.id still gone;
      not_appended = not_appended (book_after b cs) p.id gone;
      not_inserted = given_ids_are_inserted_by_none (book_after b cs) p.id numbers still;
      not_put = given_ids_are_put_by_none (book_after b cs) p.id numbers still gone;
    }

-- ---- a command by which a lock is revoked or ends puts none of its ids

-- no row has the id, and no publication lists it
record HasNone (a : SegId) (b : Book) : Type 0 where
  pub rows : (r : SegmentRow) → In r b.segments → r.id ≡ a → ⊥
  pub publications : (m : Publication) → In m b.publications → In a (m.adds ++ m.empties) → ⊥

-- so it is of a pending's id in a sound book
has_none : (b : Book) (p : PendingRow) → Sound b → In p b.pendings → HasNone p.id b
has_none b p s i = record {
  rows = λ r j e.
      (let off = pairs_between (λ x y. same_id x y ≡ false) (segment_ids b.segments) (pending_ids b.pendings) r.id p.id s.shape.keys.ids (map_In (λ (r : SegmentRow). r.id) r b.segments j) own in
      false≢true (sym off ∙ same_id_from r.id p.id e));
  publications = λ m j k.
      (let off = pairs_between (λ x y. same_id x y ≡ false) (pending_ids b.pendings) (all_adds b.publications ++ all_empties b.publications) p.id p.id s.shape.keys.once own (listed m j k) in
      false≢true (sym off ∙ same_id_from p.id p.id refl));
} where
  own : In p.id (pending_ids b.pendings)
  own = map_In (λ (p : PendingRow). p.id) p b.pendings i

  listed : (m : Publication) → In m b.publications → In p.id (m.adds ++ m.empties) → In p.id (all_adds b.publications ++ all_empties b.publications)
  listed m j k = elim (In-append p.id m.adds m.empties k) [
    | inl added ↦ In-left p.id (all_adds b.publications) (all_empties b.publications) (In-gathered (λ (m : Publication). m.adds) b.publications m p.id j added)
    | inr empty ↦ In-right p.id (all_adds b.publications) (all_empties b.publications) (In-gathered (λ (m : Publication). m.empties) b.publications m p.id j empty)
  ]

module _ (b : Book) (p : PendingRow) (s : Sound b) (i : In p b.pendings) where
  -- where no lock changes, the pending's is valid still
  not_over : IsOver p.posse b → ⊥
  not_over over = over_has_none p.posse b (sound_has_held_pendings b s) over p i refl

  ended_has : (t : TaskRow) (status : TaskStatus) → HasNoMore p.id b (after_end t status b)
  ended_has t status =
      let e = ended t.group t.task b.clock b.sequences in
      sequences_fail (HasNoMore p.id b) (kept_by_locks p.id b) e.sequences e.tasks (with_status t.task status (left_all_locks t.task b)) ((kept_by_locks p.id b).left_all t.task b (none_yet p.id b))

  reset_has : (source stream : List ℕ) (offsets : List Offset) → HasNoMore p.id b (after_reset source stream offsets b)
  reset_has source stream offsets = by_stream (reads_stream (supervisor_of source b.supervisors) stream) where
    reset_only : HasNoMore p.id b (offsets_reset source stream offsets b)
    reset_only = ((none_yet p.id b).0, one_more p.id b (reset_publication source stream offsets) (λ i. i))

    by_stream : (reads : Bool) → HasNoMore p.id b (cond reads (sequences_dropped source (offsets_reset source stream offsets b)) (offsets_reset source stream offsets b))
    by_stream true =
        let after : Book = offsets_reset source stream offsets b in
        sequences_fail (HasNoMore p.id b) (kept_by_locks p.id b) (map (dropped_sequence source) after.sequences) (tasks_dropped source after.sequences) after reset_only
    by_stream false = reset_only

  -- what publishes changes no lock, and what changes locks publishes nothing with the id
  after_any : HoldsAfterEach (λ x. IsOver p.posse x → HasNoMore p.id b x) b
  after_any = record {
    before = λ over. none_yet p.id b;
    submitted_one = λ row over. none_yet p.id b;
    managed_all = λ now over. all_managed (HasNoMore p.id b) (kept_by_locks p.id b) b now (none_yet p.id b);
    locked_one = λ t w now g e over. none_yet p.id b;
    left_one = λ lock task over. none_yet p.id b;
    joined_one = λ now lock task over. none_yet p.id b;
    allotted_one = λ t w now g n e over. none_yet p.id b;
    appended_ids = λ t ids ranges over. absurd (not_over (record { given = over.given; lost = over.lost }));
    inserted_spans = λ t xs what over. absurd (not_over (record { given = over.given; lost = over.lost }));
    replaced_spans = λ t xs what over. absurd (not_over (record { given = over.given; lost = over.lost }));
    ended_one = λ t status over. ended_has t status;
    dropped_span = λ source span over. absurd (not_over (record { given = over.given; lost = over.lost }));
    reset_stream = λ source stream offsets over. reset_has source stream offsets;
    supervised_one = λ row over. none_yet p.id b;
    ticked_at = λ k now over. all_failed_keeps (HasNoMore p.id b) (kept_by_locks p.id b) k.told.ended (record b { clock = now; sequences = k.rows }) (none_yet p.id b);
    reported_one = λ name new over. none_yet p.id b;
  }

  taken_has : (c : Command) → IsOver p.posse (next b c) → HasNoMoreOf p.id b (next b c)
  taken_has c over = let h = after_each (λ x. IsOver p.posse x → HasNoMore p.id b x) b after_any c over in record { rows = h.0; publications = h.1 }

none_later : (a : SegId) (b x : Book) → HasNone a b → HasNoMoreOf a b x → HasNone a x
none_later a b x h k = record {
  rows = λ r i e. (let w = k.rows r i e in h.rows w.0 w.1 (sym (ap (λ (r : SegmentRow). r.id) w.2) ∙ e));
  publications = λ m i j. h.publications m (k.publications m i j) j;
}

-- in a sound book each row is of its own id, a tombstone, or of a root that a publication adds
none_is_nowhere : (a : SegId) (b : Book) → Sound b → HasNone a b → IsNowhere b a
none_is_nowhere a b s h = record { rows = h.rows; copies = no_copy; publications = h.publications } where
  no_copy : (r : SegmentRow) → In r b.segments → r.root ≡ a → ⊥
  no_copy r i e = elim (cases_Bool r.tombstone) [
    | inl empty ↦ h.rows r i (sym (s.shape.roots.tombstones r i empty).own ∙ e)
    | inr full ↦ (let w = s.shape.roots.others r i full in h.publications w.publication (place_In w.place b.publications w.publication w.at) (In-left a w.publication.adds w.publication.empties (subst (λ (x : SegId). In x w.publication.adds) e w.listed)))
  ]

pub lost_pendings_are_nowhere : LostPendingsAreNowhere
lost_pendings_are_nowhere b c cs p s form forms i over =
    let after : Book = next b c in
    let numbers = sound_has_numbers b s in
    let given = sound_has_given_pendings b s in
    let none = over_has_none p.posse after (held_pendings_stay b (c ∷ []) (sound_has_held_pendings b s)) over in
    let gone = lost_is_not_pending b (c ∷ []) p (one_command c form) numbers given none i in
    none_is_nowhere p.id (book_after after cs) (sound_after cs after forms (every_command_keeps_sound c b form s))
    (none_later p.id after (book_after after cs)
    (none_later p.id b after (has_none b p s i) (taken_has b p s i c over))
    (given_ids_are_put_no_more after cs p.id forms (numbers_stay b (c ∷ []) numbers) (given_stays b (c ∷ []) p.id (given.given p i)) gone))

pub reached_lost_pendings_are_nowhere : ReachedLostPendingsAreNowhere
reached_lost_pendings_are_nowhere before after c p first form second i over = lost_pendings_are_nowhere (book_after empty_book before) c after p (reached_books_are_sound before first) form second i over
