-- What was appended is shown until a publication takes it away.
use Rattle.std.proofs.Common.{Bool, List, None, Option, Some, [], ap, cond, false, find, inl, inr, length, nat_lt, not, refl, subst, sym, true, ℕ, ◌&&◌, ◌++◌, ◌==◌, ◌∙◌, ◌∷◌, ◌≡◌}
use Rattle.std.proofs.lemmas.Bool.{and_from, and_parts, false≢true}
use Rattle.std.proofs.lemmas.Bool.Decides.{Decides-eqb}
use Rattle.std.proofs.lemmas.Slice.Eq.{bytes_eq-Decides}
use Rattle.std.specs.Prelude.{bytes_eq, option_map}
use Rattle.seg_names.specs.Ids.{same_id}
use Rattle.seg_names.specs.declared.seg_id.SegId.{SegId}
use Rattle.book_rows.specs.Allocation.{is_root}
use Rattle.book_rows.specs.Answer.{book_after, next}
use Rattle.book_rows.specs.Append.{after_append, append_fault, is_allocated}
use Rattle.book_rows.specs.Lists.{In, at_place, or_else}
use Rattle.book_rows.specs.Locks.{is_member, is_member_of, posse_of}
use Rattle.book_rows.specs.Offsets.{compare, compared, mismatch, stored}
use Rattle.book_rows.specs.Outcome.{Outcome, changed, fitted, fitted_by, no_room, running_as, task_of, unless}
use Rattle.book_rows.specs.PublishSteps.{append_running, appended, published_or}
use Rattle.book_rows.specs.Publications.{appending, publication_of, ranges_fault, repeat_of}
use Rattle.book_rows.specs.Sequences.{passes}
use Rattle.book_rows.specs.Shape.{IsMemberTask, same_task}
use Rattle.book_rows.specs.Sound.{Sound}
use Rattle.book_rows.specs.declared.kinds.Table.{Table}
use Rattle.book_rows.specs.declared.kinds.TaskStatus.{TaskStatus}
use Rattle.book_rows.specs.declared.replies.Refusal.{Refusal}
use Rattle.book_rows.specs.declared.rows.Book.{Book}
use Rattle.book_rows.specs.declared.rows.OffsetRow.{OffsetRow}
use Rattle.book_rows.specs.declared.rows.PendingRow.{PendingRow}
use Rattle.book_rows.specs.declared.rows.PosseRow.{PosseRow}
use Rattle.book_rows.specs.declared.rows.Publication.{Publication}
use Rattle.book_rows.specs.declared.rows.Range.{Range}
use Rattle.book_rows.specs.declared.rows.Ranges.{Ranges}
use Rattle.book_rows.specs.declared.rows.TaskRow.{TaskRow}
use Rattle.book_rows.specs.declared.commands.Command.TheVariants as Commands
use Rattle.book_rows.specs.declared.kinds.Table.TheVariants as Tables
use Rattle.book_rows.specs.declared.kinds.TaskStatus.TheVariants as Statuses
use Rattle.book_rows.specs.declared.replies.Refusal.TheVariants as Refusals
use Rattle.book_rows.specs.declared.replies.Reply.TheVariants as Replies
use Rattle.laws_chunks.proofs.LockFacts.{one_number, pair_of}
use Rattle.laws_chunks.proofs.LookUps.{find_none, find_some}
use Rattle.laws_chunks.proofs.Meanings.{sound_shows_contents}
use Rattle.laws_chunks.proofs.Members.{any_In, any_from_In}
use Rattle.laws_chunks.proofs.Spans.{same_id_itself, same_id_means}
use Rattle.laws_shown.specs.Appended.{AppendedIsShown, IsShownOnce, PendingIsNotRefused, PendingMayBeAppended}
use Rattle.laws_shown.specs.Growth.{GoesOn}
use Rattle.laws_shown.specs.History.{IsKept, IsPut}
use Rattle.laws_shown.proofs.Answering.{row_is}
use Rattle.laws_shown.proofs.GoingOn.{publications_stay}
use Rattle.laws_shown.proofs.Histories.{contents_are_put, sound_shows_what_was_put}
use Rattle.laws_shown.proofs.Outcomes.{IsDone, fitted_done, published_done, unless_done}
use Rattle.laws_shown.proofs.Testing.{is_on}
use Rattle.laws_chunks.proofs.PublishSteps.{no_first}
use Rattle.book_rows.specs.declared.kinds.PubKind.TheVariants as PubKinds

-- ---- it may be appended

pending_is_allocated : (qs : List PosseRow) (ps : List PendingRow) (p : PendingRow) (task : List ℕ) → In p ps → is_root p ≡ true → is_member_of (posse_of p.posse qs) task ≡ true → is_allocated qs ps task p.id ≡ true
pending_is_allocated qs ps p task i root member = any_from_In (λ x. is_root x && same_id x.id p.id && is_member_of (posse_of x.posse qs) task) p ps i
    (and_from (is_root p && same_id p.id p.id) (is_member_of (posse_of p.posse qs) task) (and_from (is_root p) (same_id p.id p.id) root (same_id_itself p.id)) member)

pub pending_may_be_appended : PendingMayBeAppended
pending_may_be_appended qs ps p task i root member = rw (pending_is_allocated qs ps p task i root member) refl

-- ---- for what an append is refused

-- ranges are never refused as an id that isn't allocated
compare_other : (rows : List OffsetRow) (source stream : List ℕ) (parts : List Range) (a : SegId) → compare rows source stream parts ≡ Some (Refusals.NotAllocated a) → ⊥
compare_other rows source stream [] a e = cc
compare_other rows source stream (r ∷ rs) a e = by_part (nat_lt r.end r.start) (stored rows source stream r.partition) (compare_other rows source stream rs a) e where
  by_place : (same : Bool) (z : ℕ) → (compare rows source stream rs ≡ Some (Refusals.NotAllocated a) → ⊥) → or_else (cond same None (Some (Refusals.OffsetMismatch r.partition z))) (compare rows source stream rs) ≡ Some (Refusals.NotAllocated a) → ⊥
  by_place true z rest e = rest e
  by_place false z rest e = cc

  by_part : (bad : Bool) (z : Option ℕ) → (compare rows source stream rs ≡ Some (Refusals.NotAllocated a) → ⊥) → or_else (cond bad (Some (Refusals.BadRange r.partition)) (mismatch z r)) (compare rows source stream rs) ≡ Some (Refusals.NotAllocated a) → ⊥
  by_part true z rest e = cc
  by_part false None rest e = rest e
  by_part false (Some z) rest e = by_place (z == r.start) z rest e

ranges_other : (b : Book) (t : TaskRow) (ranges : Option Ranges) (a : SegId) → ranges_fault b t ranges ≡ Some (Refusals.NotAllocated a) → ⊥
ranges_other b t ranges a e = by_turn (passes b.supervisors b.sequences t.source t.group ranges) e where
  by_ranges : (ranges : Option Ranges) → compared b.offsets t.source ranges ≡ Some (Refusals.NotAllocated a) → ⊥
  by_ranges None e = cc
  by_ranges (Some ranges) e = compare_other b.offsets t.source ranges.stream ranges.parts a e

  by_turn : (turn : Bool) → or_else (cond turn None (Some (Refusals.RangeNotAssigned t.source))) (compared b.offsets t.source ranges) ≡ Some (Refusals.NotAllocated a) → ⊥
  by_turn true e = by_ranges ranges e
  by_turn false e = cc

module _ (b : Book) (ids : List SegId) (ranges : Option Ranges) (a : SegId) where
  -- where the outcome is such a refusal, the id isn't one that the task may append
  abbrev IsForeign : List ℕ → Outcome → Type 0
  IsForeign task o = o.reply ≡ Replies.Refused (Refusals.NotAllocated a) → is_allocated b.posses b.pendings task a ≡ false

  first_foreign : (task : List ℕ) (found : Option SegId) → find (λ x. not (is_allocated b.posses b.pendings task x)) ids ≡ found → option_map Refusals.NotAllocated found ≡ Some (Refusals.NotAllocated a) → is_allocated b.posses b.pendings task a ≡ false
  first_foreign task None e h = cc
  first_foreign task (Some x) e h = (
      let same : x ≡ a = cc in
      is_on (is_allocated b.posses b.pendings task a) (subst (λ (y : SegId). not (is_allocated b.posses b.pendings task y) ≡ true) same (find_some (λ x. not (is_allocated b.posses b.pendings task x)) ids x e).1)
      )

  by_fault : (t : TaskRow) (fault rest : Option Refusal) (done : Outcome) → append_fault b.posses b.pendings t.task ids ≡ fault → ranges_fault b t ranges ≡ rest → IsForeign t.task done → IsForeign t.task (unless (or_else fault rest) b done)
  by_fault t (Some why) rest done e f other h = first_foreign t.task (find (λ x. not (is_allocated b.posses b.pendings t.task x)) ids) refl (e ∙ same) where
    same : Some why ≡ Some (Refusals.NotAllocated a)
    same = (let one : why ≡ Refusals.NotAllocated a = cc in ap Some one)
  by_fault t None (Some why) done e f other h = absurd (ranges_other b t ranges a (f ∙ same)) where
    same : Some why ≡ Some (Refusals.NotAllocated a)
    same = (let one : why ≡ Refusals.NotAllocated a = cc in ap Some one)
  by_fault t None None done e f other h = other h

  by_room : (task : List ℕ) (table : Option Table) (after : Book) → IsForeign task (fitted_by table b (changed after (Replies.Append (length b.publications))))
  by_room task (Some table) after h = cc
  by_room task None after h = cc

  by_status : (t : TaskRow) (s : TaskStatus) → IsForeign t.task (running_as s b (append_running b (appending ids ranges) t))
  by_status t Statuses.Waiting h = cc
  by_status t Statuses.Running h = by_fault t (append_fault b.posses b.pendings t.task ids) (ranges_fault b t ranges)
      (fitted (Tables.Segments ∷ Tables.Upgrades ∷ Tables.Publications ∷ Tables.Offsets ∷ []) b (after_append t (appending ids ranges) b) (Replies.Append (length b.publications))) refl refl
      (by_room t.task (no_room (Tables.Segments ∷ Tables.Upgrades ∷ Tables.Publications ∷ Tables.Offsets ∷ []) (after_append t (appending ids ranges) b)) (after_append t (appending ids ranges) b)) h
  by_status t Statuses.Success h = cc
  by_status t Statuses.Failed h = cc

  by_repeat : (t : TaskRow) (k : Option ℕ) → IsForeign t.task (published_or k b t.status Replies.Append (append_running b (appending ids ranges) t))
  by_repeat t (Some k) h = cc
  by_repeat t None h = by_status t t.status h

  refused_is_foreign : (task : List ℕ) (o : Option TaskRow) → task_of task b.tasks ≡ o → IsForeign task (appended o b (appending ids ranges))
  refused_is_foreign task None e h = cc
  refused_is_foreign task (Some t) e h = subst (λ (x : List ℕ). is_allocated b.posses b.pendings x a ≡ false) (row_is b task t e) (by_repeat t (repeat_of (publication_of PubKinds.Append t [] (appending ids ranges)) b.publications) h)

pub pending_is_not_refused : PendingIsNotRefused
pending_is_not_refused b p task ids ranges i root member h = false≢true (sym (refused_is_foreign b ids ranges p.id task (task_of task b.tasks) refl h) ∙ pending_is_allocated b.posses b.pendings p task i root member)

-- ---- an append that changes the book

-- a running task appended ids that it was allocated
pub record IsAppendOf (b : Book) (task : List ℕ) (ids : List SegId) (ranges : Option Ranges) (after : Book) : Type 0 where
  pub row : TaskRow
  pub found : task_of task b.tasks ≡ Some row
  pub checked : append_fault b.posses b.pendings row.task ids ≡ None
  pub after_is : after ≡ after_append row (appending ids ranges) b

append_done : (b : Book) (task : List ℕ) (ids : List SegId) (ranges : Option Ranges) (t : Option TaskRow) → task_of task b.tasks ≡ t → (appended t b (appending ids ranges)).changes ≡ true → IsAppendOf b task ids ranges (appended t b (appending ids ranges)).book
append_done b task ids ranges None e h = absurd (false≢true h)
append_done b task ids ranges (Some t) e h = ran (published_done (repeat_of (publication_of PubKinds.Append t [] (appending ids ranges)) b.publications) b t.status Replies.Append (append_running b (appending ids ranges) t) h) where
  ran : IsDone (appended (Some t) b (appending ids ranges)) (append_running b (appending ids ranges) t) → IsAppendOf b task ids ranges (appended (Some t) b (appending ids ranges)).book
  ran d = passed (unless_done (or_else (append_fault b.posses b.pendings t.task ids) (ranges_fault b t ranges)) b
      (fitted (Tables.Segments ∷ Tables.Upgrades ∷ Tables.Publications ∷ Tables.Offsets ∷ []) b (after_append t (appending ids ranges) b) (Replies.Append (length b.publications))) d.done) where
        passed : IsDone (append_running b (appending ids ranges) t) (fitted (Tables.Segments ∷ Tables.Upgrades ∷ Tables.Publications ∷ Tables.Offsets ∷ []) b (after_append t (appending ids ranges) b) (Replies.Append (length b.publications))) × (or_else (append_fault b.posses b.pendings t.task ids) (ranges_fault b t ranges) ≡ None)
            → IsAppendOf b task ids ranges (appended (Some t) b (appending ids ranges)).book
        passed w =
            let f = fitted_done (no_room (Tables.Segments ∷ Tables.Upgrades ∷ Tables.Publications ∷ Tables.Offsets ∷ []) (after_append t (appending ids ranges) b)) b (changed (after_append t (appending ids ranges) b) (Replies.Append (length b.publications))) w.0.done in
            record {
              row = t;
              found = e;
              checked = no_first (append_fault b.posses b.pendings t.task ids) (ranges_fault b t ranges) w.1;
              after_is = ap (λ (o : Outcome). o.book) (d.outcome_is ∙ w.0.outcome_is ∙ f.outcome_is);
            }

-- ---- its ids are of the task's source

pub none_refused : (o : Option SegId) → option_map Refusals.NotAllocated o ≡ None → o ≡ None
none_refused None h = refl
none_refused (Some a) h = cc

-- the lock that is found by a number, and of which the task is a member
member_lock : (o : Option PosseRow) (task : List ℕ) → is_member_of o task ≡ true → (q : PosseRow) × (o ≡ Some q) × (is_member task q ≡ true)
member_lock None task h = absurd (false≢true h)
member_lock (Some q) task h = (q, refl, h)

module _ (b : Book) (sound : Sound b) (task : List ℕ) (t : TaskRow) (found : task_of task b.tasks ≡ Some t) where
  one_task : (r : TaskRow) → In r b.tasks → r.task ≡ t.task → r ≡ t
  one_task r i e = elim (pair_of (λ r t. same_task r t ≡ false) r t b.tasks sound.shape.keys.tasks i (find_some (λ t. bytes_eq t.task task) b.tasks t found).0) [
    | inl same ↦ same
    | inr (inl off) ↦ absurd (false≢true (sym off ∙ (bytes_eq-Decides r.task t.task).1 e))
    | inr (inr off) ↦ absurd (false≢true (sym off ∙ (bytes_eq-Decides t.task r.task).1 (sym e)))
  ]

  lock_source : (q : PosseRow) → In q b.posses → is_member t.task q ≡ true → q.source ≡ t.source
  lock_source q i h =
      let w = any_In (λ m. bytes_eq m t.task) q.members h in
      of_row ((sound.shape.members q i).tasks w.0 w.1) ((bytes_eq-Decides w.0 t.task).0 w.2) where
        of_row : {m : List ℕ} → IsMemberTask b.tasks q m → m ≡ t.task → q.source ≡ t.source
        of_row x e = sym x.source_is ∙ ap (λ (r : TaskRow). r.source) (one_task x.row x.among (x.task_is ∙ e))

  pending_source : (p : PendingRow) → In p b.pendings → is_member_of (posse_of p.posse b.posses) t.task ≡ true → p.id.source ≡ t.source
  pending_source p i h = of_lock (member_lock (posse_of p.posse b.posses) t.task h) where
    of_lock : (q : PosseRow) × (posse_of p.posse b.posses ≡ Some q) × (is_member t.task q ≡ true) → p.id.source ≡ t.source
    of_lock w =
        let f = find_some (λ q. q.number == p.posse) b.posses w.0 w.1 in
        let held = (sound.rooted p i).has_posse in
        let same = one_number b.posses held.posse w.0 sound.shape.keys.numbers held.is_valid.among f.0 (held.number_is ∙ sym ((Decides-eqb w.0.number p.posse).0 f.1)) in
        sym held.source_is ∙ ap (λ (q : PosseRow). q.source) same ∙ lock_source w.0 f.0 w.2

  id_source : (ids : List SegId) (a : SegId) → append_fault b.posses b.pendings t.task ids ≡ None → In a ids → a.source ≡ t.source
  id_source ids a checked i = of_pending (any_In (λ p. is_root p && same_id p.id a && is_member_of (posse_of p.posse b.posses) t.task) b.pendings (on (is_allocated b.posses b.pendings t.task a)
      (find_none (λ a. not (is_allocated b.posses b.pendings t.task a)) ids (none_refused (find (λ a. not (is_allocated b.posses b.pendings t.task a)) ids) checked) a i))) where
        on : (c : Bool) → not c ≡ false → c ≡ true
        on true h = refl
        on false h = absurd (false≢true (sym h))

        of_pending : (p : PendingRow) × In p b.pendings × ((is_root p && same_id p.id a && is_member_of (posse_of p.posse b.posses) t.task) ≡ true) → a.source ≡ t.source
        of_pending w =
            let one = and_parts (is_root w.0 && same_id w.0.id a) (is_member_of (posse_of w.0.posse b.posses) t.task) w.2 in
            let two = and_parts (is_root w.0) (same_id w.0.id a) one.0 in
            subst (λ (a : SegId). a.source ≡ t.source) (same_id_means w.0.id a two.1) (pending_source w.0 w.1 one.1)

-- ---- the publication

-- the publication after these stands at their number
at_end : (ms : List Publication) (m : Publication) (more : List Publication) → at_place (length ms) ((ms ++ m ∷ []) ++ more) ≡ Some m
at_end [] m more = refl
at_end (x ∷ ms) m more = at_end ms m more

pub appended_is_shown : AppendedIsShown
appended_is_shown b task ids ranges cs h a t i inside kept =
    shown_in (book_after (next b (Commands.Append task ids ranges)) cs) h.still_sound (publications_stay (next b (Commands.Append task ids ranges)) cs) (append_done b task ids ranges (task_of task b.tasks) refl h.done) kept where
      shown_in : (later : Book) → Sound later → GoesOn (next b (Commands.Append task ids ranges)).publications later.publications → IsAppendOf b task ids ranges (next b (Commands.Append task ids ranges)) → IsKept later.publications a.source t (length b.publications)
          → IsShownOnce later a.source t a
      shown_in later sound goes append kept = record { row = (sound_shows_what_was_put later sound a.source t a).shown_there put; once = (sound_shows_contents later sound a.source t a).once ((contents_are_put later.publications a.source t a).1 put) } where
        the_publications : later.publications ≡ (b.publications ++ publication_of PubKinds.Append append.row [] (appending ids ranges) ∷ []) ++ goes.0
        the_publications = goes.1 ∙ ap (λ (x : Book). x.publications ++ goes.0) append.after_is

        put : IsPut later.publications a.source t a
        put = record {
          place = length b.publications;
          publication = publication_of PubKinds.Append append.row [] (appending ids ranges);
          at = ap (at_place (length b.publications)) the_publications ∙ at_end b.publications (publication_of PubKinds.Append append.row [] (appending ids ranges)) goes.0;
          source_is = sym (id_source b h.sound task append.row append.found ids a append.checked i);
          in_span = inside;
          added = i;
          kept = kept;
        }
