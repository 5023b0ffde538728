-- What is answered to a task that asks what its replacement has to read.
use Rattle.std.proofs.Common.{Err, List, None, Ok, Option, Result, Some, ap, false, inl, inr, not, refl, subst, sym, true, ℕ, ◌&&◌, ◌∙◌, ◌≡◌}
use Rattle.std.proofs.lemmas.Bool.{and_from, and_parts, cases_Bool, false≢true}
use Rattle.std.proofs.lemmas.Slice.Eq.{bytes_eq-Decides}
use Rattle.std.specs.Prelude.{bytes_eq}
use Rattle.iv_span.specs.Extent.{Extent, covers, overlap}
use Rattle.seg_names.specs.declared.seg_id.SegId.{SegId}
use Rattle.book_rows.specs.Carried.{to_replace}
use Rattle.book_rows.specs.Kinds.{same_kind}
use Rattle.book_rows.specs.Ids.{id_before}
use Rattle.book_rows.specs.Lists.{In, list_links}
use Rattle.book_rows.specs.Locks.{is_held, is_lost, is_member, least}
use Rattle.book_rows.specs.Outcome.{refused_or, running, running_as, task_of}
use Rattle.book_rows.specs.Over.{held_by, held_for}
use Rattle.book_rows.specs.PublishSteps.{asked, told_of}
use Rattle.book_rows.specs.Sound.{Sound}
use Rattle.book_rows.specs.declared.kinds.LockKind.{LockKind}
use Rattle.book_rows.specs.declared.kinds.TaskStatus.{TaskStatus}
use Rattle.book_rows.specs.declared.replies.Refusal.{Refusal}
use Rattle.book_rows.specs.declared.rows.Book.{Book}
use Rattle.book_rows.specs.declared.rows.PosseRow.{PosseRow}
use Rattle.book_rows.specs.declared.rows.TaskRow.{TaskRow}
use Rattle.book_rows.specs.declared.commands.Command.TheVariants as Commands
use Rattle.book_rows.specs.declared.kinds.LockKind.TheVariants as LockKinds
use Rattle.book_rows.specs.declared.kinds.TaskStatus.TheVariants as Statuses
use Rattle.book_rows.specs.declared.replies.Reply.TheVariants as Replies
use Rattle.book_rows.proofs.StepLaws.{stays_where_unchanged}
use Rattle.laws_chunks.proofs.LockFacts.{beside_replace}
use Rattle.laws_chunks.proofs.LookUps.{find_some, least_none, least_some}
use Rattle.laws_chunks.proofs.Members.{any_In, any_from_In}
use Rattle.laws_chunks.proofs.Spans.{has_wider, meet}
use Rattle.laws_shown.specs.Asking.{AnsweredIsReading, AskingChangesNothing, AskingIsAnswered, IsReading, MayAsk, OneLockIsAsked}
use Rattle.laws_shown.specs.Carrying.{IsReadList}
use Rattle.laws_shown.proofs.Reading.{reads_in_order, sound_reads_what_was_there}
use Rattle.laws_shown.proofs.Testing.{is_on, replaces}
use Rattle.laws_shown.proofs.Ways.{by_task}

-- ---- members, lost locks and held ones

member_means : (task : List ℕ) (q : PosseRow) → is_member task q ≡ true → In task q.members
member_means task q h = let w = any_In (λ m. bytes_eq m task) q.members h in subst (λ (m : List ℕ). In m q.members) ((bytes_eq-Decides w.0 task).0 w.2) w.1

pub member_from : (task : List ℕ) (q : PosseRow) → In task q.members → is_member task q ≡ true
member_from task q i = any_from_In (λ m. bytes_eq m task) task q.members i ((bytes_eq-Decides task task).1 refl)

module _ (task source : List ℕ) (span : Extent) (q : PosseRow) where
  -- it isn't lost: if it is revoked and of the source and has the task as a member, it doesn't overlap the span
  not_lost : is_lost task source span q ≡ false → q.revoked ≡ true → q.source ≡ source → In task q.members → overlap q.span span ≡ false
  not_lost off revoked of member = elim (cases_Bool (overlap q.span span)) [
    | inr none ↦ none
    | inl meets ↦ absurd (false≢true (sym off ∙ and_from (q.revoked && bytes_eq q.source source && overlap q.span span) (is_member task q)
        (and_from (q.revoked && bytes_eq q.source source) (overlap q.span span) (and_from q.revoked (bytes_eq q.source source) revoked ((bytes_eq-Decides q.source source).1 of)) meets) (member_from task q member)))
  ]

  pub record IsLostLock : Type 0 where
    pub revoked : q.revoked ≡ true
    pub source_is : q.source ≡ source
    pub meets : overlap q.span span ≡ true
    pub member : In task q.members

  lost_means : is_lost task source span q ≡ true → IsLostLock
  lost_means h =
      let one = and_parts (q.revoked && bytes_eq q.source source && overlap q.span span) (is_member task q) h in
      let two = and_parts (q.revoked && bytes_eq q.source source) (overlap q.span span) one.0 in
      let three = and_parts q.revoked (bytes_eq q.source source) two.0 in
      record { revoked = three.0; source_is = (bytes_eq-Decides q.source source).0 three.1; meets = two.1; member = member_means task q one.1 }

  pub record IsHeldLock : Type 0 where
    pub valid : q.revoked ≡ false
    pub source_is : q.source ≡ source
    pub kind_is : q.lock_kind ≡ LockKinds.Replace
    pub contains : covers q.span span ≡ true
    pub member : In task q.members

  held_means : is_held task source span LockKinds.Replace q ≡ true → IsHeldLock
  held_means h =
      let one = and_parts (not q.revoked && bytes_eq q.source source && same_kind q.lock_kind LockKinds.Replace && covers q.span span) (is_member task q) h in
      let two = and_parts (not q.revoked && bytes_eq q.source source && same_kind q.lock_kind LockKinds.Replace) (covers q.span span) one.0 in
      let three = and_parts (not q.revoked && bytes_eq q.source source) (same_kind q.lock_kind LockKinds.Replace) two.0 in
      let four = and_parts (not q.revoked) (bytes_eq q.source source) three.0 in
      record { valid = is_on q.revoked four.0; source_is = (bytes_eq-Decides q.source source).0 four.1; kind_is = replaces q.lock_kind three.1; contains = two.1; member = member_means task q one.1 }

  held_from : IsHeldLock → is_held task source span LockKinds.Replace q ≡ true
  held_from h =
      and_from (not q.revoked && bytes_eq q.source source && same_kind q.lock_kind LockKinds.Replace && covers q.span span) (is_member task q)
      (and_from (not q.revoked && bytes_eq q.source source && same_kind q.lock_kind LockKinds.Replace) (covers q.span span)
      (and_from (not q.revoked && bytes_eq q.source source) (same_kind q.lock_kind LockKinds.Replace)
      (and_from (not q.revoked) (bytes_eq q.source source) (ap not h.valid) ((bytes_eq-Decides q.source source).1 h.source_is))
      (ap (λ (k : LockKind). same_kind k LockKinds.Replace) h.kind_is))
      h.contains)
      (member_from task q h.member)

-- the row that is found for a task is the task's
pub row_is : (b : Book) (task : List ℕ) (t : TaskRow) → task_of task b.tasks ≡ Some t → t.task ≡ task
row_is b task t found = (bytes_eq-Decides t.task task).0 (find_some (λ t. bytes_eq t.task task) b.tasks t found).1

-- ---- what is answered

module _ (b : Book) (sound : Sound b) (task : List ℕ) (span : Extent) (roots : List SegId) where
  list_is : (q : PosseRow) → (told_of b q).reply ≡ Replies.ToReplace roots → to_replace b.segments b.publications q ≡ roots
  list_is q h = (let one : Replies.ToReplace (to_replace b.segments b.publications q) ≡ Replies.ToReplace roots = h in cc)

  by_lock : (t : TaskRow) → task_of task b.tasks ≡ Some t → t.status ≡ Statuses.Running → (lost held : Option PosseRow) → least (is_lost t.task t.source span) b.posses ≡ lost → least (is_held t.task t.source span LockKinds.Replace) b.posses ≡ held
      → (refused_or (held_by lost held span) b (told_of b)).reply ≡ Replies.ToReplace roots → IsReading b task span roots
  by_lock t found runs (Some l) held no_lost is_least h = cc
  by_lock t found runs None None no_lost is_least h = cc
  by_lock t found runs None (Some q) no_lost is_least h = of_lock (row_is b task t found) (least_some (is_held t.task t.source span LockKinds.Replace) b.posses q is_least) where
    of_lock : t.task ≡ task → In q b.posses × (is_held t.task t.source span LockKinds.Replace q ≡ true) → IsReading b task span roots
    of_lock same w = (
        let is = held_means t.task t.source span q w.1 in
        let list : to_replace b.segments b.publications q ≡ roots = list_is q h in
        record {
          lock = q;
          may_ask = record {
            row = t;
            found = found;
            runs = runs;
            lost_none = λ l i revoked of member. not_lost t.task t.source span l (least_none (is_lost t.task t.source span) b.posses no_lost l i) revoked of (subst (λ (m : List ℕ). In m l.members) (sym same) member);
            is_valid = record { among = w.0; valid = is.valid };
            kind_is = is.kind_is;
            source_is = is.source_is;
            is_member = subst (λ (m : List ℕ). In m q.members) same is.member;
            contains = is.contains;
          };
          read = subst (IsReadList b q) list (sound_reads_what_was_there b sound q);
          list_is = sym list;
          in_order = subst (λ (ids : List SegId). list_links id_before ids ≡ true) list (reads_in_order b.segments b.publications q);
        }
        )

  by_status : (t : TaskRow) → task_of task b.tasks ≡ Some t → (s : TaskStatus) → t.status ≡ s → (running_as s b (asked b span t)).reply ≡ Replies.ToReplace roots → IsReading b task span roots
  by_status t found Statuses.Waiting e h = cc
  by_status t found Statuses.Running e h = by_lock t found e (least (is_lost t.task t.source span) b.posses) (least (is_held t.task t.source span LockKinds.Replace) b.posses) refl refl h
  by_status t found Statuses.Success e h = cc
  by_status t found Statuses.Failed e h = cc

  by_row : (o : Option TaskRow) → task_of task b.tasks ≡ o → (running o b (asked b span)).reply ≡ Replies.ToReplace roots → IsReading b task span roots
  by_row None e h = cc
  by_row (Some t) e h = by_status t e t.status refl h

pub answered_is_reading : AnsweredIsReading
answered_is_reading b task span roots sound h = by_row b sound task span roots (task_of task b.tasks) refl h

-- ---- who is answered

module _ (b : Book) (task : List ℕ) (span : Extent) (q : PosseRow) (m : MayAsk b task span q) where
  same_task : m.row.task ≡ task
  same_task = row_is b task m.row m.found

  none_lost : (o : Option PosseRow) → least (is_lost m.row.task m.row.source span) b.posses ≡ o → o ≡ None
  none_lost None e = refl
  none_lost (Some l) e =
      let w = least_some (is_lost m.row.task m.row.source span) b.posses l e in
      let is = lost_means m.row.task m.row.source span l w.1 in
      absurd (false≢true (sym (m.lost_none l w.0 is.revoked is.source_is (subst (λ (x : List ℕ). In x l.members) same_task is.member)) ∙ is.meets))

  is_held_by : is_held m.row.task m.row.source span LockKinds.Replace q ≡ true
  is_held_by = held_from m.row.task m.row.source span q (record {
    valid = m.is_valid.valid;
    source_is = m.source_is;
    kind_is = m.kind_is;
    contains = m.contains;
    member = subst (λ (x : List ℕ). In x q.members) (sym same_task) m.is_member;
  })

  by_held : (held : Option PosseRow) → least (is_held m.row.task m.row.source span LockKinds.Replace) b.posses ≡ held → (roots : List SegId) × ((refused_or (held_by None held span) b (told_of b)).reply ≡ Replies.ToReplace roots)
  by_held None e = absurd (false≢true (sym (least_none (is_held m.row.task m.row.source span LockKinds.Replace) b.posses e q m.is_valid.among) ∙ is_held_by))
  by_held (Some r) e = (to_replace b.segments b.publications r, refl)

  is_answered : (roots : List SegId) × ((running (task_of task b.tasks) b (asked b span)).reply ≡ Replies.ToReplace roots)
  is_answered =
      let w = by_held (least (is_held m.row.task m.row.source span LockKinds.Replace) b.posses) refl in (
        w.0,
        ap (λ (o : Option TaskRow). (running o b (asked b span)).reply) m.found
            ∙ (ap (λ (s : TaskStatus). (running_as s b (asked b span m.row)).reply) m.runs
            ∙ (ap (λ (o : Option PosseRow). (refused_or (held_by o (least (is_held m.row.task m.row.source span LockKinds.Replace) b.posses) span) b (told_of b)).reply) (none_lost (least (is_lost m.row.task m.row.source span) b.posses) refl)
            ∙ w.1)),
      )

pub asking_is_answered : AskingIsAnswered
asking_is_answered b task span q m = is_answered b task span q m

pub one_lock_is_asked : OneLockIsAsked
one_lock_is_asked b task span t p q sound at m n = elim (beside_replace b.posses sound.compatible_locks p q m.is_valid n.is_valid n.kind_is (m.source_is ∙ (rows ∙ sym n.source_is)) meets) [
  | inl same ↦ same
  | inr other ↦ absurd (differs (sym m.kind_is ∙ other.0))
] where
  rows : m.row.source ≡ n.row.source
  rows = (let one : Some m.row ≡ Some n.row = sym m.found ∙ n.found in let same : m.row ≡ n.row = cc in ap (λ (r : TaskRow). r.source) same)

  meets : overlap p.span q.span ≡ true
  meets = meet p.span q.span t (has_wider p.span span t m.contains at) (has_wider q.span span t n.contains at)

  differs : LockKinds.Replace ≡ LockKinds.Append → ⊥
  differs e = cc

-- ---- what it changes

pub asking_changes_nothing : AskingChangesNothing
asking_changes_nothing b task span = (off, stays_where_unchanged b (Commands.ToReplace task span) off) where
  off : (running (task_of task b.tasks) b (asked b span)).changes ≡ false
  off = by_task (λ o. o.changes ≡ false) b (λ why. refl) (task_of task b.tasks) (asked b span) (λ t. by_clear (held_for b.posses t LockKinds.Replace span)) where
    by_clear : (r : Result PosseRow Refusal) → (refused_or r b (told_of b)).changes ≡ false
    by_clear (Err why) = refl
    by_clear (Ok n) = refl
