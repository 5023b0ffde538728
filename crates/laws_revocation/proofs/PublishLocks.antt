-- The locks under which a command publishes are valid.
use Rattle.std.proofs.Common.{◌≡◌, ℕ, ◌==◌, ◌&&◌, not, Bool, true, false, List, [], ◌∷◌, filter, Some, None, Option, Result, Ok, Err, refl, sym, ◌∙◌, inl, inr, subst, bytes_eq, find, map}
use Rattle.std.proofs.lemmas.Bool.{and_from, and_parts, cases_Bool, false≢true}
use Rattle.std.proofs.lemmas.Bool.Decides.{Decides-eqb}
use Rattle.iv_span.specs.Extent.{Extent, covers}
use Rattle.seg_names.specs.Ids.{same_id}
use Rattle.seg_names.specs.declared.seg_id.SegId.{SegId}
use Rattle.book_rows.specs.Allocation.{is_root}
use Rattle.book_rows.specs.Answer.{book_after, changes, empty_book}
use Rattle.book_rows.specs.Append.{append_fault, is_allocated}
use Rattle.book_rows.specs.Ids.{is_listed}
use Rattle.book_rows.specs.Kinds.{same_kind}
use Rattle.book_rows.specs.Lists.{In, or_else, stands_in}
use Rattle.book_rows.specs.Locks.{is_held, is_member, is_member_of, posse_of}
use Rattle.book_rows.specs.Outcome.{Outcome, refused_or, task_of, unless}
use Rattle.book_rows.specs.Over.{Filling, Inserting, Replacing, Target, check_over, kind_of, lock_for, target_of, targets}
use Rattle.book_rows.specs.Publications.{Publish, appending, in_spans, publication_of, ranges_fault, repeat_of, without_since}
use Rattle.book_rows.specs.PublishSteps.{append_running, appended, commit_reply, over_checked, over_running, over_step, published_or}
use Rattle.book_rows.specs.declared.commands.Command.{Command}
use Rattle.book_rows.specs.declared.commands.Command.TheVariants as Commands
use Rattle.book_rows.specs.declared.kinds.LockKind.{LockKind}
use Rattle.book_rows.specs.declared.kinds.PubKind.TheVariants as PubKinds
use Rattle.book_rows.specs.declared.kinds.TaskStatus.{TaskStatus}
use Rattle.book_rows.specs.declared.kinds.TaskStatus.TheVariants as Statuses
use Rattle.book_rows.specs.declared.replies.Refusal.{Refusal}
use Rattle.book_rows.specs.declared.replies.Reply.{Reply}
use Rattle.book_rows.specs.declared.replies.Reply.TheVariants as Replies
use Rattle.book_rows.specs.declared.rows.Book.{Book}
use Rattle.book_rows.specs.declared.rows.PendingRow.{PendingRow}
use Rattle.book_rows.specs.declared.rows.PosseRow.{PosseRow}
use Rattle.book_rows.specs.declared.rows.Ranges.{Ranges}
use Rattle.book_rows.specs.declared.rows.TaskRow.{TaskRow}
use Rattle.laws_locks.proofs.Targets.{let_through, targets_have}
use Rattle.laws_chunks.proofs.LookUps.{find_none}
use Rattle.laws_chunks.proofs.Members.{In-filter, In-map, any_In, any_from_In, filter_In, map_In}
use Rattle.laws_chunks.proofs.Spans.{same_id_from, same_id_means}
use Rattle.laws_locks.proofs.Lists.{none_from_In}
use Rattle.laws_revocation.specs.Commits.{EachIdHasLock, EachInsertedSpanHasLock, EachReplacedSpanHasLock, EndedPublishesNothing, HasIdLock, HasSpanLock, OverPublishesNothing, ReachedEndedPublishesNothing, ReachedRevokedPublishesNothing, RevokedPublishesNothing, locks_found, locks_of_ids, locks_of_over, locks_of_publish, publishes_under}
use Rattle.laws_revocation.specs.HeldPendings.{HasHeldPendings}
use Rattle.laws_revocation.specs.LockNumbers.{HasValidLock, IsOver}
use Rattle.laws_revocation.proofs.LaterLocks.{over_stays, revoked_is_over}
use Rattle.laws_revocation.proofs.Numbering.{reached_has_numbers, sound_has_numbers}
use Rattle.laws_revocation.proofs.PendingLocks.{held_pendings_stay, over_has_none, reached_has_held_pendings, sound_has_held_pendings}
use Rattle.laws_shown.proofs.Appending.{none_refused}

-- ---- the locks that a check finds

-- a lock that is held for the span, and whose number is one of these
record HasHeldLock (qs : List PosseRow) (t : TaskRow) (kind : LockKind) (ns : List ℕ) (span : Extent) : Type 0 where
  pub lock : PosseRow
  pub among : In lock qs
  pub held : is_held t.task t.source span kind lock ≡ true
  pub listed : In lock.number ns

record Finds (qs : List PosseRow) (t : TaskRow) (kind : LockKind) (spans : List Extent) (ns : List ℕ) : Type 0 where
  pub numbers : (n : ℕ) → In n ns → HasValidLock qs n
  pub held : (s : Extent) → In s spans → HasHeldLock qs t kind ns s

held_is_valid : (revoked a b c d : Bool) → (not revoked && a && b && c && d) ≡ true → revoked ≡ false
held_is_valid true a b c d h = cc
held_is_valid false a b c d h = refl

held_covers : (a b c d e : Bool) → (a && b && c && d && e) ≡ true → d ≡ true
held_covers a b c d e h = (and_parts (a && b && c) d (and_parts (a && b && c && d) e h).0).1

module _ (qs : List PosseRow) (t : TaskRow) (kind : LockKind) where
  -- the numbers of the locks of the targets
  abbrev locks : List Target → List ℕ
  locks xs = map (λ (x : Target). x.lock) xs

  finds_one : (span : Extent) (q : PosseRow) (rest : List Extent) (xs : List Target) → In q qs → is_held t.task t.source span kind q ≡ true → Finds qs t kind rest (locks xs) → Finds qs t kind (span ∷ rest) (locks (target_of span q ∷ xs))
  finds_one span q rest xs among held f = record {
    numbers = λ m i. elim i as (λ i. HasValidLock qs m) [
      | inl same ↦ record { lock = q; is_valid = record { among = among; valid = held_is_valid q.revoked _ _ _ _ held }; number_is = sym same }
      | inr j ↦ f.numbers m j
    ];
    held = λ s i. elim i as (λ i. HasHeldLock qs t kind (q.number ∷ locks xs) s) [
      | inl same ↦ record { lock = q; among = among; held = subst (λ (x : Extent). is_held t.task t.source x kind q ≡ true) (sym same) held; listed = inl refl }
      | inr j ↦ (let w = f.held s j in record { lock = w.lock; among = w.among; held = w.held; listed = inr w.listed })
    ];
  }

  finds_locks : (spans : List Extent) (xs : List Target) → targets qs t kind spans ≡ Ok xs → Finds qs t kind spans (locks xs)
  finds_locks spans xs e = targets_have qs t kind (λ spans xs. Finds qs t kind spans (locks xs)) (record { numbers = λ n i. absurd i; held = λ s i. absurd i }) finds_one spans xs e

check_finds : (f : Filling) (b : Book) (t : TaskRow) (given : Publish) (xs : List Target) → check_over f b given t ≡ Ok xs → Finds b.posses t (lock_for f) given.spans (map (λ (x : Target). x.lock) xs)
check_finds f b t given xs e = finds_locks b.posses t (lock_for f) given.spans xs (let_through f b given t xs e).held

-- ---- none of them is over

none_stands : (ns : List ℕ) (n : ℕ) → ((m : ℕ) → In m ns → m ≡ n → ⊥) → stands_in ns n ≡ false
none_stands ns n h = none_from_In (λ m. m == n) ns (λ m i. elim (cases_Bool (m == n)) [ inr off ↦ off | inl on ↦ absurd (h m i ((Decides-eqb m n).0 on)) ])

and_off : (x y : Bool) → y ≡ false → (x && y) ≡ false
and_off true y e = e
and_off false y e = refl

valid_not_over : (n m : ℕ) (b : Book) → IsOver n b → HasValidLock b.posses m → m ≡ n → ⊥
valid_not_over n m b over h e = false≢true (sym h.is_valid.valid ∙ over.lost h.lock h.is_valid.among (h.number_is ∙ e))

ids_not_over : (n : ℕ) (b : Book) (ids : List SegId) → HasHeldPendings b → IsOver n b → stands_in (locks_of_ids b ids) n ≡ false
ids_not_over n b ids held over = none_stands (locks_of_ids b ids) n none where
  none : (m : ℕ) → In m (locks_of_ids b ids) → m ≡ n → ⊥
  none m i e =
      let w = In-map (λ (p : PendingRow). p.posse) m (filter (λ p. is_root p && is_listed ids p.id) b.pendings) i in
      over_has_none n b held over w.0 (In-filter (λ p. is_root p && is_listed ids p.id) w.0 b.pendings w.1).0 (sym w.2 ∙ e)

found_not_over : (n : ℕ) (b : Book) (t : TaskRow) (kind : LockKind) (spans : List Extent) → IsOver n b → (r : Result (List Target) Refusal) → ((xs : List Target) → r ≡ Ok xs → Finds b.posses t kind spans (map (λ (x : Target). x.lock) xs)) → stands_in (locks_found r) n ≡ false
found_not_over n b t kind spans over (Err why) f = refl
found_not_over n b t kind spans over (Ok xs) f = none_stands (map (λ (x : Target). x.lock) xs) n (λ m i e. valid_not_over n m b over ((f xs refl).numbers m i) e)

spans_not_over : (n : ℕ) (f : Filling) (o : Option TaskRow) (b : Book) (given : Publish) → IsOver n b → stands_in (locks_of_over f o b given) n ≡ false
spans_not_over n f None b given over = refl
spans_not_over n f (Some t) b given over = found_not_over n b t (lock_for f) given.spans over (check_over f b given t) (λ xs e. check_finds f b t given xs e)

locks_not_over : (n : ℕ) (b : Book) (c : Command) → HasHeldPendings b → IsOver n b → stands_in (locks_of_publish b c) n ≡ false
locks_not_over n b (Commands.Submit task group source kind priority locks) held over = refl
locks_not_over n b (Commands.Manage now) held over = refl
locks_not_over n b (Commands.Lock task lock_kind span now) held over = refl
locks_not_over n b (Commands.Unlock task lock) held over = refl
locks_not_over n b (Commands.Allocate task lock_kind sequence previous at granularity now) held over = refl
locks_not_over n b (Commands.Append task ids ranges) held over = ids_not_over n b ids held over
locks_not_over n b (Commands.Insert task spans ids tombstones ranges) held over = spans_not_over n Inserting (task_of task b.tasks) b (in_spans spans ids tombstones ranges) over
locks_not_over n b (Commands.Replace task spans ids tombstones ranges) held over = spans_not_over n Replacing (task_of task b.tasks) b (in_spans spans ids tombstones ranges) over
locks_not_over n b (Commands.End task status) held over = refl
locks_not_over n b (Commands.Drop source span) held over = refl
locks_not_over n b (Commands.Reset source stream offsets) held over = refl
locks_not_over n b (Commands.Supervise source stream partitions task_count replicas task_duration completion_timeout) held over = refl
locks_not_over n b (Commands.Tick now) held over = refl
locks_not_over n b (Commands.Paused task offsets) held over = refl
locks_not_over n b (Commands.Checkpoint task offsets) held over = refl
locks_not_over n b (Commands.ToReplace task span) held over = refl
locks_not_over n b (Commands.Show what) held over = refl

pub over_publishes_nothing : OverPublishesNothing
over_publishes_nothing n b c held over = and_off (changes b c) (stands_in (locks_of_publish b c) n) (locks_not_over n b c held over)

-- nor is one later
none_later : (n : ℕ) (b : Book) (cs : List Command) (c : Command) → HasHeldPendings b → IsOver n b → publishes_under n (book_after b cs) c ≡ false
none_later n b cs c held over = over_publishes_nothing n (book_after b cs) c (held_pendings_stay b cs held) (over_stays n b cs over)

pub ended_publishes_nothing : EndedPublishesNothing
ended_publishes_nothing b cs c n sound over = none_later n b cs c (sound_has_held_pendings b sound) over

pub revoked_publishes_nothing : RevokedPublishesNothing
revoked_publishes_nothing b cs c q sound i e = ended_publishes_nothing b cs c q.number sound (revoked_is_over b q (sound_has_numbers b sound) i e)

pub reached_ended_publishes_nothing : ReachedEndedPublishesNothing
reached_ended_publishes_nothing before after c n over = none_later n (book_after empty_book before) after c (reached_has_held_pendings before) over

pub reached_revoked_publishes_nothing : ReachedRevokedPublishesNothing
reached_revoked_publishes_nothing before after c q i e = reached_ended_publishes_nothing before after c q.number (revoked_is_over (book_after empty_book before) q (reached_has_numbers before) i e)

-- ---- each publish that changes the book has its locks

pub published_changes : (k : Option ℕ) (b : Book) (status : TaskStatus) (reply : ℕ → Reply) (out : Outcome) → (published_or k b status reply out).changes ≡ true → out.changes ≡ true
published_changes (Some k) b status reply out h = cc
published_changes None b Statuses.Running reply out h = h
published_changes None b Statuses.Waiting reply out h = cc
published_changes None b Statuses.Success reply out h = cc
published_changes None b Statuses.Failed reply out h = cc

no_fault_first : (o rest : Option Refusal) (b : Book) (out : Outcome) → (unless (or_else o rest) b out).changes ≡ true → o ≡ None
no_fault_first None rest b out h = refl
no_fault_first (Some why) rest b out h = cc

is_on : (b : Bool) → not b ≡ false → b ≡ true
is_on true e = refl
is_on false e = sym e

allocated_has_lock : (b : Book) (task : List ℕ) (ids : List SegId) (a : SegId) → In a ids → is_allocated b.posses b.pendings task a ≡ true → HasIdLock b (locks_of_ids b ids) a
allocated_has_lock b task ids a i on =
    let w = any_In (λ p. is_root p && same_id p.id a && is_member_of (posse_of p.posse b.posses) task) b.pendings on in
    let both = and_parts (is_root w.0) (same_id w.0.id a) (and_parts (is_root w.0 && same_id w.0.id a) (is_member_of (posse_of w.0.posse b.posses) task) w.2).0 in
    let same : w.0.id ≡ a = same_id_means w.0.id a both.1 in
    let listed : is_listed ids w.0.id ≡ true = any_from_In (λ c. same_id c w.0.id) a ids i (same_id_from a w.0.id (sym same)) in
    record {
      pending = w.0;
      among = w.1;
      id_is = same;
      listed = any_from_In (λ m. m == w.0.posse) w.0.posse (locks_of_ids b ids)
          (map_In (λ (p : PendingRow). p.posse) w.0 (filter (λ p. is_root p && is_listed ids p.id) b.pendings) (filter_In (λ p. is_root p && is_listed ids p.id) w.0 b.pendings w.1 (and_from (is_root w.0) (is_listed ids w.0.id) both.0 listed)))
          ((Decides-eqb w.0.posse w.0.posse).1 refl);
    }

appended_has_lock : (o : Option TaskRow) (b : Book) (ids : List SegId) (ranges : Option Ranges) (a : SegId) → (appended o b (appending ids ranges)).changes ≡ true → In a ids → HasIdLock b (locks_of_ids b ids) a
appended_has_lock None b ids ranges a h i = cc
appended_has_lock (Some t) b ids ranges a h i =
    let out = published_changes (repeat_of (publication_of PubKinds.Append t [] (appending ids ranges)) b.publications) b t.status Replies.Append (append_running b (appending ids ranges) t) h in
    let fault = no_fault_first (append_fault b.posses b.pendings t.task ids) (ranges_fault b t ranges) b _ out in
    let none = none_refused (find (λ a. not (is_allocated b.posses b.pendings t.task a)) ids) fault in
    allocated_has_lock b t.task ids a i (is_on (is_allocated b.posses b.pendings t.task a) (find_none (λ a. not (is_allocated b.posses b.pendings t.task a)) ids none a i))

pub each_id_has_lock : EachIdHasLock
each_id_has_lock b task ids ranges a h i = appended_has_lock (task_of task b.tasks) b ids ranges a h i

span_lock : (b : Book) (t : TaskRow) (kind : LockKind) (spans : List Extent) (ns : List ℕ) (span : Extent) → Finds b.posses t kind spans ns → In span spans → HasSpanLock b ns span
span_lock b t kind spans ns span f i =
    let w = f.held span i in
    record {
      lock = w.lock;
      among = w.among;
      valid = held_is_valid w.lock.revoked _ _ _ _ w.held;
      within = held_covers (not w.lock.revoked) (bytes_eq w.lock.source t.source) (same_kind w.lock.lock_kind kind) (covers w.lock.span span) (is_member t.task w.lock) w.held;
      listed = any_from_In (λ m. m == w.lock.number) w.lock.number ns w.listed ((Decides-eqb w.lock.number w.lock.number).1 refl);
    }

over_has_lock : (r : Result (List Target) Refusal) (f : Filling) (b : Book) (t : TaskRow) (given : Publish) (span : Extent) → check_over f b given t ≡ r
    → (refused_or r b (over_checked f b given t)).changes ≡ true → In span given.spans → HasSpanLock b (locks_found r) span
over_has_lock (Err why) f b t given span e h i = cc
over_has_lock (Ok xs) f b t given span e h i = span_lock b t (lock_for f) given.spans (map (λ (x : Target). x.lock) xs) span (check_finds f b t given xs e) i

step_has_lock : (f : Filling) (o : Option TaskRow) (b : Book) (given : Publish) (span : Extent) → (over_step f o b given).changes ≡ true → In span given.spans → HasSpanLock b (locks_of_over f o b given) span
step_has_lock f None b given span h i = cc
step_has_lock f (Some t) b given span h i =
    over_has_lock (check_over f b given t) f b t given span refl
    (published_changes (repeat_of (publication_of (kind_of f) t (without_since given.spans) given) b.publications) b t.status (commit_reply (kind_of f)) (over_running f b given t) h) i

pub each_inserted_span_has_lock : EachInsertedSpanHasLock
each_inserted_span_has_lock b task spans ids tombs ranges span h i = step_has_lock Inserting (task_of task b.tasks) b (in_spans spans ids tombs ranges) span h i

pub each_replaced_span_has_lock : EachReplacedSpanHasLock
each_replaced_span_has_lock b task spans ids tombs ranges span h i = step_has_lock Replacing (task_of task b.tasks) b (in_spans spans ids tombs ranges) span h i
