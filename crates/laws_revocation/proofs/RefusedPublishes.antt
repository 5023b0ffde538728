-- Publishes in a span that a lost lock overlaps, and of ids that aren't the task's.
use Rattle.std.proofs.Common.{◌≡◌, ℕ, ◌&&◌, not, Bool, true, false, cond, List, [], ◌∷◌, ◌++◌, Some, None, Option, Result, Ok, Err, refl, ◌∙◌, inl, inr, ap, subst, find}
use Rattle.std.specs.Prelude.{option_map}
use Rattle.std.specs.List.{list_all}
use Rattle.std.proofs.lemmas.Bool.{and_parts, cases_Bool}
use Rattle.iv_span.specs.Extent.{Extent}
use Rattle.seg_names.specs.Ids.{same_id}
use Rattle.seg_names.specs.declared.seg_id.SegId.{SegId}
use Rattle.book_rows.specs.Allocation.{is_root}
use Rattle.book_rows.specs.Append.{append_fault, is_allocated}
use Rattle.book_rows.specs.Lists.{In, on_ok, or_else}
use Rattle.book_rows.specs.Locks.{clear, is_lost, is_member_of, posse_of}
use Rattle.book_rows.specs.Outcome.{Outcome, refused_or, task_of, unless}
use Rattle.book_rows.specs.Over.{Filling, Inserting, Replacing, Target, bad_span, both_in_order, check_over, held_for, kind_of, lock_for, or_err, target_of, targets, version_fault, way_fault}
use Rattle.book_rows.specs.Publications.{Publish, appending, in_spans, publication_of, ranges_fault, repeat_of, without_since}
use Rattle.book_rows.specs.PublishSteps.{append_running, appended, commit_reply, over_checked, over_running, over_step, published_or}
use Rattle.book_rows.specs.declared.answers.Clear.{Clear}
use Rattle.book_rows.specs.declared.answers.Clear.TheVariants as Clears
use Rattle.book_rows.specs.declared.kinds.LockKind.{LockKind}
use Rattle.book_rows.specs.declared.kinds.PubKind.TheVariants as PubKinds
use Rattle.book_rows.specs.declared.kinds.TaskStatus.{TaskStatus}
use Rattle.book_rows.specs.declared.kinds.TaskStatus.TheVariants as Statuses
use Rattle.book_rows.specs.declared.replies.Refusal.{Refusal}
use Rattle.book_rows.specs.declared.replies.Refusal.TheVariants as Refusals
use Rattle.book_rows.specs.declared.replies.Reply.{Reply}
use Rattle.book_rows.specs.declared.replies.Reply.TheVariants as Replies
use Rattle.book_rows.specs.declared.rows.Book.{Book}
use Rattle.book_rows.specs.declared.rows.PendingRow.{PendingRow}
use Rattle.book_rows.specs.declared.rows.PosseRow.{PosseRow}
use Rattle.book_rows.specs.declared.rows.TaskRow.{TaskRow}
use Rattle.laws_chunks.proofs.Spans.{same_id_means}
use Rattle.laws_locks.proofs.Lists.{none_from_In}
use Rattle.laws_locks.proofs.Targets.{told_held, told_revoked}
use Rattle.laws_revocation.specs.LostLocks.{AppendIsRefused, ForeignIdChangesNothing, HasLost, InsertIsRefused, IsLeast, LostSpanChangesNothing, NotPendingIsNotAllocated, ReachesSpan, ReplaceIsRefused, is_held_clear}
use Rattle.laws_revocation.proofs.LostSpans.{span_is_refused}

-- ---- the locks of spans

-- a span before has a lock, so the next is looked at
on_held : (c : Clear) (qs : List PosseRow) (t : TaskRow) (kind : LockKind) (s : Extent) (rest : Result (List Target) Refusal) (why : Refusal) → clear qs t.task t.source s kind ≡ c → is_held_clear c ≡ true → rest ≡ Err why
    → on_ok (held_for qs t kind s) (λ q. on_ok rest (λ xs. Ok (target_of s q ∷ xs))) ≡ Err why
on_held (Clears.Held n) qs t kind s rest why e on f =
    let w = told_held qs t kind s n e in
    ap (λ (r : Result PosseRow Refusal). on_ok r (λ q. on_ok rest (λ xs. Ok (target_of s q ∷ xs)))) w.1
    ∙ ap (λ (r : Result (List Target) Refusal). on_ok r (λ xs. Ok (target_of s w.0 ∷ xs))) f
on_held (Clears.Revoked n) qs t kind s rest why e on f = cc
on_held Clears.Missing qs t kind s rest why e on f = cc

refused_at : (qs : List PosseRow) (t : TaskRow) (kind : LockKind) (first : List Extent) (span : Extent) (rest : List Extent) (n : ℕ) → list_all (λ s. is_held_clear (clear qs t.task t.source s kind)) first ≡ true
    → clear qs t.task t.source span kind ≡ Clears.Revoked n → targets qs t kind (first ++ span ∷ rest) ≡ Err (Refusals.LockRevoked n)
refused_at qs t kind [] span rest n held e = ap (λ (r : Result PosseRow Refusal). on_ok r (λ q. on_ok (targets qs t kind rest) (λ xs. Ok (target_of span q ∷ xs)))) (told_revoked qs t kind span n e)
refused_at qs t kind (s ∷ first) span rest n held e =
    let both = and_parts (is_held_clear (clear qs t.task t.source s kind)) (list_all (λ s. is_held_clear (clear qs t.task t.source s kind)) first) held in
    on_held (clear qs t.task t.source s kind) qs t kind s (targets qs t kind (first ++ span ∷ rest)) (Refusals.LockRevoked n) refl both.0 (refused_at qs t kind first span rest n both.1 e)

-- a check whose locks are refused
checked_locks : (bad : Option Extent) (locks : Result (List Target) Refusal) (f : List Target → Result (List Target) Refusal) (why : Refusal) → bad ≡ None → locks ≡ Err why → or_err (option_map Refusals.BadSpan bad) (on_ok locks f) ≡ Err why
checked_locks bad locks f why e g = rw (e, g) refl

-- the publish of a task that runs, and that repeats none
published_is : (b : Book) (k : Option ℕ) (status : TaskStatus) (reply : ℕ → Reply) (out : Outcome) → k ≡ None → status ≡ Statuses.Running → published_or k b status reply out ≡ out
published_is b k status reply out e runs = rw (e, runs) refl

over_is_refused : (f : Filling) (b : Book) (task : List ℕ) (t : TaskRow) (first : List Extent) (span : Extent) (rest : List Extent) (given : Publish) → given.spans ≡ first ++ span ∷ rest → ReachesSpan b task t f given first → HasLost b.posses t.task t.source span
    → (p : PosseRow) × IsLeast (is_lost t.task t.source span) b.posses p × ((over_step f (task_of task b.tasks) b given).reply ≡ Replies.Refused (Refusals.LockRevoked p.number))
over_is_refused f b task t first span rest given spans r lost =
    let w = span_is_refused b.posses t.task t.source span (lock_for f) lost in
    let locks : targets b.posses t (lock_for f) given.spans ≡ Err (Refusals.LockRevoked w.0.number) =
    ap (λ (ss : List Extent). targets b.posses t (lock_for f) ss) spans ∙ refused_at b.posses t (lock_for f) first span rest w.0.number r.held w.2 in
    let check : check_over f b given t ≡ Err (Refusals.LockRevoked w.0.number) =
    checked_locks (bad_span t.source given) (targets b.posses t (lock_for f) given.spans)
    (λ xs. or_err (or_else (version_fault b.chunks t.source xs (both_in_order given.ids given.tombstones)) (way_fault f b given t xs)) (Ok xs)) (Refusals.LockRevoked w.0.number) r.fitting locks in (
      w.0,
      w.1,
      ap (λ (o : Option TaskRow). (over_step f o b given).reply) r.runs.found
          ∙ (ap (λ (o : Outcome). o.reply) (published_is b (repeat_of (publication_of (kind_of f) t (without_since given.spans) given) b.publications) t.status (commit_reply (kind_of f)) (over_running f b given t) r.new r.runs.runs)
          ∙ ap (λ (x : Result (List Target) Refusal). (refused_or x b (over_checked f b given t)).reply) check),
    )

pub insert_is_refused : InsertIsRefused
insert_is_refused b task t first span rest ids tombs ranges r lost = over_is_refused Inserting b task t first span rest (in_spans (first ++ span ∷ rest) ids tombs ranges) refl r lost

pub replace_is_refused : ReplaceIsRefused
replace_is_refused b task t first span rest ids tombs ranges r lost = over_is_refused Replacing b task t first span rest (in_spans (first ++ span ∷ rest) ids tombs ranges) refl r lost

-- ---- whatever else speaks against it

-- no locks are found
abbrev IsRefusal : Result (List Target) Refusal → Type 0
IsRefusal r = (why : Refusal) × (r ≡ Err why)

one_refused : (r : Result PosseRow Refusal) (s : Extent) (rest : Result (List Target) Refusal) → IsRefusal rest → IsRefusal (on_ok r (λ q. on_ok rest (λ xs. Ok (target_of s q ∷ xs))))
one_refused (Ok q) s rest h = (h.0, rw h.1 refl)
one_refused (Err why) s rest h = (why, refl)

some_refused : (qs : List PosseRow) (t : TaskRow) (kind : LockKind) (spans : List Extent) (span : Extent) → In span spans → HasLost qs t.task t.source span → IsRefusal (targets qs t kind spans)
some_refused qs t kind [] span i lost = absurd i
some_refused qs t kind (s ∷ spans) span (inl same) lost =
    let w = span_is_refused qs t.task t.source s kind (subst (HasLost qs t.task t.source) same lost) in
    (Refusals.LockRevoked w.0.number, ap (λ (r : Result PosseRow Refusal). on_ok r (λ q. on_ok (targets qs t kind spans) (λ xs. Ok (target_of s q ∷ xs)))) (told_revoked qs t kind s w.0.number w.2))
some_refused qs t kind (s ∷ spans) span (inr i) lost = one_refused (held_for qs t kind s) s (targets qs t kind spans) (some_refused qs t kind spans span i lost)

check_refused : (bad : Option Extent) (locks : Result (List Target) Refusal) (f : List Target → Result (List Target) Refusal) → IsRefusal locks → IsRefusal (or_err (option_map Refusals.BadSpan bad) (on_ok locks f))
check_refused (Some s) locks f h = (Refusals.BadSpan s, refl)
check_refused None locks f h = (h.0, rw h.1 refl)

published_nothing : (k : Option ℕ) (b : Book) (status : TaskStatus) (reply : ℕ → Reply) (out : Outcome) → out.changes ≡ false → (published_or k b status reply out).changes ≡ false
published_nothing (Some k) b status reply out h = refl
published_nothing None b Statuses.Running reply out h = h
published_nothing None b Statuses.Waiting reply out h = refl
published_nothing None b Statuses.Success reply out h = refl
published_nothing None b Statuses.Failed reply out h = refl

over_changes_nothing : (f : Filling) (b : Book) (task : List ℕ) (t : TaskRow) (span : Extent) (given : Publish) → task_of task b.tasks ≡ Some t → In span given.spans → HasLost b.posses t.task t.source span
    → (over_step f (task_of task b.tasks) b given).changes ≡ false
over_changes_nothing f b task t span given found i lost =
    let refused = check_refused (bad_span t.source given) (targets b.posses t (lock_for f) given.spans)
    (λ xs. or_err (or_else (version_fault b.chunks t.source xs (both_in_order given.ids given.tombstones)) (way_fault f b given t xs)) (Ok xs)) (some_refused b.posses t (lock_for f) given.spans span i lost) in
    ap (λ (o : Option TaskRow). (over_step f o b given).changes) found
    ∙ published_nothing (repeat_of (publication_of (kind_of f) t (without_since given.spans) given) b.publications) b t.status (commit_reply (kind_of f)) (over_running f b given t)
    (ap (λ (x : Result (List Target) Refusal). (refused_or x b (over_checked f b given t)).changes) refused.1)

pub lost_span_changes_nothing : LostSpanChangesNothing
lost_span_changes_nothing b task t spans span ids tombs ranges found i lost = (
  over_changes_nothing Inserting b task t span (in_spans spans ids tombs ranges) found i lost,
  over_changes_nothing Replacing b task t span (in_spans spans ids tombs ranges) found i lost,
)

-- ---- appends

first_that_fails : (p : SegId → Bool) (first : List SegId) (a : SegId) (rest : List SegId) → list_all p first ≡ true → p a ≡ false → find (λ a. not (p a)) (first ++ a ∷ rest) ≡ Some a
first_that_fails p [] a rest h e = rw e refl
first_that_fails p (x ∷ first) a rest h e = let both = and_parts (p x) (list_all p first) h in rw both.0 (first_that_fails p first a rest both.1 e)

pub append_is_refused : AppendIsRefused
append_is_refused b task t first a rest ranges runs new passed off =
    let ids : List SegId = first ++ a ∷ rest in
    let fault : append_fault b.posses b.pendings t.task ids ≡ Some (Refusals.NotAllocated a) = ap (λ (o : Option SegId). option_map Refusals.NotAllocated o) (first_that_fails (is_allocated b.posses b.pendings t.task) first a rest passed off) in
    ap (λ (o : Option TaskRow). (appended o b (appending ids ranges)).reply) runs.found
    ∙ (ap (λ (o : Outcome). o.reply) (published_is b (repeat_of (publication_of PubKinds.Append t [] (appending ids ranges)) b.publications) t.status Replies.Append (append_running b (appending ids ranges) t) new runs.runs)
    ∙ rw fault refl)

some_fails : (p : SegId → Bool) (a : SegId) (ids : List SegId) → In a ids → p a ≡ false → (x : SegId) × (find (λ a. not (p a)) ids ≡ Some x)
some_fails p a [] i e = absurd i
some_fails p a (x ∷ ids) (inl same) e = (x, rw (subst (λ (y : SegId). p y ≡ false) same e) refl)
some_fails p a (x ∷ ids) (inr i) e = by_test (p x) refl (some_fails p a ids i e) where
  by_test : (b : Bool) → p x ≡ b → ((y : SegId) × (find (λ a. not (p a)) ids ≡ Some y)) → (y : SegId) × (cond (not b) (Some x) (find (λ a. not (p a)) ids) ≡ Some y)
  by_test true f w = w
  by_test false f w = (x, refl)

faulty_append : (o : Option Refusal) (why : Refusal) (rest : Option Refusal) (b : Book) (out : Outcome) → o ≡ Some why → (unless (or_else o rest) b out).changes ≡ false
faulty_append o why rest b out e = rw e refl

pub foreign_id_changes_nothing : ForeignIdChangesNothing
foreign_id_changes_nothing b task t ids a ranges found i off =
    let w = some_fails (is_allocated b.posses b.pendings t.task) a ids i off in
    ap (λ (o : Option TaskRow). (appended o b (appending ids ranges)).changes) found
    ∙ published_nothing (repeat_of (publication_of PubKinds.Append t [] (appending ids ranges)) b.publications) b t.status Replies.Append (append_running b (appending ids ranges) t)
    (faulty_append (append_fault b.posses b.pendings t.task ids) (Refusals.NotAllocated w.0) (ranges_fault b t ranges) b _ (ap (λ (o : Option SegId). option_map Refusals.NotAllocated o) w.1))

off_in_middle : (x y z : Bool) → y ≡ false → (x && y && z) ≡ false
off_in_middle true y z e = rw e refl
off_in_middle false y z e = refl

not_this : (b : Book) (task : List ℕ) (a : SegId) (p : PendingRow) → (p.id ≡ a → ⊥) → (is_root p && same_id p.id a && is_member_of (posse_of p.posse b.posses) task) ≡ false
not_this b task a p other = elim (cases_Bool (same_id p.id a)) [
  | inl on ↦ absurd (other (same_id_means p.id a on))
  | inr off ↦ off_in_middle (is_root p) (same_id p.id a) (is_member_of (posse_of p.posse b.posses) task) off
]

pub not_pending_is_not_allocated : NotPendingIsNotAllocated
not_pending_is_not_allocated b task a none = none_from_In (λ p. is_root p && same_id p.id a && is_member_of (posse_of p.posse b.posses) task) b.pendings (λ p i. not_this b task a p (none p i))
