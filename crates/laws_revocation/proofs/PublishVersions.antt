-- What a publish adds, and the versions that it publishes.
use Rattle.std.proofs.Common.{◌≡◌, ℕ, ◌==◌, ◌&&◌, Bool, true, false, List, [], ◌∷◌, ◌++◌, Some, None, Option, Result, Ok, Err, refl, sym, ◌∙◌, inl, inr, ap, subst, length, map, bytes_eq}
use Rattle.std.specs.List.{list_all}
use Rattle.std.specs.Ordering.{int_eq}
use Rattle.std.proofs.lemmas.Bool.{and_parts, false≢true}
use Rattle.std.proofs.lemmas.Bool.Decides.{Decides-eqb, Decides-int_eq}
use Rattle.std.proofs.lemmas.Slice.Eq.{bytes_eq-Decides}
use Rattle.iv_span.specs.Extent.{Extent, covers}
use Rattle.seg_names.specs.Ids.{same_extent}
use Rattle.seg_names.specs.declared.seg_id.SegId.{SegId}
use Rattle.book_rows.specs.Answer.{changes}
use Rattle.book_rows.specs.Append.{after_append, append_fault}
use Rattle.book_rows.specs.Lists.{In, or_else, stands_in}
use Rattle.book_rows.specs.Outcome.{Outcome, changed, fitted_by, no_room, refused_or, task_of, unless}
use Rattle.book_rows.specs.Over.{Filling, Inserting, Replacing, Target, check_over, kind_of, lock_for}
use Rattle.book_rows.specs.Publications.{Publish, appending, in_spans, publication_of, ranges_fault, repeat_of, without_since}
use Rattle.book_rows.specs.PublishSteps.{append_running, appended, commit_reply, over_checked, over_running, over_step, published_or}
use Rattle.book_rows.specs.Rewrite.{after_insert, after_replace}
use Rattle.book_rows.specs.Shape.{AreDistinct, is_append, same_version}
use Rattle.book_rows.specs.Spans.{is_span, is_span_of}
use Rattle.book_rows.specs.declared.commands.Command.{Command}
use Rattle.book_rows.specs.declared.commands.Command.TheVariants as Commands
use Rattle.book_rows.specs.declared.kinds.LockKind.{LockKind}
use Rattle.book_rows.specs.declared.kinds.PubKind.TheVariants as PubKinds
use Rattle.book_rows.specs.declared.kinds.Table.{Table}
use Rattle.book_rows.specs.declared.kinds.Table.TheVariants as Tables
use Rattle.book_rows.specs.declared.kinds.TaskStatus.{TaskStatus}
use Rattle.book_rows.specs.declared.kinds.TaskStatus.TheVariants as Statuses
use Rattle.book_rows.specs.declared.replies.Refusal.{Refusal}
use Rattle.book_rows.specs.declared.replies.Reply.{Reply}
use Rattle.book_rows.specs.declared.replies.Reply.TheVariants as Replies
use Rattle.book_rows.specs.declared.rows.Book.{Book}
use Rattle.book_rows.specs.declared.rows.PosseRow.{PosseRow}
use Rattle.book_rows.specs.declared.rows.Publication.{Publication}
use Rattle.book_rows.specs.declared.rows.Ranges.{Ranges}
use Rattle.book_rows.specs.declared.rows.TaskRow.{TaskRow}
use Rattle.laws_locks.proofs.Targets.{let_through}
use Rattle.laws_chunks.proofs.CheckedSpans.{IsChecked, checked, held_at}
use Rattle.laws_chunks.proofs.LockFacts.{pair_of}
use Rattle.laws_chunks.proofs.Members.{any_In, any_from_In, map_In}
use Rattle.laws_chunks.proofs.Spans.{same_extent_means}
use Rattle.laws_revocation.specs.Commits.{EachInsertedIdHasLock, EachReplacedIdHasLock, HasVersionLock, IsRevokedIn, PublishAddsOne, RevokedVersionIsNotPublished, locks_found, locks_of_over, locks_of_publish, publishes_under}
use Rattle.laws_revocation.proofs.GivenOnce.{listed_spans}
use Rattle.laws_revocation.proofs.PublishLocks.{published_changes}

-- ---- one publication is added

-- where the outcome changes the book, it adds one publication
abbrev AddsOne : Book → Outcome → Type 0
AddsOne b o = o.changes ≡ true → (m : Publication) × (o.book.publications ≡ b.publications ++ m ∷ [])

module _ (b : Book) where
  room_adds : (room : Option Table) (after : Book) (reply : Reply) (m : Publication) → after.publications ≡ b.publications ++ m ∷ [] → AddsOne b (fitted_by room b (changed after reply))
  room_adds (Some table) after reply m same = λ h. cc
  room_adds None after reply m same = λ h. (m, same)

  unless_adds : (o : Option Refusal) (out : Outcome) → AddsOne b out → AddsOne b (unless o b out)
  unless_adds (Some why) out f = λ h. cc
  unless_adds None out f = f

  published_adds : (k : Option ℕ) (status : TaskStatus) (reply : ℕ → Reply) (out : Outcome) → AddsOne b out → AddsOne b (published_or k b status reply out)
  published_adds (Some k) status reply out f = λ h. cc
  published_adds None Statuses.Running reply out f = f
  published_adds None Statuses.Waiting reply out f = λ h. cc
  published_adds None Statuses.Success reply out f = λ h. cc
  published_adds None Statuses.Failed reply out f = λ h. cc

  append_adds : (o : Option TaskRow) (ids : List SegId) (ranges : Option Ranges) → AddsOne b (appended o b (appending ids ranges))
  append_adds None ids ranges = λ h. cc
  append_adds (Some t) ids ranges =
      published_adds (repeat_of (publication_of PubKinds.Append t [] (appending ids ranges)) b.publications) t.status Replies.Append (append_running b (appending ids ranges) t)
      (unless_adds (or_else (append_fault b.posses b.pendings t.task ids) (ranges_fault b t ranges)) _
      (room_adds (no_room (Tables.Segments ∷ Tables.Upgrades ∷ Tables.Publications ∷ Tables.Offsets ∷ []) (after_append t (appending ids ranges) b)) (after_append t (appending ids ranges) b) (Replies.Append (length b.publications)) (publication_of PubKinds.Append t [] (appending ids ranges)) refl))

  checked_adds : (f : Filling) (t : TaskRow) (given : Publish) (xs : List Target) → AddsOne b (over_checked f b given t xs)
  checked_adds Inserting t given xs =
      let after : Book = after_insert t given xs b in
      unless_adds (ranges_fault b t given.ranges) _ (room_adds (no_room (Tables.Chunks ∷ Tables.Parts ∷ Tables.Segments ∷ Tables.Publications ∷ Tables.Offsets ∷ []) after) after (Replies.Insert (length b.publications)) _ refl)
  checked_adds Replacing t given xs =
      let after : Book = after_replace t given xs b in
      unless_adds (ranges_fault b t given.ranges) _ (room_adds (no_room (Tables.Chunks ∷ Tables.Parts ∷ Tables.Segments ∷ Tables.Pendings ∷ Tables.Publications ∷ Tables.Offsets ∷ []) after) after (Replies.Replace (length b.publications)) _ refl)

  over_adds : (r : Result (List Target) Refusal) (f : Filling) (t : TaskRow) (given : Publish) → AddsOne b (refused_or r b (over_checked f b given t))
  over_adds (Err why) f t given = λ h. cc
  over_adds (Ok xs) f t given = checked_adds f t given xs

  step_adds : (f : Filling) (o : Option TaskRow) (given : Publish) → AddsOne b (over_step f o b given)
  step_adds f None given = λ h. cc
  step_adds f (Some t) given =
      published_adds (repeat_of (publication_of (kind_of f) t (without_since given.spans) given) b.publications) t.status (commit_reply (kind_of f)) (over_running f b given t)
      (over_adds (check_over f b given t) f t given)

-- a command without locks publishes under none
no_locks : (x : Bool) → (x && false) ≡ true → ⊥
no_locks true h = cc
no_locks false h = cc

did_change : (n : ℕ) (b : Book) (c : Command) → publishes_under n b c ≡ true → changes b c ≡ true
did_change n b c h = (and_parts (changes b c) (stands_in (locks_of_publish b c) n) h).0

pub publish_adds_one : PublishAddsOne
publish_adds_one n b (Commands.Submit task group source kind priority locks) h = absurd (no_locks (changes b (Commands.Submit task group source kind priority locks)) h)
publish_adds_one n b (Commands.Manage now) h = absurd (no_locks (changes b (Commands.Manage now)) h)
publish_adds_one n b (Commands.Lock task lock_kind span now) h = absurd (no_locks (changes b (Commands.Lock task lock_kind span now)) h)
publish_adds_one n b (Commands.Unlock task lock) h = absurd (no_locks (changes b (Commands.Unlock task lock)) h)
publish_adds_one n b (Commands.Allocate task lock_kind sequence previous at granularity now) h = absurd (no_locks (changes b (Commands.Allocate task lock_kind sequence previous at granularity now)) h)
publish_adds_one n b (Commands.Append task ids ranges) h = append_adds b (task_of task b.tasks) ids ranges (did_change n b (Commands.Append task ids ranges) h)
publish_adds_one n b (Commands.Insert task spans ids tombstones ranges) h = step_adds b Inserting (task_of task b.tasks) (in_spans spans ids tombstones ranges) (did_change n b (Commands.Insert task spans ids tombstones ranges) h)
publish_adds_one n b (Commands.Replace task spans ids tombstones ranges) h = step_adds b Replacing (task_of task b.tasks) (in_spans spans ids tombstones ranges) (did_change n b (Commands.Replace task spans ids tombstones ranges) h)
publish_adds_one n b (Commands.End task status) h = absurd (no_locks (changes b (Commands.End task status)) h)
publish_adds_one n b (Commands.Drop source span) h = absurd (no_locks (changes b (Commands.Drop source span)) h)
publish_adds_one n b (Commands.Reset source stream offsets) h = absurd (no_locks (changes b (Commands.Reset source stream offsets)) h)
publish_adds_one n b (Commands.Supervise source stream partitions task_count replicas task_duration completion_timeout) h =
    absurd (no_locks (changes b (Commands.Supervise source stream partitions task_count replicas task_duration completion_timeout)) h)
publish_adds_one n b (Commands.Tick now) h = absurd (no_locks (changes b (Commands.Tick now)) h)
publish_adds_one n b (Commands.Paused task offsets) h = absurd (no_locks (changes b (Commands.Paused task offsets)) h)
publish_adds_one n b (Commands.Checkpoint task offsets) h = absurd (no_locks (changes b (Commands.Checkpoint task offsets)) h)
publish_adds_one n b (Commands.ToReplace task span) h = absurd (no_locks (changes b (Commands.ToReplace task span)) h)
publish_adds_one n b (Commands.Show what) h = absurd (no_locks (changes b (Commands.Show what)) h)

-- ---- the versions of what is published

module _ (b : Book) (t : TaskRow) (kind : LockKind) (given : Publish) (xs : List Target) (proper : list_all is_span given.spans ≡ true) (c : IsChecked b.chunks b.posses t kind given xs) where
  version_lock : (a : SegId) → In a (given.ids ++ given.tombstones) → HasVersionLock b (map (λ (x : Target). x.lock) xs) kind a
  version_lock a i =
      let w = any_In (λ (x : Target). same_extent x.span a.span && int_eq x.version a.version) xs (c.versions a i) in
      let both = and_parts (same_extent w.0.span a.span) (int_eq w.0.version a.version) w.2 in
      let h = held_at b t kind given xs proper c w.0 w.1 in
      let source = (and_parts (bytes_eq a.source t.source) (is_span_of given.spans a.span) (c.placed a i)).0 in
      record {
        lock = h.lock;
        among = h.among;
        valid = h.valid;
        kind_is = h.kind_is;
        source_is = h.source_is ∙ sym ((bytes_eq-Decides a.source t.source).0 source);
        within = subst (λ (s : Extent). covers h.lock.span s ≡ true) (same_extent_means w.0.span a.span both.0) h.within;
        version_is = sym h.version_is ∙ (Decides-int_eq w.0.version a.version).0 both.1;
        listed = any_from_In (λ m. m == h.lock.number) w.0.lock (map (λ (x : Target). x.lock) xs) (map_In (λ (x : Target). x.lock) w.0 xs w.1) ((Decides-eqb w.0.lock h.lock.number).1 (sym h.number_is));
      }

by_version : (r : Result (List Target) Refusal) (f : Filling) (b : Book) (t : TaskRow) (given : Publish) (a : SegId) → list_all is_span given.spans ≡ true → check_over f b given t ≡ r
    → (refused_or r b (over_checked f b given t)).changes ≡ true → In a (given.ids ++ given.tombstones) → HasVersionLock b (locks_found r) (lock_for f) a
by_version (Err why) f b t given a proper e h i = cc
by_version (Ok xs) f b t given a proper e h i = version_lock b t (lock_for f) given xs proper (checked f b given t xs (let_through f b given t xs e)) a i

step_version : (f : Filling) (o : Option TaskRow) (b : Book) (given : Publish) (a : SegId) → list_all is_span given.spans ≡ true → (over_step f o b given).changes ≡ true → In a (given.ids ++ given.tombstones)
    → HasVersionLock b (locks_of_over f o b given) (lock_for f) a
step_version f None b given a proper h i = cc
step_version f (Some t) b given a proper h i =
    by_version (check_over f b given t) f b t given a proper refl
    (published_changes (repeat_of (publication_of (kind_of f) t (without_since given.spans) given) b.publications) b t.status (commit_reply (kind_of f)) (over_running f b given t) h) i

pub each_inserted_id_has_lock : EachInsertedIdHasLock
each_inserted_id_has_lock b task spans ids tombs ranges a numbers form h i =
    step_version Inserting (task_of task b.tasks) b (in_spans spans ids tombs ranges) a (listed_spans task (in_spans spans ids tombs ranges) form) h i

pub each_replaced_id_has_lock : EachReplacedIdHasLock
each_replaced_id_has_lock b task spans ids tombs ranges a numbers form h i =
    step_version Replacing (task_of task b.tasks) b (in_spans spans ids tombs ranges) a (listed_spans task (in_spans spans ids tombs ranges) form) h i

-- ---- not that of a revoked lock

same_versions : (p q : PosseRow) → is_append p.lock_kind ≡ false → is_append q.lock_kind ≡ false → p.version ≡ q.version → same_version p q ≡ true
same_versions p q e f same = rw (e, f) ((Decides-int_eq p.version q.version).1 same)

other_version : (b : Book) (p q : PosseRow) → AreDistinct same_version b.posses → In p b.posses → p.revoked ≡ false → is_append p.lock_kind ≡ false → IsRevokedIn b q → p.version ≡ q.version → ⊥
other_version b p q distinct i valid kind lost same = elim (pair_of (λ p q. same_version p q ≡ false) p q b.posses distinct i lost.among) [
  | inl one ↦ false≢true (sym valid ∙ subst (λ (x : PosseRow). x.revoked ≡ true) (sym one) lost.revoked)
  | inr (inl off) ↦ false≢true (sym off ∙ same_versions p q kind lost.kind_is same)
  | inr (inr off) ↦ false≢true (sym off ∙ same_versions q p lost.kind_is kind (sym same))
]

unchanged : (x : Bool) → (x ≡ true → ⊥) → x ≡ false
unchanged true f = absurd (f refl)
unchanged false f = refl

pub revoked_version_is_not_published : RevokedVersionIsNotPublished
revoked_version_is_not_published b task spans ids tombs ranges q a numbers distinct lost i same form = (
  unchanged (changes b (Commands.Insert task spans ids tombs ranges)) (λ h. (let w = each_inserted_id_has_lock b task spans ids tombs ranges a numbers form h i in
      other_version b w.lock q distinct w.among w.valid (ap is_append w.kind_is) lost (w.version_is ∙ same))),
  unchanged (changes b (Commands.Replace task spans ids tombs ranges)) (λ h. (let w = each_replaced_id_has_lock b task spans ids tombs ranges a numbers form h i in
      other_version b w.lock q distinct w.among w.valid (ap is_append w.kind_is) lost (w.version_is ∙ same))),
)
