-- Where a publish is answered a commit number, it repeats a publication, or makes one.
use Rattle.std.proofs.Common.{◌≡◌, ℕ, ◌+◌, Bool, true, false, cond, ◌==◌, ◌&&◌, List, [], ◌∷◌, ◌++◌, map, Some, None, Option, Result, Ok, Err, refl, sym, ◌∙◌, ap, subst, arith, inl, inr, ◌⊎◌, bytes_eq, length, suc}
use Rattle.std.proofs.lemmas.Bool.{and_parts, eqb-true}
use Rattle.book_rows.specs.Answer.{answer, step}
use Rattle.book_rows.specs.Append.{after_append, append_fault}
use Rattle.book_rows.specs.Ids.{same_ids}
use Rattle.book_rows.specs.Kinds.{same_pub_kind}
use Rattle.book_rows.specs.Lists.{at_place, or_else}
use Rattle.book_rows.specs.Outcome.{Outcome, changed, fitted, fitted_by, no_room, refused_or, running_as, task_of, unless}
use Rattle.book_rows.specs.Over.{Filling, Inserting, Replacing, Target, check_over, kind_of}
use Rattle.book_rows.specs.PublishSteps.{append_running, appended, commit_reply, over_checked, over_running, over_step, published_or}
use Rattle.book_rows.specs.Publications.{Publish, appending, forgets, in_spans, is_like, publication_of, ranges_fault, repeat_from, repeat_of, same_parts, same_range, same_ranges, spans_of, without_since}
use Rattle.book_rows.specs.Spans.{same_spans}
use Rattle.book_rows.specs.Rewrite.{after_insert, after_replace}
use Rattle.book_rows.specs.declared.commands.Command.{Command}
use Rattle.book_rows.specs.declared.commands.Command.TheVariants as Commands
use Rattle.book_rows.specs.declared.kinds.PubKind.TheVariants as PubKinds
use Rattle.book_rows.specs.declared.kinds.Table.{Table}
use Rattle.book_rows.specs.declared.kinds.Table.TheVariants as Tables
use Rattle.book_rows.specs.declared.kinds.TaskStatus.{TaskStatus}
use Rattle.book_rows.specs.declared.kinds.TaskStatus.TheVariants as Statuses
use Rattle.book_rows.specs.declared.replies.Refusal.{Refusal}
use Rattle.book_rows.specs.declared.replies.Reply.{Reply}
use Rattle.book_rows.specs.declared.replies.Reply.TheVariants as Replies
use Rattle.book_rows.specs.declared.rows.Book.{Book}
use Rattle.book_rows.specs.declared.rows.Publication.{Publication}
use Rattle.book_rows.specs.declared.rows.Range.{Range}
use Rattle.book_rows.specs.declared.rows.Ranges.{Ranges}
use Rattle.book_rows.specs.declared.rows.TaskRow.{TaskRow}
use Rattle.laws_offsets.specs.Effects.{TaskRanges, publish_of}
use Rattle.laws_offsets.proofs.Lists.{or_else_none, some_is}
use Rattle.laws_sequences.specs.PublishReplies.{commit_of}

-- ---- a repeat is like a publication that is there

-- the publication of that place, counted from here, is like it
pub record IsRepeat (like : Publication) (ms : List Publication) (k : ℕ) : Type 0 where
  pub publication : Publication
  pub at : at_place k ms ≡ Some publication
  pub like_is : is_like like publication ≡ true

-- so far one was found, or it is among these
abbrev Repeats : ℕ → Option ℕ → Publication → List Publication → ℕ → Type 0
Repeats k found like ms n = (found ≡ Some n) ⊎ ((i : ℕ) × (n ≡ k + i) × IsRepeat like ms i)

first_found : (like m : Publication) (k n : ℕ) (found : Option ℕ) (x y : Bool) → is_like like m ≡ y → cond x None (or_else found (cond y (Some k) None)) ≡ Some n → (found ≡ Some n) ⊎ ((n ≡ k) × (is_like like m ≡ true))
first_found like m k n found true y l e = cc
first_found like m k n (Some f) false y l e = inl e
first_found like m k n None false true l e = inr (sym (some_is k n e), l)
first_found like m k n None false false l e = cc

repeats : (k : ℕ) (found : Option ℕ) (like : Publication) (ms : List Publication) (n : ℕ) → repeat_from k found like ms ≡ Some n → Repeats k found like ms n
repeats k found like [] n e = inl e
repeats k found like (m ∷ ms) n e = elim (repeats (k + 1) (cond (forgets like m) None (or_else found (cond (is_like like m) (Some k) None))) like ms n e) [
  | inr later ↦ inr (suc later.0, shift n k later.0 later.1, record { publication = later.2.publication; at = later.2.at; like_is = later.2.like_is })
  | inl now ↦ elim (first_found like m k n found (forgets like m) (is_like like m) refl now) [
    | inl before ↦ inl before
    | inr here ↦ inr (0, start n k here.0, record { publication = m; at = refl; like_is = here.1 })
  ]
] where
  shift : (n k i : ℕ) → n ≡ (k + 1) + i → n ≡ k + suc i
  shift n k i e = omega arith

  start : (n k : ℕ) → n ≡ k → n ≡ k + 0
  start n k e = omega arith

pub repeat_is : (like : Publication) (ms : List Publication) (n : ℕ) → repeat_of like ms ≡ Some n → IsRepeat like ms n
repeat_is like ms n e = elim (repeats 0 None like ms n e) [
  | inl none ↦ absurd (never n none)
  | inr found ↦ subst (λ k. IsRepeat like ms k) (sym (from_zero n found.0 found.1)) found.2
] where
  never : (n : ℕ) → None ≡ Some n → ⊥
  never n e = cc

  from_zero : (n i : ℕ) → n ≡ 0 + i → n ≡ i
  from_zero n i e = omega arith

-- it has its group, its source and its ranges
pub like_parts : (like m : Publication) → is_like like m ≡ true → (bytes_eq m.group like.group ≡ true) × (bytes_eq m.source like.source ≡ true) × (same_ranges m.ranges like.ranges ≡ true)
like_parts like m e =
    let a = and_parts _ (same_ranges m.ranges like.ranges) e in
    let b = and_parts _ (same_spans (spans_of m) (spans_of like)) a.0 in
    let c = and_parts _ (same_ids m.empties like.empties) b.0 in
    let d = and_parts _ (same_ids m.adds like.adds) c.0 in
    let f = and_parts _ (bytes_eq m.source like.source) d.0 in
    ((and_parts (same_pub_kind m.kind like.kind) (bytes_eq m.group like.group) f.0).1, f.1, a.1)

pub same_list_of_parts : (as' bs : List Range) → same_parts as' bs ≡ true → as' ≡ bs
same_list_of_parts [] [] e = refl
same_list_of_parts [] (b ∷ bs) e = cc
same_list_of_parts (a ∷ as') [] e = cc
same_list_of_parts (a ∷ as') (b ∷ bs) e =
    let x = and_parts (same_range a b) (same_parts as' bs) e in
    let y = and_parts ((a.partition == b.partition) && (a.start == b.start)) (a.end == b.end) x.0 in
    let z = and_parts (a.partition == b.partition) (a.start == b.start) y.0 in
    let first : a ≡ b = one_range a.partition b.partition a.start b.start a.end b.end (eqb-true a.partition b.partition z.0) (eqb-true a.start b.start z.1) (eqb-true a.end b.end y.1) in
    rw (first, same_list_of_parts as' bs x.1) refl where
      range_of : ℕ → ℕ → ℕ → Range
      range_of partition start end = record { partition = partition; start = start; end = end }

      one_range : (p q s t e f : ℕ) → p ≡ q → s ≡ t → e ≡ f → range_of p s e ≡ range_of q t f
      one_range p q s t e f x y z = rw (x, y, z) refl

-- ---- what is answered a number

-- nothing was found against the ranges, and the publication was added at the end
pub record IsAccepted (b : Book) (t : TaskRow) (ranges : Option Ranges) (k : ℕ) (out : Outcome) : Type 0 where
  pub fault : ranges_fault b t ranges ≡ None
  pub place_is : k ≡ length b.publications
  pub publication : Publication
  pub group_is : publication.group ≡ t.group
  pub added : out.book.publications ≡ b.publications ++ publication ∷ []

pub record IsAnswered (b : Book) (t : TaskRow) (ranges : Option Ranges) (k : ℕ) (out : Outcome) : Type 0 where
  pub like : Publication
  pub group_is : like.group ≡ t.group
  pub source_is : like.source ≡ t.source
  pub ranges_are : like.ranges ≡ ranges
  pub answered : ((repeat_of like b.publications ≡ Some k) × (out.book ≡ b)) ⊎ IsAccepted b t ranges k out

module _ (b : Book) (t : TaskRow) (given : Publish) (k : ℕ) where
  fitted_accepted : (o : Option Table) (after : Book) (reply : Reply) (m : Publication) → commit_of reply ≡ Some (length b.publications) → after.publications ≡ b.publications ++ m ∷ [] → m.group ≡ t.group → ranges_fault b t given.ranges ≡ None
      → commit_of (fitted_by o b (changed after reply)).reply ≡ Some k → IsAccepted b t given.ranges k (fitted_by o b (changed after reply))
  fitted_accepted (Some table) after reply m number added group fault e = cc
  fitted_accepted None after reply m number added group fault e = record { fault = fault; place_is = some_is k (length b.publications) (sym e ∙ number); publication = m; group_is = group; added = added }

  unless_accepted : (o : Option Refusal) (tables : List Table) (after : Book) (reply : Reply) (m : Publication) → commit_of reply ≡ Some (length b.publications) → after.publications ≡ b.publications ++ m ∷ [] → m.group ≡ t.group
      → (o ≡ None → ranges_fault b t given.ranges ≡ None) → commit_of (unless o b (fitted tables b after reply)).reply ≡ Some k → IsAccepted b t given.ranges k (unless o b (fitted tables b after reply))
  unless_accepted (Some why) tables after reply m number added group fault e = cc
  unless_accepted None tables after reply m number added group fault e = fitted_accepted (no_room tables after) after reply m number added group (fault refl) e

  running_accepted : (s : TaskStatus) (out : Outcome) → (commit_of out.reply ≡ Some k → IsAccepted b t given.ranges k out) → commit_of (running_as s b out).reply ≡ Some k → IsAccepted b t given.ranges k (running_as s b out)
  running_accepted Statuses.Running out f e = f e
  running_accepted Statuses.Waiting out f e = cc
  running_accepted Statuses.Success out f e = cc
  running_accepted Statuses.Failed out f e = cc

  answered_or : (r : Option ℕ) (s : TaskStatus) (reply : ℕ → Reply) (like : Publication) (out : Outcome) → repeat_of like b.publications ≡ r → ((n : ℕ) → commit_of (reply n) ≡ Some n) → like.group ≡ t.group → like.source ≡ t.source → like.ranges ≡ given.ranges
      → (commit_of out.reply ≡ Some k → IsAccepted b t given.ranges k out) → commit_of (published_or r b s reply out).reply ≡ Some k → IsAnswered b t given.ranges k (published_or r b s reply out)
  answered_or (Some n) s reply like out same number group source its f e =
      let is : n ≡ k = some_is n k (sym (number n) ∙ e) in
      record { like = like; group_is = group; source_is = source; ranges_are = its; answered = inl (same ∙ ap (λ (i : ℕ). Some i) is, refl) }
  answered_or None s reply like out same number group source its f e = record { like = like; group_is = group; source_is = source; ranges_are = its; answered = inr (running_accepted s out f e) }

  append_answered : commit_of (appended (Some t) b given).reply ≡ Some k → IsAnswered b t given.ranges k (appended (Some t) b given)
  append_answered e =
      let m = publication_of PubKinds.Append t (without_since given.spans) given in
      answered_or (repeat_of m b.publications) t.status Replies.Append m (append_running b given t) refl (λ n. refl) refl refl refl
      (unless_accepted (or_else (append_fault b.posses b.pendings t.task given.ids) (ranges_fault b t given.ranges)) (Tables.Segments ∷ Tables.Upgrades ∷ Tables.Publications ∷ Tables.Offsets ∷ []) (after_append t given b)
      (Replies.Append (length b.publications)) (publication_of PubKinds.Append t [] given) refl refl refl (λ none. (or_else_none (append_fault b.posses b.pendings t.task given.ids) (ranges_fault b t given.ranges) none).1)) e

  checked_accepted : (f : Filling) (xs : List Target) → commit_of (over_checked f b given t xs).reply ≡ Some k → IsAccepted b t given.ranges k (over_checked f b given t xs)
  checked_accepted Inserting xs e =
      unless_accepted (ranges_fault b t given.ranges) (Tables.Chunks ∷ Tables.Parts ∷ Tables.Segments ∷ Tables.Publications ∷ Tables.Offsets ∷ []) (after_insert t given xs b) (Replies.Insert (length b.publications))
      (publication_of PubKinds.Over t (map (λ (x : Target). record { span = x.span; since = 0 }) xs) given) refl refl refl (λ none. none) e
  checked_accepted Replacing xs e =
      unless_accepted (ranges_fault b t given.ranges) (Tables.Chunks ∷ Tables.Parts ∷ Tables.Segments ∷ Tables.Pendings ∷ Tables.Publications ∷ Tables.Offsets ∷ []) (after_replace t given xs b) (Replies.Replace (length b.publications))
      (publication_of PubKinds.Replace t (map (λ (x : Target). record { span = x.span; since = x.since }) xs) given) refl refl refl (λ none. none) e

  over_accepted : (f : Filling) (r : Result (List Target) Refusal) → commit_of (refused_or r b (over_checked f b given t)).reply ≡ Some k → IsAccepted b t given.ranges k (refused_or r b (over_checked f b given t))
  over_accepted f (Err why) e = cc
  over_accepted f (Ok xs) e = checked_accepted f xs e

  number_is : (f : Filling) (n : ℕ) → commit_of (commit_reply (kind_of f) n) ≡ Some n
  number_is Inserting n = refl
  number_is Replacing n = refl

  step_answered : (f : Filling) → commit_of (over_step f (Some t) b given).reply ≡ Some k → IsAnswered b t given.ranges k (over_step f (Some t) b given)
  step_answered f e =
      let m = publication_of (kind_of f) t (without_since given.spans) given in
      answered_or (repeat_of m b.publications) t.status (commit_reply (kind_of f)) m (over_running f b given t) refl (number_is f) refl refl refl
      (over_accepted f (check_over f b given t)) e

-- ---- any publish

pub publish_answered : (b : Book) (c : Command) (p : TaskRanges) (t : TaskRow) (k : ℕ) → publish_of c ≡ Some p → task_of p.task b.tasks ≡ Some t → commit_of (answer b c) ≡ Some k → IsAnswered b t p.ranges k (step b c)
publish_answered b (Commands.Append task ids ranges) p t k is found e =
    let q : TaskRanges = record { task = task; ranges = ranges } in
    let same : q ≡ p = some_is q p is in
    let there : task_of task b.tasks ≡ Some t = ap (λ (x : TaskRanges). task_of x.task b.tasks) same ∙ found in
    subst (λ (x : TaskRanges). IsAnswered b t x.ranges k (appended (task_of task b.tasks) b (appending ids ranges))) same (by_task (task_of task b.tasks) there e) where
      by_task : (o : Option TaskRow) → o ≡ Some t → commit_of (appended o b (appending ids ranges)).reply ≡ Some k → IsAnswered b t ranges k (appended o b (appending ids ranges))
      by_task o same e = subst (λ (x : Option TaskRow). commit_of (appended x b (appending ids ranges)).reply ≡ Some k → IsAnswered b t ranges k (appended x b (appending ids ranges))) (sym same) (append_answered b t (appending ids ranges) k) e
publish_answered b (Commands.Insert task spans ids tombstones ranges) p t k is found e =
    let q : TaskRanges = record { task = task; ranges = ranges } in
    let same : q ≡ p = some_is q p is in
    let there : task_of task b.tasks ≡ Some t = ap (λ (x : TaskRanges). task_of x.task b.tasks) same ∙ found in
    subst (λ (x : TaskRanges). IsAnswered b t x.ranges k (over_step Inserting (task_of task b.tasks) b (in_spans spans ids tombstones ranges))) same (by_task (task_of task b.tasks) there e) where
      by_task : (o : Option TaskRow) → o ≡ Some t → commit_of (over_step Inserting o b (in_spans spans ids tombstones ranges)).reply ≡ Some k → IsAnswered b t ranges k (over_step Inserting o b (in_spans spans ids tombstones ranges))
      by_task o same e = subst (λ (x : Option TaskRow). commit_of (over_step Inserting x b (in_spans spans ids tombstones ranges)).reply ≡ Some k → IsAnswered b t ranges k (over_step Inserting x b (in_spans spans ids tombstones ranges))) (sym same) (step_answered b t (in_spans spans ids tombstones ranges) k Inserting) e
publish_answered b (Commands.Replace task spans ids tombstones ranges) p t k is found e =
    let q : TaskRanges = record { task = task; ranges = ranges } in
    let same : q ≡ p = some_is q p is in
    let there : task_of task b.tasks ≡ Some t = ap (λ (x : TaskRanges). task_of x.task b.tasks) same ∙ found in
    subst (λ (x : TaskRanges). IsAnswered b t x.ranges k (over_step Replacing (task_of task b.tasks) b (in_spans spans ids tombstones ranges))) same (by_task (task_of task b.tasks) there e) where
      by_task : (o : Option TaskRow) → o ≡ Some t → commit_of (over_step Replacing o b (in_spans spans ids tombstones ranges)).reply ≡ Some k → IsAnswered b t ranges k (over_step Replacing o b (in_spans spans ids tombstones ranges))
      by_task o same e = subst (λ (x : Option TaskRow). commit_of (over_step Replacing x b (in_spans spans ids tombstones ranges)).reply ≡ Some k → IsAnswered b t ranges k (over_step Replacing x b (in_spans spans ids tombstones ranges))) (sym same) (step_answered b t (in_spans spans ids tombstones ranges) k Replacing) e
publish_answered b _ p t k is found e = absurd (no_publish p is) where
  no_publish : (p : TaskRanges) → None ≡ Some p → ⊥
  no_publish p e = cc
