-- A publish that changes the book is one against whose ranges nothing speaks.
use Rattle.std.proofs.Common.{◌≡◌, true, List, [], ◌∷◌, Some, None, Option, Result, Ok, Err, ap, subst, ◌∙◌, length}
use Rattle.book_rows.specs.Answer.{changes}
use Rattle.book_rows.specs.Append.{after_append, append_fault}
use Rattle.book_rows.specs.Lists.{or_else}
use Rattle.book_rows.specs.Outcome.{Outcome, fitted, refused_or, repeated, task_of}
use Rattle.book_rows.specs.Over.{Filling, Inserting, Replacing, Target, check_over, kind_of}
use Rattle.book_rows.specs.Publications.{Publish, appending, in_spans, publication_of, ranges_fault, repeat_of, without_since}
use Rattle.book_rows.specs.PublishSteps.{append_running, appended, commit_reply, over_checked, over_running, over_step}
use Rattle.book_rows.specs.Rewrite.{after_insert, after_replace}
use Rattle.book_rows.specs.declared.commands.Command.{Command}
use Rattle.book_rows.specs.declared.commands.Command.TheVariants as Commands
use Rattle.book_rows.specs.declared.kinds.PubKind.TheVariants as PubKinds
use Rattle.book_rows.specs.declared.kinds.Table.TheVariants as Tables
use Rattle.book_rows.specs.declared.replies.Refusal.{Refusal}
use Rattle.book_rows.specs.declared.replies.Reply.{Reply}
use Rattle.book_rows.specs.declared.replies.Reply.TheVariants as Replies
use Rattle.book_rows.specs.declared.rows.Book.{Book}
use Rattle.book_rows.specs.declared.rows.TaskRow.{TaskRow}
use Rattle.laws_offsets.specs.Effects.{TaskRanges, publish_of}
use Rattle.laws_offsets.proofs.Lists.{or_else_none, some_is}
use Rattle.laws_offsets.proofs.Outcomes.{published_or_is, unless_is}

module _ (b : Book) (t : TaskRow) (given : Publish) where
  abbrev Fits : Outcome → Type 0
  Fits out = out.changes ≡ true → ranges_fault b t given.ranges ≡ None

  still : (r : Reply) → Fits (repeated b r)
  still r e = cc

  append_fits : Fits (appended (Some t) b given)
  append_fits =
      published_or_is b Fits still (repeat_of (publication_of PubKinds.Append t (without_since given.spans) given) b.publications) t.status Replies.Append (append_running b given t)
      (unless_is b Fits still (or_else (append_fault b.posses b.pendings t.task given.ids) (ranges_fault b t given.ranges))
      (fitted (Tables.Segments ∷ Tables.Upgrades ∷ Tables.Publications ∷ Tables.Offsets ∷ []) b (after_append t given b) (Replies.Append (length b.publications)))
      (λ none changed. (or_else_none (append_fault b.posses b.pendings t.task given.ids) (ranges_fault b t given.ranges) none).1))

  checked_fits : (f : Filling) (xs : List Target) → Fits (over_checked f b given t xs)
  checked_fits Inserting xs =
      unless_is b Fits still (ranges_fault b t given.ranges)
      (fitted (Tables.Chunks ∷ Tables.Parts ∷ Tables.Segments ∷ Tables.Publications ∷ Tables.Offsets ∷ []) b (after_insert t given xs b) (Replies.Insert (length b.publications)))
      (λ none changed. none)
  checked_fits Replacing xs =
      unless_is b Fits still (ranges_fault b t given.ranges)
      (fitted (Tables.Chunks ∷ Tables.Parts ∷ Tables.Segments ∷ Tables.Pendings ∷ Tables.Publications ∷ Tables.Offsets ∷ []) b (after_replace t given xs b) (Replies.Replace (length b.publications)))
      (λ none changed. none)

  over_fits : (f : Filling) (r : Result (List Target) Refusal) → Fits (refused_or r b (over_checked f b given t))
  over_fits f (Err why) = still (Replies.Refused why)
  over_fits f (Ok xs) = checked_fits f xs

  step_fits : (f : Filling) → Fits (over_step f (Some t) b given)
  step_fits f =
      published_or_is b Fits still (repeat_of (publication_of (kind_of f) t (without_since given.spans) given) b.publications) t.status (commit_reply (kind_of f)) (over_running f b given t)
      (over_fits f (check_over f b given t))

-- a fact of the outcome of a task that is found
at_task : (Q : Option TaskRow → Type 0) (o : Option TaskRow) (t : TaskRow) → o ≡ Some t → Q (Some t) → Q o
at_task Q o t same q = rw same q

pub publish_fits : (b : Book) (c : Command) (p : TaskRanges) (t : TaskRow) → publish_of c ≡ Some p → task_of p.task b.tasks ≡ Some t → changes b c ≡ true → ranges_fault b t p.ranges ≡ None
publish_fits b (Commands.Append task ids ranges) p t is found =
    let q : TaskRanges = record { task = task; ranges = ranges } in
    let same : q ≡ p = some_is q p is in
    let there : task_of task b.tasks ≡ Some t = ap (λ (x : TaskRanges). task_of x.task b.tasks) same ∙ found in
    subst (λ (x : TaskRanges). changes b (Commands.Append task ids ranges) ≡ true → ranges_fault b t x.ranges ≡ None) same
    (at_task (λ o. (appended o b (appending ids ranges)).changes ≡ true → ranges_fault b t ranges ≡ None) (task_of task b.tasks) t there (append_fits b t (appending ids ranges)))
publish_fits b (Commands.Insert task spans ids tombstones ranges) p t is found =
    let q : TaskRanges = record { task = task; ranges = ranges } in
    let same : q ≡ p = some_is q p is in
    let there : task_of task b.tasks ≡ Some t = ap (λ (x : TaskRanges). task_of x.task b.tasks) same ∙ found in
    subst (λ (x : TaskRanges). changes b (Commands.Insert task spans ids tombstones ranges) ≡ true → ranges_fault b t x.ranges ≡ None) same
    (at_task (λ o. (over_step Inserting o b (in_spans spans ids tombstones ranges)).changes ≡ true → ranges_fault b t ranges ≡ None) (task_of task b.tasks) t there (step_fits b t (in_spans spans ids tombstones ranges) Inserting))
publish_fits b (Commands.Replace task spans ids tombstones ranges) p t is found =
    let q : TaskRanges = record { task = task; ranges = ranges } in
    let same : q ≡ p = some_is q p is in
    let there : task_of task b.tasks ≡ Some t = ap (λ (x : TaskRanges). task_of x.task b.tasks) same ∙ found in
    subst (λ (x : TaskRanges). changes b (Commands.Replace task spans ids tombstones ranges) ≡ true → ranges_fault b t x.ranges ≡ None) same
    (at_task (λ o. (over_step Replacing o b (in_spans spans ids tombstones ranges)).changes ≡ true → ranges_fault b t ranges ≡ None) (task_of task b.tasks) t there (step_fits b t (in_spans spans ids tombstones ranges) Replacing))
publish_fits b _ p t is found = absurd (no_publish p is) where
  no_publish : (p : TaskRanges) → None ≡ Some p → ⊥
  no_publish p e = cc
