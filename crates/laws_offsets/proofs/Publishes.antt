-- A publish that changes the book has ranges that go on from the stored offsets.
use Rattle.std.proofs.Common.{◌≡◌, ℕ, true, cond, List, [], ◌∷◌, Some, None, Option, Result, Ok, Err, length, map, refl, subst, inl, inr}
use Rattle.std.proofs.lemmas.Bool.{cases_Bool}
use Rattle.book_rows.specs.Answer.{changes, step}
use Rattle.book_rows.specs.Append.{after_append, append_fault}
use Rattle.book_rows.specs.Lists.{or_else}
use Rattle.book_rows.specs.Offsets.{compared, stored}
use Rattle.book_rows.specs.Outcome.{Outcome, changed, fitted, refused_or, repeated, task_of}
use Rattle.book_rows.specs.Over.{Filling, Inserting, Replacing, Target, check_over, kind_of}
use Rattle.book_rows.specs.Publications.{Publish, appending, in_spans, publication_of, ranges_fault, repeat_of, without_since}
use Rattle.book_rows.specs.PublishSteps.{append_running, appended, commit_reply, over_checked, over_running, over_step}
use Rattle.book_rows.specs.Rewrite.{after_insert, after_replace}
use Rattle.book_rows.specs.Sequences.{passes}
use Rattle.book_rows.specs.declared.commands.Command.{Command}
use Rattle.book_rows.specs.declared.commands.Command.TheVariants as Commands
use Rattle.book_rows.specs.declared.kinds.PubKind.TheVariants as PubKinds
use Rattle.book_rows.specs.declared.kinds.Table.TheVariants as Tables
use Rattle.book_rows.specs.declared.replies.Refusal.{Refusal}
use Rattle.book_rows.specs.declared.replies.Refusal.TheVariants as Refusals
use Rattle.book_rows.specs.declared.replies.Reply.{Reply}
use Rattle.book_rows.specs.declared.replies.Reply.TheVariants as Replies
use Rattle.book_rows.specs.declared.rows.Book.{Book}
use Rattle.book_rows.specs.declared.rows.Ranges.{Ranges}
use Rattle.book_rows.specs.declared.rows.TaskRow.{TaskRow}
use Rattle.book_rows.proofs.StepLaws.{stays_where_unchanged}
use Rattle.laws_locks.proofs.Lists.{In-all}
use Rattle.laws_offsets.specs.Comparing.{GoesOn}
use Rattle.laws_offsets.specs.Effects.{IsPublished, TaskRanges, PublishGoesOn, RangesStartAtStored, RefusedLeavesBook, publish_of}
use Rattle.laws_offsets.proofs.Faults.{no_fault_where_all_go_on}
use Rattle.laws_offsets.proofs.Lists.{or_else_none, some_is}
use Rattle.laws_offsets.proofs.Outcomes.{fitted_is, has_room, published_or_is, unless_is}

-- where the outcome changes the book, the publish went on from what was stored
abbrev Goes : Book → TaskRanges → Outcome → Type 0
Goes b p o = o.changes ≡ true → IsPublished b o.book p

still : (b : Book) (p : TaskRanges) (r : Reply) → Goes b p (repeated b r)
still b p r e = cc

module _ (b : Book) (task : List ℕ) (given : Publish) (t : TaskRow) (found : task_of task b.tasks ≡ Some t) where
  abbrev here : TaskRanges
  here = record { task = task; ranges = given.ranges }

  -- the ranges of a publish that nothing speaks against
  compared_none : ranges_fault b t given.ranges ≡ None → compared b.offsets t.source given.ranges ≡ None
  compared_none e = (or_else_none (cond (passes b.supervisors b.sequences t.source t.group given.ranges) None (Some (Refusals.RangeNotAssigned t.source))) (compared b.offsets t.source given.ranges) e).1

  append_goes : Goes b here (append_running b given t)
  append_goes =
      let tables = Tables.Segments ∷ Tables.Upgrades ∷ Tables.Publications ∷ Tables.Offsets ∷ [] in
      let after : Book = after_append t given b in
      let reply : Reply = Replies.Append (length b.publications) in
      unless_is b (Goes b here) (still b here) (or_else (append_fault b.posses b.pendings t.task given.ids) (ranges_fault b t given.ranges)) (fitted tables b after reply)
      (λ none. fitted_is b (Goes b here) (still b here) tables after reply
      (λ room e. record {
        task = t;
        found = found;
        goes_on = compared_none (or_else_none (append_fault b.posses b.pendings t.task given.ids) (ranges_fault b t given.ranges) none).1;
        offsets = refl;
        room = has_room Tables.Offsets tables after room (inr (inr (inr (inl refl))));
        publication = publication_of PubKinds.Append t [] given;
        publications = refl;
        no_reset = refl;
        source_is = refl;
        ranges_are = refl;
        tasks = refl;
        supervisors = refl;
      }))

  checked_goes : (f : Filling) (xs : List Target) → Goes b here (over_checked f b given t xs)
  checked_goes Inserting xs =
      let tables = Tables.Chunks ∷ Tables.Parts ∷ Tables.Segments ∷ Tables.Publications ∷ Tables.Offsets ∷ [] in
      let after : Book = after_insert t given xs b in
      let reply : Reply = Replies.Insert (length b.publications) in
      unless_is b (Goes b here) (still b here) (ranges_fault b t given.ranges) (fitted tables b after reply)
      (λ none. fitted_is b (Goes b here) (still b here) tables after reply
      (λ room e. record {
        task = t;
        found = found;
        goes_on = compared_none none;
        offsets = refl;
        room = has_room Tables.Offsets tables after room (inr (inr (inr (inr (inl refl)))));
        publication = publication_of PubKinds.Over t (map (λ (x : Target). record { span = x.span; since = 0 }) xs) given;
        publications = refl;
        no_reset = refl;
        source_is = refl;
        ranges_are = refl;
        tasks = refl;
        supervisors = refl;
      }))
  checked_goes Replacing xs =
      let tables = Tables.Chunks ∷ Tables.Parts ∷ Tables.Segments ∷ Tables.Pendings ∷ Tables.Publications ∷ Tables.Offsets ∷ [] in
      let after : Book = after_replace t given xs b in
      let reply : Reply = Replies.Replace (length b.publications) in
      unless_is b (Goes b here) (still b here) (ranges_fault b t given.ranges) (fitted tables b after reply)
      (λ none. fitted_is b (Goes b here) (still b here) tables after reply
      (λ room e. record {
        task = t;
        found = found;
        goes_on = compared_none none;
        offsets = refl;
        room = has_room Tables.Offsets tables after room (inr (inr (inr (inr (inr (inl refl))))));
        publication = publication_of PubKinds.Replace t (map (λ (x : Target). record { span = x.span; since = x.since }) xs) given;
        publications = refl;
        no_reset = refl;
        source_is = refl;
        ranges_are = refl;
        tasks = refl;
        supervisors = refl;
      }))

  over_goes : (f : Filling) (r : Result (List Target) Refusal) → Goes b here (refused_or r b (over_checked f b given t))
  over_goes f (Err why) = still b here (Replies.Refused why)
  over_goes f (Ok xs) = checked_goes f xs

module _ (b : Book) (task : List ℕ) (given : Publish) where
  -- the task, and what is given as its ranges
  abbrev named : TaskRanges
  named = record { task = task; ranges = given.ranges }

  appended_goes : (o : Option TaskRow) → task_of task b.tasks ≡ o → Goes b named (appended o b given)
  appended_goes None found = still b named (Replies.Refused Refusals.TaskUnknown)
  appended_goes (Some t) found =
      published_or_is b (Goes b named) (still b named) (repeat_of (publication_of PubKinds.Append t (without_since given.spans) given) b.publications) t.status Replies.Append (append_running b given t)
      (append_goes b task given t found)

  step_goes : (f : Filling) (o : Option TaskRow) → task_of task b.tasks ≡ o → Goes b named (over_step f o b given)
  step_goes f None found = still b named (Replies.Refused Refusals.TaskUnknown)
  step_goes f (Some t) found =
      published_or_is b (Goes b named) (still b named) (repeat_of (publication_of (kind_of f) t (without_since given.spans) given) b.publications) t.status (commit_reply (kind_of f)) (over_running f b given t)
      (over_goes b task given t found f (check_over f b given t))

-- ---- any publish

command_goes : (b : Book) (c : Command) (p : TaskRanges) → publish_of c ≡ Some p → Goes b p (step b c)
command_goes b (Commands.Append task ids ranges) p e =
    subst (λ (p : TaskRanges). Goes b p (step b (Commands.Append task ids ranges))) (some_is _ p e) (appended_goes b task (appending ids ranges) (task_of task b.tasks) refl)
command_goes b (Commands.Insert task spans ids tombstones ranges) p e =
    subst (λ (p : TaskRanges). Goes b p (step b (Commands.Insert task spans ids tombstones ranges))) (some_is _ p e) (step_goes b task (in_spans spans ids tombstones ranges) Inserting (task_of task b.tasks) refl)
command_goes b (Commands.Replace task spans ids tombstones ranges) p e =
    subst (λ (p : TaskRanges). Goes b p (step b (Commands.Replace task spans ids tombstones ranges))) (some_is _ p e) (step_goes b task (in_spans spans ids tombstones ranges) Replacing (task_of task b.tasks) refl)
command_goes b (Commands.Submit task group source kind priority locks) p e = cc
command_goes b (Commands.Manage now) p e = cc
command_goes b (Commands.Lock task lock_kind span now) p e = cc
command_goes b (Commands.Unlock task lock) p e = cc
command_goes b (Commands.Allocate task lock_kind sequence previous at granularity now) p e = cc
command_goes b (Commands.End task status) p e = cc
command_goes b (Commands.Drop source span) p e = cc
command_goes b (Commands.Reset source stream offsets) p e = cc
command_goes b (Commands.Supervise source stream partitions task_count replicas task_duration completion_timeout) p e = cc
command_goes b (Commands.Tick now) p e = cc
command_goes b (Commands.Paused task offsets) p e = cc
command_goes b (Commands.Checkpoint task offsets) p e = cc
command_goes b (Commands.ToReplace task span) p e = cc
command_goes b (Commands.Show what) p e = cc

pub publish_goes_on : PublishGoesOn
publish_goes_on b c p of changed = command_goes b c p of changed

-- ---- where the ranges start

-- the task is the one that was found
pub one_task : (t u : TaskRow) (o : Option TaskRow) → o ≡ Some t → o ≡ Some u → t ≡ u
one_task t u o e f = cc

-- the ranges go on where the task is named
pub goes_on_of : (b : Book) (c : Command) (p : TaskRanges) (t : TaskRow) → publish_of c ≡ Some p → task_of p.task b.tasks ≡ Some t → changes b c ≡ true → compared b.offsets t.source p.ranges ≡ None
goes_on_of b c p t of found changed =
    let w = publish_goes_on b c p of changed in
    subst (λ (u : TaskRow). compared b.offsets u.source p.ranges ≡ None) (one_task w.task t (task_of p.task b.tasks) w.found found) w.goes_on

pub ranges_start_at_stored : RangesStartAtStored
ranges_start_at_stored b c p ranges t r of has found changed i =
    let none : compared b.offsets t.source (Some ranges) ≡ None = subst (λ (o : Option Ranges). compared b.offsets t.source o ≡ None) has (goes_on_of b c p t of found changed) in
    In-all (λ r. GoesOn (stored b.offsets t.source ranges.stream r.partition) r) r ranges.parts i ((no_fault_where_all_go_on b.offsets t.source ranges.stream ranges.parts).0 none)

-- ---- where they don't go on

not_both : (o : Option Refusal) (why : Refusal) → o ≡ Some why → o ≡ None → ⊥
not_both o why e f = cc

pub refused_leaves_book : RefusedLeavesBook
refused_leaves_book b c p t why of found fault = elim (cases_Bool (changes b c)) [
  | inl on ↦ absurd (not_both (compared b.offsets t.source p.ranges) why fault (goes_on_of b c p t of found on))
  | inr off ↦ (off, stays_where_unchanged b c off)
]
