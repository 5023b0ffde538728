-- What holds of every outcome of a command, by the cases in which the definitions give one.
use Rattle.std.proofs.Common.{◌≡◌, ℕ, Bool, true, false, cond, List, [], ◌∷◌, Some, None, Option, refl, inl, inr}
use Rattle.book_rows.specs.Lists.{In}
use Rattle.book_rows.specs.Outcome.{Outcome, changed, fitted, fitted_by, is_full, no_room, repeated, running, running_as, unless}
use Rattle.book_rows.specs.PublishSteps.{published_or}
use Rattle.book_rows.specs.declared.kinds.Table.{Table}
use Rattle.book_rows.specs.declared.kinds.TaskStatus.{TaskStatus}
use Rattle.book_rows.specs.declared.kinds.TaskStatus.TheVariants as Statuses
use Rattle.book_rows.specs.declared.replies.Refusal.{Refusal}
use Rattle.book_rows.specs.declared.replies.Refusal.TheVariants as Refusals
use Rattle.book_rows.specs.declared.replies.Reply.{Reply}
use Rattle.book_rows.specs.declared.replies.Reply.TheVariants as Replies
use Rattle.book_rows.specs.declared.rows.Book.{Book}
use Rattle.book_rows.specs.declared.rows.TaskRow.{TaskRow}

-- a fact of outcomes that holds where nothing changes, whatever the reply
module _ (b : Book) (Q : Outcome → Type 0) (still : (r : Reply) → Q (repeated b r)) where
  pub unless_is : (o : Option Refusal) (out : Outcome) → (o ≡ None → Q out) → Q (unless o b out)
  unless_is (Some why) out f = still (Replies.Refused why)
  unless_is None out f = f refl

  fitted_by_is : (o : Option Table) (out : Outcome) → (o ≡ None → Q out) → Q (fitted_by o b out)
  fitted_by_is (Some table) out f = still (Replies.Refused (Refusals.TableFull table))
  fitted_by_is None out f = f refl

  pub fitted_is : (tables : List Table) (after : Book) (reply : Reply) → (no_room tables after ≡ None → Q (changed after reply)) → Q (fitted tables b after reply)
  fitted_is tables after reply f = fitted_by_is (no_room tables after) (changed after reply) f

  pub running_as_is : (s : TaskStatus) (out : Outcome) → Q out → Q (running_as s b out)
  running_as_is Statuses.Running out q = q
  running_as_is Statuses.Waiting out q = still (Replies.Refused (Refusals.TaskNotRunning Statuses.Waiting))
  running_as_is Statuses.Success out q = still (Replies.Refused (Refusals.TaskNotRunning Statuses.Success))
  running_as_is Statuses.Failed out q = still (Replies.Refused (Refusals.TaskNotRunning Statuses.Failed))

  pub running_is : (t : Option TaskRow) (f : TaskRow → Outcome) → ((row : TaskRow) → t ≡ Some row → Q (f row)) → Q (running t b f)
  running_is None f q = still (Replies.Refused Refusals.TaskUnknown)
  running_is (Some t) f q = running_as_is t.status (f t) (q t refl)

  pub published_or_is : (k : Option ℕ) (status : TaskStatus) (reply : ℕ → Reply) (out : Outcome) → Q out → Q (published_or k b status reply out)
  published_or_is (Some k) status reply out q = still (reply k)
  published_or_is None status reply out q = running_as_is status out q

  pub either_is : (yes : Bool) (out other : Outcome) → Q out → Q other → Q (cond yes out other)
  either_is true out other q r = q
  either_is false out other q r = r

some_table : (t : Table) → Some t ≡ None → ⊥
some_table t e = cc

-- where no table is too full, none of them is
pub has_room : (t : Table) (tables : List Table) (b : Book) → no_room tables b ≡ None → In t tables → is_full t b ≡ false
has_room t [] b e i = absurd i
has_room t (u ∷ us) b e i = by (is_full u b) refl e i (has_room t us b) where
  by : (full : Bool) → is_full u b ≡ full → cond full (Some u) (no_room us b) ≡ None → In t (u ∷ us) → (no_room us b ≡ None → In t us → is_full t b ≡ false) → is_full t b ≡ false
  by true is none i rest = absurd (some_table u none)
  by false is none (inl same) rest = rw same is
  by false is none (inr i) rest = rest none i
