-- Outcomes whose replies have texts: what is refused, tested for room, and done for a running task.
use Rattle.std.proofs.Common.{◌≡◌, Bool, Err, List, None, Ok, Option, Result, Some, cond, false, find, refl, true, ℕ}
use Rattle.std.specs.Prelude.{option_map}
use Rattle.book_rows.specs.Fits.{refusal_fits, reply_fits}
use Rattle.book_rows.specs.Lists.{on_ok, or_else}
use Rattle.book_rows.specs.Outcome.{Outcome, changed, fitted, fitted_by, no_room, running, running_as, unless}
use Rattle.book_rows.specs.Over.{or_err}
use Rattle.book_rows.specs.PublishSteps.{published_or}
use Rattle.book_rows.specs.declared.kinds.Table.{Table}
use Rattle.book_rows.specs.declared.kinds.TaskStatus.{TaskStatus}
use Rattle.book_rows.specs.declared.kinds.TaskStatus.TheVariants as Statuses
use Rattle.book_rows.specs.declared.replies.Refusal.{Refusal}
use Rattle.book_rows.specs.declared.replies.Reply.{Reply}
use Rattle.book_rows.specs.declared.rows.Book.{Book}
use Rattle.book_rows.specs.declared.rows.TaskRow.{TaskRow}
use Rattle.std.specs.List.{list_all}
use Rattle.laws_texts.proofs.Lists.{either_passes, found_passes, passes_if_some}

-- ---- refusals that may be

-- the refusal, if there is one, has texts
abbrev pub fault_fits : Option Refusal → Bool
fault_fits why = passes_if_some refusal_fits why

-- so has the error
abbrev pub error_fits : {X : Type 0} → Result X Refusal → Bool
error_fits (Err why) = refusal_fits why
error_fits (Ok x) = true

pub mapped_fits : {X : Type 0} (refusal : X → Refusal) (p : X → Bool) (o : Option X) → ((x : X) → p x ≡ true → refusal_fits (refusal x) ≡ true) → passes_if_some p o ≡ true → fault_fits (option_map refusal o) ≡ true
mapped_fits refusal p None g h = refl
mapped_fits refusal p (Some x) g h = g x h

-- a refusal that names the first element that is found
pub found_fits : {X : Type 0} (refusal : X → Refusal) (p q : X → Bool) (xs : List X) → ((x : X) → p x ≡ true → refusal_fits (refusal x) ≡ true) → list_all p xs ≡ true → fault_fits (option_map refusal (find q xs)) ≡ true
found_fits refusal p q xs g h = mapped_fits refusal p (find q xs) g (found_passes p q xs h)

pub or_else_fits : (o rest : Option Refusal) → fault_fits o ≡ true → fault_fits rest ≡ true → fault_fits (or_else o rest) ≡ true
or_else_fits o rest h k = either_passes refusal_fits o rest h k

pub or_err_fits : {X : Type 0} (o : Option Refusal) (r : Result X Refusal) → fault_fits o ≡ true → error_fits r ≡ true → error_fits (or_err o r) ≡ true
or_err_fits (Some why) r h k = h
or_err_fits None r h k = k

pub on_ok_fits : {X Y : Type 0} (r : Result X Refusal) (f : X → Result Y Refusal) → error_fits r ≡ true → ((x : X) → error_fits (f x) ≡ true) → error_fits (on_ok r f) ≡ true
on_ok_fits (Err why) f h k = h
on_ok_fits (Ok x) f h k = k x

-- where it helps that the value is there
pub on_found_fits : {X Y : Type 0} (r : Result X Refusal) (f : X → Result Y Refusal) → error_fits r ≡ true → ((x : X) → r ≡ Ok x → error_fits (f x) ≡ true) → error_fits (on_ok r f) ≡ true
on_found_fits (Err why) f h k = h
on_found_fits (Ok x) f h k = k x refl

pub cond_fits : (x : Bool) (o p : Option Refusal) → fault_fits o ≡ true → fault_fits p ≡ true → fault_fits (cond x o p) ≡ true
cond_fits true o p h k = h
cond_fits false o p h k = k

-- ---- outcomes

pub unless_fits : (o : Option Refusal) (b : Book) (out : Outcome) → fault_fits o ≡ true → reply_fits out.reply ≡ true → reply_fits (unless o b out).reply ≡ true
unless_fits (Some why) b out h k = h
unless_fits None b out h k = k

fitted_by_fits : (o : Option Table) (b : Book) (out : Outcome) → reply_fits out.reply ≡ true → reply_fits (fitted_by o b out).reply ≡ true
fitted_by_fits (Some table) b out h = refl
fitted_by_fits None b out h = h

pub fitted_fits : (tables : List Table) (b after : Book) (reply : Reply) → reply_fits reply ≡ true → reply_fits (fitted tables b after reply).reply ≡ true
fitted_fits tables b after reply h = fitted_by_fits (no_room tables after) b (changed after reply) h

-- ---- what is done for a running task

-- where what holds of the book after helps
running_as_given : (P : Book → Type 0) (s : TaskStatus) (b : Book) (out : Outcome) → (P out.book → reply_fits out.reply ≡ true) → P (running_as s b out).book → reply_fits (running_as s b out).reply ≡ true
running_as_given P Statuses.Running b out f h = f h
running_as_given P Statuses.Waiting b out f h = refl
running_as_given P Statuses.Success b out f h = refl
running_as_given P Statuses.Failed b out f h = refl

pub running_given : (P : Book → Type 0) (o : Option TaskRow) (b : Book) (f : TaskRow → Outcome) → ((t : TaskRow) → P (f t).book → reply_fits (f t).reply ≡ true) → P (running o b f).book → reply_fits (running o b f).reply ≡ true
running_given P None b f g h = refl
running_given P (Some t) b f g h = running_as_given P t.status b (f t) (g t) h

abbrev IsAny : Book → Type 0
IsAny b = Unit {0}

running_as_fits : (s : TaskStatus) (b : Book) (out : Outcome) → reply_fits out.reply ≡ true → reply_fits (running_as s b out).reply ≡ true
running_as_fits s b out h = running_as_given IsAny s b out (λ u. h) tt

pub running_fits : (o : Option TaskRow) (b : Book) (f : TaskRow → Outcome) → ((t : TaskRow) → reply_fits (f t).reply ≡ true) → reply_fits (running o b f).reply ≡ true
running_fits o b f g = running_given IsAny o b f (λ t u. g t) tt

-- a publish: a repeat, not running, or as it is decided
pub published_fits : (k : Option ℕ) (b : Book) (s : TaskStatus) (reply : ℕ → Reply) (out : Outcome) → ((k : ℕ) → reply_fits (reply k) ≡ true) → reply_fits out.reply ≡ true → reply_fits (published_or k b s reply out).reply ≡ true
published_fits (Some k) b s reply out g h = g k
published_fits None b s reply out g h = running_as_fits s b out h
