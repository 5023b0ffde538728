-- What is promised of a load, out of what is known of it.
use Rattle.std.proofs.Common.{◌≡◌, ◌∙◌, ◌⊎◌, Bool, Err, IfErr, IsTrue, List, Ok, OnOk, Result, ap, arith, inl, inr, refl, sym, take, ℕ, ⊎_elim}
use Rattle.std.proofs.lemmas.List.{append-nil}
use Rattle.std.specs.Result.{IsErrOf}
use Rattle.host_desk.specs.Desk.{Desk}
use Rattle.host_desk.proofs.Moments.{since_refl}
use Rattle.book_rows.specs.declared.commands.Command.{Command}
use Rattle.book_rows.specs.declared.rows.Book.{Book}
use Rattle.load_run.specs.Loads.{HasLoaded, LoadLeft, LoadLeftNow, LoadLeftSince}
use Rattle.machine_run.specs.Ends.{opened_as}
use Rattle.machine_run.specs.Opening.{IsUntouched, Nothing, StoreIs}
use Rattle.machine_run.specs.Rules.{state_after}
use Rattle.machine_run.specs.Runs.{Opens}
use Rattle.machine_run.specs.Stores.{is_bad, is_state}
use Rattle.machine_run.specs.declared.stop.Stop.{Stop}
use Rattle.machine_run.specs.declared.stop.Stop.TheVariants as stop
use Rattle.machine_run.proofs.Replying.{since_weaken}
use Rattle.overlord_rules.specs.CommandRules.{command_rules}
use Rattle.overlord_rules.specs.OverlordRules.{overlord_rules}
use Rattle.overlord_run.specs.CommandLoad.{command_load}
use Rattle.overlord_run.specs.LoadPromise.{IsLoadPrefix, LoadCall, LoadCompletes, LoadEnds, LoadOpensStore, LoadStops, PromiseOfLoad, load_call}
use Rattle.overlord_run.specs.Promise.{IsSoundStore}
use Rattle.overlord_run.specs.Statuses.{status_by}
use Rattle.overlord_run.specs.declared.status.Status.TheVariants.{NoMemory}
use Rattle.overlord_run.proofs.Endings.{never_full}
use Rattle.overlord_run.proofs.Promises.{sound_store}
use Rattle.overlord_run.proofs.SameStores.{same_stores}

-- files stand for the same book by the rules of commands
of_commands : (desk : Desk) (book : Book) → Opens overlord_rules desk book → Opens command_rules desk book
of_commands desk book opens = same_stores (desk.seen 0) (desk.seen 1) ∙ opens

module _ (c : LoadCall) where
  pub load_ends : (r : Result (Unit {0}) Stop) → (IsTrue c.tells → OnOk r (HasLoaded command_load c.log c.commands c.before c.after)) → IfErr r (LoadStops c) → LoadEnds c (status_by r)
  load_ends (Ok x) done stops = done
  load_ends (Err stop.StoreFault) done stops = stops
  load_ends (Err (stop.StoreCorrupt file at)) done stops = stops
  load_ends (Err stop.InputFault) done stops = stops.0
  load_ends (Err stop.OutputFault) done stops = stops
  load_ends (Err stop.NoMemory) done stops = stops
  load_ends (Err (stop.StoreFull n)) done stops = stops
  load_ends (Err stop.InputTooLong) done stops = stops.0

  load_completes : (r : Result (Unit {0}) Stop) → IfErr r (LoadStops c) → IsTrue c.tells → (book : Book) → Opens command_rules c.before book → LoadCompletes book c (status_by r)
  load_completes (Ok x) stops t book opens quiet room = inl refl
  load_completes (Err stop.StoreFault) rose t book opens quiet room = absurd (quiet.store rose)
  load_completes (Err (stop.StoreCorrupt file at)) bad t book opens quiet room = absurd (let both : is_state book ≡ is_bad file at = sym opens ∙ (bad t).0 in cc)
  load_completes (Err stop.InputFault) is t book opens quiet room = absurd is.0
  load_completes (Err stop.OutputFault) is t book opens quiet room = absurd (quiet.say is.0)
  load_completes (Err stop.NoMemory) is t book opens quiet room = inr refl
  load_completes (Err (stop.StoreFull n)) full t book opens quiet room = absurd (⊎_elim (λ new. (let least = room.made new.absent_is in omega (arith, least, new.above))) (λ log. never_full command_rules c.commands c.log c.before c.after book opens room n log) (full.1 t))
  load_completes (Err stop.InputTooLong) is t book opens quiet room = absurd is.0

  -- what a stop leaves is the same by the rules of lines
  load_prefix : (book : Book) (said : List ℕ) (files : ℕ → List ℕ) → LoadLeft command_load book c.commands c.before.said said files → IsLoadPrefix c book said files
  load_prefix book said files left = record {
    i = left.i;
    within = left.within;
    opens = sym (same_stores (files 0) (files 1)) ∙ left.opens;
    out = left.out;
    said_is = left.said_is;
    last = left.last;
  }

  sound_load : (book : Book) (said : List ℕ) (files : ℕ → List ℕ) → IsLoadPrefix c book said files → IsSoundStore said files
  sound_load book said files left = sound_store said files (state_after command_rules book (take left.i c.commands)) left.opens

  module _ (r : Result (Unit {0}) Stop) where
    load_opens : (c.after.opened ≡ opened_as c.store c.before.opened) ⊎ ((IsErrOf r stop.StoreFault) × (c.after.opened ≡ c.before.opened)) → LoadOpensStore c (status_by r)
    load_opens opened = ⊎_elim (λ under. inl under) (λ none. inr (none.1, inl (ap status_by none.0))) opened

    pub promise_load : (IsTrue c.tells → LoadLeftSince command_load c.commands c.before c.after)
        → (IsTrue c.tells → LoadLeftNow command_load c.commands c.before c.after)
        → (IsTrue c.tells → (file at : ℕ) → StoreIs command_rules c.before ≡ is_bad file at → IsUntouched c.before c.after)
        → (c.after.opened ≡ opened_as c.store c.before.opened) ⊎ ((IsErrOf r stop.StoreFault) × (c.after.opened ≡ c.before.opened))
        → (IsTrue c.tells → OnOk r (HasLoaded command_load c.log c.commands c.before c.after))
        → IfErr r (LoadStops c)
        → PromiseOfLoad c (status_by r)
    promise_load any_moment now foreign opened done stops =
        let since = λ (t : IsTrue c.tells) (book : Book) (opens : Opens overlord_rules c.before book). since_weaken (LoadLeft command_load book c.commands c.before.said) (IsLoadPrefix c book) c.before c.after (any_moment t book (of_commands c.before book opens)) (load_prefix book) in
        let at_end = λ (t : IsTrue c.tells) (book : Book) (opens : Opens overlord_rules c.before book). load_prefix book c.after.said c.after.seen (now t book (of_commands c.before book opens)) in
        record {
          any_moment = since;
          now = at_end;
          shown = λ t book opens. since_weaken (IsLoadPrefix c book) IsSoundStore c.before c.after (since t book opens) (sound_load book);
          shown_now = λ t book opens. sound_load book c.after.said c.after.seen (at_end t book opens);
          foreign = λ t file at bad. foreign t file at (same_stores (c.before.seen 0) (c.before.seen 1) ∙ bad);
          opened = load_opens opened;
          ends = load_ends r done stops;
          complete = λ t book opens. load_completes r stops t book (of_commands c.before book opens);
        }

-- nothing was called
module _ (tells : Bool) (commands : List Command) (store : List ℕ) (log : ℕ) (here : Desk) where
  abbrev still : LoadCall
  still = load_call tells commands store log here here

  pub load_memory : PromiseOfLoad still NoMemory
  load_memory = record {
    any_moment = λ t book opens. since_refl (IsLoadPrefix still book) here;
    now = λ t book opens. record { i = 0; within = omega arith; opens = opens; out = 0; said_is = sym (append-nil here.said); last = inr refl };
    shown = λ t book opens. since_refl IsSoundStore here;
    shown_now = λ t book opens. sound_store here.said here.seen book opens;
    foreign = λ t file at bad. record { since = since_refl Nothing here; seen = refl; said = refl };
    opened = inr (refl, inr refl);
    ends = (λ t. inl (refl, refl), λ t. inl (refl, refl));
    complete = λ t book opens quiet room. inr refl;
  }
