-- Each status says what the stop of the run says.
use Rattle.std.proofs.Common.{◌≡◌, ◌<◌, inl, inr, ⊎_elim, ℕ, IsTrue, List, [], length, Result, Ok, Err, OnOk, IfErr, None, ◌++◌, append_assoc, refl, sym, ◌∙◌, ap, subst, arith}
use Rattle.host_desk.specs.Desk.{Desk}
use Rattle.machine_run.specs.Rules.{Rules}
use Rattle.machine_run.specs.Fold.{start, HaveRoom}
use Rattle.machine_run.specs.LineItems.{LineItem}
use Rattle.machine_run.specs.Runs.{Opens}
use Rattle.machine_run.specs.Stores.{is_state, is_bad}
use Rattle.machine_run.proofs.Items.{room-split}
use Rattle.machine_run.specs.Ends.{HasOpened, HasRun, LogIsFull}
use Rattle.machine_run.specs.declared.stop.Stop.{Stop}
use Rattle.machine_run.specs.declared.stop.Stop.TheVariants.{StoreFault, StoreCorrupt, InputFault, OutputFault, NoMemory, StoreFull, InputTooLong}
use Rattle.overlord_run.specs.Ends.{Call, told, lines_in, batch, Stops, Ends, HasRoom, Completes}
use Rattle.overlord_run.specs.Statuses.{status_by}
use Rattle.overlord_run.specs.declared.status.Status.TheVariants.{Usage}

-- a run isn't a matter of its words
pub never_usage : (r : Result (Unit {0}) Stop) → status_by r ≡ Usage → ⊥
never_usage (Ok x) is = cc
never_usage (Err StoreFault) is = cc
never_usage (Err (StoreCorrupt file at)) is = cc
never_usage (Err InputFault) is = cc
never_usage (Err OutputFault) is = cc
never_usage (Err NoMemory) is = cc
never_usage (Err (StoreFull length_now)) is = cc
never_usage (Err InputTooLong) is = cc

module _ {State Item : Type 0} (m : Rules State Item) (items : List Item) (limit : ℕ) (before after : Desk) (state : State) (opens : Opens m before state) (room : HasRoom m state items limit before) where
  -- a log isn't full where each record has room
  pub never_full : (n : ℕ) → LogIsFull m batch limit items before after n → ⊥
  never_full n full =
      let held = full.opened.content in
      let both : is_state state ≡ is_state full.opened.state = sym opens ∙ full.opened.opens in
      let one : state ≡ full.opened.state = cc in
      let parts : items ≡ (full.stands.done ++ full.no_room.now) ++ full.no_room.later = full.stands.split ∙ ap (λ (l : List Item). full.stands.done ++ l) full.no_room.split ∙ sym (append_assoc full.stands.done full.no_room.now full.no_room.later) in
      let all : HaveRoom m batch None limit (start held full.opened.state) items = subst (λ (s : State). HaveRoom m batch None limit (start held s) items) one (room.records held full.opened.held) in
      let rooms : HaveRoom m batch None limit (start held full.opened.state) ((full.stands.done ++ full.no_room.now) ++ full.no_room.later) = subst (λ (l : List Item). HaveRoom m batch None limit (start held full.opened.state) l) parts all in
      full.no_room.none held full.opened.held (room-split m batch None limit (start held full.opened.state) (full.stands.done ++ full.no_room.now) full.no_room.later rooms).0

module _ {State : Type 0} (m : Rules State LineItem) (c : Call) where
  pub ends_of : (r : Result (Unit {0}) Stop) → (IsTrue c.host_tells → OnOk r (HasOpened m c.log c.before.host)) → (told c → OnOk r (HasRun m batch c.log (lines_in c) c.before.host c.after.host)) → (IsTrue c.source_tells → OnOk r ((c.after.left ≡ []) × (length c.before.left < c.input))) → IfErr r (Stops m c) → Ends m c (status_by r)
  ends_of (Ok x) opens done read stop = record { opens = opens; run = done; read = read }
  ends_of (Err StoreFault) opens done read stop = stop
  ends_of (Err (StoreCorrupt file at)) opens done read stop = stop
  ends_of (Err InputFault) opens done read stop = stop
  ends_of (Err OutputFault) opens done read stop = stop
  ends_of (Err NoMemory) opens done read stop = stop
  ends_of (Err (StoreFull length_now)) opens done read stop = stop
  ends_of (Err InputTooLong) opens done read stop = stop

  pub completes_of : (r : Result (Unit {0}) Stop) → IfErr r (Stops m c) → told c → (state : State) → Opens m c.before.host state → Completes m state c (status_by r)
  completes_of (Ok x) stop t state opens quiet room short = inl refl
  completes_of (Err StoreFault) rose t state opens quiet room short = absurd (quiet.store rose)
  completes_of (Err (StoreCorrupt file at)) bad t state opens quiet room short = absurd (let both : is_state state ≡ is_bad file at = sym opens ∙ (bad t.0).0 in cc)
  completes_of (Err InputFault) is t state opens quiet room short = absurd (quiet.source is.0)
  completes_of (Err OutputFault) is t state opens quiet room short = absurd (quiet.say is.0)
  completes_of (Err NoMemory) is t state opens quiet room short = inr refl
  completes_of (Err (StoreFull n)) full t state opens quiet room short = absurd (⊎_elim (λ new. (let least = room.made new.absent_is in omega (arith, least, new.above))) (λ log. never_full m (lines_in c) c.log c.before.host c.after.host state opens room n log) (full.1 t))
  completes_of (Err InputTooLong) is t state opens quiet room short = absurd (let long = is.0 t.1 in omega (arith, long, short))
