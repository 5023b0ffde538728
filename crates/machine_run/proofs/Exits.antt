-- What stops a step stops the run.
use Rattle.std.proofs.Common.{◌≡◌, inr, ℕ, List, Result, Ok, Err, IfErr, OnOk, refl}
use Rattle.std.specs.Result.{IsErrAnd}
use Rattle.host_desk.specs.Desk.{Desk, KeepsCounts}
use Rattle.host_desk.proofs.Moments.{rose_before}
use Rattle.machine_run.specs.Fold.{EndedBy}
use Rattle.machine_run.specs.Steps.{BatchStop, FeedStop}
use Rattle.machine_run.specs.Runs.{Plan, Stands, BreaksOff, HasNoRoomFor, LacksMemory, ItemsStop}
use Rattle.machine_run.specs.declared.stop.Stop.{Stop}
use Rattle.machine_run.specs.declared.stop.Stop.TheVariants.{StoreFault, StoreCorrupt, InputFault, OutputFault, NoMemory, StoreFull, InputTooLong}

-- the error that a `?` hands on
pub err_and : {T E : Type 0} (P : E → Type 0) {Q : E → Type 0} (r : Result T E) → IsErrAnd r Q → ((e : E) → Q e → P e) → IfErr r P
err_and P (Ok x) never f = tt
err_and P (Err e) is f = f e is

module _ {State Item : Type 0} (p : Plan State Item) (told : Type 0) (fails : Stop → Type 0) (broken : List Item → Type 0) where
  -- a batch isn't carried out
  pub batch_stop : (old mid new : Desk) (room : ℕ → Type 0) (cut : Type 0) → KeepsCounts old mid → (stop : Stop) → (stop ≡ NoMemory → told → LacksMemory p (fails NoMemory) new) → ((n : ℕ) → stop ≡ StoreFull n → room n → told → (stands : Stands p new) × HasNoRoomFor p stands.done stands.rest stands.holds.content n) → (cut → told → BreaksOff p new) → BatchStop room cut mid new stop → ItemsStop p told fails broken old new stop
  batch_stop old mid new room cut counts StoreFault stands full breaks rose = rose_before old.store_faults mid.store_faults new.store_faults counts.store rose
  batch_stop old mid new room cut counts (StoreCorrupt file at) stands full breaks never = absurd never
  batch_stop old mid new room cut counts InputFault stands full breaks never = absurd never
  batch_stop old mid new room cut counts OutputFault stands full breaks is = (rose_before old.say_faults mid.say_faults new.say_faults counts.say is.0, breaks is.1)
  batch_stop old mid new room cut counts NoMemory stands full breaks free = stands refl
  batch_stop old mid new room cut counts (StoreFull n) stands full breaks is = full n refl is
  batch_stop old mid new room cut counts InputTooLong stands full breaks never = absurd never

  -- no item came, behind the batch that was open
  pub feed_stop : (old new : Desk) (stop : Stop) → FeedStop fails stop → (told → (stands : Stands p new) × EndedBy stop (broken stands.done)) → ItemsStop p told fails broken old new stop
  feed_stop old new StoreFault never stands = absurd never
  feed_stop old new (StoreCorrupt file at) never stands = absurd never
  feed_stop old new InputFault is stands = (is, stands)
  feed_stop old new OutputFault never stands = absurd never
  feed_stop old new NoMemory is stands = λ t. record { stands = (stands t).0; cause = inr is }
  feed_stop old new (StoreFull n) never stands = absurd never
  feed_stop old new InputTooLong is stands = (is, stands)

-- a cause of the last call is one of all
pub fails_more : (fails more : Stop → Type 0) → ((stop : Stop) → fails stop → more stop) → (stop : Stop) → FeedStop fails stop → FeedStop more stop
fails_more fails more f StoreFault is = is
fails_more fails more f (StoreCorrupt file at) is = is
fails_more fails more f InputFault is = f InputFault is
fails_more fails more f OutputFault is = is
fails_more fails more f NoMemory is = f NoMemory is
fails_more fails more f (StoreFull n) is = is
fails_more fails more f InputTooLong is = f InputTooLong is

-- what holds at any answer
pub on_ok : {T E : Type 0} (P : Type 0) (r : Result T E) → P → OnOk r P
on_ok P (Ok x) is = is
on_ok P (Err e) is = tt

-- what holds of an answer, and what follows
pub ok_map : {T E : Type 0} (P Q : Type 0) (r : Result T E) → (P → Q) → OnOk r P → OnOk r Q
ok_map P Q (Ok x) f is = f is
ok_map P Q (Err e) f is = tt
