-- What each status of a call says.
use Rattle.std.specs.Prelude.{◌≡◌, ℕ, ◌<◌, ◌≤◌, ◌⊎◌, Bool, IsTrue, List, [], length, Option, Some, None}
use Rattle.host_desk.specs.Desk.{Desk, Rose}
use Rattle.gate_log.specs.Format.{absent, opening_of}
use Rattle.machine_run.specs.Rules.{Rules}
use Rattle.machine_run.specs.Stores.{Content, content_of}
use Rattle.machine_run.specs.Fold.{start, HaveRoom}
use Rattle.machine_run.specs.LineItems.{LineItem, items_of}
use Rattle.machine_run.specs.Ends.{HasOpened, HasRun}
use Rattle.machine_run.specs.LineEnds.{LinesStop}
use Rattle.machine_run.specs.declared.stop.Stop.TheVariants as stop
use Rattle.overlord_run.specs.declared.status.Status.{Status}
use Rattle.overlord_run.specs.declared.status.Status.TheVariants.{Done, Usage, StoreFault, StoreCorrupt, InputFault, OutputFault, NoMemory, StoreFull, InputTooLong}

-- What is known of the outside at one moment: the host, the bytes that the source has left, and how often it has failed.
pub record Outside : Type 1 where
  pub host : Desk
  pub left : List ℕ
  pub faults : ℕ

abbrev pub outside : Desk → List ℕ → ℕ → Outside
outside host left faults = record { host = host; left = left; faults = faults }

-- What a call is given, and the outside before and after it.
pub record Call : Type 1 where
  -- whether the host, and whether the source tells its bytes
  pub host_tells : Bool
  pub source_tells : Bool
  -- the store that its words name; none where they are of no form
  pub store : Option (List ℕ)
  -- the limits in bytes
  pub log : ℕ
  pub input : ℕ
  pub before : Outside
  pub after : Outside

abbrev pub call : (host_tells source_tells : Bool) → Option (List ℕ) → (log input : ℕ) → (before after : Outside) → Call
call host_tells source_tells store log input before after = record {
  host_tells = host_tells;
  source_tells = source_tells;
  store = store;
  log = log;
  input = input;
  before = before;
  after = after;
}

-- both tell their bytes
abbrev pub told : Call → Type 0
told c = IsTrue c.host_tells × IsTrue c.source_tells

-- the lines of the input
abbrev pub lines_in : Call → List LineItem
lines_in c = items_of c.before.left

-- each line is a batch of its own
abbrev pub batch : ℕ
batch = 1

-- a stop of the run
abbrev pub Stops : {State : Type 0} → Rules State LineItem → Call → stop.the_data → Type 0
Stops m c s = LinesStop m batch c.log c.input c.host_tells c.source_tells c.before.host c.before.left c.before.faults c.after.host c.after.left c.after.faults s

-- A run to the end of its input: the files stood for a state; where both tell, all lines are answered; and the input was
-- read to its end, and was below its limit.
pub record HasEnded {State : Type 0} (m : Rules State LineItem) (c : Call) : Type 0 where
  pub opens : IsTrue c.host_tells → HasOpened m c.log c.before.host
  pub run : told c → HasRun m batch c.log (lines_in c) c.before.host c.after.host
  pub read : IsTrue c.source_tells → (c.after.left ≡ []) × (length c.before.left < c.input)

-- What a status says, by its cause.
abbrev pub Ends : {State : Type 0} → Rules State LineItem → Call → Status → Type 0
Ends m c Done = HasEnded m c
Ends m c Usage = Unit {0}
Ends m c StoreFault = Stops m c stop.StoreFault
Ends m c (StoreCorrupt file at) = Stops m c (stop.StoreCorrupt file at)
Ends m c InputFault = Stops m c stop.InputFault
Ends m c OutputFault = Stops m c stop.OutputFault
Ends m c NoMemory = Stops m c stop.NoMemory
Ends m c (StoreFull length_now) = Stops m c (stop.StoreFull length_now)
Ends m c InputTooLong = Stops m c stop.InputTooLong

-- no count of faults rose
pub record NoFault (c : Call) : Type 0 where
  pub store : Rose c.before.host.store_faults c.after.host.store_faults → ⊥
  pub say : Rose c.before.host.say_faults c.after.host.say_faults → ⊥
  pub source : Rose c.before.faults c.after.faults → ⊥

-- Every record on the way has room in a log of this limit, and so has a store that is to be made.
pub record HasRoom {State Item : Type 0} (m : Rules State Item) (state : State) (items : List Item) (limit : ℕ) (desk : Desk) : Type 0 where
  pub made : opening_of (desk.seen 0) ≡ absent → 27 ≤ limit
  pub records : (held : Content) → content_of (desk.seen 0) (desk.seen 1) ≡ Some held → HaveRoom m batch None limit (start held state) items

-- Where no call failed, every record has room and the input is below its limit, all lines are answered, or memory lacked.
abbrev pub Completes : {State : Type 0} → Rules State LineItem → State → Call → Status → Type 0
Completes m state c status = NoFault c → HasRoom m state (lines_in c) c.log c.before.host → length c.before.left < c.input → (status ≡ Done) ⊎ (status ≡ NoMemory)
