-- How a run ends.
use Rattle.std.specs.Prelude.{◌≡◌, ℕ, ◌<◌, ◌≤◌, ◌⊎◌, ◌==◌, Bool, IsTrue, List, Option, Some, None, if◌then◌else◌}
use Rattle.host_desk.specs.Desk.{Desk, Rose}
use Rattle.gate_log.specs.Format.{absent, opening_of}
use Rattle.machine_run.specs.Rules.{Rules}
use Rattle.machine_run.specs.Stores.{Content, is_bad, content_of, state_in, opened_files, AreKept}
use Rattle.machine_run.specs.Opening.{StoreIs}
use Rattle.machine_run.specs.Runs.{Opens, Plan, Stands, IsDone, BreaksOff, HasNoRoomFor, LacksMemory}
use Rattle.machine_run.specs.declared.stop.Stop.{Stop}
use Rattle.machine_run.specs.declared.stop.Stop.TheVariants.{StoreFault, StoreCorrupt, InputFault, OutputFault, NoMemory, StoreFull, InputTooLong}

-- The names of the opened pairs where pair 0 is opened under this one, too.
abbrev pub opened_as : List ℕ → (ℕ → Option (List ℕ)) → ℕ → Option (List ℕ)
opened_as name before pair = if pair == 0 then Some name else before pair

-- the files read as they did, and nothing was said
abbrev pub IsUnchanged : Desk → Desk → Type 0
IsUnchanged old new = (new.seen ≡ old.seen) × (new.said ≡ old.said)

-- The plan of a run that opens a store which stands for this state: the files are those of the opened store, and no
-- store turns yet.
abbrev pub run_plan : {State Item : Type 0} → Rules State Item → (batch limit : ℕ) → State → List Item → Desk → Plan State Item
run_plan m batch limit state items old = record {
  rules = m;
  kept = AreKept;
  batch = batch;
  turn = None;
  limit = limit;
  first = state;
  items = items;
  held = content_of (old.seen 0) (old.seen 1);
  before = old.said;
  files = opened_files old.seen;
}

-- The files of a host stood for a state and held what it is made of, and where it was that of a store to be made, this
-- has room.
pub record HasOpened {State Item : Type 0} (m : Rules State Item) (limit : ℕ) (desk : Desk) : Type 0 where
  pub state : State
  pub opens : Opens m desk state
  pub good : m.good state
  pub content : Content
  pub held : content_of (desk.seen 0) (desk.seen 1) ≡ Some content
  pub stands : state_in m content ≡ Some state
  pub made : opening_of (desk.seen 0) ≡ absent → 27 ≤ limit

-- All items are answered, from the state that the store stood for, and the files are those of the opened store with the
-- records, to the byte.
pub record HasRun {State Item : Type 0} (m : Rules State Item) (batch limit : ℕ) (items : List Item) (old new : Desk) : Type 0 where
  pub opened : HasOpened m limit old
  pub done : IsDone (run_plan m batch limit opened.state items old) new

-- Memory lacked behind the first items, from the state that the store stood for.
abbrev pub HasLackedMemory : {State Item : Type 0} → Rules State Item → (batch limit : ℕ) → List Item → (own : Type 0) → Desk → Desk → Type 0
HasLackedMemory {State} m batch limit items own old new = (state : State) → Opens m old state → LacksMemory (run_plan m batch limit state items old) own new

-- The first items are answered, from the state that the store stood for, and these were just the items that were read. Each
-- record had room, and the files are those of the opened store with these records, to the byte.
abbrev pub HasStoodAt : {State Item : Type 0} → Rules State Item → (batch limit : ℕ) → List Item → (broken : List Item → Type 0) → Desk → Desk → Type 0
HasStoodAt {State} m batch limit items broken old new = (state : State) → Opens m old state → (stands : Stands (run_plan m batch limit state items old) new) × broken stands.done

-- The replies to a batch broke off. The items up to it are in the store, from the state that it stood for, and the files
-- are those of the opened store with their records, to the byte.
abbrev pub HasBrokenOff : {State Item : Type 0} → Rules State Item → (batch limit : ℕ) → List Item → Desk → Desk → Type 0
HasBrokenOff {State} m batch limit items old new = (state : State) → Opens m old state → BreaksOff (run_plan m batch limit state items old) new

-- A new store has no room: nothing was written or said.
pub record NewIsFull {State Item : Type 0} (m : Rules State Item) (limit : ℕ) (old new : Desk) (length_now : ℕ) : Type 0 where
  pub length_is : length_now ≡ 0
  pub above : limit < 27
  pub absent_is : opening_of (old.seen 0) ≡ absent
  pub opens : Opens m old m.first
  pub seen : new.seen ≡ old.seen
  pub said : new.said ≡ old.said

-- The first items are answered, and the log has no room for the record of the next batch.
pub record LogIsFull {State Item : Type 0} (m : Rules State Item) (batch limit : ℕ) (items : List Item) (old new : Desk) (length_now : ℕ) : Type 0 where
  pub opened : HasOpened m limit old
  pub stands : Stands (run_plan m batch limit opened.state items old) new
  pub no_room : HasNoRoomFor (run_plan m batch limit opened.state items old) stands.done stands.rest stands.holds.content length_now

-- the files of a host stood for some state
abbrev pub StoreIsSome : {State Item : Type 0} → Rules State Item → Desk → Type 0
StoreIsSome {State} m desk = (state : State) × Opens m desk state

-- A run ended with a stop: its cause, and what stands then. A fault of the store is that its count of faults rose; that
-- files which are no store are never touched is a clause of its own. Memory may lack before the store is open: then the
-- files read as they did and nothing was said. At a fault of the input or the output, with a full log, and with an input
-- that is too long the files stood for a state. What is said of items speaks of hosts and feeds that both tell.
abbrev pub RunStop : {State Item : Type 0} → Rules State Item → (batch limit : ℕ) → List Item → (tells : Bool)
    → (told : Type 0) (fails : Stop → Type 0) (broken : List Item → Type 0) → Desk → Desk → Stop → Type 0
RunStop m batch limit items tells told fails broken old new StoreFault = Rose old.store_faults new.store_faults
RunStop m batch limit items tells told fails broken old new (StoreCorrupt file at) = IsTrue tells → (StoreIs m old ≡ is_bad file at) × IsUnchanged old new
RunStop m batch limit items tells told fails broken old new InputFault = fails InputFault × (IsTrue tells → HasOpened m limit old)
    × (told → HasStoodAt m batch limit items broken old new)
RunStop m batch limit items tells told fails broken old new OutputFault = Rose old.say_faults new.say_faults × (IsTrue tells → HasOpened m limit old)
    × (told → HasBrokenOff m batch limit items old new)
RunStop m batch limit items tells told fails broken old new NoMemory = (IsTrue tells → IsUnchanged old new ⊎ HasOpened m limit old)
    × (told → IsUnchanged old new ⊎ HasLackedMemory m batch limit items (fails NoMemory) old new)
RunStop m batch limit items tells told fails broken old new (StoreFull n) = (IsTrue tells → StoreIsSome m old)
    × (told → NewIsFull m limit old new n ⊎ LogIsFull m batch limit items old new n)
RunStop m batch limit items tells told fails broken old new InputTooLong = fails InputTooLong × (IsTrue tells → HasOpened m limit old)
    × (told → HasStoodAt m batch limit items broken old new)
