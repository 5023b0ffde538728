-- How a store is opened.
use Rattle.std.specs.Prelude.{◌≡◌, ℕ, ◌+◌, ◌<◌, ◌≤◌, Bool, true, IsTrue, List, Some}
use Rattle.host_desk.specs.Desk.{Desk, Rose}
use Rattle.host_desk.specs.Since.{Since}
use Rattle.gate_log.specs.Format.{absent, opening_of, says, is_log, records_at}
use Rattle.gate_log.specs.Log.{Mark, Describes, snapshot_in, ReadUpTo}
use Rattle.machine_run.specs.Rules.{Rules, weight}
use Rattle.machine_run.specs.Stores.{Content, Opened, is_state, is_bad, store_of, content_of, state_in, replayed, restored_by, opened_files}
use Rattle.machine_run.specs.OneLogs.{IsStore}
use Rattle.machine_run.specs.declared.stop.Stop.{Stop}
use Rattle.machine_run.specs.declared.stop.Stop.TheVariants.{StoreFault, StoreCorrupt, InputFault, OutputFault, NoMemory, StoreFull, InputTooLong}

-- no observation at all
abbrev pub Nothing : List ℕ → (ℕ → List ℕ) → Type 0
Nothing said files = ⊥

-- Nothing was said, and the store stands for this.
pub record Means {State Item : Type 0} (m : Rules State Item) (opened : Opened State) (before said : List ℕ) (files : ℕ → List ℕ) : Type 0 where
  pub said_is : said ≡ before
  pub store : store_of m (files 0) (files 1) ≡ opened

-- Nothing was changed: no stop at any moment since left anything that it couldn't leave before, each file reads as it
-- did, and nothing was said.
pub record IsUntouched (old new : Desk) : Type 0 where
  pub since : Since Nothing old new
  pub seen : new.seen ≡ old.seen
  pub said : new.said ≡ old.said

-- No sync, write or cut of the first pair's files has failed.
pub record IsPairTrusted (desk : Desk) : Type 0 where
  pub first : desk.trusted 0 ≡ true
  pub second : desk.trusted 1 ≡ true

-- what the files of a host stand for, as they read
abbrev pub StoreIs : {State Item : Type 0} → Rules State Item → Desk → Opened State
StoreIs m desk = store_of m (desk.seen 0) (desk.seen 1)

-- A store was opened for this state, and where it was made, it has room. It holds what it held, and but for a new log no
-- byte of a file was changed.
pub record IsOpened {State Item : Type 0} (m : Rules State Item) (old new : Desk) (state : State) (log : Mark) : Type 0 where
  pub content : Content
  pub store : IsStore log content new
  pub stands : state_in m content ≡ Some state
  pub held : content_of (old.seen 0) (old.seen 1) ≡ Some content
  pub stood : store_of m (old.seen 0) (old.seen 1) ≡ is_state state
  pub said : new.said ≡ old.said
  pub files : new.seen ≡ opened_files old.seen
  pub made : opening_of (old.seen 0) ≡ absent → 27 ≤ log.limit

-- A store isn't opened. A foreign store, one that has no room to be made, and one for which memory lacks is left as it
-- is to the byte.
abbrev pub OpenStop : {State Item : Type 0} → Rules State Item → Bool → ℕ → Desk → Desk → Stop → Type 0
OpenStop m tells limit old new StoreFault = Rose old.store_faults new.store_faults
OpenStop m tells limit old new (StoreCorrupt file at) = IsTrue tells → (StoreIs m old ≡ is_bad file at) × (new.seen ≡ old.seen)
OpenStop m tells limit old new InputFault = ⊥
OpenStop m tells limit old new OutputFault = ⊥
OpenStop m tells limit old new NoMemory = IsTrue tells → new.seen ≡ old.seen
OpenStop m tells limit old new (StoreFull length_now) = (length_now ≡ 0) × (limit < 27)
    × (IsTrue tells → (opening_of (old.seen 0) ≡ absent) × (StoreIs m old ≡ is_state m.first) × (new.seen ≡ old.seen))
OpenStop m tells limit old new InputTooLong = ⊥

-- a snapshot isn't loaded
abbrev pub LoadStop : Bool → Desk → Desk → Stop → Type 0
LoadStop tells old new StoreFault = Rose old.store_faults new.store_faults
LoadStop tells old new (StoreCorrupt file at) = ⊥
LoadStop tells old new InputFault = ⊥
LoadStop tells old new OutputFault = ⊥
LoadStop tells old new NoMemory = Unit {0}
LoadStop tells old new (StoreFull length_now) = ⊥
LoadStop tells old new InputTooLong = ⊥

-- All records of a log in these bytes were read: they are its bodies, and lead from the snapshot's state to this one.
pub record IsRestored {State Item : Type 0} (m : Rules State Item) (bytes : List ℕ) (first state : State) (log : Mark) : Type 0 where
  pub bodies : List (List ℕ)
  pub describes : Describes log bytes
  pub says_is : says bytes ≡ is_log log.generation (snapshot_in log bytes) bodies log.place
  pub place_is : log.place ≡ 26 + log.snapshot_length + weight bodies
  pub state_is : replayed m first bodies ≡ Some state

-- The records can't be read to the end: the first that isn't one, or isn't whole, is the fault.
abbrev pub RestoreStop : {State Item : Type 0} → Rules State Item → Bool → List ℕ → State → ℕ → Desk → Desk → Stop → Type 0
RestoreStop m tells bytes first start old new StoreFault = Rose old.store_faults new.store_faults
RestoreStop m tells bytes first start old new (StoreCorrupt file at) = IsTrue tells → restored_by m start first (records_at bytes start) ≡ is_bad file at
RestoreStop m tells bytes first start old new InputFault = ⊥
RestoreStop m tells bytes first start old new OutputFault = ⊥
RestoreStop m tells bytes first start old new NoMemory = Unit {0}
RestoreStop m tells bytes first start old new (StoreFull length_now) = ⊥
RestoreStop m tells bytes first start old new InputTooLong = ⊥

-- The records before the log's place are read, and lead to the state: what the whole store stands for is what this
-- state and the rest of the records make.
pub record IsRestoring {State Item : Type 0} (m : Rules State Item) (bytes : List ℕ) (first : State) (start : ℕ) (state : State) (log : Mark) : Type 0 where
  pub bodies : List (List ℕ)
  pub read : ReadUpTo bytes log bodies
  pub place_is : log.place ≡ start + weight bodies
  pub state_is : replayed m first bodies ≡ Some state
  pub rest : restored_by m start first (records_at bytes start) ≡ restored_by m log.place state (records_at bytes log.place)
