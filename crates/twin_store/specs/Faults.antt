-- Why a call on a store answers an error: each of its errors, with the cause.
use Rattle.std.specs.Prelude.{◌≡◌, ◌⊎◌, ℕ, ◌+◌, ◌<◌, ◌≤◌, Bool, IsTrue, IsFalse, List}
use Rattle.host_desk.specs.Desk.{Desk, Rose}
use Rattle.gate_log.specs.Format.{corrupt, opening_of}
use Rattle.gate_log.specs.Log.{Mark}
use Rattle.twin_store.specs.Pairs.{wrong, neither, first_file, choice_in}
use Rattle.twin_store.specs.Stores.{IsWrongHere}
use Rattle.twin_store.specs.declared.fault.StoreFault.{StoreFault}
use Rattle.twin_store.specs.declared.fault.StoreFault.TheVariants.{Failed, Corrupt, Full, OutOfMemory}

-- a log isn't looked for to the end: the host failed, or the header of these bytes is wrong
abbrev pub FindFault : Bool → ℕ → List ℕ → Desk → Desk → StoreFault → Type 0
FindFault tells number bytes old new Failed = Rose old.store_faults new.store_faults
FindFault tells number bytes old new (Corrupt file at) = (file ≡ number) × (IsTrue tells → opening_of bytes ≡ corrupt at)
FindFault tells number bytes old new (Full length) = ⊥
FindFault tells number bytes old new OutOfMemory = ⊥

-- By the headers of the pair this file is wrong at this place.
pub record IsWrongIn (pair : ℕ) (files : ℕ → List ℕ) (file at : ℕ) : Type 0 where
  pub side : ℕ
  pub file_is : file ≡ first_file pair + side
  pub choice_is : choice_in pair files ≡ wrong side at

-- no log is chosen in a pair: the host failed, or a header is wrong
abbrev pub ChooseFault : Bool → ℕ → Desk → Desk → StoreFault → Type 0
ChooseFault tells pair old new Failed = Rose old.store_faults new.store_faults
ChooseFault tells pair old new (Corrupt file at) = IsTrue tells → IsWrongIn pair old.seen file at
ChooseFault tells pair old new (Full length) = ⊥
ChooseFault tells pair old new OutOfMemory = ⊥

-- A new store isn't made: the host failed, the new file is above the limit, or it isn't and no memory was left. In the last
-- two cases the files are as they were.
abbrev pub NewFault : Bool → ℕ → Desk → Desk → StoreFault → Type 0
NewFault tells limit old new Failed = Rose old.store_faults new.store_faults
NewFault tells limit old new (Corrupt file at) = ⊥
NewFault tells limit old new (Full length) = (length ≡ 0) × (limit < 27) × (IsTrue tells → new.seen ≡ old.seen)
NewFault tells limit old new OutOfMemory = (27 ≤ limit) × (IsTrue tells → new.seen ≡ old.seen)

-- A store isn't opened: as above, and the last two cases only where neither file has a log.
abbrev pub OpenFault : Bool → ℕ → ℕ → Desk → Desk → StoreFault → Type 0
OpenFault tells pair limit old new Failed = Rose old.store_faults new.store_faults
OpenFault tells pair limit old new (Corrupt file at) = IsTrue tells → IsWrongIn pair old.seen file at × (new.seen ≡ old.seen)
OpenFault tells pair limit old new (Full length) = (length ≡ 0) × (limit < 27) × (IsTrue tells → (choice_in pair old.seen ≡ neither) × (new.seen ≡ old.seen))
OpenFault tells pair limit old new OutOfMemory = (27 ≤ limit) × (IsTrue tells → (choice_in pair old.seen ≡ neither) × (new.seen ≡ old.seen))

-- a snapshot isn't read: the host failed, or, of a kind that tells nothing, gave fewer bytes than it had told
abbrev pub SnapshotFault : Bool → Mark → Desk → Desk → StoreFault → Type 0
SnapshotFault tells log old new Failed = Rose old.store_faults new.store_faults
SnapshotFault tells log old new (Corrupt file at) = IsFalse tells × (file ≡ log.file) × (at ≡ 18)
SnapshotFault tells log old new (Full length) = ⊥
SnapshotFault tells log old new OutOfMemory = Unit {0}

-- the next body isn't read: the host failed, or the record at the place isn't whole; of a host that tells nothing, the
-- first gate may be missing too, which is told at 18
abbrev pub NextFault : Bool → Mark → Desk → Desk → StoreFault → Type 0
NextFault tells log old new Failed = Rose old.store_faults new.store_faults
NextFault tells log old new (Corrupt file at) = (file ≡ log.file) × (IsTrue tells → (at ≡ log.place) × IsWrongHere log old.seen) × ((at ≡ log.place) ⊎ (at ≡ 18))
NextFault tells log old new (Full length) = ⊥
NextFault tells log old new OutOfMemory = Unit {0}

-- a record with a body of this length isn't added: the host failed, or the log would be above its limit
abbrev pub AppendFault : Mark → ℕ → Desk → Desk → StoreFault → Type 0
AppendFault log size old new Failed = Rose old.store_faults new.store_faults
AppendFault log size old new (Corrupt file at) = ⊥
AppendFault log size old new (Full length) = (length ≡ log.place + 1) × (log.limit < log.place + 6 + size)
AppendFault log size old new OutOfMemory = ⊥

-- the store doesn't turn: the host failed, or a file with a snapshot of this length is above the limit
abbrev pub TurnFault : Mark → ℕ → Desk → Desk → StoreFault → Type 0
TurnFault log size old new Failed = Rose old.store_faults new.store_faults
TurnFault log size old new (Corrupt file at) = ⊥
TurnFault log size old new (Full length) = (length ≡ 0) × (log.limit < 27 + size)
TurnFault log size old new OutOfMemory = Unit {0}
