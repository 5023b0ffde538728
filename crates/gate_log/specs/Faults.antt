-- Why a call on a log answers an error: each of its errors, with the cause.
use Rattle.std.specs.Prelude.{◌≡◌, ◌⊎◌, ℕ, ◌+◌, ◌<◌, Bool, IsTrue, IsFalse, List}
use Rattle.host_desk.specs.Desk.{Desk, Rose}
use Rattle.gate_log.specs.Format.{absent, corrupt, opening_of}
use Rattle.gate_log.specs.Log.{Mark, IsTorn}
use Rattle.gate_log.specs.declared.fault.LogFault.{LogFault}
use Rattle.gate_log.specs.declared.fault.LogFault.TheVariants.{Failed, Corrupt, Absent, Full, OutOfMemory}

-- a log isn't opened: the host failed, or the header of these bytes says so
abbrev pub OpenFault : Bool → List ℕ → Desk → Desk → LogFault → Type 0
OpenFault tells bytes old new Failed = Rose old.store_faults new.store_faults
OpenFault tells bytes old new (Corrupt at) = IsTrue tells → opening_of bytes ≡ corrupt at
OpenFault tells bytes old new Absent = IsTrue tells → opening_of bytes ≡ absent
OpenFault tells bytes old new (Full length) = ⊥
OpenFault tells bytes old new OutOfMemory = ⊥

-- a log isn't made: the host failed, or a file with a snapshot of this length is above the limit
abbrev pub MakeFault : ℕ → ℕ → Desk → Desk → LogFault → Type 0
MakeFault size limit old new Failed = Rose old.store_faults new.store_faults
MakeFault size limit old new (Corrupt at) = ⊥
MakeFault size limit old new Absent = ⊥
MakeFault size limit old new (Full length) = (length ≡ 0) × (limit < 27 + size)
MakeFault size limit old new OutOfMemory = Unit {0}

-- a snapshot isn't read: the host failed, or, of a kind that tells nothing, gave fewer bytes than it had told
abbrev pub SnapshotFault : Bool → Desk → Desk → LogFault → Type 0
SnapshotFault tells old new Failed = Rose old.store_faults new.store_faults
SnapshotFault tells old new (Corrupt at) = IsFalse tells × (at ≡ 18)
SnapshotFault tells old new Absent = ⊥
SnapshotFault tells old new (Full length) = ⊥
SnapshotFault tells old new OutOfMemory = Unit {0}

-- a whole body isn't read: the host failed, or no memory was left
abbrev pub BodyFault : Desk → Desk → LogFault → Type 0
BodyFault old new Failed = Rose old.store_faults new.store_faults
BodyFault old new (Corrupt at) = ⊥
BodyFault old new Absent = ⊥
BodyFault old new (Full length) = ⊥
BodyFault old new OutOfMemory = Unit {0}

-- the next body isn't read: the host failed, or the record at the place isn't whole; of a host that tells nothing, the
-- first gate may be missing too, which is told at 18
abbrev pub NextFault : Bool → List ℕ → Mark → Desk → Desk → LogFault → Type 0
NextFault tells bytes log old new Failed = Rose old.store_faults new.store_faults
NextFault tells bytes log old new (Corrupt at) = (IsTrue tells → at ≡ log.place) × (IsTrue tells → IsTorn bytes log) × ((at ≡ log.place) ⊎ (at ≡ 18))
NextFault tells bytes log old new Absent = ⊥
NextFault tells bytes log old new (Full length) = ⊥
NextFault tells bytes log old new OutOfMemory = Unit {0}

-- a record with a body of this length isn't added: the host failed, or the log would be above its limit
abbrev pub AppendFault : Mark → ℕ → Desk → Desk → LogFault → Type 0
AppendFault log size old new Failed = Rose old.store_faults new.store_faults
AppendFault log size old new (Corrupt at) = ⊥
AppendFault log size old new Absent = ⊥
AppendFault log size old new (Full length) = (length ≡ log.place + 1) × (log.limit < log.place + 6 + size)
AppendFault log size old new OutOfMemory = ⊥
