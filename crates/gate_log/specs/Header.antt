-- What was read of a header.
use Rattle.std.specs.Prelude.{ℕ, ◌+◌, ◌<◌}
use Rattle.gate_log.specs.Format.{Opening, absent, corrupt, opened}
use Rattle.gate_log.specs.declared.header.Header.{Header}
use Rattle.gate_log.specs.declared.header.Header.TheVariants.{Absent, Corrupt, Opened}

-- what a header says
abbrev pub opening_in : Header → Opening
opening_in Absent = absent
opening_in (Corrupt at) = corrupt at
opening_in (Opened generation snapshot_length) = opened generation snapshot_length

-- a file of this length has the snapshot of the header, and a gate
abbrev pub HeaderFits : ℕ → Header → Type 0
HeaderFits size Absent = Unit {0}
HeaderFits size (Corrupt at) = Unit {0}
HeaderFits size (Opened generation snapshot_length) = 26 + snapshot_length < size
