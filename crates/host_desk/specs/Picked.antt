-- What a stop is picked to leave of files that had these bytes at first, after or within calls.
use Rattle.std.specs.Prelude.{◌+◌, ℕ, List, take, get_or, Some, None}
use Rattle.host_desk.specs.declared.call.Call.{Call}
use Rattle.host_desk.specs.declared.call.Call.TheVariants.{Look}
use Rattle.host_desk.specs.declared.stop.Pick.{Pick}
use Rattle.host_desk.specs.declared.stop.Pick.TheVariants.{Before, After, Fill}
use Rattle.host_desk.specs.Replay.{Disk, start, run, torn, left_after}

-- The disk as the first so many calls left it.
abbrev pub disk_after : List (List ℕ) → List Call → ℕ → Disk
disk_after first calls count = run (start first) (take count calls)

-- What stood in each file at its last sync of these calls, or at first.
abbrev pub settled_after : List (List ℕ) → List Call → ℕ → List (List ℕ)
settled_after first calls count = left_after None (start first) first (take count calls)

-- The same with a byte in each place that was written or cut since then, at the greatest length since then.
abbrev pub filled_after : ℕ → List (List ℕ) → List Call → ℕ → List (List ℕ)
filled_after byte first calls count = left_after (Some byte) (start first) first (take count calls)

-- The files that a stop within the call of this number is picked to leave: as at the last syncs before it, as a read
-- gives after it, or filled where it and the calls since the last syncs wrote or cut.
abbrev pub picked_files : Pick → List (List ℕ) → List Call → ℕ → List (List ℕ)
picked_files Before first calls number = settled_after first calls number
picked_files After first calls number = (disk_after first calls (number + 1)).seen
picked_files (Fill byte) first calls number = torn (Some byte) (filled_after byte first calls number) (get_or calls number Look)

-- The bytes said by then: none of the call's own for the pick of what stood there before, else all that it put out.
abbrev pub picked_said : Pick → List (List ℕ) → List Call → ℕ → List ℕ
picked_said Before first calls number = (disk_after first calls number).said
picked_said After first calls number = (disk_after first calls (number + 1)).said
picked_said (Fill byte) first calls number = (disk_after first calls (number + 1)).said
