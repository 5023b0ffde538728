-- The numbers that the program ends with.
use Rattle.std.specs.Prelude.{ℕ}
use Rattle.overlord_run.specs.declared.Status.{Status}
use Rattle.overlord_run.specs.declared.Status.TheVariants.{Done, Usage, StoreFault, StoreCorrupt, InputFault, OutputFault, NoMemory, StoreFull, InputTooLong}

-- 0 for a run to the end of its input, and a number of its own for each other status. 1 is left to what ends a program
-- before it can say why.
abbrev pub number_of : Status → ℕ
number_of Done = 0
number_of Usage = 2
number_of StoreFault = 3
number_of (StoreCorrupt file at) = 4
number_of InputFault = 5
number_of OutputFault = 6
number_of NoMemory = 7
number_of (StoreFull length) = 8
number_of InputTooLong = 9
