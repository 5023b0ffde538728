-- The status of a run.
use Rattle.std.specs.Prelude.{Result, Ok, Err}
use Rattle.machine_run.specs.declared.stop.Stop.{Stop}
use Rattle.machine_run.specs.declared.stop.Stop.TheVariants as stop
use Rattle.overlord_run.specs.declared.status.Status.{Status}
use Rattle.overlord_run.specs.declared.status.Status.TheVariants.{Done, StoreFault, StoreCorrupt, InputFault, OutputFault, NoMemory, StoreFull, InputTooLong}

abbrev pub status_of_stop : Stop → Status
status_of_stop stop.StoreFault = StoreFault
status_of_stop (stop.StoreCorrupt file at) = StoreCorrupt file at
status_of_stop stop.InputFault = InputFault
status_of_stop stop.OutputFault = OutputFault
status_of_stop stop.NoMemory = NoMemory
status_of_stop (stop.StoreFull length_now) = StoreFull length_now
status_of_stop stop.InputTooLong = InputTooLong

abbrev pub status_by : Result (Unit {0}) Stop → Status
status_by (Ok x) = Done
status_by (Err s) = status_of_stop s
