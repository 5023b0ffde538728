-- What is promised where memory lacked before anything was called, whatever the form.
use Rattle.std.proofs.Common.{Bool, None, Option, Some, refl, ℕ}
use Rattle.load_gen.specs.Load.{load as commands_of}
use Rattle.program_words.specs.Forms.{Form, load, run}
use Rattle.overlord_run.specs.Ends.{Outside}
use Rattle.overlord_run.specs.FormPromise.{PromiseBy}
use Rattle.overlord_run.specs.declared.status.Status.TheVariants.{NoMemory}
use Rattle.overlord_run.proofs.LoadPromises.{load_memory}
use Rattle.overlord_run.proofs.Promises.{promise_memory}

pub memory_by : (form : Option Form) (host_tells source_tells : Bool) (log input : ℕ) (here : Outside) → PromiseBy form host_tells source_tells log input here here NoMemory
memory_by None host_tells source_tells log input here = promise_memory host_tells source_tells None log input here
memory_by (Some (run store)) host_tells source_tells log input here = promise_memory host_tells source_tells (Some store) log input here
memory_by (Some (load number blocks store)) host_tells source_tells log input here = (load_memory host_tells (commands_of number blocks) store log here.host, record { left = refl; faults = refl })
