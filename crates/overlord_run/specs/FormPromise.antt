-- What the program promises, by the form of its words.
use Rattle.std.specs.Prelude.{◌≡◌, Bool, None, Option, Some, ℕ}
use Rattle.load_gen.specs.Load.{load as commands_of}
use Rattle.program_words.specs.Forms.{Form, load, run}
use Rattle.overlord_run.specs.Ends.{Outside, call}
use Rattle.overlord_run.specs.LoadPromise.{PromiseOfLoad, load_call}
use Rattle.overlord_run.specs.Promise.{Promise}
use Rattle.overlord_run.specs.declared.status.Status.{Status}

-- of the source nothing was read
pub record IsUnread (before after : Outside) : Type 0 where
  pub left : after.left ≡ before.left
  pub faults : after.faults ≡ before.faults

-- Of a load what is promised of one, and that it reads no input; of a run, and of words of no form, what is promised of a run.
abbrev pub PromiseBy : Option Form → (host_tells source_tells : Bool) → (log input : ℕ) → (before after : Outside) → Status → Type 0
PromiseBy None host_tells source_tells log input before after status = Promise (call host_tells source_tells None log input before after) status
PromiseBy (Some (run store)) host_tells source_tells log input before after status = Promise (call host_tells source_tells (Some store) log input before after) status
PromiseBy (Some (load number blocks store)) host_tells source_tells log input before after status =
    PromiseOfLoad (load_call host_tells (commands_of number blocks) store log before.host after.host) status × IsUnread before after
