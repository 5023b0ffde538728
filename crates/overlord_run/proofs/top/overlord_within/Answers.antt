use Rattle.std.proofs.Common.{◌≡◌, None, Option, Some, map, refl, string_bytes, subst, sym}
use Rattle.program_words.specs.Forms.{Form, form_of, load}
use Rattle.overlord_run.specs.Ends.{Outside}
use Rattle.overlord_run.specs.FormPromise.{PromiseBy}
use Rattle.overlord_run.specs.declared.status.Status.TheVariants.{Usage}
use Rattle.overlord_run.proofs.FormBlocks.{few_blocks}
use Rattle.overlord_run.proofs.FormPromises.{memory_by}
use Rattle.overlord_run.proofs.Promises.{promise_usage}
use Rattle.overlord_run.proofs.top.overlord_within.Goals as goal

pub load_in-requires-clause-few : goal.load_in-requires-clause-few
load_in-requires-clause-few g c =
    let words = map string_bytes c.args.words.now in
    let is : form_of words ≡ Some (load c.in-Ok-Load.number c.in-Ok-Load.blocks c.in-Ok-Load.store.now) = rw c.in-Ok-Load.field-0-is at c.in-Ok-Load.ensures in
    few_blocks words c.in-Ok-Load.number c.in-Ok-Load.blocks c.in-Ok-Load.store.now is

pub returns-in-Err-Usage-clause-promise : goal.returns-in-Err-Usage-clause-promise
returns-in-Err-Usage-clause-promise g c =
    let here : Outside = record { host = g.H.Host.desk c.args.host.now; left = g.S.Source.remaining c.args.source.now; faults = g.S.Source.faults c.args.source.now } in
    let words = map string_bytes c.args.words.now in
    let none : form_of words ≡ None = rw c.in-Err-Usage.field-0-is at c.in-Err-Usage.ensures in
    subst (λ (form : Option Form). PromiseBy form g.H.Host.tells g.S.Source.tells c.args.limits.log c.args.limits.input here here Usage) (sym none) (promise_usage g.H.Host.tells g.S.Source.tells None c.args.limits.log c.args.limits.input here refl)

pub returns-in-Err-OutOfMemory-clause-promise : goal.returns-in-Err-OutOfMemory-clause-promise
returns-in-Err-OutOfMemory-clause-promise g c =
    let here : Outside = record { host = g.H.Host.desk c.args.host.now; left = g.S.Source.remaining c.args.source.now; faults = g.S.Source.faults c.args.source.now } in
    memory_by (form_of (map string_bytes c.args.words.now)) g.H.Host.tells g.S.Source.tells c.args.limits.log c.args.limits.input here
