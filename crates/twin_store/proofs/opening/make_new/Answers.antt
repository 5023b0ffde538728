use Rattle.std.proofs.Common.{inr, Err, sym, ◌∙◌, ap, subst}
use Rattle.gate_log.specs.Log.{Mark}
use Rattle.gate_log.specs.declared.fault.LogFault.{LogFault}
use Rattle.twin_store.specs.Stores.{Stands}
use Rattle.twin_store.proofs.Openings.{can_make, stands_new, made_room, wanting_room}
use Rattle.twin_store.proofs.opening.make_new.Goals as goal

pub make_log-requires-clause-can : goal.make_log-requires-clause-can
make_log-requires-clause-can g c = λ told. can_make c.args.pair c.requires.number (g.H.Host.desk c.args.host.now) (c.requires.none told)

pub returns-in-Ok-clause-stands : goal.returns-in-Ok-clause-stands
returns-in-Ok-clause-stands g c = λ told.
    let old = g.H.Host.desk c.args.host.now in
    let new = g.H.Host.desk c.make_log.new.host in
    let e = c.in-Ok.ensures in
    subst (λ (m : Mark). Stands m new) (sym c.over.ensures) (stands_new c.args.pair c.requires.number old (c.requires.none told) new (c.make_log.ensures.any_moment told) c.args.limit c.in-Ok.log e.log (e.describes told) (e.settled told) (c.requires.second_settled told))

pub returns-in-Ok-clause-room : goal.returns-in-Ok-clause-room
returns-in-Ok-clause-room g c = made_room c.make_log.result c.args.limit c.in-Ok.log c.make_log.ensures.full c.in-Ok.is

pub returns-in-Err-OutOfMemory-clause-fault : goal.returns-in-Err-OutOfMemory-clause-fault
returns-in-Err-OutOfMemory-clause-fault g c = (
  wanting_room c.make_log.result c.args.limit c.make_log.ensures.full (c.in-Err-OutOfMemory.is ∙ ap (λ (f : LogFault). Err f) c.in-Err-OutOfMemory.field-0-is),
  λ told. ap (λ h. (g.H.Host.desk h).seen) (c.make_log.ensures.full_leaves (inr (c.in-Err-OutOfMemory.is ∙ ap (λ (f : LogFault). Err f) c.in-Err-OutOfMemory.field-0-is))),
)
