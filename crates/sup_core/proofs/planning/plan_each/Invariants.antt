use Rattle.std.proofs.Common.{◌≡◌, drop}
use Rattle.sup_core.specs.Planning.{planned_all}
use Rattle.sup_core.proofs.planning.plan_each.Given as goal

-- what the supervisors that are left make of the plan is what all make of the first one
abbrev pub invariant-loop-supervisor : goal.invariant-loop-supervisor
invariant-loop-supervisor l =
    planned_all l.streams.offsets l.moment l.sequences (drop l.supervisor-index l.supervisors) l.plan
    ≡ planned_all l.streams.offsets l.moment l.sequences l.supervisors l.fn.plan
