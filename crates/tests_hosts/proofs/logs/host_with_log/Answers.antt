use Rattle.std.proofs.Common.{ap, ◌∙◌, ℕ, List}
use Rattle.host_desk.specs.MemHost.{desk_now}
use Rattle.host_desk.proofs.Opening.{open_later}
use Rattle.gate_log.specs.Format.{opening_of}
use Rattle.gate_log.proofs.Laws.{can_over_absent}
use Rattle.tests_hosts.proofs.logs.host_with_log.Goals as goal

pub make_log-requires-clause-file : goal.make_log-requires-clause-file
make_log-requires-clause-file c = open_later (desk_now c.in_ok-host.host) (desk_now c.sync.new.self) 0 c.sync.ensures.opened c.in_ok-host.ensures.opened

pub make_log-requires-clause-can : goal.make_log-requires-clause-can
make_log-requires-clause-can c told =
    let empty = ap (λ (seen : ℕ → List ℕ). seen 0) c.sync.ensures.seen ∙ c.in_ok-host.ensures.seen in
    can_over_absent ((desk_now c.sync.new.self).seen 0) (ap opening_of empty)
