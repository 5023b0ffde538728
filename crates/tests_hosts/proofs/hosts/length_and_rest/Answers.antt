use Rattle.std.proofs.Common.{◌∙◌}
use Rattle.host_desk.specs.MemHost.{desk_now}
use Rattle.host_desk.proofs.Opening.{open_later}
use Rattle.tests_hosts.proofs.hosts.length_and_rest.Goals as goal

pub read_at-requires : goal.read_at-requires
read_at-requires c = open_later (desk_now c.in_ok-host.host) (desk_now c.length.new.self) 0 c.length.ensures.opened c.in_ok-host.ensures.opened
