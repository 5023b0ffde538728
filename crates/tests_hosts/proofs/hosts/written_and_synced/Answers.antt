use Rattle.host_desk.specs.MemHost.{desk_now}
use Rattle.host_desk.proofs.Opening.{open_later}
use Rattle.tests_hosts.proofs.hosts.written_and_synced.Goals as goal

pub sync-requires : goal.sync-requires
sync-requires c = open_later (desk_now c.in_ok-host.host) (desk_now c.write_at.new.self) 0 c.write_at.ensures.opened c.in_ok-host.ensures.opened
