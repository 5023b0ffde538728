use Rattle.host_desk.specs.MemHost.{desk_now}
use Rattle.host_desk.proofs.Opening.{open_later}
use Rattle.tests_hosts.proofs.hosts.failed_write_leaves.Goals as goal

pub write_at-requires-clause-file : goal.write_at-requires-clause-file
write_at-requires-clause-file c = open_later (desk_now c.in_ok-host.host) (desk_now c.fail.new.self) 0 c.fail.ensures.desk.opened c.in_ok-host.ensures.opened
