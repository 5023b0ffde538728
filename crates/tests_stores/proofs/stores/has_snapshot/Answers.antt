use Rattle.host_desk.specs.MemHost.{desk_now}
use Rattle.tests_stores.proofs.Opened.{file_open}
use Rattle.tests_stores.proofs.stores.has_snapshot.Goals as goal

pub snapshot-requires-clause-file : goal.snapshot-requires-clause-file
snapshot-requires-clause-file c = file_open (desk_now c.in_ok-host.host) (desk_now c.open_store.new.host) 1000 c.in_ok-store.store.log c.open_store.ensures.opened c.in_ok-host.ensures.first c.in_ok-store.ensures.is_opened
