use Rattle.host_desk.specs.MemHost.{desk_now}
use Rattle.tests_stores.proofs.Opened.{file_open}
use Rattle.tests_stores.proofs.stores.begins_with.Goals as goal

pub next_body-requires-clause-file : goal.next_body-requires-clause-file
next_body-requires-clause-file c = file_open (desk_now c.in_ok-host.host) (desk_now c.open_store.new.host) 1000 c.in_ok-store.store.log c.open_store.ensures.opened c.in_ok-host.ensures.first c.in_ok-store.ensures.is_opened
