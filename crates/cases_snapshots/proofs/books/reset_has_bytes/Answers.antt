use Rattle.cases_snapshots.proofs.WorkedBytes.{reset_has_bytes}
use Rattle.cases_snapshots.proofs.books.reset_has_bytes.Goals as goal

pub returns : goal.returns
returns c = reset_has_bytes
