use Rattle.cases_snapshots.proofs.WorkedBytes.{replaced_has_bytes}
use Rattle.cases_snapshots.proofs.books.replaced_has_bytes.Goals as goal

pub returns : goal.returns
returns c = replaced_has_bytes
