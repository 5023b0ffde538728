use Rattle.cases_snapshots.proofs.WorkedBytes.{inserted_has_bytes}
use Rattle.cases_snapshots.proofs.books.inserted_has_bytes.Goals as goal

pub returns : goal.returns
returns c = inserted_has_bytes
