use Rattle.cases_snapshots.proofs.WorkedBytes.{emptied_has_bytes}
use Rattle.cases_snapshots.proofs.books.emptied_has_bytes.Goals as goal

pub returns : goal.returns
returns c = emptied_has_bytes
