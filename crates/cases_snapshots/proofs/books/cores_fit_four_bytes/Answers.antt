use Rattle.cases_snapshots.proofs.LongCores.{cores_fit_four_bytes}
use Rattle.cases_snapshots.proofs.books.cores_fit_four_bytes.Goals as goal

pub returns : goal.returns
returns c = cores_fit_four_bytes
