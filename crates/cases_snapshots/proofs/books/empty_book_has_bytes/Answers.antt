use Rattle.cases_snapshots.proofs.WorkedBytes.{empty_book_has_bytes}
use Rattle.cases_snapshots.proofs.books.empty_book_has_bytes.Goals as goal

pub returns : goal.returns
returns c = empty_book_has_bytes
