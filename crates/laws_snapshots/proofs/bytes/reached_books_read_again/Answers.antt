use Rattle.laws_snapshots.proofs.Joined.{reached_books_read_again}
use Rattle.laws_snapshots.proofs.bytes.reached_books_read_again.Goals as goal

pub returns : goal.returns
returns c = reached_books_read_again
