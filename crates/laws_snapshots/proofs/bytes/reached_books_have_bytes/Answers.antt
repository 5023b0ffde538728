use Rattle.laws_snapshots.proofs.Joined.{reached_books_have_bytes}
use Rattle.laws_snapshots.proofs.bytes.reached_books_have_bytes.Goals as goal

pub returns : goal.returns
returns c = reached_books_have_bytes
