use Rattle.snap_codec.proofs.BookBytes.{book_again, book_taken}
use Rattle.snap_codec.proofs.laws.reads_what_it_writes.Goals as goal

pub returns-clause-written : goal.returns-clause-written
returns-clause-written c = book_again

pub returns-clause-read : goal.returns-clause-read
returns-clause-read c = book_taken
