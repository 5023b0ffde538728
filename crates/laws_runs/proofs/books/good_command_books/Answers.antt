use Rattle.laws_runs.proofs.GoodBooks.{good_command_books}
use Rattle.laws_runs.proofs.books.good_command_books.Goals as goal

pub returns : goal.returns
returns c = good_command_books
