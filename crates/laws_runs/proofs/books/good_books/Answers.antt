use Rattle.laws_runs.proofs.GoodBooks.{good_books}
use Rattle.laws_runs.proofs.books.good_books.Goals as goal

pub returns : goal.returns
returns c = good_books
