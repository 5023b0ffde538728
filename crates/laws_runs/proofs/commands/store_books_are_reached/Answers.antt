use Rattle.laws_runs.proofs.ReachedRuns.{store_books_are_reached}
use Rattle.laws_runs.proofs.commands.store_books_are_reached.Goals as goal

pub returns : goal.returns
returns c = store_books_are_reached
