use Rattle.laws_runs.proofs.SoundRuns.{store_books_are_sound}
use Rattle.laws_runs.proofs.books.store_books_are_sound.Goals as goal

pub returns : goal.returns
returns c = store_books_are_sound
