use Rattle.laws_offsets.proofs.Reaching.{reached_books_tile}
use Rattle.laws_offsets.proofs.tiling.reached_books_tile.Goals as goal

pub returns : goal.returns
returns c = reached_books_tile
