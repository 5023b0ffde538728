use Rattle.laws_offsets.proofs.Reaching.{empty_book_tiles}
use Rattle.laws_offsets.proofs.tiling.empty_book_tiles.Goals as goal

pub returns : goal.returns
returns c = empty_book_tiles
