use Rattle.laws_offsets.proofs.Publishes.{refused_leaves_book}
use Rattle.laws_offsets.proofs.effects.refused_leaves_book.Goals as goal

pub returns : goal.returns
returns c = refused_leaves_book
