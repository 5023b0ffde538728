use Rattle.laws_chunks.proofs.SameTexts.{texts_are_same}
use Rattle.laws_chunks.proofs.meaning.texts_are_same.Goals as goal

pub returns : goal.returns
returns c = texts_are_same
