use Rattle.laws_chunks.proofs.Meanings.{shown_is_contents}
use Rattle.laws_chunks.proofs.meaning.shown_is_contents.Goals as goal

pub returns : goal.returns
returns c = shown_is_contents
