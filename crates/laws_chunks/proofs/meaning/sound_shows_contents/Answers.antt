use Rattle.laws_chunks.proofs.Meanings.{sound_shows_contents}
use Rattle.laws_chunks.proofs.meaning.sound_shows_contents.Goals as goal

pub returns : goal.returns
returns c = sound_shows_contents
