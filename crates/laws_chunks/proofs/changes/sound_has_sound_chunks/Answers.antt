use Rattle.laws_chunks.proofs.SoundChunks.{sound_has_sound_chunks}
use Rattle.laws_chunks.proofs.changes.sound_has_sound_chunks.Goals as goal

pub returns : goal.returns
returns c = sound_has_sound_chunks
