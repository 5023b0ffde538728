use Rattle.laws_sequences.proofs.Reaching.{sound_has_links}
use Rattle.laws_sequences.proofs.commands.sound_has_links.Goals as goal

pub returns : goal.returns
returns c = sound_has_links
