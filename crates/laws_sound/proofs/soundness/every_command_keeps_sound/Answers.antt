use Rattle.laws_sound.proofs.Joined.{every_command_keeps_sound}
use Rattle.laws_sound.proofs.soundness.every_command_keeps_sound.Goals as goal

pub returns : goal.returns
returns c = every_command_keeps_sound
