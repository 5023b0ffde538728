use Rattle.laws_texts.proofs.EachCommand.{sound_has_limited_rows}
use Rattle.laws_texts.proofs.answers.sound_has_limited_rows.Goals as goal

pub returns : goal.returns
returns c = sound_has_limited_rows
