use Rattle.laws_sound.proofs.Reaching.{reached_answers_are_readings}
use Rattle.laws_sound.proofs.reached.reached_answers_are_readings.Goals as goal

pub returns : goal.returns
returns c = reached_answers_are_readings
