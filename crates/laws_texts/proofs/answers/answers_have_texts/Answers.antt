use Rattle.laws_texts.proofs.EachCommand.{answers_have_texts}
use Rattle.laws_texts.proofs.answers.answers_have_texts.Goals as goal

pub returns : goal.returns
returns c = answers_have_texts
