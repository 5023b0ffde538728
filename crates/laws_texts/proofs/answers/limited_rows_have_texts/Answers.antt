use Rattle.laws_texts.proofs.EachCommand.{limited_rows_have_texts}
use Rattle.laws_texts.proofs.answers.limited_rows_have_texts.Goals as goal

pub returns : goal.returns
returns c = limited_rows_have_texts
