use Rattle.cases_rules.proofs.BrokenLaws.{wrong_sequences}
use Rattle.cases_rules.proofs.broken_books.wrong_sequences.Goals as goal

pub returns : goal.returns
returns c = wrong_sequences
