use Rattle.cases_rules.proofs.BrokenLaws.{chunks_that_meet}
use Rattle.cases_rules.proofs.broken_books.chunks_that_meet.Goals as goal

pub returns : goal.returns
returns c = chunks_that_meet
