use Rattle.cases_shown.proofs.WorkedLocks.{sound_book_with_pendings}
use Rattle.cases_shown.proofs.revocation.sound_book_with_pendings.Goals as goal

pub returns : goal.returns
returns c = sound_book_with_pendings
