use Rattle.snap_codec.proofs.BookBytes.{limited_marked, spelled_marked}
use Rattle.snap_codec.proofs.laws.writes_limited_books.Goals as goal

pub returns-clause-limited : goal.returns-clause-limited
returns-clause-limited c = limited_marked

pub returns-clause-spelled : goal.returns-clause-spelled
returns-clause-spelled c = spelled_marked
