use Rattle.laws_limits.proofs.PublicationRows.{publication_rows_stay}
use Rattle.laws_limits.proofs.laws.publication_rows_stay.Goals as goal

pub returns : goal.returns
returns c = publication_rows_stay
