use Rattle.laws_sequences.proofs.ReportsKept.{reports_stay}
use Rattle.laws_sequences.proofs.reports.reports_stay.Goals as goal

pub returns : goal.returns
returns c = reports_stay
