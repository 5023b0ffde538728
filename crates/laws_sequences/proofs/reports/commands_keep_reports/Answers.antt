use Rattle.laws_sequences.proofs.ReportsKept.{commands_keep_reports}
use Rattle.laws_sequences.proofs.reports.commands_keep_reports.Goals as goal

pub returns : goal.returns
returns c = commands_keep_reports
