use Rattle.laws_sequences.proofs.ReportsKept.{sound_has_reports}
use Rattle.laws_sequences.proofs.reports.sound_has_reports.Goals as goal

pub returns : goal.returns
returns c = sound_has_reports
