use Rattle.overlord_rules.proofs.RecordLaws.{line_form}
use Rattle.overlord_rules.proofs.records.lines_keep_form.Goals as goal

pub returns : goal.returns
returns c = line_form
