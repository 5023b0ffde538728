use Rattle.overlord_rules.proofs.RecordLaws.{commands_kept_by_records}
use Rattle.overlord_rules.proofs.records.commands_tell_changes.Goals as goal

pub returns : goal.returns
returns c = commands_kept_by_records
