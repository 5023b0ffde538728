use Rattle.overlord_rules.proofs.RecordLaws.{kept_by_records}
use Rattle.overlord_rules.proofs.records.records_tell_changes.Goals as goal

pub returns : goal.returns
returns c = kept_by_records
