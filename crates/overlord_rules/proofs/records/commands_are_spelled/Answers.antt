use Rattle.overlord_rules.proofs.RecordLaws.{spelled}
use Rattle.overlord_rules.proofs.records.commands_are_spelled.Goals as goal

pub returns : goal.returns
returns c = spelled
