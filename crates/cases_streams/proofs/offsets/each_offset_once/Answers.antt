use Rattle.cases_streams.proofs.WorkedOffsets.{each_offset_once}
use Rattle.cases_streams.proofs.offsets.each_offset_once.Goals as goal

pub returns : goal.returns
returns c = each_offset_once
