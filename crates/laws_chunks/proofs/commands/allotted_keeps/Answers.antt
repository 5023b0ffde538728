use Rattle.laws_chunks.proofs.AllottedIds.{allotted_keeps}
use Rattle.laws_chunks.proofs.commands.allotted_keeps.Goals as goal

pub returns : goal.returns
returns c = allotted_keeps
