use Rattle.laws_chunks.proofs.DropCommand.{dropped_keeps}
use Rattle.laws_chunks.proofs.commands.dropped_keeps.Goals as goal

pub returns : goal.returns
returns c = dropped_keeps
