use Rattle.laws_chunks.proofs.AllocatedIds.{allocated_keeps}
use Rattle.laws_chunks.proofs.commands.allocated_keeps.Goals as goal

pub returns : goal.returns
returns c = allocated_keeps
