use Rattle.laws_chunks.proofs.ReplacingSpans.{replace_keeps}
use Rattle.laws_chunks.proofs.changes.replace_keeps.Goals as goal

pub returns : goal.returns
returns c = replace_keeps
