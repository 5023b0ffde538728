use Rattle.laws_chunks.proofs.GrantingLocks.{grant_keeps}
use Rattle.laws_chunks.proofs.changes.grant_keeps.Goals as goal

pub returns : goal.returns
returns c = grant_keeps
