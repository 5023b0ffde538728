use Rattle.lock_posse.specs.Keys.{member_digest}
use Rattle.row_index.specs.Index.{digest_key}
use Rattle.lock_posse.proofs.KeyLemmas.{get_mapped}
use Rattle.lock_posse.proofs.keys.member_key.Goals as goal

pub returns : goal.returns
returns c = rw (c.digest_key.ensures, c.member_digest.ensures) (get_mapped (λ task. digest_key (member_digest task)) c.args.members.now c.args.at c.member_at.result.now c.member_at.ensures)
