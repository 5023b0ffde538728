use Rattle.row_index.specs.Index.{digest_range}
use Rattle.tab_pending.specs.Keys.{lock_digest}
use Rattle.tab_pending.proofs.RangePlaces.{get_mapped}
use Rattle.tab_pending.proofs.ranges.lock_range.Goals as goal

pub returns : goal.returns
returns c = rw (c.digest_range.ensures, c.lock_digest.ensures) (get_mapped (λ n. digest_range (lock_digest n)) c.args.locks.now c.args.at c.lock_at.result c.lock_at.ensures)
