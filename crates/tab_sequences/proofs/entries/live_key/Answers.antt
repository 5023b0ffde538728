use Rattle.tab_sequences.specs.Keys.{live_digest}
use Rattle.row_index.specs.Index.{digest_key}
use Rattle.tab_sequences.proofs.KeyPlaces.{get_mapped}
use Rattle.tab_sequences.proofs.entries.live_key.Goals as goal

pub returns : goal.returns
returns c = rw (c.digest_key.ensures, c.live_digest.ensures) (get_mapped (λ task. digest_key (live_digest task)) c.args.live.now c.args.at c.live_at.result.now c.live_at.ensures)
