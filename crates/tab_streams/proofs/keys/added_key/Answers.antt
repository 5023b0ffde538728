use Rattle.tab_streams.specs.Keys.{key_of, mix_id}
use Rattle.tab_streams.proofs.KeyPlaces.{get_mapped}
use Rattle.tab_streams.proofs.keys.added_key.Goals as goal

pub returns : goal.returns
returns c =
    rw (c.key_of.ensures, c.mix_id.ensures)
    (get_mapped (λ a. key_of (mix_id 1 a) c.args.number) c.args.ids.now c.args.at c.added_at.result.now c.added_at.ensures)
