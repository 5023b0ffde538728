use Rattle.tab_streams.specs.ByName.{all_rows}
use Rattle.tab_streams.proofs.Counting.{counted_cleared}
use Rattle.tab_streams.proofs.offsets.Offsets.clear.Goals as goal

pub invariant_of-self : goal.invariant_of-self
invariant_of-self c =
    rw c.clear_in.ensures
    (counted_cleared c.args.source.now c.args.stream.now (all_rows c.self.inside.sources.entries) c.others-count.result c.self.invariant.ascend c.others-count.ensures.count c.others-count.ensures.small)
