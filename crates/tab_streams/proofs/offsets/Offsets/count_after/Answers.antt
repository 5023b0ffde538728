use Rattle.std.proofs.Common.{◌+◌, ◌∙◌, ap, length}
use Rattle.tab_streams.specs.ByName.{all_rows}
use Rattle.tab_streams.proofs.Resetting.{reset_count}
use Rattle.tab_streams.proofs.offsets.Offsets.count_after.Goals as goal

pub returns : goal.returns
returns c =
    rw (← c.self.view_is)
    (ap (λ n. n + length c.args.offsets.now) c.others.ensures.count ∙ reset_count c.args.source.now c.args.stream.now c.args.offsets.now (all_rows c.self.inside.sources.entries) c.self.invariant.ascend c.requires)
