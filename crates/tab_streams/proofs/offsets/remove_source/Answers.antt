use Rattle.std.proofs.Common.{◌∙◌, ap}
use Rattle.tab_streams.specs.ByName.{all_rows}
use Rattle.tab_streams.proofs.Around.{source_removed}
use Rattle.tab_streams.proofs.offsets.remove_source.Goals as goal

pub returns : goal.returns
returns c = ap all_rows c.remove.ensures.entries ∙ source_removed c.args.source.now c.args.sources.now.entries c.len-sources.ensures.ordered c.requires
