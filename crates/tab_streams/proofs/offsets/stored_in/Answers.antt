use Rattle.std.proofs.Common.{◌∙◌, [], ap, sym}
use Rattle.tab_streams.specs.ByName.{or_nothing}
use Rattle.tab_streams.proofs.NameSplit.{nothing_ordered}
use Rattle.tab_streams.proofs.StreamLaws.{stored_found}
use Rattle.tab_streams.proofs.offsets.stored_in.Goals as goal

pub returns-in-Some : goal.returns-in-Some
returns-in-Some c =
    c.get-in-Some.ensures.offset
    ∙ stored_found c.args.source.now c.args.stream.now c.args.sources.now.entries c.len-sources.ensures.ordered c.in-Some.streams.now (ap or_nothing (sym c.in-Some.ensures.value)) c.get-in-Some.ensures.ordered c.args.partition

pub returns-in-None : goal.returns-in-None
returns-in-None c = stored_found c.args.source.now c.args.stream.now c.args.sources.now.entries c.len-sources.ensures.ordered [] (ap or_nothing (sym c.in-None.ensures.value)) nothing_ordered c.args.partition
