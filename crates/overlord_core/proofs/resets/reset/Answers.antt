use Rattle.overlord_core.proofs.ResetOutcomes.{refused_done, reset_done}
use Rattle.overlord_core.proofs.resets.reset.Goals as goal

pub returns-in-Some : goal.returns-in-Some
returns-in-Some c =
    refused_done c.args.source.now c.args.stream.now c.args.offsets.now c.args.core.now c.in-Some.table c.refused.result c.in-Some.ensures c.refused.ensures

pub returns-in-None : goal.returns-in-None
returns-in-None c =
    reset_done c.args.source.now c.args.stream.now c.args.offsets.now c.args.core.now c.reset_to.result c.reset_to.new.core c.in-None.ensures c.reset_to.ensures.done
    c.reset_to.ensures.after
