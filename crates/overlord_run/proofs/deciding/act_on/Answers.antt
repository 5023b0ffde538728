use Rattle.overlord_run.proofs.HeldBooks.{held}
use Rattle.overlord_run.proofs.deciding.act_on.Goals as goal

pub returns-clause-held : goal.returns-clause-held
returns-clause-held c = held c.args.core.now c.act.new.self c.args.command.now c.act.result c.act.ensures.done c.act.ensures.spent
