use Rattle.std.proofs.Common.{rules}
use Rattle.std.specs.Prelude.{bytes_eq}
use Rattle.shape_rules.proofs.Apart.{apart}
use Rattle.shape_rules.proofs.members.are_distinct.Goals as goal

pub returns : goal.returns
returns c = apart bytes_eq c.args.tasks.now c.in_ok-again.again c.is_none.result (search rules) c.is_none.ensures
