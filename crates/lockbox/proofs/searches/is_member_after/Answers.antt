use Rattle.std.proofs.Common.{rules}
use Rattle.lockbox.proofs.Seen.{member_joined}
use Rattle.lockbox.proofs.searches.is_member_after.Goals as goal

pub returns-else-has_member : goal.returns-else-has_member
returns-else-has_member c = rw (member_joined c.args.joins.now c.args.task.now c.args.row.now) (search rules)
