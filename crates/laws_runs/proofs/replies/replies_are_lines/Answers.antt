use Rattle.laws_runs.proofs.ReplyLines.{replies_are_lines}
use Rattle.laws_runs.proofs.replies.replies_are_lines.Goals as goal

pub returns : goal.returns
returns c = replies_are_lines
