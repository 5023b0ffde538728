use Rattle.laws_runs.proofs.ReplyLines.{said_is_lines}
use Rattle.laws_runs.proofs.replies.said_is_lines.Goals as goal

pub returns : goal.returns
returns c = said_is_lines
