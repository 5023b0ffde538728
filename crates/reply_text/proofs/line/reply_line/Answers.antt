use Rattle.serde_json.specs.View.{view}
use Rattle.serde_json.specs.Written.{compact_text}
use Rattle.reply_text.proofs.OneLine.{no_line_end}
use Rattle.reply_text.proofs.line.reply_line.Goals as goal

pub returns-clause-one : goal.returns-clause-one
returns-clause-one c = (compact_text (view c.in_ok-value.value), c.in_ok-line_of.ensures, no_line_end (view c.in_ok-value.value))
