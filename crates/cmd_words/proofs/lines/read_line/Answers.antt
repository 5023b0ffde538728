use Rattle.std.proofs.Common.{◌≡◌, true, false}
use Rattle.serde_json.specs.View.{view}
use Rattle.cmd_words.proofs.WholeLine.{line_of_value, line_of_none}
use Rattle.cmd_words.proofs.lines.read_line.Goals as goal

pub returns-in-Ok-clause-read : goal.returns-in-Ok-clause-read
returns-in-Ok-clause-read c =
    rw (line_of_value c.args.line.now (view c.in-Ok.value) c.in-Ok.ensures.ok.0 c.in-Ok.ensures.ok.1) c.command.ensures.read

pub returns-else-is_memory-clause-read : goal.returns-else-is_memory-clause-read
returns-else-is_memory-clause-read c = line_of_none c.args.line.now (c.in-Err.ensures.err (λ m. let no : false ≡ true = c.if-is_memory.ensures.1 m in cc))
