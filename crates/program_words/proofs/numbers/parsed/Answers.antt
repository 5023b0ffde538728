use Rattle.std.proofs.Common.{ap, ◌∙◌, arith}
use Rattle.std.specs.Result.{result_ok}
use Rattle.std.proofs.lemmas.Fmt.{parse-decimal}
use Rattle.program_words.proofs.numbers.parsed.Goals as goal

pub returns : goal.returns
returns c = λ n small e. c.ok.ensures.value ∙ ap result_ok (parse-decimal 64 n _ c.parse.result small (omega arith) e c.parse.ensures.value.0)
