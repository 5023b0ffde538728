use Rattle.std.proofs.Common.{ap, ◌∙◌, arith}
use Rattle.std.specs.Result.{result_ok}
use Rattle.std.proofs.lemmas.Bool.{both_ways}
use Rattle.std.proofs.lemmas.Fmt.{parse-decimal}
use Rattle.seg_names.proofs.Numbers.{number_utf8}
use Rattle.seg_names.proofs.reading.parsed.Goals as goal

pub returns-in-Some : goal.returns-in-Some
returns-in-Some c = λ n small e. (c.ok.ensures.value ∙ ap result_ok (parse-decimal 32 n _ c.parse.result small (omega arith) (c.in-Some.ensures.0 ∙ e) c.parse.ensures.value.0))

pub returns-in-None : goal.returns-in-None
returns-in-None c = λ n small e. absurd (both_ways _ c.in-None.ensures (number_utf8 n _ small e))
