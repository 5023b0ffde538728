use Rattle.std.proofs.Common.{◌+◌, ◌∙◌, ap₂}
use Rattle.std.proofs.lemmas.Result.{IfOk-weaker}
use Rattle.tab_streams.proofs.offsets.count_beside.Goals as goal

pub returns : goal.returns
returns c = IfOk-weaker c.sum_of.result _ _ (λ n h. (h.0 ∙ ap₂ (λ a b. a + b) c.others.ensures.count c.count.ensures, h.1)) c.sum_of.ensures
