use Rattle.laws_revocation.proofs.LostSpans.{span_is_refused}
use Rattle.laws_revocation.proofs.refusals.span_is_refused.Goals as goal

pub returns : goal.returns
returns c = span_is_refused
