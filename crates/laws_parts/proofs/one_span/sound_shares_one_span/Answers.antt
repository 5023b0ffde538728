use Rattle.laws_parts.proofs.OneSpan.{sound_shares_one_span}
use Rattle.laws_parts.proofs.one_span.sound_shares_one_span.Goals as goal

pub returns : goal.returns
returns c = sound_shares_one_span
