use Rattle.std.proofs.Common.{refl}
use Rattle.std.specs.Str.{is_utf8, chars}
use lib.Utf8.{encode}
use Rattle.cases_rules.proofs.form_texts.spans_forwards.Goals as goal

pub returns : goal.returns
unfolding is_utf8 chars encode
returns c = (refl, refl)
