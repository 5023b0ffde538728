use Rattle.std.proofs.Common.{refl}
use Rattle.std.specs.Str.{chars, is_utf8}
use lib.Utf8.{encode}
use Rattle.cases_streams.proofs.offsets.listed_is_stored.Goals as goal

pub returns : goal.returns
unfolding is_utf8 chars encode
returns c = (refl, refl, refl, refl, refl, refl, refl, refl, refl)
