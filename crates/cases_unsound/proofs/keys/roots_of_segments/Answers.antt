use Rattle.std.proofs.Common.{refl}
use Rattle.std.specs.Fmt.{digits}
use Rattle.std.specs.Str.{chars, is_utf8}
use lib.Utf8.{encode}
use Rattle.cases_unsound.proofs.keys.roots_of_segments.Goals as goal

pub returns : goal.returns
unfolding is_utf8 chars encode digits
returns c = (refl, refl)
