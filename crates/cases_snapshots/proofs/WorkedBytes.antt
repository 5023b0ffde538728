-- The worked bytes, by computation.
use Rattle.std.proofs.Common.{refl}
use Rattle.std.specs.Str.{chars, is_utf8}
use lib.Utf8.{encode}
use Rattle.wire_fields.specs.Fields.{byte_at, signed_at, text_at}
use Rattle.cmd_codec.specs.Fields.{short, signed}
use Rattle.snap_codec.specs.Fields.{long}
use Rattle.snap_codec.specs.Readers.{checked_at, chosen_at, code_at, each_at, field_at, list_at, made_at, option_at}
use Rattle.snap_codec.specs.Snapshots.{whole}
use Rattle.cases_snapshots.specs.BookCases.{EmptiedHasBytes, EmptyBookHasBytes, InsertedHasBytes, ReplacedHasBytes, ResetHasBytes}
use Rattle.cases_snapshots.specs.PlaceCases.{CodeHasPlace, LongHasPlace, NoTombstonesHavePlace, ShortHasPlace, SpanHasPlace, TextHasPlace}

pub empty_book_has_bytes : EmptyBookHasBytes
unfolding whole chosen_at made_at field_at checked_at each_at list_at option_at code_at signed_at text_at byte_at short long signed is_utf8 chars encode
empty_book_has_bytes = (refl, refl)

pub reset_has_bytes : ResetHasBytes
unfolding whole chosen_at made_at field_at checked_at each_at list_at option_at code_at signed_at text_at byte_at short long signed is_utf8 chars encode
reset_has_bytes = (refl, refl)

pub inserted_has_bytes : InsertedHasBytes
unfolding whole chosen_at made_at field_at checked_at each_at list_at option_at code_at signed_at text_at byte_at short long signed is_utf8 chars encode
inserted_has_bytes = (refl, refl)

pub emptied_has_bytes : EmptiedHasBytes
unfolding whole chosen_at made_at field_at checked_at each_at list_at option_at code_at signed_at text_at byte_at short long signed is_utf8 chars encode
emptied_has_bytes = (refl, refl)

pub replaced_has_bytes : ReplacedHasBytes
unfolding whole chosen_at made_at field_at checked_at each_at list_at option_at code_at signed_at text_at byte_at short long signed is_utf8 chars encode
replaced_has_bytes = (refl, refl)

pub short_has_place : ShortHasPlace
unfolding whole chosen_at made_at field_at checked_at each_at list_at option_at code_at signed_at text_at byte_at short long signed is_utf8 chars encode
short_has_place = (refl, refl, refl)

pub long_has_place : LongHasPlace
unfolding whole chosen_at made_at field_at checked_at each_at list_at option_at code_at signed_at text_at byte_at short long signed is_utf8 chars encode
long_has_place = refl

pub text_has_place : TextHasPlace
unfolding whole chosen_at made_at field_at checked_at each_at list_at option_at code_at signed_at text_at byte_at short long signed is_utf8 chars encode
text_has_place = (refl, refl, refl)

pub code_has_place : CodeHasPlace
unfolding whole chosen_at made_at field_at checked_at each_at list_at option_at code_at signed_at text_at byte_at short long signed is_utf8 chars encode
code_has_place = (refl, refl)

pub span_has_place : SpanHasPlace
unfolding whole chosen_at made_at field_at checked_at each_at list_at option_at code_at signed_at text_at byte_at short long signed is_utf8 chars encode
span_has_place = (refl, refl)

pub no_tombstones_have_place : NoTombstonesHavePlace
unfolding whole chosen_at made_at field_at checked_at each_at list_at option_at code_at signed_at text_at byte_at short long signed is_utf8 chars encode
no_tombstones_have_place = refl
