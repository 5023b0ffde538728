-- The worked cases: soundness and texts by the laws, and the rest by computation.
use Rattle.std.proofs.Common.{◌++◌, ◌≡◌, false, refl, true}
use Rattle.std.proofs.lemmas.Bool.{false≢true}
use Rattle.std.specs.Str.{chars, is_utf8}
use lib.Utf8.{encode}
use Rattle.book_rows.specs.Sound.{Sound}
use Rattle.scenes.specs.Script.{after}
use Rattle.laws_sound.proofs.Joined.{reached_books_are_sound}
use Rattle.laws_texts.proofs.EachCommand.{answers_have_texts, sound_has_limited_rows}
use Rattle.cases_texts.specs.EdgeCases.{FirstHourHasTexts, LastHourHasTexts, LastMinuteHasNoBucket, PastEndHasNone, UnsoundHasNone, ask_first, ask_last, begun, last_commands, started, unsound}

started_sound : Sound (after started)
unfolding is_utf8 chars encode
started_sound = reached_books_are_sound started refl

begun_sound : Sound (after begun)
unfolding is_utf8 chars encode
begun_sound = reached_books_are_sound begun refl

pub last_hour_has_texts : LastHourHasTexts
unfolding is_utf8 chars encode
last_hour_has_texts = (refl, started_sound, reached_books_are_sound (started ++ last_commands) refl, (sound_has_limited_rows (after started) started_sound).locks, refl, refl, refl)

pub last_minute_has_no_bucket : LastMinuteHasNoBucket
unfolding is_utf8 chars encode
last_minute_has_no_bucket = (refl, started_sound, sound_has_limited_rows (after started) started_sound, refl, refl, refl, answers_have_texts (after started) ask_last refl started_sound)

pub first_hour_has_texts : FirstHourHasTexts
unfolding is_utf8 chars encode
first_hour_has_texts = (refl, begun_sound, refl, refl, answers_have_texts (after begun) ask_first refl begun_sound)

-- the lock isn't within its limits
too_long_lock : Sound unsound → false ≡ true
unfolding is_utf8 chars encode
too_long_lock h = h.shape.limits.posses

pub unsound_has_none : UnsoundHasNone
unfolding is_utf8 chars encode
unsound_has_none = (refl, λ h. false≢true (too_long_lock h), refl)

pub past_end_has_none : PastEndHasNone
unfolding is_utf8 chars encode
past_end_has_none = (refl, started_sound, refl, refl, refl)
