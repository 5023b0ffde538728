-- The worked cases on ids, by computation.
use Rattle.std.proofs.Common.{refl}
use Rattle.std.specs.Str.{chars, is_utf8}
use lib.Utf8.{encode}
use Rattle.laws_sound.proofs.Joined.{reached_books_are_sound}
use Rattle.cases_shown.specs.IdCases.{ChunkGoesOn, DroppedRowWasThere, GivenIdIsInsertedByNone, KnownIdIsAnswered, LostCopyIsPutByNone, LostIdIsNowhere, LostIdIsPutByNone, inserted_run, lost_copy}
use Rattle.cases_shown.specs.RevocationScenes.{allocated_run}
use Rattle.laws_revocation.proofs.Numbering.{reached_has_numbers}
use Rattle.cases_shown.proofs.WorkedLocks.{over_as_revoked}

pub chunk_goes_on : ChunkGoesOn
chunk_goes_on = (refl, refl, refl, refl)

pub known_id_is_answered : KnownIdIsAnswered
unfolding is_utf8 chars encode
known_id_is_answered = (reached_has_numbers allocated_run, refl, refl, refl, refl, refl)

pub lost_id_is_put_by_none : LostIdIsPutByNone
unfolding is_utf8 chars encode
lost_id_is_put_by_none = (reached_books_are_sound allocated_run refl, refl, refl, over_as_revoked, refl, refl, refl, refl, refl, refl, refl, refl)

pub lost_id_is_nowhere : LostIdIsNowhere
unfolding is_utf8 chars encode
lost_id_is_nowhere = (reached_books_are_sound allocated_run refl, refl, over_as_revoked, refl, refl, refl, refl)

pub lost_copy_is_put_by_none : LostCopyIsPutByNone
unfolding is_utf8 chars encode
lost_copy_is_put_by_none = (reached_has_numbers lost_copy, refl, λ p i e. i, refl, refl, refl, refl, refl, refl, refl)

pub given_id_is_inserted_by_none : GivenIdIsInsertedByNone
unfolding is_utf8 chars encode
given_id_is_inserted_by_none = (reached_has_numbers inserted_run, refl, refl, refl, refl, refl, refl)

pub dropped_row_was_there : DroppedRowWasThere
unfolding is_utf8 chars encode
dropped_row_was_there = (refl, reached_has_numbers inserted_run, refl, λ p i e. i, refl, refl, refl, refl)
