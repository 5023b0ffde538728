-- The worked cases, by computation.
use Rattle.std.proofs.Common.{None, [], inl, refl}
use Rattle.std.specs.Str.{chars, is_utf8}
use lib.Utf8.{encode}
use Rattle.std.specs.Prelude.{codes}
use Rattle.iv_time.specs.declared.granularity.Granularity.TheVariants as Granularities
use Rattle.book_rows.specs.declared.kinds.LockKind.TheVariants as LockKinds
use Rattle.laws_sound.proofs.Joined.{reached_books_are_sound}
use Rattle.cases_shown.specs.AllocatedCases.{AllocatedDay, LostDay}
use Rattle.cases_shown.specs.SoundCases.{locked}
use Rattle.cases_shown.specs.SoundScene.{started}
use Rattle.scenes.specs.Script.{minutes, now, p}
use Rattle.scenes.specs.Rows.{hour_pending, p_lock}

pub allocated_day : AllocatedDay
unfolding is_utf8 chars encode
allocated_day = (
  reached_books_are_sound started refl,
  refl,
  record { task = p; kind = LockKinds.Append; sequence = codes "s"; previous = None; at = minutes 310; granularity = Granularities.Hour; now = now; revoked = []; command_is = refl; answered = refl },
  record { lock = record { lock = p_lock; is_valid = record { among = inl refl; valid = refl }; number_is = refl }; not_added = λ i. i },
  reached_books_are_sound locked refl,
  (hour_pending, inl refl, refl, refl, refl),
  refl,
  refl,
  refl,
  refl,
)

pub lost_day : LostDay
unfolding is_utf8 chars encode
lost_day = (refl, refl, refl)
