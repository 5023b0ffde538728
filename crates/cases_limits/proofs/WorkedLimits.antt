-- The worked cases, computed.
use Rattle.std.proofs.Common.{refl}
use Rattle.std.specs.Fmt.{digits}
use Rattle.std.specs.Str.{chars, is_utf8}
use lib.Utf8.{encode}
use Rattle.book_rows.proofs.EmptySound.{empty_is_sound}
use Rattle.cases_rules.proofs.SoundBookLaws.{sound_after_revocation}
use Rattle.cases_rules.proofs.SoundStreamLaws.{sound_under_lock}
use Rattle.cases_limits.specs.LimitCases.{AllIsLimited, AllocatedIsLimited, AppendedIsLimited, EachKindIsLimited, FullDayHasRoom, LastPartHasRoom, MovedAreLimited, NumbersStayInRoom, OpenedAreLimited, ReplacedIsLimited, SupervisorIsLimited, TasksStayInRoom}
use Rattle.cases_limits.proofs.SupervisedBook.{supervised_is_sound}

-- ---- room

pub numbers_stay_in_room : NumbersStayInRoom
unfolding is_utf8 chars encode
numbers_stay_in_room = (refl, refl, refl, refl, refl, refl, refl)

pub tasks_stay_in_room : TasksStayInRoom
tasks_stay_in_room = (refl, refl, refl, refl, refl)

pub last_part_has_room : LastPartHasRoom
unfolding is_utf8 chars encode
last_part_has_room = (refl, refl, refl, refl, refl, refl)

pub full_day_has_room : FullDayHasRoom
unfolding is_utf8 chars encode
full_day_has_room = (refl, refl, refl)

-- ---- publications and supervisors

pub each_kind_is_limited : EachKindIsLimited
unfolding is_utf8 chars encode
each_kind_is_limited = (
  ((sound_under_lock, refl, refl), refl, record { publications = refl; kinds = refl; supervisors = refl }),
  ((sound_after_revocation, refl, refl), refl, record { publications = refl; kinds = refl; supervisors = refl }),
  ((sound_under_lock, refl, refl), refl, record { publications = refl; kinds = refl; supervisors = refl }),
  ((empty_is_sound, refl, refl), refl, record { publications = refl; kinds = refl; supervisors = refl }),
  ((empty_is_sound, refl, refl), refl, record { publications = refl; kinds = refl; supervisors = refl }),
)

pub supervisor_is_limited : SupervisorIsLimited
supervisor_is_limited = ((empty_is_sound, refl, refl), refl, record { publications = refl; kinds = refl; supervisors = refl })

-- ---- chunks, segments, pendings and upgrade rows

pub allocated_is_limited : AllocatedIsLimited
unfolding is_utf8 chars encode
allocated_is_limited = ((sound_under_lock, refl, refl), refl, refl, record { chunks = refl; segments = refl; pendings = refl; upgrades = refl })

pub appended_is_limited : AppendedIsLimited
unfolding is_utf8 chars encode
appended_is_limited = ((sound_under_lock, refl, refl), refl, refl, record { chunks = refl; segments = refl; pendings = refl; upgrades = refl })

pub replaced_is_limited : ReplacedIsLimited
unfolding is_utf8 chars encode
replaced_is_limited = ((sound_under_lock, refl, refl), refl, refl, refl, record { chunks = refl; segments = refl; pendings = refl; upgrades = refl })

-- ---- sequences

pub opened_are_limited : OpenedAreLimited
unfolding digits is_utf8 chars encode
opened_are_limited = ((supervised_is_sound, refl, refl), refl, record { sequences = refl; states = refl })

pub moved_are_limited : MovedAreLimited
unfolding digits is_utf8 chars encode
moved_are_limited = (
  (refl, refl, record { sequences = refl; states = refl }, refl, record { sequences = refl; states = refl }),
  (refl, refl, record { sequences = refl; states = refl }, refl, record { sequences = refl; states = refl }),
  (refl, refl, record { sequences = refl; states = refl }, refl, record { sequences = refl; states = refl }),
  (refl, refl, record { sequences = refl; states = refl }, refl, record { sequences = refl; states = refl }),
)

-- ---- all of it

pub all_is_limited : AllIsLimited
unfolding is_utf8 chars encode
all_is_limited = (
  (sound_under_lock, refl, refl),
  record {
    room = refl;
    chunks = refl;
    segments = refl;
    pendings = refl;
    upgrades = refl;
    publications = refl;
    supervisors = refl;
    sequences = refl;
    kinds = refl;
    states = refl;
  },
)
