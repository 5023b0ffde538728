-- The worked cases, by computation.
use Rattle.std.proofs.Common.{pos, refl, inl, inr}
use Rattle.std.specs.Str.{chars, is_utf8}
use lib.Utf8.{encode}
use Rattle.book_rows.specs.declared.kinds.LockKind.TheVariants as LockKinds
use Rattle.cases_shown.specs.RevocationCases.{AppendIsLost, AppendUnderLock, CopyIsGivenOnce, IdIsGivenOnce, InsertIsLost, KnownIdIsLost, LockComesAndGoes, LockIsLost, NewIdIsLost, PendingComesAndGoes, ReplaceIsLost, SpansUnderLocks, VersionIsLost}
use Rattle.laws_revocation.specs.LostLocks.{HasLost, Runs}
use Rattle.laws_revocation.proofs.Numbering.{reached_has_numbers}
use Rattle.cases_shown.specs.RevocationScenes.{c_row, half_lost, lost_row, revoked_run}
use Rattle.scenes.specs.Script.{after, c, hour, now, now1, w}

pub lock_comes_and_goes : LockComesAndGoes
lock_comes_and_goes = (refl, refl, refl, refl, refl, refl)

pub pending_comes_and_goes : PendingComesAndGoes
pending_comes_and_goes = (refl, refl, refl, refl, refl)

pub id_is_given_once : IdIsGivenOnce
unfolding is_utf8 chars encode
id_is_given_once = (refl, refl, refl, refl, refl, refl, refl, refl, refl, refl)

pub copy_is_given_once : CopyIsGivenOnce
unfolding is_utf8 chars encode
copy_is_given_once = (refl, refl, refl, refl, refl, refl, refl, refl)

-- ---- what the compaction lost

c_runs : Runs (after revoked_run) c c_row
c_runs = record { found = refl; runs = refl }

hour_lost : HasLost (after revoked_run).posses c w hour
hour_lost = record { lock = lost_row 1 LockKinds.Append (pos 0); among = inl refl; lost = refl }

pub lock_is_lost : LockIsLost
lock_is_lost = (c_runs, hour_lost, refl, refl)

pub new_id_is_lost : NewIdIsLost
new_id_is_lost = (c_runs, hour_lost, refl, refl, refl)

pub known_id_is_lost : KnownIdIsLost
known_id_is_lost = (
  record { found = refl; runs = refl },
  record { lock = lost_row 2 LockKinds.Replace now; among = inr (inl refl); lost = refl },
  refl,
  refl,
  refl,
)

pub insert_is_lost : InsertIsLost
insert_is_lost = (
  record { runs = record { found = refl; runs = refl }; new = refl; fitting = refl; held = refl },
  record { lock = lost_row 2 LockKinds.Exclusive now1; among = inr (inl refl); lost = refl },
  refl,
  refl,
)

pub replace_is_lost : ReplaceIsLost
replace_is_lost = (
  record { runs = record { found = refl; runs = refl }; new = refl; fitting = refl; held = refl },
  record { lock = lost_row 2 LockKinds.Replace now1; among = inr (inl refl); lost = refl },
  refl,
  refl,
)

pub append_is_lost : AppendIsLost
append_is_lost = (record { found = refl; runs = refl }, refl, refl, refl, refl, refl, refl)

-- ---- publishes and their locks

pub append_under_lock : AppendUnderLock
append_under_lock = (refl, refl, refl, refl)

pub spans_under_locks : SpansUnderLocks
spans_under_locks = (refl, refl, refl, refl, refl)

pub version_is_lost : VersionIsLost
unfolding is_utf8 chars encode
version_is_lost = (
  reached_has_numbers (half_lost LockKinds.Exclusive),
  ((refl, (refl, tt)), ((refl, tt), (tt, tt))),
  record { among = inr (inl refl); revoked = refl; kind_is = refl },
  refl,
  refl,
  refl,
  refl,
  refl,
  refl,
  refl,
  refl,
)
