-- The worked cases of the laws on locks.
use Rattle.std.proofs.Common.{[], inl, refl, ◌∷◌}
use Rattle.std.specs.Prelude.{codes}
use Rattle.laws_chunks.specs.ChunksSound.{AreChunksSound}
use Rattle.cases_locks.specs.Day.{replacer, want_hour, writer}
use Rattle.scenes.specs.Script.{now}
use Rattle.cases_locks.specs.LockCases.{LocksAreGained, LocksAreLost, OthersAreChanged, first_version, one_granted, strong_row, third_lock, two_granted, under, want_third}
use Rattle.laws_chunks.specs.LockMoves.{IsGrant}
use Rattle.cases_locks.proofs.DayBooks.{under_reached}
use Rattle.laws_chunks.proofs.GrantedRequests.{granted_keeps}
use Rattle.laws_chunks.proofs.GrantingLocks.{grant_keeps}
use Rattle.laws_chunks.proofs.LeavingAll.{leave_all_keeps}
use Rattle.laws_chunks.proofs.LosingLocks.{join_keeps, leave_keeps, revoke_keeps}
use Rattle.laws_chunks.proofs.OtherTables.{others_keep}
use Rattle.laws_chunks.proofs.SeveralRequests.{all_granted_keeps}

pub under_sound : AreChunksSound under
under_sound = under_reached.chunks

pub locks_are_lost : LocksAreLost
locks_are_lost = record {
  has_locks = refl;
  has_pending = refl;
  has_upgrade = refl;
  revoked_both = record { before = under_sound; changed = revoke_keeps (1 ∷ 2 ∷ []) under under_sound };
  revoked_locks = refl;
  revoked_pendings = refl;
  revoked_upgrades = refl;
  left_one = record { before = under_sound; changed = leave_keeps 1 writer under under_sound };
  left_locks = refl;
  left_pendings = refl;
  left_upgrades = refl;
  left_all = record { before = under_sound; changed = leave_all_keeps replacer under under_sound };
  all_locks = refl;
  all_pendings = refl;
  all_upgrades = refl;
}

pub third_granted : IsGrant under third_lock now
third_granted = record { number_is = refl; since_is = refl; version_is = inl (refl, refl, refl); goes = ((λ a b. refl), ((λ a b. refl), tt)) }

pub locks_are_gained : LocksAreGained
locks_are_gained = record {
  joined = record { before = under_sound; changed = join_keeps (1 ∷ []) (codes "x") under under_sound };
  joined_members = refl;
  is_grant = third_granted;
  third = record { before = under_sound; changed = grant_keeps third_lock now under third_granted under_sound };
  third_locks = refl;
  one_is = refl;
  one = record { before = under_sound; changed = granted_keeps under now strong_row want_hour one_granted refl under_sound };
  one_locks = refl;
  one_pendings = refl;
  two_are = refl;
  two = record { before = under_sound; changed = all_granted_keeps under now strong_row (want_hour ∷ want_third ∷ []) two_granted refl under_sound };
  two_locks = refl;
  two_upgrades = refl;
}

pub others_are_changed : OthersAreChanged
others_are_changed = record {
  both = record { before = under_sound; changed = others_keep first_version [] [] [] [] under under_sound };
  clock_is = refl;
  tasks_are = refl;
  locks_are = refl;
}
