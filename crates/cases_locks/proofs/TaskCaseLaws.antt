-- The worked cases: their books are reached by the laws, and what they show is computed.
use Rattle.std.proofs.Common.{◌≡◌, ◌≢◌, ◌++◌, ◌∷◌, List, [], arith, inl, inr, refl, subst, sym, true, ℕ}
use Rattle.std.proofs.lemmas.Bool.{false≢true}
use Rattle.std.specs.List.{list_all}
use Rattle.std.specs.Fmt.{digits}
use Rattle.std.specs.Str.{chars, is_utf8}
use lib.Utf8.{encode}
use Rattle.std.specs.Prelude.{None, codes, pos}
use Rattle.iv_time.specs.declared.granularity.Granularity.TheVariants as Granularities
use Rattle.seg_names.specs.declared.seg_id.SegId.{SegId}
use Rattle.book_rows.specs.Answer.{empty_book, next}
use Rattle.book_rows.specs.Form.{KeepsForm, keeps_form}
use Rattle.book_rows.specs.Lists.{In}
use Rattle.book_rows.specs.Rules.{IsRooted}
use Rattle.book_rows.specs.Shape.{HasShape}
use Rattle.book_rows.specs.declared.commands.Command.{Command}
use Rattle.book_rows.specs.declared.commands.Command.TheVariants as Commands
use Rattle.book_rows.specs.declared.kinds.LockKind.TheVariants as LockKinds
use Rattle.book_rows.specs.declared.kinds.TaskStatus.TheVariants as Statuses
use Rattle.book_rows.specs.declared.rows.Book.{Book}
use Rattle.book_rows.specs.declared.rows.PendingRow.{PendingRow}
use Rattle.cases_locks.specs.TaskCases.{ALateReplicaFails, AReplicaIsAdded, AnIdIsAllocated, BothAreCompatible, IsStep, LocksAreGranted, LocksAreLeft, MovesAreMade, OddStaysCompatible, ShapeIsMet, TwoAreGranted, allocated, an_hour_on, append_lock, both, high, high_row, late, locked, low, odd, other, replace_lock, replica_locked, reported, shared, source, started, submit_last, submitted, supervised, the_end, two_granted, two_wants}
use Rattle.scenes.specs.Script.{after, now}
use Rattle.scenes.specs.Supervising.{r000}
use Rattle.scenes.specs.Publishing.{reset_nothing}
use Rattle.cases_locks.specs.Day.{hour}
use Rattle.laws_locks.specs.Commands.{HasPlaces, ticked_tasks}
use Rattle.laws_locks.specs.LockShape.{AreTaskRows, HasSoundLocks}
use Rattle.laws_locks.specs.Runs.{IsCompatible}
use Rattle.laws_locks.proofs.Allocating.{allocate_keeps_locks}
use Rattle.laws_locks.proofs.EachCommand.{compatible_stays}
use Rattle.laws_locks.proofs.Ending.{fail_keeps_locks, leave_keeps_locks}
use Rattle.laws_locks.proofs.Granting.{grant_keeps_locks}
use Rattle.laws_locks.proofs.Reaching.{after_sound, empty_sound, is_of_locks, next_sound, valid_locks_are_compatible}
use Rattle.laws_locks.proofs.Ticking.{tick_keeps_locks}
use Rattle.laws_locks.proofs.WholeShape.{shape_has_lock_shape}

-- ---- books that commands lead to which neither allocate nor tick

reached : (cs : List Command) → list_all is_of_locks cs ≡ true → list_all keeps_form cs ≡ true → HasSoundLocks (after cs)
reached cs kinds forms = after_sound cs empty_book kinds forms empty_sound

submitted_sound : HasSoundLocks (after submitted)
unfolding is_utf8 chars encode
submitted_sound = reached submitted refl refl

started_sound : HasSoundLocks (after started)
unfolding is_utf8 chars encode
started_sound = reached started refl refl

locked_sound : HasSoundLocks (after locked)
unfolding is_utf8 chars encode
locked_sound = reached locked refl refl

shared_sound : HasSoundLocks (after shared)
unfolding is_utf8 chars encode
shared_sound = reached shared refl refl

step : (b : Book) (c : Command) → is_of_locks c ≡ true → KeepsForm c → HasSoundLocks b → IsStep b c
step b c is form h = record { form = form; before = h; after = next_sound b c is form h }

-- ---- locks are granted and left

pub locks_are_granted : LocksAreGranted
unfolding is_utf8 chars encode
locks_are_granted = record {
  manage = step (after submitted) (Commands.Manage now) refl refl submitted_sound;
  granted = refl;
  running = refl;
  lock = step (after started) (Commands.Lock high LockKinds.Exclusive hour now) refl refl started_sound;
  revoked = refl;
  join = step (after locked) (Commands.Lock other LockKinds.Exclusive hour now) refl refl locked_sound;
  joined = refl;
  submit = step (after shared) submit_last refl refl shared_sound;
  submitted_row = refl;
}

pub locks_are_left : LocksAreLeft
unfolding is_utf8 chars encode
locks_are_left = record {
  unlock = step (after shared) (Commands.Unlock low 1) refl refl shared_sound;
  unlocked = refl;
  end = step (after shared) (Commands.End high Statuses.Success) refl refl shared_sound;
  ended = refl;
  ended_row = refl;
}

-- ---- small changes

pub moves_are_made : MovesAreMade
moves_are_made =
    let fails = fail_keeps_locks low Statuses.Failed (after shared) shared_sound in
    record {
      before = shared_sound;
      left = leave_keeps_locks 2 high (after shared) shared_sound;
      left_is = refl;
      failed = fails.0;
      failed_is = refl;
      of_none = fails.1;
    }

pub two_are_granted : TwoAreGranted
two_are_granted = record {
  before = started_sound;
  among = inr (inl refl);
  wants = refl;
  instant = refl;
  granted = refl;
  room = refl;
  kept = grant_keeps_locks (after started) (high_row high Statuses.Running) two_wants now two_granted started_sound (inr (inl refl)) refl refl refl refl refl;
  kept_is = refl;
}

-- ---- the whole shape

pub shape_is_met : ShapeIsMet
unfolding is_utf8 chars encode
shape_is_met = let whole = shape in (whole, shape_has_lock_shape (after shared) whole) where
  shape : HasShape (after shared)
  shape = record {
    limits = record {
      room = refl;
      clock = refl;
      last = refl;
      tasks = refl;
      posses = refl;
      chunks = refl;
      segments = refl;
      pendings = refl;
      upgrades = refl;
      publications = refl;
      offsets = refl;
      supervisors = refl;
      sequences = refl;
      kinds = refl;
      states = refl;
    };
    keys = record {
      tasks = ((refl, (refl, tt)), ((refl, tt), (tt, tt)));
      numbers = ((refl, tt), (tt, tt));
      ascending = shared_sound.0.locks.ascending;
      below = shared_sound.0.locks.below;
      chunks = tt;
      ids = tt;
      upgrades = tt;
      offsets = tt;
      supervisors = tt;
      sequences = tt;
      requests = tt;
      once = tt;
    };
    versions = record { locks = refl; chunks = refl; kinds = refl; distinct = ((refl, tt), (tt, tt)) };
    members = shared_sound.0.members;
    chunks = record { segments = λ a i. absurd i; pendings = λ a i. absurd i; adds = λ a i. absurd i; empties = λ a i. absurd i };
    commits = record { commits = refl; locks = refl; spans = refl };
    roots = record { tombstones = λ r i. absurd i; others = λ r i. absurd i };
  }

-- ---- allocating

started_places : HasPlaces (after started)
started_places = record { segments = refl; pendings = refl; rooted = λ p i. absurd i }

allocated_sound : HasSoundLocks (after allocated)
unfolding is_utf8 chars encode
allocated_sound = allocate_keeps_locks high LockKinds.Append (codes "s") None (pos 0) Granularities.Hour now (after started) refl started_places started_sound

the_id : SegId
the_id = record { source = source; span = hour; version = pos 0; part = 0 }

the_pending : PendingRow
unfolding the_id
the_pending = record { id = the_id; root = the_id; posse = 2; sequence = codes "s"; previous = None }

allocated_places : HasPlaces (after allocated)
unfolding is_utf8 chars encode the_id the_pending
allocated_places = record { segments = refl; pendings = refl; rooted = rooted } where
  rooted : (p : PendingRow) → In p (after allocated).pendings → IsRooted (after allocated).posses (after allocated).pendings p
  rooted p (inl e) = subst (λ (x : PendingRow). IsRooted (after allocated).posses (after allocated).pendings x) (sym e) (record {
    has_root = record { root = the_pending; among = inl refl; is_root = refl; root_is = refl; posse_is = refl; sequence_is = refl; previous_is = refl };
    has_posse = record { posse = append_lock 2 hour; is_valid = record { among = inr (inl refl); valid = refl }; number_is = refl; source_is = refl; covers_root = refl };
    kind_is = inl refl;
  })
  rooted p (inr i) = absurd i

pub an_id_is_allocated : AnIdIsAllocated
unfolding is_utf8 chars encode
an_id_is_allocated = record {
  places = allocated_places;
  allocate = record {
    form = refl;
    before = allocated_sound;
    after = allocate_keeps_locks high LockKinds.Append (codes "t") None (pos 3600000) Granularities.Hour now (after allocated) refl allocated_places allocated_sound;
  };
  before_is = refl;
  after_is = refl;
}

-- ---- a step of the clock, and a reset

supervised_sound : HasSoundLocks (after supervised)
unfolding is_utf8 chars encode
supervised_sound = reached supervised refl refl

ticked_rows : AreTaskRows ((after supervised).tasks ++ ticked_tasks (after supervised) now)
unfolding is_utf8 chars encode digits
ticked_rows = record { rows = refl; keys = ((refl, (refl, (refl, tt))), ((refl, (refl, tt)), ((refl, tt), (tt, tt)))) }

ticked_sound : HasSoundLocks (next (after supervised) (Commands.Tick now))
ticked_sound = tick_keeps_locks now (after supervised) refl ticked_rows supervised_sound

replica_sound : HasSoundLocks (after replica_locked)
unfolding is_utf8 chars encode digits
replica_sound = after_sound (Commands.Manage now ∷ Commands.Lock r000 LockKinds.Append hour now ∷ []) (next (after supervised) (Commands.Tick now)) refl refl ticked_sound

pub a_replica_is_added : AReplicaIsAdded
unfolding is_utf8 chars encode digits
a_replica_is_added = record {
  rows = ticked_rows;
  tick = record { form = refl; before = supervised_sound; after = ticked_sound };
  ticked = refl;
  publishes = refl;
  reset = step (after replica_locked) reset_nothing refl refl replica_sound;
  before_is = refl;
  after_is = refl;
  failed = refl;
  dropped = refl;
  end = step (after replica_locked) the_end refl refl replica_sound;
  ended_is = refl;
  abandoned = refl;
}

hour_rows : AreTaskRows ((after replica_locked).tasks ++ ticked_tasks (after replica_locked) an_hour_on)
unfolding is_utf8 chars encode digits
hour_rows = record { rows = refl; keys = ((refl, (refl, (refl, tt))), ((refl, (refl, tt)), ((refl, tt), (tt, tt)))) }

reported_sound : HasSoundLocks (after reported)
unfolding is_utf8 chars encode digits
reported_sound = after_sound (Commands.Paused r000 (record { partition = 0; offset = 10 } ∷ []) ∷ []) (next (after replica_locked) (Commands.Tick an_hour_on)) refl refl (tick_keeps_locks an_hour_on (after replica_locked) refl hour_rows replica_sound)

late_rows : AreTaskRows ((after reported).tasks ++ ticked_tasks (after reported) late)
unfolding is_utf8 chars encode digits
late_rows = record { rows = refl; keys = ((refl, (refl, (refl, (refl, tt)))), ((refl, (refl, (refl, tt))), ((refl, (refl, tt)), ((refl, tt), (tt, tt))))) }

pub a_late_replica_fails : ALateReplicaFails
unfolding is_utf8 chars encode digits
a_late_replica_fails = record {
  rows = late_rows;
  tick = record { form = refl; before = reported_sound; after = tick_keeps_locks late (after reported) refl late_rows reported_sound };
  before_is = refl;
  after_is = refl;
  failed = refl;
}

-- ---- compatible locks

odd_compatible : IsCompatible odd
odd_compatible = ((λ a b. absurd (false≢true (sym a)), tt), (tt, tt))

pub odd_stays_compatible : OddStaysCompatible
odd_stays_compatible = (odd_compatible, compatible_stays odd (Commands.Lock high LockKinds.Exclusive hour now) odd_compatible, refl)

first_differs : ◌≢◌ {A = ℕ} 0 1
first_differs e = omega (arith, e)

pub both_are_compatible : BothAreCompatible
both_are_compatible = record {
  first = refl;
  second = refl;
  differ = first_differs;
  meet = refl;
  compatible_both = valid_locks_are_compatible both 0 1 replace_lock (append_lock 2 hour) refl refl first_differs refl refl;
  first_revoked = refl;
  second_valid = refl;
  not_compatible = refl;
}
