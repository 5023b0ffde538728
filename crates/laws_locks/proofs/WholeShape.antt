-- The shape of a whole book holds that of its tasks and locks.
use Rattle.laws_locks.specs.Moves.{ShapeHasLockShape}
use Rattle.laws_locks.proofs.Rooms.{all_room}

pub shape_has_lock_shape : ShapeHasLockShape
shape_has_lock_shape b h = record {
  room = all_room b h.limits.room;
  instants = record { clock = h.limits.clock; last = h.limits.last };
  tasks = record { rows = h.limits.tasks; keys = h.keys.tasks };
  locks = record {
    rows = h.limits.posses;
    numbers = h.keys.numbers;
    ascending = h.keys.ascending;
    below = h.keys.below;
    versions = h.versions.locks;
    kinds = h.versions.kinds;
    distinct = h.versions.distinct;
    since = h.commits.locks;
  };
  members = h.members;
}
