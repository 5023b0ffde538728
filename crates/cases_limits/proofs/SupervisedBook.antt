-- The book of one supervisor and nothing else is sound.
use Rattle.std.proofs.Common.{refl}
use Rattle.book_rows.proofs.EmptySound.{empty_is_sound}
use Rattle.book_rows.specs.Sound.{Sound}
use Rattle.cases_limits.specs.SoundScenes.{one_supervisor}

-- but for the supervisor, as the book without rows
pub supervised_is_sound : Sound one_supervisor
supervised_is_sound = let e = empty_is_sound in record {
  shape = record {
    limits = record {
      room = refl;
      clock = refl;
      last = refl;
      tasks = refl;
      posses = refl;
      chunks = refl;
      segments = refl;
      pendings = refl;
      upgrades = refl;
      publications = refl;
      offsets = refl;
      supervisors = refl;
      sequences = refl;
      kinds = refl;
      states = refl;
    };
    keys = record {
      tasks = tt;
      numbers = tt;
      ascending = tt;
      below = tt;
      chunks = tt;
      ids = tt;
      upgrades = tt;
      offsets = tt;
      supervisors = (tt, tt);
      sequences = tt;
      requests = tt;
      once = tt;
    };
    versions = e.shape.versions;
    members = e.shape.members;
    chunks = record { segments = e.shape.chunks.segments; pendings = e.shape.chunks.pendings; adds = e.shape.chunks.adds; empties = e.shape.chunks.empties };
    commits = e.shape.commits;
    roots = record { tombstones = e.shape.roots.tombstones; others = e.shape.roots.others };
  };
  compatible_locks = e.compatible_locks;
  one_span = e.one_span;
  below_locks = e.below_locks;
  rooted = e.rooted;
  upgrades = e.upgrades;
  cores = e.cores;
  copies = e.copies;
  carried = e.carried;
  shown_contents = e.shown_contents;
  tiled = e.tiled;
  sequences = record {
    sequences = λ u i. absurd i;
    groups = λ s i group. record { counted = refl; own = tt; chained = tt };
    replicas = λ t i. absurd i;
    compactions = e.sequences.compactions;
    publications = λ m i. absurd i;
  };
}
