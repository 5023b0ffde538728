-- The book without rows is sound.
use Rattle.std.proofs.Common.{◌≡◌, ℕ, [], refl, inl, inr}
use Rattle.std.specs.Prelude.{Some}
use Rattle.seg_names.specs.declared.seg_id.SegId.{SegId}
use Rattle.book_rows.specs.Lists.{at_place}
use Rattle.book_rows.specs.Live.{IsLive}
use Rattle.book_rows.specs.Sound.{EmptyIsSound}
use Rattle.book_rows.specs.declared.rows.TaskRow.{TaskRow}

-- nothing is live
pub dead : (a : SegId) → IsLive [] [] a → ⊥
dead a (inl u) = u.1
dead a (inr p) = p.1

-- nothing has a place
nowhere : (k : ℕ) (t : TaskRow) → at_place k [] ≡ Some t → ⊥
nowhere k t e = cc

pub empty_is_sound : EmptyIsSound
empty_is_sound = record {
  shape = record {
    limits = record {
      room = refl;
      clock = refl;
      last = refl;
      tasks = refl;
      posses = refl;
      chunks = refl;
      segments = refl;
      pendings = refl;
      upgrades = refl;
      publications = refl;
      offsets = refl;
      supervisors = refl;
      sequences = refl;
      kinds = refl;
      states = refl;
    };
    keys = record {
      tasks = tt;
      numbers = tt;
      ascending = tt;
      below = tt;
      chunks = tt;
      ids = tt;
      upgrades = tt;
      offsets = tt;
      supervisors = tt;
      sequences = tt;
      requests = tt;
      once = tt;
    };
    versions = record { locks = refl; chunks = refl; kinds = refl; distinct = tt };
    members = λ q i. absurd i;
    chunks = record { segments = λ a i. absurd i; pendings = λ a i. absurd i; adds = λ a i. absurd i; empties = λ a i. absurd i };
    commits = record { commits = refl; locks = refl; spans = refl };
    roots = record { tombstones = λ r i. absurd i; others = λ r i. absurd i };
  };
  compatible_locks = tt;
  one_span = λ a b l. absurd (dead a l);
  below_locks = λ a q l. absurd (dead a l);
  rooted = λ p i. absurd i;
  upgrades = λ u i. absurd i;
  cores = record {
    live = λ c a i. absurd i;
    owned = λ c q i. absurd i;
    zero_version = λ c i. absurd i;
    shared = λ c q i. absurd i;
    replace = λ c q i. absurd i;
    within = λ c q i. absurd i;
  };
  copies = record {
    cores = λ a b d l. absurd (dead a l);
    contains = λ r b i. absurd i;
    copies = λ r b i. absurd i;
  };
  carried = λ q t root v. absurd v.among;
  shown_contents = λ source t root. refl;
  tiled = λ source stream partition. refl;
  sequences = record {
    sequences = λ u i. absurd i;
    groups = λ s i. absurd i;
    replicas = λ t i. absurd i;
    compactions = λ k t e. absurd (nowhere k t e);
    publications = λ m i. absurd i;
  };
}
