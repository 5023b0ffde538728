-- The book of the worked cases is sound: but for tasks, supervisors and sequences it has no rows.
use Rattle.std.proofs.Common.{◌≡◌, List, [], refl}
use Rattle.std.specs.Fmt.{digits}
use Rattle.std.specs.Str.{chars, is_utf8}
use lib.Utf8.{encode}
use Rattle.book_rows.specs.Rules.{ShowsContents}
use Rattle.book_rows.specs.Shape.{HasKeys, IsLimited}
use Rattle.book_rows.specs.Sound.{Sound}
use Rattle.book_rows.specs.Tiles.{IsTiled}
use Rattle.book_rows.specs.declared.rows.OffsetRow.{OffsetRow}
use Rattle.book_rows.specs.declared.rows.Publication.{Publication}
use Rattle.book_rows.specs.declared.rows.SegmentRow.{SegmentRow}
use Rattle.cases_streams.specs.SequenceScenes.{second_opened}
use Rattle.scenes.specs.Script.{after}
use Rattle.laws_sequences.proofs.SequencesKept.{sequences_stay_sound}
use Rattle.cases_streams.proofs.WorkedRows.{forms_opened, rows_opened}
use Rattle.book_rows.proofs.EmptySound.{dead}

-- nothing is shown, and nothing is stored
nothing_shown : (rows : List SegmentRow) (ms : List Publication) → rows ≡ [] → ms ≡ [] → ShowsContents rows ms
nothing_shown rows ms e f source t root = rw (e, f) refl

nothing_tiled : (ms : List Publication) (os : List OffsetRow) → ms ≡ [] → os ≡ [] → IsTiled ms os
nothing_tiled ms os e f source stream partition = rw (e, f) refl

limits : IsLimited (after second_opened)
unfolding digits chars is_utf8 encode
limits = record {
  room = refl;
  clock = refl;
  last = refl;
  tasks = refl;
  posses = refl;
  chunks = refl;
  segments = refl;
  pendings = refl;
  upgrades = refl;
  publications = refl;
  offsets = refl;
  supervisors = refl;
  sequences = refl;
  kinds = refl;
  states = refl;
}

keys : HasKeys (after second_opened)
unfolding digits
keys = record {
  tasks = rows_opened.keys;
  numbers = tt;
  ascending = tt;
  below = tt;
  chunks = tt;
  ids = tt;
  upgrades = tt;
  offsets = tt;
  supervisors = (tt, tt);
  sequences = ((refl, (refl, tt)), ((refl, tt), (tt, tt)));
  requests = tt;
  once = tt;
}

pub opened_is_sound : Sound (after second_opened)
unfolding digits
opened_is_sound = record {
  shape = record {
    limits = limits;
    keys = keys;
    versions = record { locks = refl; chunks = refl; kinds = refl; distinct = tt };
    members = λ q i. absurd i;
    chunks = record { segments = λ a i. absurd i; pendings = λ a i. absurd i; adds = λ a i. absurd i; empties = λ a i. absurd i };
    commits = record { commits = refl; locks = refl; spans = refl };
    roots = record { tombstones = λ r i. absurd i; others = λ r i. absurd i };
  };
  compatible_locks = tt;
  one_span = λ a b l. absurd (dead a l);
  below_locks = λ a q l. absurd (dead a l);
  rooted = λ p i. absurd i;
  upgrades = λ u i. absurd i;
  cores = record {
    live = λ c a i. absurd i;
    owned = λ c q i. absurd i;
    zero_version = λ c i. absurd i;
    shared = λ c q i. absurd i;
    replace = λ c q i. absurd i;
    within = λ c q i. absurd i;
  };
  copies = record {
    cores = λ a b d l. absurd (dead a l);
    contains = λ r b i. absurd i;
    copies = λ r b i. absurd i;
  };
  carried = λ q t root v. absurd v.among;
  shown_contents = nothing_shown (after second_opened).segments (after second_opened).publications refl refl;
  tiled = nothing_tiled (after second_opened).publications (after second_opened).offsets refl refl;
  sequences = sequences_stay_sound second_opened forms_opened;
}
