-- What replacements carry, what is shown and what was read: the least row that breaks each rule. What is said of every instant is tested at the ends of spans.
use Rattle.std.specs.Prelude.{◌++◌, ◌==◌, ◌||◌, Bool, List, None, Option, Some, [], false, map, not, true, ℕ}
use Rattle.std.specs.List.{list_all}
use Rattle.book_rows.specs.Lists.{gathered}
use Rattle.book_rows.specs.Offsets.{stored}
use Rattle.book_rows.specs.Tiles.{ends_with, run_of}
use Rattle.book_rows.specs.declared.rows.Book.{Book}
use Rattle.book_rows.specs.declared.rows.ChunkRow.{ChunkRow}
use Rattle.book_rows.specs.declared.rows.OffsetRow.{OffsetRow}
use Rattle.book_rows.specs.declared.rows.PosseRow.{PosseRow}
use Rattle.book_rows.specs.declared.rows.Publication.{Publication}
use Rattle.book_rows.specs.declared.rows.Range.{Range}
use Rattle.book_rows.specs.declared.rows.Ranges.{Ranges}
use Rattle.book_rows.specs.declared.rows.UpgradeRow.{UpgradeRow}
use Rattle.laws_shown.specs.Tests.{is_replacing_lock, root_is_carried, shows_contents, upgrade_roots}
use Rattle.laws_unsound.specs.Counts.{before_posses}
use Rattle.laws_unsound.specs.Rows.{first_failing, zero_unless}

-- ---- carried, lock by lock

abbrev pub carries : List ChunkRow → List UpgradeRow → List Publication → PosseRow → Bool
carries cs us pubs q = not (is_replacing_lock q) || list_all (root_is_carried cs us pubs q) (upgrade_roots us pubs)

abbrev pub carried_row : Book → Option ℕ
carried_row b = first_failing (before_posses b) (carries b.chunks b.upgrades b.publications) b.posses

-- ---- shown

abbrev pub shown_row : Book → Option ℕ
shown_row b = zero_unless (shows_contents b.segments b.publications)

-- ---- tiled

-- what a publication reads of, and an offset is stored of
pub record Key : Type 0 where
  pub source : List ℕ
  pub stream : List ℕ
  pub partition : ℕ

abbrev pub part_key : List ℕ → List ℕ → Range → Key
part_key source stream r = record { source = source; stream = stream; partition = r.partition }

abbrev pub row_key : OffsetRow → Key
row_key r = record { source = r.source; stream = r.stream; partition = r.partition }

abbrev pub keys_in : List ℕ → Option Ranges → List Key
keys_in source None = []
keys_in source (Some ranges) = map (part_key source ranges.stream) ranges.parts

abbrev pub publication_keys : Publication → List Key
publication_keys m = keys_in m.source m.ranges

-- of any other key nothing was read, and nothing is stored
abbrev pub keys_of : List Publication → List OffsetRow → List Key
keys_of pubs rows = gathered publication_keys pubs ++ map row_key rows

abbrev pub same_offset_or_none : Option ℕ → Option ℕ → Bool
same_offset_or_none None None = true
same_offset_or_none (Some n) (Some m) = n == m
same_offset_or_none _ _ = false

abbrev pub ends_at : Option (Option ℕ) → Option ℕ → Bool
ends_at None z = false
ends_at (Some e) z = same_offset_or_none e z

abbrev pub key_is_tiled : List Publication → List OffsetRow → Key → Bool
key_is_tiled pubs rows k = ends_at (ends_with (run_of k.source k.stream k.partition pubs).from (run_of k.source k.stream k.partition pubs).ranges) (stored rows k.source k.stream k.partition)

abbrev pub is_tiled : List Publication → List OffsetRow → Bool
is_tiled pubs rows = list_all (key_is_tiled pubs rows) (keys_of pubs rows)

abbrev pub tiled_row : Book → Option ℕ
tiled_row b = zero_unless (is_tiled b.publications b.offsets)
