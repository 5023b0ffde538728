-- The kept parts of each source.
use Rattle.std.specs.Prelude.{◌≡◌, List, None, Option, Some, [], ℕ}
use Rattle.std.specs.BTreeMap.{is_at}
use Rattle.std.specs.Cmp.Lexicographic.{slice_cmp}
use Rattle.std.specs.Map.{lookup}
use Rattle.std.specs.Ordering.{nat_cmp}
use Rattle.book_rows.specs.Shown.{ChunkPart}
use Rattle.book_rows.specs.declared.rows.SegmentRow.{SegmentRow}
use Rattle.laws_shown.specs.Printed.{chunk_parts}

abbrev pub or_nothing : Option (List ChunkPart) → List ChunkPart
or_nothing None = []
or_nothing (Some ps) = ps

-- those of one source, of which there may be none
abbrev pub kept_parts : List (List ℕ × List ChunkPart) → List ℕ → List ChunkPart
kept_parts es source = or_nothing (lookup (is_at (slice_cmp nat_cmp source)) es)

-- for each source the parts of which its timeline is printed
abbrev pub AreKept : (List ℕ → List ChunkPart) → List SegmentRow → Type 0
AreKept parts rows = (source : List ℕ) → parts source ≡ chunk_parts rows source
