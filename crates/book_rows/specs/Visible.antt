-- Which segments are visible at an instant.
use Rattle.std.specs.Prelude.{◌&&◌, ◌||◌, Bool, List, bytes_eq, filter, int_le, not, ℕ, ℤ}
use Rattle.std.specs.List.{list_all}
use Rattle.iv_span.specs.Extent.{Extent, has, overlap}
use Rattle.seg_names.specs.Ids.{same_id}
use Rattle.seg_names.specs.declared.seg_id.SegId.{SegId}
use Rattle.book_rows.specs.Lists.{count}
use Rattle.book_rows.specs.declared.rows.SegmentRow.{SegmentRow}

-- a used row of the source whose span has the instant
abbrev pub is_used_at : List ℕ → ℤ → SegmentRow → Bool
is_used_at source t r = r.used && bytes_eq r.id.source source && has r.id.span t

-- no used row of these is above this one at the instant
abbrev pub tops : List SegmentRow → List ℕ → ℤ → SegmentRow → Bool
tops rows source t r = list_all (λ q. not (is_used_at source t q) || int_le q.id.version r.id.version) rows

-- a used row there whose version is the greatest among these
abbrev pub is_visible : List SegmentRow → List ℕ → ℤ → SegmentRow → Bool
is_visible rows source t r = is_used_at source t r && tops rows source t r

-- the rows that are visible at the instant, in row order
abbrev pub visible : List SegmentRow → List ℕ → ℤ → List SegmentRow
visible rows source t = filter (is_visible rows source t) rows

-- a used row of the source whose span overlaps this one
abbrev pub is_used_over : List ℕ → Extent → SegmentRow → Bool
is_used_over source span r = r.used && bytes_eq r.id.source source && overlap r.id.span span

-- the row stands for this root, at an instant of the root's own span
abbrev pub stands_for : SegId → ℤ → SegmentRow → Bool
stands_for root t r = not r.tombstone && (has root.span t && same_id r.root root)

-- how many visible rows have this root, where the root's own span has the instant
abbrev pub shown : List SegmentRow → List ℕ → ℤ → SegId → ℕ
shown rows source t root = count (λ r. is_visible rows source t r && stands_for root t r) rows
