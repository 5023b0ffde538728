-- What a replacement of a lock's span has to read.
use Rattle.std.specs.Prelude.{◌&&◌, Bool, List, None, Option, Some, false, filter, map, nat_lt, not, ℕ, ℤ}
use Rattle.std.specs.List.{list_any}
use Rattle.iv_span.specs.Extent.{Extent, has}
use Rattle.seg_names.specs.declared.seg_id.SegId.{SegId}
use Rattle.book_rows.specs.Contents.{commit_of}
use Rattle.book_rows.specs.Ids.{in_order}
use Rattle.book_rows.specs.Shown.{row_spans, used_rows}
use Rattle.book_rows.specs.Spans.{cuts, put_cut}
use Rattle.book_rows.specs.Visible.{is_visible}
use Rattle.book_rows.specs.declared.rows.PosseRow.{PosseRow}
use Rattle.book_rows.specs.declared.rows.Publication.{Publication}
use Rattle.book_rows.specs.declared.rows.SegmentRow.{SegmentRow}

-- the instants at which something changes within the span
abbrev pub instants_within : List SegmentRow → List ℕ → Extent → List ℤ
instants_within rows source span = filter (has span) (put_cut span.start (cuts (row_spans (used_rows rows source))))

-- the row is visible at an instant of the span, within its root's own span
abbrev pub is_seen_within : List SegmentRow → List ℕ → Extent → SegmentRow → Bool
is_seen_within rows source span r = list_any (λ t. is_visible rows source t r && has r.root.span t) (instants_within rows source span)

abbrev pub is_before : Option ℕ → ℕ → Bool
is_before None since = false
is_before (Some k) since = nat_lt k since

-- a row, no tombstone, whose root was added before the lock was made, and that is visible in the lock's span
abbrev pub is_carried : List SegmentRow → List Publication → PosseRow → SegmentRow → Bool
is_carried rows pubs q r = not r.tombstone && is_seen_within rows q.source q.span r && is_before (commit_of pubs r.root) q.since

-- the roots that a replacement under the lock has to read, in id order, each once
abbrev pub to_replace : List SegmentRow → List Publication → PosseRow → List SegId
to_replace rows pubs q = in_order (map (λ r. r.root) (filter (is_carried rows pubs q) rows))
