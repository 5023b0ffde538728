-- Ids of segments.
use Rattle.std.specs.Prelude.{Bool, ◌&&◌, ◌==◌, bytes_eq}
use Rattle.std.specs.Ordering.{int_eq, int_cmp, nat_cmp, ordering_then}
use Rattle.std.specs.Cmp.Lexicographic.{slice_cmp}
use Rattle.std.specs.declared.cmp.Ordering.{Ordering}
use Rattle.iv_span.specs.Extent.{Extent}
use Rattle.iv_time.specs.Range.{is_instant}
use Rattle.seg_names.specs.declared.seg_id.SegId.{SegId}

abbrev pub same_extent : Extent → Extent → Bool
same_extent a b = int_eq a.start b.start && int_eq a.end b.end

-- equal in each part
abbrev pub same_id : SegId → SegId → Bool
same_id a b = bytes_eq a.source b.source && same_extent a.span b.span && int_eq a.version b.version && (a.part == b.part)

abbrev pub extent_cmp : Extent → Extent → Ordering
extent_cmp a b = ordering_then (int_cmp a.start b.start) (int_cmp a.end b.end)

-- the order of ids: by source, span start, span end, version and part
abbrev pub id_cmp : SegId → SegId → Ordering
id_cmp a b = ordering_then (slice_cmp nat_cmp a.source b.source) (ordering_then (extent_cmp a.span b.span) (ordering_then (int_cmp a.version b.version) (nat_cmp a.part b.part)))

-- the span's ends and the version are instants
abbrev pub has_instants : SegId → Bool
has_instants id = is_instant id.span.start && is_instant id.span.end && is_instant id.version
