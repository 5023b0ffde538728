-- Ids in the order of their spans.
use Rattle.std.specs.Prelude.{Bool, List}
use Rattle.seg_names.specs.declared.seg_id.SegId.{SegId}
use Rattle.book_rows.specs.Lists.{list_links}
use Rattle.book_rows.specs.Spans.{span_at_most}

-- no span stands behind a later one
abbrev pub spans_ascend : List SegId → Bool
spans_ascend ids = list_links (λ a b. span_at_most a.span b.span) ids
