-- What a task publishes, and the spans that it fills.
use Rattle.std.specs.Prelude.{List, map}
use Rattle.book_rows.specs.Over.{Filling, Inserting, Replacing, Target}
use Rattle.book_rows.specs.Publications.{Publish}
use Rattle.book_rows.specs.declared.rows.SpanSince.{SpanSince}
use Rattle.book_core.specs.declared.publications.Publish.{Publish as Asked}

-- what a task publishes
abbrev pub publish_of : Asked → Publish
publish_of p = record { spans = p.spans.now; ids = p.ids.now; tombstones = p.tombstones.now; ranges = p.ranges.now }

-- only a replacement tells since when its spans are locked
abbrev pub since_in : Filling → Target → SpanSince
since_in Inserting x = record { span = x.span; since = 0 }
since_in Replacing x = record { span = x.span; since = x.since }

-- the spans of the publication
abbrev pub spans_in : Filling → List Target → List SpanSince
spans_in f xs = map (since_in f) xs
