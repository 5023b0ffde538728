-- What segments show, and what publications put and take away, as stages.
use Rattle.std.specs.Prelude.{◌+◌, ◌++◌, ◌-ℤ◌, ◌∷◌, List, None, Some, [], cond, map, min, pos, ℕ, ℤ}
use Rattle.std.specs.Int.{int_max, int_min}
use Rattle.seg_names.specs.declared.seg_id.SegId.{SegId}
use Rattle.book_rows.specs.Lists.{gathered}
use Rattle.book_rows.specs.declared.kinds.PubKind.{PubKind}
use Rattle.book_rows.specs.declared.kinds.PubKind.TheVariants as PubKinds
use Rattle.book_rows.specs.declared.rows.Publication.{Publication}
use Rattle.book_rows.specs.declared.rows.SegmentRow.{SegmentRow}
use Rattle.book_rows.specs.declared.rows.SpanSince.{SpanSince}
use Rattle.shown_rules.specs.Stages.{Stage}

-- what is greater comes sooner
abbrev pub rank_of : ℤ → ℤ
rank_of level = pos 0 -ℤ level

-- ---- segments: a version puts its roots, and then closes what lies below it

abbrev pub puts_root : SegmentRow → Stage
puts_root r = record { rank = rank_of r.id.version; source = r.id.source; start = int_max r.id.span.start r.root.span.start; end = int_min r.id.span.end r.root.span.end; root = Some r.root }

abbrev pub covers_below : SegmentRow → Stage
covers_below r = record { rank = rank_of r.id.version; source = r.id.source; start = r.id.span.start; end = r.id.span.end; root = None }

abbrev pub shown_by : SegmentRow → List Stage
shown_by r = cond r.tombstone (covers_below r ∷ []) (puts_root r ∷ covers_below r ∷ [])

abbrev pub row_stages : SegmentRow → List Stage
row_stages r = cond r.used (shown_by r) []

abbrev pub all_row_stages : List SegmentRow → List Stage
all_row_stages rows = gathered row_stages rows

-- ---- publications: each puts its roots, and takes away what came before it or before its lock

abbrev pub adds_root : ℕ → List ℕ → SegId → Stage
adds_root k source a = record { rank = rank_of (pos k); source = source; start = a.span.start; end = a.span.end; root = Some a }

abbrev pub takes_below : ℕ → List ℕ → SpanSince → Stage
takes_below k source s = record { rank = rank_of (pos k); source = source; start = s.span.start; end = s.span.end; root = None }

abbrev pub takes_since : ℕ → List ℕ → SpanSince → Stage
takes_since k source s = takes_below (min k s.since) source s

abbrev pub taken_by : PubKind → ℕ → List ℕ → List SpanSince → List Stage
taken_by PubKinds.Over k source spans = map (takes_below k source) spans
taken_by PubKinds.Drop k source spans = map (takes_below k source) spans
taken_by PubKinds.Replace k source spans = map (takes_since k source) spans
taken_by _ k source spans = []

abbrev pub publication_stages : ℕ → Publication → List Stage
publication_stages k m = taken_by m.kind k m.source m.spans ++ map (adds_root k m.source) m.adds

-- the first publication has place k
abbrev pub all_publication_stages : ℕ → List Publication → List Stage
all_publication_stages k [] = []
all_publication_stages k (m ∷ ms) = publication_stages k m ++ all_publication_stages (k + 1) ms
