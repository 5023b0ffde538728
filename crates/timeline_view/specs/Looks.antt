-- Looks at the instants at which what is visible in a span may change.
use Rattle.std.specs.Prelude.{◌&&◌, ◌∷◌, Bool, List, None, Option, Some, [], cond, find, fold, int_le, not, option_map, unsigned_abs, ℕ, ℤ}
use Rattle.std.specs.BTreeSet.{insert_key}
use Rattle.std.specs.Int.{int_max, int_min}
use Rattle.std.specs.List.{list_any}
use Rattle.std.specs.Ordering.{int_cmp, int_eq}
use Rattle.iv_span.specs.Extent.{Extent, has}
use Rattle.seg_names.specs.declared.seg_id.SegId.{SegId}
use Rattle.book_rows.specs.Carried.{is_before}
use Rattle.book_rows.specs.Contents.{commit_of}
use Rattle.book_rows.specs.Ids.{put_id}
use Rattle.book_rows.specs.declared.rows.Publication.{Publication}
use Rattle.book_rows.specs.declared.rows.SegmentRow.{SegmentRow}
use Rattle.tab_segments.specs.SegmentRows.{visible_chunk}
use Rattle.timeline_view.specs.Sweep.{stretch_span, top_of}
use Rattle.timeline_view.specs.declared.looks.Look.{Look}
use Rattle.timeline_view.specs.declared.sweep.Cover.{Cover}
use Rattle.timeline_view.specs.declared.sweep.Stretch.{Stretch}

-- ---- instants

-- the instant at its place in an ascending list, where it lies in the span
abbrev pub put_end : Extent → List ℤ → ℤ → List ℤ
put_end span ts t = cond (has span t) (insert_key int_cmp ts t) ts

-- the ends of the row's span and of its root's
abbrev pub row_ends : SegmentRow → List ℤ
row_ends r = r.id.span.start ∷ r.id.span.end ∷ r.root.span.start ∷ r.root.span.end ∷ []

abbrev pub put_row_ends : Extent → List ℤ → SegmentRow → List ℤ
put_row_ends span ts r = fold (put_end span) ts (row_ends r)

-- the start of the span, and the ends of these rows' spans and of their roots' that lie in it
abbrev pub ends_over : Extent → List SegmentRow → List ℤ
ends_over span rows = fold (put_row_ends span) (put_end span [] span.start) rows

-- ---- looks

abbrev pub look_of : ℤ → Option ℤ → List Look
look_of t None = []
look_of t (Some version) = record { at = t; version = version } ∷ []

-- the version that is visible at the instant, where one is
abbrev pub look_at : List SegmentRow → List ℕ → ℤ → List Look
look_at rows source t = look_of t (option_map (λ (chunk : Extent × ℤ). chunk.1) (visible_chunk rows source t))

-- the version of the cover on top, and of the stretch that has the instant
abbrev pub look_on : List Cover → ℤ → List Look
look_on cs t = look_of t (option_map (λ (c : Cover). c.version) (top_of cs t))

abbrev pub version_in : List Stretch → ℤ → Option ℤ
version_in ps t = option_map (λ (p : Stretch). p.top.version) (find (λ (p : Stretch). has (stretch_span p) t) ps)

abbrev pub look_in : List Stretch → ℤ → List Look
look_in ps t = look_of t (version_in ps t)

-- a stretch that ends at the instant or earlier
abbrev pub is_past : ℤ → Stretch → Bool
is_past t p = int_le p.end t

abbrev pub look_keys : Look → List (ℕ × ℤ)
look_keys l = (unsigned_abs l.version, l.at) ∷ []

-- the row is of the version that is visible there, and the instant lies in its span and in its root's own
abbrev pub sees : SegmentRow → Look → Bool
sees r l = int_eq l.version r.id.version && has r.id.span l.at && has r.root.span l.at

abbrev pub seen_range : SegmentRow → (ℕ × ℤ) × ℤ
seen_range r = ((unsigned_abs r.id.version, int_max r.id.span.start r.root.span.start), int_min r.id.span.end r.root.span.end)

-- ---- roots

-- the row is no tombstone, a look sees it, and its root was added before
abbrev pub is_read : List Look → List Publication → ℕ → SegmentRow → Bool
is_read looks pubs since r = not r.tombstone && list_any (sees r) looks && is_before (commit_of pubs r.root) since

-- the root at its place, where it is to be read
abbrev pub put_read : Bool → SegmentRow → List SegId → List SegId
put_read read r ids = cond read (put_id r.root ids) ids

abbrev pub put_all_read : (SegmentRow → Bool) → List SegmentRow → List SegId → List SegId
put_all_read test [] ids = ids
put_all_read test (r ∷ rs) ids = put_read (test r) r (put_all_read test rs ids)
