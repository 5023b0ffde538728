-- What determines the timeline and the contents of a source.
use Rattle.std.specs.Prelude.{◌≡◌, ◌∷◌, List, None, Option, Some, [], map, ℕ, ℤ}
use Rattle.iv_span.specs.Extent.{Extent}
use Rattle.seg_names.specs.declared.seg_id.SegId.{SegId}
use Rattle.book_rows.specs.Shown.{ChunkPart, agree, contents_of, ids_shown, roots_agree, roots_at, timeline_of, timeline_part}
use Rattle.book_rows.specs.Visible.{visible}
use Rattle.book_rows.specs.declared.replies.ContentsPart.{ContentsPart}
use Rattle.book_rows.specs.declared.rows.SegmentRow.{SegmentRow}
use Rattle.laws_parts.specs.Parts.{AreParts}

-- what a part of the timeline shows: a chunk, and its ids
pub record ChunkShown : Type 0 where
  pub chunk : Extent
  pub version : ℤ
  pub ids : List SegId

abbrev pub chunk_body : ChunkPart → ChunkShown
chunk_body p = record { chunk = p.chunk; version = p.version; ids = p.ids }

abbrev pub chunk_of : List SegmentRow → Option ChunkShown
chunk_of [] = None
chunk_of (r ∷ rs) = Some (record { chunk = r.id.span; version = r.id.version; ids = ids_shown (r ∷ rs) })

-- the chunk that is visible at the instant
abbrev pub chunk_at : List SegmentRow → List ℕ → ℤ → Option ChunkShown
chunk_at rows source t = chunk_of (visible rows source t)

-- the parts show at each instant the chunk that is visible
abbrev pub AreChunkParts : List SegmentRow → List ℕ → List ChunkPart → Type 0
AreChunkParts rows source ps = AreParts (λ (p : ChunkPart). p.span) chunk_body agree (chunk_at rows source) ps

abbrev pub some_roots : List SegId → Option (List SegId)
some_roots [] = None
some_roots (a ∷ as') = Some (a ∷ as')

-- the roots that are visible at the instant, where there are some
abbrev pub roots_given : List SegmentRow → List ℕ → ℤ → Option (List SegId)
roots_given rows source t = some_roots (roots_at (visible rows source t) t)

abbrev pub AreRootsParts : List SegmentRow → List ℕ → List ContentsPart → Type 0
AreRootsParts rows source ps = AreParts (λ (p : ContentsPart). p.span) (λ (p : ContentsPart). p.roots) roots_agree (roots_given rows source) ps

-- ---- laws

-- a list of parts that show the visible chunks is that of which the timeline is printed, and there is one
abbrev pub TimelineIsDetermined : Type 0
TimelineIsDetermined = (rows : List SegmentRow) (source : List ℕ) (ps : List ChunkPart) → AreChunkParts rows source ps → timeline_of rows source ≡ map timeline_part ps

abbrev pub TimelineIsSo : Type 0
TimelineIsSo = (rows : List SegmentRow) (source : List ℕ) → (ps : List ChunkPart) × AreChunkParts rows source ps × (timeline_of rows source ≡ map timeline_part ps)

abbrev pub ContentsAreDetermined : Type 0
ContentsAreDetermined = (rows : List SegmentRow) (source : List ℕ) (ps : List ContentsPart) → AreRootsParts rows source ps → contents_of rows source ≡ ps

abbrev pub ContentsAreSo : Type 0
ContentsAreSo = (rows : List SegmentRow) (source : List ℕ) → AreRootsParts rows source (contents_of rows source)
