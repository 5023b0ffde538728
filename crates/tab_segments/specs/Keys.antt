-- The keys by which chunks and segments are found. No contract of a public call names them.
use Rattle.std.specs.Prelude.{ℕ, ℤ, Bool, List, [], ◌∷◌, cond, fold, unsigned_abs}
use Rattle.iv_span.specs.Extent.{Extent}
use Rattle.seg_names.specs.declared.seg_id.SegId.{SegId}
use Rattle.book_rows.specs.declared.rows.ChunkRow.{ChunkRow}
use Rattle.book_rows.specs.declared.rows.SegmentRow.{SegmentRow}
use Rattle.row_index.specs.Digests.{mix}
use Rattle.row_index.specs.Index.{digest_key}
use Rattle.span_keys.specs.Classes.{span_key}
use Rattle.tab_segments.specs.SegmentRows.{chunk_id}
use Rattle.tab_segments.specs.declared.entries.Entry.{Entry}

-- ---- digests

abbrev pub mix_span : ℕ → Extent → ℕ
mix_span digest s = mix (mix digest (unsigned_abs s.start)) (unsigned_abs s.end)

-- of the chunk of an id
abbrev pub chunk_digest : SegId → ℕ
chunk_digest a = mix (mix_span (fold mix 1 a.source) a.span) (unsigned_abs a.version)

-- of the chunks of one version
abbrev pub version_digest : List ℕ → ℤ → ℕ
version_digest source version = mix (fold mix 2 source) (unsigned_abs version)

-- of the first used segments of chunks
abbrev pub lead_digest : List ℕ → ℕ
lead_digest source = fold mix 3 source

-- of all used segments
abbrev pub used_digest : List ℕ → ℕ
used_digest source = fold mix 4 source

-- ---- keys

-- a chunk is found by what names it, and by its version and span
abbrev pub chunk_keys : ChunkRow → List (ℕ × ℤ)
chunk_keys c = digest_key (chunk_digest (chunk_id c.source c.span c.version)) ∷ span_key (version_digest c.source c.version) c.span ∷ []

-- one that leads its chunk, by the chunk and by its span
abbrev pub leading_keys : SegId → List (ℕ × ℤ)
leading_keys a = digest_key (chunk_digest a) ∷ span_key (lead_digest a.source) a.span ∷ []

abbrev pub used_keys : Bool → SegId → List (ℕ × ℤ)
used_keys leads a = span_key (used_digest a.source) a.span ∷ cond leads (leading_keys a) []

-- a segment is found by its span where it is used, and by no key where it isn't
abbrev pub entry_keys : Entry → List (ℕ × ℤ)
entry_keys e = cond e.row.used (used_keys e.leads e.row.id) []
