-- Chunk rows with whether they are live, and how rows of chunks and locks over them are found.
use Rattle.std.specs.Prelude.{◌&&◌, ◌==◌, ◌∷◌, ◌≡◌, Bool, List, [], bytes_eq, cond, fold, int_le, not, true, unsigned_abs, ℕ, ℤ}
use Rattle.std.specs.Ordering.{int_eq}
use Rattle.std.proofs.Common.{ap, arith, inl, refl, sym, ◌∙◌}
use Rattle.std.proofs.lemmas.Bool.{and_parts}
use Rattle.std.proofs.lemmas.Int.{ints}
use Rattle.std.proofs.lemmas.Slice.Eq.{bytes_eq-Decides}
use Rattle.iv_span.specs.Extent.{overlap}
use Rattle.seg_names.specs.Ids.{same_extent}
use Rattle.seg_names.specs.declared.seg_id.SegId.{SegId}
use Rattle.book_rows.specs.Kinds.{guards}
use Rattle.book_rows.specs.declared.rows.ChunkRow.{ChunkRow}
use Rattle.book_rows.specs.declared.rows.PendingRow.{PendingRow}
use Rattle.book_rows.specs.declared.rows.PosseRow.{PosseRow}
use Rattle.book_rows.specs.declared.rows.SegmentRow.{SegmentRow}
use Rattle.row_index.specs.Digests.{mix}
use Rattle.row_index.specs.Index.{IsReached, digest_key, digest_range}
use Rattle.span_keys.specs.Classes.{span_key, span_ranges}
use Rattle.span_keys.proofs.SpanLemmas.{span_reached}
use Rattle.laws_unsound.specs.ChunkRows.{is_below, is_live}
use Rattle.book_rows.specs.Allocation.{is_of_chunk}
use Rattle.row_search.specs.Classes.{overlap_turned}
use Rattle.row_search.specs.Digests.{chunk_digest, chunks_mix, mix_chunk}
use Rattle.row_search.specs.Reached.{digest_reaches}

pub record ChunkAt : Type 0 where
  pub chunk : ChunkRow
  pub live : Bool

abbrev pub chunk_at : List SegmentRow → List PendingRow → ChunkRow → ChunkAt
chunk_at rows ps c = record { chunk = c; live = is_live rows ps c }

-- ---- rows of a chunk

abbrev pub own_chunk_digest : SegId → ℕ
own_chunk_digest a = mix_chunk 4 a.source a.span a.version

in_reaches : (c : ChunkRow) (a : SegId) → is_of_chunk c a ≡ true → IsReached (digest_range (chunk_digest c) ∷ []) (digest_key (own_chunk_digest a) ∷ [])
in_reaches c a on =
    let all = and_parts (bytes_eq a.source c.source && same_extent a.span c.span) (int_eq a.version c.version) on in
    let two = and_parts (bytes_eq a.source c.source) (same_extent a.span c.span) all.0 in
    digest_reaches (chunk_digest c) (own_chunk_digest a) (chunks_mix 4 a.source c.source a.span c.span a.version c.version two.0 two.1 all.1)

pub used_reaches : (c : ChunkRow) (r : SegmentRow) → (r.used && is_of_chunk c r.id) ≡ true → IsReached (digest_range (chunk_digest c) ∷ []) (digest_key (own_chunk_digest r.id) ∷ [])
used_reaches c r on = in_reaches c r.id (and_parts r.used (is_of_chunk c r.id) on).1

pub pending_reaches : (c : ChunkRow) (p : PendingRow) → is_of_chunk c p.id ≡ true → IsReached (digest_range (chunk_digest c) ∷ []) (digest_key (own_chunk_digest p.id) ∷ [])
pending_reaches c p on = in_reaches c p.id on

-- ---- live chunks of one version that overlap

-- a chunk that isn't live stands apart
abbrev pub version_digest : Bool → ChunkRow → ℕ
version_digest live c = mix (mix (fold mix 11 c.source) (unsigned_abs c.version)) (cond live 1 0)

abbrev pub version_key : ChunkAt → ℕ × ℤ
version_key x = span_key (version_digest x.live x.chunk) x.chunk.span

abbrev pub version_ranges : ChunkAt → List ((ℕ × ℤ) × ℤ)
version_ranges x = span_ranges (version_digest true x.chunk) x.chunk.span

abbrev pub are_apart : ChunkAt → ChunkAt → Bool
are_apart x y =
    x.live && (y.live && (bytes_eq x.chunk.source y.chunk.source && (overlap x.chunk.span y.chunk.span && (int_eq x.chunk.version y.chunk.version && not (same_extent x.chunk.span y.chunk.span)))))

same_int : (x y : ℤ) → int_eq x y ≡ true → x ≡ y
same_int x y e = grind (arith, ints)

pub version_reaches : (x y : ChunkAt) → are_apart x y ≡ true → IsReached (version_ranges x) (version_key y ∷ [])
version_reaches x y on =
    let s = bytes_eq x.chunk.source y.chunk.source in
    let o = overlap x.chunk.span y.chunk.span in
    let v = int_eq x.chunk.version y.chunk.version in
    let e = not (same_extent x.chunk.span y.chunk.span) in
    let first = and_parts x.live (y.live && (s && (o && (v && e)))) on in
    let second = and_parts y.live (s && (o && (v && e))) first.1 in
    let third = and_parts s (o && (v && e)) second.1 in
    let fourth = and_parts o (v && e) third.1 in
    let source : x.chunk.source ≡ y.chunk.source = (bytes_eq-Decides x.chunk.source y.chunk.source).0 third.0 in
    let version : x.chunk.version ≡ y.chunk.version = same_int x.chunk.version y.chunk.version (and_parts v e fourth.1).0 in
    span_reached (version_digest true x.chunk) y.chunk.span x.chunk.span (overlap_turned x.chunk.span y.chunk.span fourth.0) (version_key y ∷ [])
    (inl (by x.chunk.source y.chunk.source x.chunk.version y.chunk.version y.live source version second.0)) where
      by : (s z : List ℕ) (v w : ℤ) (live : Bool) → s ≡ z → v ≡ w → live ≡ true → span_key (mix (mix (fold mix 11 s) (unsigned_abs v)) 1) y.chunk.span ≡ span_key (mix (mix (fold mix 11 z) (unsigned_abs w)) (cond live 1 0)) y.chunk.span
      by s z v w live e f h = rw (e, f, h) refl

-- ---- locks that guard

-- a lock that doesn't guard, or is revoked, stands apart
abbrev pub guard_digest : Bool → List ℕ → ℕ
guard_digest guarding source = mix (fold mix 12 source) (cond guarding 1 0)

abbrev pub guard_key : PosseRow → ℕ × ℤ
guard_key q = span_key (guard_digest (not q.revoked && guards q.lock_kind) q.source) q.span

abbrev pub guard_ranges : ChunkRow → List ((ℕ × ℤ) × ℤ)
guard_ranges c = span_ranges (guard_digest true c.source) c.span

pub guard_reaches : (c : ChunkRow) (q : PosseRow) → is_below c q ≡ true → IsReached (guard_ranges c) (guard_key q ∷ [])
guard_reaches c q on =
    let s = bytes_eq c.source q.source in
    let o = overlap c.span q.span in
    let v = not (int_le c.version q.version) in
    let first = and_parts (not q.revoked) (guards q.lock_kind && (s && (o && v))) on in
    let second = and_parts (guards q.lock_kind) (s && (o && v)) first.1 in
    let third = and_parts s (o && v) second.1 in
    let source : c.source ≡ q.source = (bytes_eq-Decides c.source q.source).0 third.0 in
    span_reached (guard_digest true c.source) q.span c.span (overlap_turned c.span q.span (and_parts o v third.1).0) (guard_key q ∷ [])
    (inl (by c.source q.source (not q.revoked) (guards q.lock_kind) source first.0 second.0)) where
      by : (s z : List ℕ) (b d : Bool) → s ≡ z → b ≡ true → d ≡ true → span_key (mix (fold mix 12 s) 1) q.span ≡ span_key (mix (fold mix 12 z) (cond (b && d) 1 0)) q.span
      by s z b d e f h = rw (e, f, h) refl
