-- What look-ups and changes in place promise of the keys, and tests of a chunk's segments.
use Rattle.std.specs.Prelude.{◌&&◌, ◌==◌, ◌∷◌, ◌≡◌, ◌<ℤ◌, Bool, List, [], bytes_eq, cond, false, fold, int_lt, not, true, unsigned_abs, ℕ, ℤ}
use Rattle.std.specs.Ordering.{int_eq}
use Rattle.std.proofs.Common.{ap, arith, inl, inr, refl, subst, sym, ◌∙◌}
use Rattle.std.proofs.lemmas.Bool.{and_parts}
use Rattle.std.proofs.lemmas.Bool.Decides.{nat_tests}
use Rattle.std.proofs.lemmas.Int.{ints}
use Rattle.std.proofs.lemmas.Slice.Eq.{bytes_eq-Decides}
use Rattle.iv_span.specs.Extent.{Extent, covers, has, overlap}
use Rattle.seg_names.specs.Ids.{same_extent}
use Rattle.seg_names.specs.declared.seg_id.SegId.{SegId}
use Rattle.book_rows.specs.Allocation.{is_of_chunk}
use Rattle.book_rows.specs.Ids.{same_chunk}
use Rattle.book_rows.specs.Visible.{is_used_at, is_used_over}
use Rattle.book_rows.specs.declared.rows.ChunkRow.{ChunkRow}
use Rattle.book_rows.specs.declared.rows.SegmentRow.{SegmentRow}
use Rattle.row_index.specs.Digests.{mix}
use Rattle.row_index.specs.Index.{In, IsReached, digest_key, digest_range}
use Rattle.row_index.proofs.IndexLemmas.{digest_reached}
use Rattle.span_keys.specs.Classes.{span_key, span_ranges}
use Rattle.span_keys.proofs.SpanLemmas.{span_reached}
use Rattle.tab_segments.specs.Keys.{chunk_digest, chunk_keys, entry_keys, lead_digest, leading_keys, used_digest, used_keys, version_digest}
use Rattle.tab_segments.specs.Leading.{is_taken, is_used_in, leads_at, leads_in, lies_within}
use Rattle.tab_segments.specs.SegmentRows.{chunk_id, with_next}
use Rattle.tab_segments.specs.declared.entries.Entry.{Entry}

-- ---- what equal parts of ids have in common

pub same_text : (xs ys : List ℕ) → bytes_eq xs ys ≡ true → xs ≡ ys
same_text xs ys e = (bytes_eq-Decides xs ys).0 e

pub same_int : (x y : ℤ) → int_eq x y ≡ true → x ≡ y
same_int x y e = grind (arith, ints)

ends_same : (s e z f : ℤ) → s ≡ z → e ≡ f → (let a : Extent = record { start = s; end = e } in let b : Extent = record { start = z; end = f } in a ≡ b)
ends_same s e z f p q = rw (p, q) refl

pub same_span : (a b : Extent) → same_extent a b ≡ true → a ≡ b
same_span a b on =
    let ends = and_parts (int_eq a.start b.start) (int_eq a.end b.end) on in
    ends_same a.start a.end b.start b.end (same_int a.start b.start ends.0) (same_int a.end b.end ends.1)

-- two ids of one chunk
pub record IsOne (a b : SegId) : Type 0 where
  pub source : a.source ≡ b.source
  pub span : a.span ≡ b.span
  pub version : a.version ≡ b.version

pub one_chunk : (a b : SegId) → same_chunk a b ≡ true → IsOne a b
one_chunk a b on =
    let all = and_parts (bytes_eq a.source b.source && same_extent a.span b.span) (int_eq a.version b.version) on in
    let two = and_parts (bytes_eq a.source b.source) (same_extent a.span b.span) all.0 in
    record {
      source = same_text a.source b.source two.0;
      span = same_span a.span b.span two.1;
      version = same_int a.version b.version all.1;
    }

digest_same : (s z : List ℕ) (a b : Extent) (v w : ℤ) → s ≡ z → a ≡ b → v ≡ w
    → mix (mix (mix (fold mix 1 s) (unsigned_abs a.start)) (unsigned_abs a.end)) (unsigned_abs v) ≡ mix (mix (mix (fold mix 1 z) (unsigned_abs b.start)) (unsigned_abs b.end)) (unsigned_abs w)
digest_same s z a b v w p q r = rw (p, q, r) refl

one_digest : (a b : SegId) → IsOne a b → chunk_digest a ≡ chunk_digest b
one_digest a b one = digest_same a.source b.source a.span b.span a.version b.version one.source one.span one.version

-- ---- chunks

pub chunk_covers : (a : SegId) (c : ChunkRow) → is_of_chunk c a ≡ true → IsReached (digest_range (chunk_digest a) ∷ []) (chunk_keys c)
chunk_covers a c on =
    digest_reached (chunk_digest a) (chunk_keys c) (inl (ap digest_key (one_digest a (chunk_id c.source c.span c.version) (one_chunk a (chunk_id c.source c.span c.version) on))))

pub next_covers : (a : SegId) (next : ℕ) (c : ChunkRow) → (is_of_chunk c a && not (c.next == next)) ≡ true → IsReached (digest_range (chunk_digest a) ∷ []) (chunk_keys c)
next_covers a next c on = chunk_covers a c (and_parts (is_of_chunk c a) (not (c.next == next)) on).0

settle : (b : Bool) (n m : ℕ) → b ≡ true → (b && not (cond b n m == n)) ≡ false
settle true n m on = (let same : (n == n) ≡ true = grind (arith, nat_tests) in rw same refl)
settle false n m on = cc

pub next_settles : (a : SegId) (next : ℕ) (c : ChunkRow) → (is_of_chunk c a && not (c.next == next)) ≡ true
    → (is_of_chunk (with_next a next c) a && not ((with_next a next c).next == next)) ≡ false
next_settles a next c on = settle (is_of_chunk c a) next c.next (and_parts (is_of_chunk c a) (not (c.next == next)) on).0

version_same : (s z : List ℕ) (v w : ℤ) → s ≡ z → v ≡ w → mix (fold mix 2 s) (unsigned_abs v) ≡ mix (fold mix 2 z) (unsigned_abs w)
version_same s z v w p q = rw (p, q) refl

pub version_covers : (source : List ℕ) (span : Extent) (version : ℤ) (c : ChunkRow) → (bytes_eq c.source source && int_eq c.version version && overlap c.span span) ≡ true
    → IsReached (span_ranges (version_digest source version) span) (chunk_keys c)
version_covers source span version c on =
    let all = and_parts (bytes_eq c.source source && int_eq c.version version) (overlap c.span span) on in
    let two = and_parts (bytes_eq c.source source) (int_eq c.version version) all.0 in
    let same = version_same c.source source c.version version (same_text c.source source two.0) (same_int c.version version two.1) in
    span_reached (version_digest source version) c.span span all.1 (chunk_keys c) (inr (inl (ap (λ d. span_key d c.span) (sym same))))

-- ---- segments

in_used : (e : Entry) (k : ℕ × ℤ) → e.row.used ≡ true → In k (used_keys e.leads e.row.id) → In k (entry_keys e)
in_used e k used there = subst (λ b. In k (cond b (used_keys e.leads e.row.id) [])) (sym used) there

in_leading : (e : Entry) (k : ℕ × ℤ) → e.row.used ≡ true → e.leads ≡ true → In k (leading_keys e.row.id) → In k (entry_keys e)
in_leading e k used leads there =
    in_used e k used (subst (λ b. In k (span_key (used_digest e.row.id.source) e.row.id.span ∷ cond b (leading_keys e.row.id) [])) (sym leads) (inr there))

used_reached : (source : List ℕ) (span : Extent) (e : Entry) → e.row.used ≡ true → bytes_eq e.row.id.source source ≡ true → overlap e.row.id.span span ≡ true
    → IsReached (span_ranges (used_digest source) span) (entry_keys e)
used_reached source span e used own meets =
    let key = ap (λ z. span_key (used_digest z) e.row.id.span) (sym (same_text e.row.id.source source own)) in
    span_reached (used_digest source) e.row.id.span span meets (entry_keys e) (in_used e (span_key (used_digest source) e.row.id.span) used (inl key))

pub used_covers : (source : List ℕ) (span : Extent) (e : Entry) → is_used_over source span e.row ≡ true → IsReached (span_ranges (used_digest source) span) (entry_keys e)
used_covers source span e on =
    let all = and_parts (e.row.used && bytes_eq e.row.id.source source) (overlap e.row.id.span span) on in
    let two = and_parts e.row.used (bytes_eq e.row.id.source source) all.0 in
    used_reached source span e two.0 two.1 all.1

within_overlaps : (a b : Extent) → b.start <ℤ b.end → covers a b ≡ true → overlap b a ≡ true
within_overlaps a b some on = grind (arith, ints)

-- one that is to become unused has a key among those of the used segments over the span
pub taken_reached : (source : List ℕ) (span : Extent) (e : Entry) → e.row.id.span.start <ℤ e.row.id.span.end → is_taken source span e ≡ true
    → IsReached (span_ranges (used_digest source) span) (entry_keys e)
taken_reached source span e some on =
    let all = and_parts e.row.used (lies_within source span e.row) on in
    let two = and_parts (bytes_eq e.row.id.source source) (covers span e.row.id.span) all.1 in
    used_reached source span e all.0 two.0 (within_overlaps span e.row.id.span some two.1)

leading_reached : (source : List ℕ) (span : Extent) (e : Entry) → e.leads ≡ true → e.row.used ≡ true → bytes_eq e.row.id.source source ≡ true → overlap e.row.id.span span ≡ true
    → IsReached (span_ranges (lead_digest source) span) (entry_keys e)
leading_reached source span e leads used own meets =
    let key = ap (λ z. span_key (lead_digest z) e.row.id.span) (sym (same_text e.row.id.source source own)) in
    span_reached (lead_digest source) e.row.id.span span meets (entry_keys e) (in_leading e (span_key (lead_digest source) e.row.id.span) used leads (inr (inl key)))

pub over_covers : (source : List ℕ) (span : Extent) (passes : SegmentRow → Bool) (e : Entry) → (e.leads && (is_used_over source span e.row && passes e.row)) ≡ true
    → IsReached (span_ranges (lead_digest source) span) (entry_keys e)
over_covers source span passes e on =
    let leads = and_parts e.leads (is_used_over source span e.row && passes e.row) on in
    let over = and_parts (is_used_over source span e.row) (passes e.row) leads.1 in
    let all = and_parts (e.row.used && bytes_eq e.row.id.source source) (overlap e.row.id.span span) over.0 in
    let two = and_parts e.row.used (bytes_eq e.row.id.source source) all.0 in
    leading_reached source span e leads.0 two.0 two.1 all.1

pub at_covers : (source : List ℕ) (t : ℤ) (around : Extent) (e : Entry) → (leads_at source t e && overlap e.row.id.span around) ≡ true
    → IsReached (span_ranges (lead_digest source) around) (entry_keys e)
at_covers source t around e on =
    let both = and_parts (leads_at source t e) (overlap e.row.id.span around) on in
    let leads = and_parts e.leads (is_used_at source t e.row) both.0 in
    let all = and_parts (e.row.used && bytes_eq e.row.id.source source) (has e.row.id.span t) leads.1 in
    let two = and_parts e.row.used (bytes_eq e.row.id.source source) all.0 in
    leading_reached source around e leads.0 two.0 two.1 both.1

pub in_covers : (a : SegId) (e : Entry) → leads_in a e ≡ true → IsReached (digest_range (chunk_digest a) ∷ []) (entry_keys e)
in_covers a e on =
    let leads = and_parts e.leads (is_used_in a e.row) on in
    let both = and_parts e.row.used (same_chunk e.row.id a) leads.1 in
    let same = sym (one_digest e.row.id a (one_chunk e.row.id a both.1)) in
    digest_reached (chunk_digest a) (entry_keys e) (in_leading e (digest_key (chunk_digest a)) both.0 leads.0 (inl (ap digest_key same)))

-- ---- tests that a whole chunk passes

pub newer_whole : (version : ℤ) (r s : SegmentRow) → int_lt version r.id.version ≡ true → same_chunk s.id r.id ≡ true → int_lt version s.id.version ≡ true
newer_whole version r s on same = subst (λ v. int_lt version v ≡ true) (sym (one_chunk s.id r.id same).version) on

pub across_whole : (span : Extent) (r s : SegmentRow) → not (covers span r.id.span) ≡ true → same_chunk s.id r.id ≡ true → not (covers span s.id.span) ≡ true
across_whole span r s on same = subst (λ a. not (covers span a) ≡ true) (sym (one_chunk s.id r.id same).span) on
