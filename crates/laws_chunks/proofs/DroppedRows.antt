-- What the rules on chunks keep where the used rows within a span are dropped.
use Rattle.std.proofs.Common.{List, ap, arith, false, inl, inr, int_le, int_lt, map, not, pos, refl, subst, sym, true, ℕ, ℤ, ◌&&◌, ◌∙◌, ◌≡◌, ◌⊎◌}
use Rattle.std.proofs.lemmas.Bool.{and_from, and_parts, cases_Bool, false≢true}
use Rattle.std.proofs.lemmas.Int.{ints}
use Rattle.std.proofs.lemmas.Slice.Eq.{bytes_eq-Decides}
use Rattle.std.specs.Prelude.{bytes_eq}
use Rattle.iv_span.specs.Extent.{Extent, covers, overlap}
use Rattle.seg_names.specs.declared.seg_id.SegId.{SegId}
use Rattle.book_rows.specs.Live.{IsIn, IsLive, IsUsed, IsValid, IsWhole}
use Rattle.book_rows.specs.Rewrite.{unused}
use Rattle.book_rows.specs.Rules.{AreBelowLocks, AreRooted, HaveCopies, HaveCores, HaveOneSpan, IsCopy}
use Rattle.book_rows.specs.declared.rows.ChunkRow.{ChunkRow}
use Rattle.book_rows.specs.declared.rows.PendingRow.{PendingRow}
use Rattle.book_rows.specs.declared.rows.PosseRow.{PosseRow}
use Rattle.book_rows.specs.declared.rows.SegmentRow.{SegmentRow}
use Rattle.laws_chunks.proofs.ChangeFacts.{ArePlain}
use Rattle.laws_chunks.proofs.LostLocks.{not_true}
use Rattle.laws_chunks.proofs.Members.{In-map, map_In}
use Rattle.laws_chunks.proofs.Spans.{covers_trans, le_itself, overlap_both}
use Rattle.laws_chunks.specs.ChunksSound.{HaveLiveChunks}
use Rattle.laws_chunks.specs.Dropping.{IsFree}

module _ (source : List ℕ) (s : Extent) (rows : List SegmentRow) where
  -- a row that is used afterwards was used, and isn't within the span
  pub used_back : (a : SegId) → IsUsed (map (unused source s) rows) a → IsUsed rows a × ((bytes_eq a.source source && covers s a.span) ≡ false)
  used_back a u =
      let w = In-map (unused source s) u.0 rows u.1 in
      let on : (w.0.used && not (bytes_eq w.0.id.source source && covers s w.0.id.span)) ≡ true = ap (λ (r : SegmentRow). r.used) (sym w.2) ∙ u.2 in
      let is : w.0.id ≡ a = ap (λ (r : SegmentRow). r.id) (sym w.2) ∙ u.3 in
      ((w.0, w.1, (and_parts _ _ on).0, is), subst (λ (a : SegId). (bytes_eq a.source source && covers s a.span) ≡ false) is (not_true _ (and_parts _ _ on).1))

  pub drop_back : (ps : List PendingRow) (a : SegId) → IsLive (map (unused source s) rows) ps a → IsLive rows ps a
  drop_back ps a (inl u) = inl (used_back a u).0
  drop_back ps a (inr p) = inr p

  pub drop_chunks : (cs : List ChunkRow) (ps : List PendingRow) → HaveLiveChunks cs rows ps → HaveLiveChunks cs (map (unused source s) rows) ps
  drop_chunks cs ps h a l = h a (drop_back ps a l)

  pub drop_one_span : (ps : List PendingRow) → HaveOneSpan rows ps → HaveOneSpan (map (unused source s) rows) ps
  drop_one_span ps h a b la lb m e = h a b (drop_back ps a la) (drop_back ps b lb) m e

  pub drop_below_locks : (qs : List PosseRow) (ps : List PendingRow) → AreBelowLocks qs rows ps → AreBelowLocks qs (map (unused source s) rows) ps
  drop_below_locks qs ps h a q la v g e o = h a q (drop_back ps a la) v g e o

  pub drop_copies : (cs : List ChunkRow) (ps : List PendingRow) → HaveCopies cs rows ps → HaveCopies cs (map (unused source s) rows) ps
  drop_copies cs ps h = record {
    cores = λ a b d la lb m lt i e. h.cores a b d (drop_back ps a la) (drop_back ps b lb) m lt i e;
    contains = λ p b i root lb m lt. h.contains p b i root (drop_back ps b lb) m lt;
    copies = λ p b i root lb m lt. h.copies p b i root (drop_back ps b lb) m lt;
  }

  -- a chunk that doesn't lie within the span keeps its rows
  kept : (c : ChunkRow) → (bytes_eq c.source source && covers s c.span) ≡ false → IsWhole rows c → IsWhole (map (unused source s) rows) c
  kept c off w i lt =
      let x = w i lt in
      (unused source s x.0, map_In (unused source s) x.0 rows x.1, rw (x.2, x.3.source_is, x.3.span_is, off) refl, record { source_is = x.3.source_is; span_is = x.3.span_is; version_is = x.3.version_is }, x.4)

  pub drop_cores : (qs : List PosseRow) (cs : List ChunkRow) (ps : List PendingRow) → IsFree qs rows source s → ArePlain qs cs ps → AreRooted qs ps → HaveCores qs cs rows ps → HaveCores qs cs (map (unused source s) rows) ps
  drop_cores qs cs ps free plain rooted h = record {
    live = λ c a i l k. elim (cases_Bool (bytes_eq c.source source && covers s c.span)) [
      | inr off ↦ kept c off (h.live c a i (drop_back ps a l) k)
      | inl on ↦ absurd (not_live c a on l k)
    ];
    owned = λ c q i o. elim (cases_Bool (bytes_eq c.source source && covers s c.span)) [
      | inr off ↦ kept c off (h.owned c q i o)
      | inl on ↦ elim (cases_Bool (int_lt (pos 0) c.version)) [
        | inl high ↦ absurd (locked q o.is_valid (sym o.source_is ∙ (bytes_eq-Decides _ _).0 (and_parts _ _ on).0) (overlap_both q.span s c.span (h.within c q i o high) (and_parts _ _ on).1 (plain.chunks c i)))
        | inr low ↦ nothing c (h.zero_version c i (is_zero c.version low (rw o.version_is (plain.locks q o.is_valid))))
      ]
    ];
    zero_version = h.zero_version;
    shared = h.shared;
    replace = h.replace;
    within = h.within;
  } where
    nothing : (c : ChunkRow) → c.core ≡ 0 → IsWhole (map (unused source s) rows) c
    nothing c e i lt = absurd (omega arith)

    is_zero : (v : ℤ) → int_lt (pos 0) v ≡ false → int_le (pos 0) v ≡ true → v ≡ pos 0
    is_zero v a b = grind (arith, ints)

    locked : (q : PosseRow) → IsValid qs q → q.source ≡ source → overlap q.span s ≡ true → ⊥
    locked q v e o = false≢true (sym (free.unlocked q v e) ∙ o)

    within_root : (p : PendingRow) → (p.id ≡ p.root) ⊎ IsCopy p → covers p.id.span p.root.span ≡ true
    within_root p (inl e) = rw e (and_from _ _ (le_itself p.root.span.start) (le_itself p.root.span.end))
    within_root p (inr c) = c.covers_root

    -- a chunk within the span has no pending, as its lock would overlap the span
    not_live : (c : ChunkRow) (a : SegId) → (bytes_eq c.source source && covers s c.span) ≡ true → IsLive (map (unused source s) rows) ps a → IsIn c a → ⊥
    not_live c a on (inl u) k = false≢true (sym (rw (k.source_is, k.span_is) at (used_back a u).1) ∙ on)
    not_live c a on (inr p) k =
        let r = rooted p.0 p.1 in
        let is : covers s p.0.id.span ≡ true = rw (p.2, k.span_is) (and_parts _ _ on).1 in
        locked r.has_posse.posse r.has_posse.is_valid
        (r.has_posse.source_is ∙ ap (λ (a : SegId). a.source) p.2 ∙ k.source_is ∙ (bytes_eq-Decides _ _).0 (and_parts _ _ on).0)
        (overlap_both r.has_posse.posse.span s p.0.root.span r.has_posse.covers_root (covers_trans s p.0.id.span p.0.root.span is (within_root p.0 r.kind_is)) (plain.roots p.0 p.1))
