-- Parts put one behind another, each with the stretch that it is of.
use Rattle.std.proofs.Common.{List, [], ap, subst, sym, ℕ, ℤ, ◌∙◌, ◌∷◌, ◌++◌, ◌≡◌}
use Rattle.iv_span.specs.Extent.{Extent}
use Rattle.book_rows.specs.Shown.{ChunkPart}
use Rattle.book_rows.specs.declared.replies.TimelinePart.{TimelinePart}
use Rattle.book_rows.specs.declared.rows.SegmentRow.{SegmentRow}
use Rattle.laws_parts.specs.Laws.{chunk_at}
use Rattle.laws_parts.specs.OneSpan.{ShareOneSpan}
use Rattle.timeline_view.specs.Chunks.{ArePartsOf, IsPartOf, covers_of}
use Rattle.timeline_view.specs.Sweep.{AreStretches, stretch_span}
use Rattle.timeline_view.specs.declared.sweep.Stretch.{Stretch}
use Rattle.timeline_view.proofs.ChunkIds.{parts_push}
use Rattle.timeline_view.proofs.Dressing.{dress, dressed, dressed_are}
use Rattle.timeline_kept.specs.PartLists.{with_chunk}
use Rattle.timeline_kept.specs.Rows.{AreUsedOf}
use Rattle.timeline_kept.specs.Shown.{AreShown}

-- the list has a part for each of the stretches
abbrev pub Dresses : List SegmentRow → List Stretch → List ChunkPart → Type 0
Dresses rows ps list = (qs : List TimelinePart) × ArePartsOf rows ps qs × (list ≡ dressed ps qs)

dress_is : (rows : List SegmentRow) (p : Stretch) (q : TimelinePart) → IsPartOf rows p q → dress p q ≡ with_chunk q p.top.span
dress_is rows p q w = sym (ap (λ (e : Extent). record { span = e; chunk = p.top.span; version = q.version; ids = q.ids }) w.span_is
    ∙ ap (λ (v : ℤ). record { span = stretch_span p; chunk = p.top.span; version = v; ids = q.ids }) w.version_is)

dressed_push : (rows : List SegmentRow) (ps : List Stretch) (qs : List TimelinePart) (p : Stretch) (q : TimelinePart) → ArePartsOf rows ps qs → IsPartOf rows p q → dressed ps qs ++ with_chunk q p.top.span ∷ [] ≡ dressed (ps ++ p ∷ []) (qs ++ q ∷ [])
dressed_push rows [] [] p q w h = ap (λ (x : ChunkPart). x ∷ []) (sym (dress_is rows p q h))
dressed_push rows [] (y ∷ qs) p q w h = absurd w
dressed_push rows (x ∷ ps) [] p q w h = absurd w
dressed_push rows (x ∷ ps) (y ∷ qs) p q w h = ap (λ (xs : List ChunkPart). dress x y ∷ xs) (dressed_push rows ps qs p q w.1 h)

pub dresses_none : (rows : List SegmentRow) (list : List ChunkPart) → list ≡ [] → Dresses rows [] list
dresses_none rows list e = ([], tt, e)

pub dresses_more : (rows : List SegmentRow) (ps : List Stretch) (list new : List ChunkPart) (p : Stretch) (q : TimelinePart) → Dresses rows ps list → IsPartOf rows p q → new ≡ list ++ with_chunk q p.top.span ∷ [] → Dresses rows (ps ++ p ∷ []) new
dresses_more rows ps list new p q (qs, w, e) h f = (qs ++ q ∷ [], parts_push rows ps qs p q w h, f ∙ ap (λ (xs : List ChunkPart). xs ++ with_chunk q p.top.span ∷ []) e ∙ dressed_push rows ps qs p q w h)

-- the parts of all stretches are those of the timeline
pub dresses_all : (rows : List SegmentRow) (ps : List Stretch) (list : List ChunkPart) → AreStretches (covers_of rows) ps → Dresses rows ps list → (source : List ℕ) → AreUsedOf rows source → ShareOneSpan rows source → AreShown (chunk_at rows source) list
dresses_all rows ps list st (qs, w, e) source used one = subst (λ (xs : List ChunkPart). AreShown (chunk_at rows source) xs) (sym e)
    (dressed_are rows source one ps qs (subst (λ (rs : List SegmentRow). AreStretches (covers_of rs) ps) (sym used) st) (subst (λ (rs : List SegmentRow). ArePartsOf rs ps qs) (sym used) w))
