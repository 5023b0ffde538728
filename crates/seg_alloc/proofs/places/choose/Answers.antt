use Rattle.std.proofs.Common.{List, Option, Result, Some, subst, sym, ℤ, ◌≡◌}
use Rattle.std.proofs.lemmas.Int.{to_z-of_z}
use mir.Val.{SFits}
use mir.Syntax.{w64}
use Rattle.iv_span.specs.Extent.{Extent}
use Rattle.book_rows.specs.declared.answers.Place.{Place}
use Rattle.book_rows.specs.declared.replies.Refusal.{Refusal}
use Rattle.book_rows.specs.declared.rows.PendingRow.{PendingRow}
use Rattle.book_rows.specs.declared.rows.SegmentRow.{SegmentRow}
use Rattle.tab_segments.specs.SegmentRows.{visible_chunk}
use Rattle.seg_alloc.specs.Answers.{IsPlaced}
use Rattle.seg_alloc.proofs.Placed.{place_visible}
use Rattle.seg_alloc.proofs.places.choose.Goals as goal

pub returns-in-Some : goal.returns-in-Some
returns-in-Some c =
    let fits : SFits w64 c.args.at = c.ranges.at in
    let rows : List SegmentRow = c.args.segments.now.segments in
    let ps : List PendingRow = c.args.pendings.now.pendings in
    let seen : ◌≡◌ {A = Option (Extent × ℤ)} (Some c.in-Some.chunk) (visible_chunk rows c.args.source.now c.args.at) = simp to_z-of_z at c.in-Some.ensures in
    subst (λ (r : Result Place Refusal). IsPlaced c.args.at c.uncut.result r)
    (sym (place_visible rows ps c.args.source.now c.args.at c.args.granularity c.in-Some.chunk.0 c.in-Some.chunk.1 seen))
    (c.uncut.ensures c.args.at)
