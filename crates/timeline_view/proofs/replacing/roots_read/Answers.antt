use Rattle.std.proofs.Common.{Bool, List, ap, sym, ◌∙◌, ◌≡◌}
use Rattle.seg_names.specs.declared.seg_id.SegId.{SegId}
use Rattle.book_rows.specs.declared.rows.SegmentRow.{SegmentRow}
use Rattle.timeline_view.specs.Looks.{is_read, put_all_read, put_read}
use Rattle.timeline_view.proofs.Reading.{last_put}
use Rattle.timeline_view.proofs.replacing.roots_read.Goals as goal

pub loop-row-preserved : goal.loop-row-preserved
loop-row-preserved c =
    let test : SegmentRow → Bool = is_read c.args.looks.now c.args.streams.now.publications c.args.since in
    let put : c.put_root.new.roots.keys ≡ put_read (test c.in-Some.row) c.in-Some.row c.loop-row.roots.keys = c.in_ok-put_root.ensures ∙ ap (λ (b : Bool). put_read b c.in-Some.row c.loop-row.roots.keys) c.is_read-is_read.ensures in
    ap (λ (ids : List SegId). put_all_read test c.pop.new.self.items ids) put
    ∙ (
    sym (last_put test c.pop.new.self.items c.in-Some.row c.loop-row.roots.keys)
    ∙ (ap (λ (rs : List SegmentRow). put_all_read test rs c.loop-row.roots.keys) (sym c.in-Some.ensures.items) ∙ c.loop-row.invariant)
    )
