use Rattle.std.proofs.Common.{List, [], ap, filter, ◌∙◌, ◌≡◌}
use Rattle.book_rows.specs.Carried.{to_replace}
use Rattle.book_rows.specs.Lists.{gathered}
use Rattle.book_rows.specs.Visible.{is_used_over}
use Rattle.book_rows.specs.declared.rows.SegmentRow.{SegmentRow}
use Rattle.timeline_view.specs.Chunks.{covers_of}
use Rattle.timeline_view.specs.Looks.{ends_over, is_read, look_on, put_all_read}
use Rattle.timeline_view.specs.declared.looks.Look.{Look}
use Rattle.timeline_view.proofs.Instants.{all_lie}
use Rattle.timeline_view.proofs.Reading.{read_is}
use Rattle.timeline_view.proofs.Seeing.{looks_at_all}
use Rattle.timeline_view.proofs.Tops.{looks_are_alike}
use Rattle.timeline_view.proofs.replacing.to_replace.Goals as goal

pub returns : goal.returns
returns c =
    let segments = c.args.segments.now.segments in
    let pubs = c.args.streams.now.publications in
    let posse = c.args.posse.now in
    let rows_are : c.in_ok-rows.rows.items ≡ filter (is_used_over posse.source posse.span) segments = c.in_ok-rows.ensures in
    let over : List SegmentRow = filter (is_used_over posse.source posse.span) segments in
    let looks_are : c.in_ok-looks.looks ≡ looks_at_all segments posse.source posse.span =
    c.in_ok-looks.ensures
    ∙ (
    ap (λ (rs : List SegmentRow). gathered (look_on (covers_of rs)) (ends_over posse.span rs)) (c.deref.ensures.value ∙ rows_are)
    ∙ looks_are_alike segments posse.source posse.span (ends_over posse.span over) (all_lie posse.span over)
    ) in
    let roots_are : c.in_ok-roots.roots.keys ≡ to_replace segments pubs posse =
    c.in_ok-roots.ensures
    ∙ (
    ap (λ (ls : List Look). put_all_read (is_read ls pubs posse.since) c.in_ok-rows.rows.items []) looks_are
    ∙ (ap (λ (rs : List SegmentRow). put_all_read (is_read (looks_at_all segments posse.source posse.span) pubs posse.since) rs []) rows_are ∙ read_is segments pubs posse)
    ) in
    rw (← roots_are) c.listed.ensures
