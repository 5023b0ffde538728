use Rattle.std.proofs.Common.{ap, subst, sym, ◌∙◌}
use Rattle.book_rows.specs.Shown.{used_rows}
use Rattle.timeline_view.specs.Chunks.{covers_of}
use Rattle.timeline_view.specs.Contents.{AreAscending, AreContentsOf}
use Rattle.timeline_view.specs.Sweep.{AreStretches}
use Rattle.timeline_view.proofs.Piecing.{stretches_ascend}
use Rattle.timeline_view.proofs.Showing.{marks_in, parts_are_contents}
use Rattle.timeline_view.proofs.root_parts.contents.Goals as goal

pub parts_of-requires-clause-ascend : goal.parts_of-requires-clause-ascend
parts_of-requires-clause-ascend c = subst AreAscending (sym c.deref-5.ensures.value) (stretches_ascend c.deref-2.result.now c.in_ok-stretches.stretches.items c.in_ok-stretches.ensures)

pub returns : goal.returns
returns c =
    let rows = c.args.segments.now.segments in
    let source = c.args.source.now in
    let ps = c.in_ok-stretches.stretches.items in
    let qs = c.in_ok-parts.parts.items in
    let stretched : AreStretches (covers_of (used_rows rows source)) ps = subst (λ cs. AreStretches cs ps) (c.deref-2.ensures.value ∙ c.in_ok-covers.ensures ∙ ap covers_of (c.deref.ensures.value ∙ c.in_ok-rows.ensures)) c.in_ok-stretches.ensures in
    let built : AreContentsOf ps (marks_in (used_rows rows source)) qs = subst (λ ms. AreContentsOf ps ms qs) (c.deref-6.ensures.value ∙ c.in_ok-marks.ensures ∙ ap marks_in (c.deref-3.ensures.value ∙ c.in_ok-rows.ensures)) (subst (λ xs. AreContentsOf xs c.deref-6.result.now qs) c.deref-5.ensures.value c.in_ok-parts.ensures) in
    parts_are_contents rows source ps qs stretched built
