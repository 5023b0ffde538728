use Rattle.std.proofs.Common.{◌∙◌, ap, map, of_z, subst, sym, to_z, w64}
use Rattle.std.proofs.lemmas.Int.{to_z-of_z}
use Rattle.book_rows.specs.Shape.{AreDistinct, same_chunk_row}
use Rattle.tab_segments.specs.SegmentRows.{SegmentRows, chunk_id, with_next}
use Rattle.tab_segments.proofs.Distinct.{all_next, distinct_next}
use Rattle.tab_segments.proofs.table.Segments.set_next.Goals as goal

pub invariant_of-self : goal.invariant_of-self
invariant_of-self c =
    let id = chunk_id c.args.source.now c.args.span (to_z w64 (of_z w64 c.args.version)) in (
      subst (AreDistinct same_chunk_row) (sym (c.change_all.ensures ∙ all_next id c.args.next c.self.inside.chunks)) (distinct_next id c.args.next c.self.inside.chunks c.self.invariant.0),
      c.self.invariant.1,
    )

pub returns : goal.returns
returns c =
    let id = chunk_id c.args.source.now c.args.span (to_z w64 (of_z w64 c.args.version)) in
    let after : SegmentRows → SegmentRows = λ s. record s { chunks = map (with_next (chunk_id c.args.source.now c.args.span c.args.version) c.args.next) s.chunks } in
    let whole : SegmentRows = record { chunks = c.self.inside.chunks; segments = c.self.inside.segments } in
    ap (λ cs. record whole { chunks = cs }) (c.change_all.ensures ∙ all_next id c.args.next c.self.inside.chunks)
    ∙ (
    ap (λ v. record whole { chunks = map (with_next (chunk_id c.args.source.now c.args.span v) c.args.next) whole.chunks }) (to_z-of_z w64 c.args.version c.ranges.version)
    ∙ ap after c.self.view_is
    )
