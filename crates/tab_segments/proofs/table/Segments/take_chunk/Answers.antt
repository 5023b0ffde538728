use Rattle.std.proofs.Common.{not, of_z, subst, sym, to_z, w64}
use Rattle.book_rows.specs.Allocation.{is_of_chunk}
use Rattle.book_rows.specs.Shape.{AreDistinct, same_chunk_row}
use Rattle.tab_segments.specs.SegmentRows.{chunk_id}
use Rattle.tab_segments.proofs.Distinct.{distinct_left}
use Rattle.tab_segments.proofs.table.Segments.take_chunk.Goals as goal

pub invariant_of-self : goal.invariant_of-self
invariant_of-self c =
    let id = chunk_id c.args.source.now c.args.span (to_z w64 (of_z w64 c.args.version)) in
    (subst (AreDistinct same_chunk_row) (sym c.remove_all.ensures) (distinct_left (λ d. not (is_of_chunk d id)) c.self.inside.chunks c.self.invariant.0), c.self.invariant.1)
