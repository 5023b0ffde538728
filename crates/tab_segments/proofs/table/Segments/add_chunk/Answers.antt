use Rattle.std.proofs.Common.{IsNone, subst, sym}
use Rattle.book_rows.specs.Allocation.{chunk_of}
use Rattle.tab_segments.specs.SegmentRows.{chunk_id}
use Rattle.tab_segments.proofs.Distinct.{distinct_chunk}
use Rattle.tab_segments.proofs.Rows.{either}
use Rattle.tab_segments.proofs.table.Segments.add_chunk.Goals as goal

pub invariant_of-self : goal.invariant_of-self
invariant_of-self c =
    let row = c.args.row in
    let none = subst (λ s. IsNone (chunk_of (chunk_id row.source row.span row.version) s.chunks)) (sym c.self.view_is) c.requires in
    either c.push.result c.push.ensures.ok c.push.ensures.err
    (λ e. (rw e (distinct_chunk c.self.inside.chunks row c.self.invariant.0 none), c.self.invariant.1))
    (λ e. (rw e c.self.invariant.0, c.self.invariant.1))
