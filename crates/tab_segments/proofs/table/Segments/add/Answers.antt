use Rattle.std.proofs.Common.{IsNone, subst, sym}
use Rattle.tab_segments.specs.SegmentRows.{segment_of}
use Rattle.tab_segments.proofs.Distinct.{distinct_id}
use Rattle.tab_segments.proofs.Rows.{either}
use Rattle.tab_segments.proofs.table.Segments.add.Goals as goal

pub invariant_of-self : goal.invariant_of-self
invariant_of-self c =
    let none = subst (λ s. IsNone (segment_of c.args.row.id s.segments)) (sym c.self.view_is) c.requires in
    either c.push.result c.push.ensures.ok c.push.ensures.err
    (λ e. (c.self.invariant.0, rw e (distinct_id c.self.inside.segments c.args.row c.self.invariant.1 none)))
    (λ e. (c.self.invariant.0, rw e c.self.invariant.1))
