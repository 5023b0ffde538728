use Rattle.std.proofs.Common.{subst, sym}
use Rattle.seg_names.specs.Ids.{same_id}
use Rattle.book_rows.specs.Shape.{AreDistinct}
use Rattle.tab_segments.proofs.Distinct.{ids_unused}
use Rattle.tab_segments.proofs.table.Segments.unuse.Goals as goal

pub invariant_of-self : goal.invariant_of-self
invariant_of-self c = (
  c.self.invariant.0,
  rw c.unuse.ensures (subst (AreDistinct same_id) (sym (ids_unused c.args.source.now c.args.span c.self.inside.segments)) c.self.invariant.1),
)
