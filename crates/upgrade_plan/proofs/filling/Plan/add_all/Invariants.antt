use Rattle.std.proofs.Common.{map, take, ◌++◌, ◌≡◌}
use Rattle.book_rows.specs.Lists.{gathered}
use Rattle.publish_core.specs.Kinds.{filling_of}
use Rattle.upgrade_plan.specs.NewRows.{chunk_in, copies_in}
use Rattle.upgrade_plan.proofs.filling.Plan.add_all.Given as goal

abbrev pub invariant-loop-target : goal.invariant-loop-target
invariant-loop-target l = record {
  chunks : l.rows.chunks.items
      ≡ l.fn.rows.chunks.items ++ map (chunk_in (filling_of l.self.filling) l.self.pendings.now l.self.source.now l.self.ids.ids.now l.self.commit) (take l.target-index l.targets);
  segments : l.rows.segments.items
      ≡ l.fn.rows.segments.items ++ gathered (λ x. (copies_in (filling_of l.self.filling) l.self.pendings.now l.self.source.now l.self.ids.ids.now l.self.commit x).segments) (take l.target-index l.targets);
  pendings : l.rows.pendings.items
      ≡ l.fn.rows.pendings.items ++ gathered (λ x. (copies_in (filling_of l.self.filling) l.self.pendings.now l.self.source.now l.self.ids.ids.now l.self.commit x).pendings) (take l.target-index l.targets);
}
