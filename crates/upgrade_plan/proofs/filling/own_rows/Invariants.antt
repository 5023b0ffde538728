use Rattle.std.proofs.Common.{take, ◌≡◌}
use Rattle.book_rows.specs.Lists.{gathered}
use Rattle.book_rows.specs.Rewrite.{own_rows}
use Rattle.upgrade_plan.proofs.filling.own_rows.Given as goal

abbrev pub invariant-loop-target : goal.invariant-loop-target
invariant-loop-target l = l.rows.items ≡ gathered (λ x. own_rows l.commit l.ids.ids.now l.tombstones.ids.now x.span) (take l.target-index l.targets)
