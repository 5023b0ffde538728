use Rattle.std.proofs.Common.{take, ◌≡◌}
use Rattle.book_rows.specs.Append.{rows_of_root}
use Rattle.book_rows.specs.Lists.{gathered}
use Rattle.upgrade_plan.proofs.appending.segments_of.Given as goal

abbrev pub invariant-loop-id : goal.invariant-loop-id
invariant-loop-id l = l.rows.items ≡ gathered (λ a. rows_of_root l.commit a l.pendings.pendings) (take l.id-index l.ids)
