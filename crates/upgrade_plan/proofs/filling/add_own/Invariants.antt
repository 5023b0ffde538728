use Rattle.std.proofs.Common.{filter, map, take, ◌++◌, ◌≡◌}
use Rattle.book_rows.specs.Ids.{is_of_span}
use Rattle.upgrade_plan.specs.NewRows.{row_of}
use Rattle.upgrade_plan.proofs.filling.add_own.Given as goal

abbrev pub invariant-loop-id : goal.invariant-loop-id
invariant-loop-id l = l.rows.items ≡ l.fn.rows.items ++ map (row_of l.commit l.tombstone) (filter (is_of_span l.span) (take l.id-index l.id-items))
