use Rattle.std.proofs.Common.{filter, length, take, ◌≡◌, ◌≤◌}
use Rattle.book_rows.specs.Ids.{is_of_span}
use Rattle.upgrade_plan.proofs.spans.count_of.Given as goal

abbrev pub invariant-loop-id : goal.invariant-loop-id
invariant-loop-id l = (l.count ≡ length (filter (is_of_span l.span) (take l.id-index l.ids))) × (l.count ≤ l.id-index)
