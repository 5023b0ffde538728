use Rattle.std.proofs.Common.{take, ◌++◌, ◌≡◌}
use Rattle.book_rows.specs.Shape.{pending_ids, segment_ids}
use Rattle.shape_rules.proofs.key_rows.lent_ids.Given as goal

abbrev pub invariant-loop-row : goal.invariant-loop-row
invariant-loop-row l = l.ids.items ≡ segment_ids (take l.row-index l.segments)

abbrev pub invariant-loop-row-2 : goal.invariant-loop-row-2
invariant-loop-row-2 l = l.ids.items ≡ segment_ids l.segments ++ pending_ids (take l.row-index l.pendings)
