use Rattle.std.proofs.Common.{take, ◌≡◌}
use Rattle.row_search.proofs.index.index.Given as goal

abbrev pub invariant-loop-row : goal.invariant-loop-row
invariant-loop-row g l = l.made ≡ take l.row-index l.rows
