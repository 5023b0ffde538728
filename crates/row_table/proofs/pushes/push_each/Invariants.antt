use Rattle.std.proofs.Common.{◌≡◌, ◌+◌, ◌++◌, length}
use Rattle.row_index.specs.Index.{IsIndexed, IsMore, row_at}
use Rattle.row_table.specs.Table.{AreBelow, numbered_from}
use Rattle.row_table.proofs.pushes.push_each.Given as goal

abbrev pub invariant-loop-row : goal.invariant-loop-row
invariant-loop-row g l =
    (l.rows.entries ≡ l.fn.rows.entries ++ numbered_from l.start l.yielded)
    × (l.number ≡ l.start + length l.yielded)
    × AreBelow l.number l.rows.entries
    × IsIndexed g.T.Keyed.keys (row_at l.rows.entries) l.keys.entries
    × IsMore l.fn.keys.entries l.keys.entries
