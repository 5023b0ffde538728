use Rattle.std.proofs.Common.{◌≡◌, length}
use Rattle.row_index.specs.Index.{IsIndexed, row_at}
use Rattle.row_table.specs.Table.{AreShown, changed_each}
use Rattle.row_table.proofs.updates.update_each.Given as goal

-- what is left to do makes of the rows what all makes of those at the start
abbrev pub invariant-loop-number : goal.invariant-loop-number
invariant-loop-number g l =
    (changed_each g.U.Update.after l.found.items l.rows.entries ≡ changed_each g.U.Update.after l.fn.found.items l.fn.rows.entries)
    × AreShown g.U.Keyed.keys l.keys.entries l.found.items
    × IsIndexed g.T.Keyed.keys (row_at l.rows.entries) l.keys.entries

abbrev pub decreases-loop-number : goal.decreases-loop-number
decreases-loop-number g l = length l.found.items
