use Rattle.std.proofs.Common.{◌≡◌}
use Rattle.row_index.specs.Index.{IsIndexed, row_at}
use Rattle.row_table.specs.Table.{AreShown, placed}
use Rattle.row_table.proofs.updates.place_updates.Given as goal

abbrev pub invariant-loop-update : goal.invariant-loop-update
invariant-loop-update g l =
    (l.found.items ≡ placed g.U.Query.passes l.rows.entries l.yielded)
    × AreShown g.U.Keyed.keys l.keys.entries l.found.items
    × IsIndexed g.T.Keyed.keys (row_at l.rows.entries) l.keys.entries
