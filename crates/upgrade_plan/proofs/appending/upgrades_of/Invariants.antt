use Rattle.std.proofs.Common.{take, ◌≡◌}
use Rattle.book_rows.specs.Append.{upgrade_of}
use Rattle.book_rows.specs.Lists.{gathered}
use Rattle.upgrade_plan.proofs.appending.upgrades_of.Given as goal

abbrev pub invariant-loop-id : goal.invariant-loop-id
invariant-loop-id l = l.rows.items ≡ gathered (upgrade_of l.posses l.segments.chunks) (take l.id-index l.ids)
