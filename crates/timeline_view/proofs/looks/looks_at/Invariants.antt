use Rattle.std.proofs.Common.{◌++◌, ◌≡◌}
use Rattle.book_rows.specs.Lists.{gathered}
use Rattle.timeline_view.specs.Looks.{look_in}
use Rattle.timeline_view.proofs.looks.looks_at.Given as goal

abbrev pub invariant-loop-at : goal.invariant-loop-at
invariant-loop-at l = l.looks ++ gathered (look_in l.stretches) l.at-iterator ≡ gathered (look_in l.stretches) l.instants.keys
