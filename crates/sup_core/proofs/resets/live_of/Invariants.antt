use Rattle.std.proofs.Common.{◌≡◌, map, take}
use Rattle.book_rows.specs.Lists.{gathered}
use Rattle.sup_core.proofs.resets.live_of.Given as goal

abbrev pub invariant-loop-sequence : goal.invariant-loop-sequence
invariant-loop-sequence l = l.tasks.items ≡ gathered (λ u. u.live) (map (λ u. u.now) (take l.sequence-index l.open))
