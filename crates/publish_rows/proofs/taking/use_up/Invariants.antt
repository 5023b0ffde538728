use Rattle.std.proofs.Common.{◌≡◌, drop, filter, not}
use Rattle.book_rows.specs.Rewrite.{is_used_up}
use Rattle.publish_rows.proofs.taking.use_up.Given as goal

-- what the others leave of the upgrade rows is what all leave of the first ones
abbrev pub invariant-loop-target : goal.invariant-loop-target
invariant-loop-target l = (
    record l.pendings { upgrades = filter (λ u. not (is_used_up (drop l.target-index l.targets) u)) l.pendings.upgrades }
    ≡ record l.fn.pendings { upgrades = filter (λ u. not (is_used_up l.targets u)) l.fn.pendings.upgrades }
    )
