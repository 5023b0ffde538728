use Rattle.std.proofs.Common.{◌≡◌, drop}
use Rattle.book_rows.specs.Append.{without_roots}
use Rattle.publish_rows.proofs.taking.take_roots.Given as goal

-- what the others leave of the pendings is what all leave of the first ones
abbrev pub invariant-loop-id : goal.invariant-loop-id
invariant-loop-id l = (
    record l.pendings { pendings = without_roots (drop l.id-index l.ids) l.pendings.pendings }
    ≡ record l.fn.pendings { pendings = without_roots l.ids l.fn.pendings.pendings }
    )
