use Rattle.std.proofs.Common.{◌≡◌, length}
use Rattle.iv_time.specs.Buckets.{and_finer}
use Rattle.book_rows.specs.Allocation.{free_bucket}
use Rattle.seg_alloc.proofs.FinerOnes.{left_to_try}
use Rattle.seg_alloc.proofs.places.free_bucket.Given as goal

-- those that are left find what all find
abbrev pub invariant-loop-next : goal.invariant-loop-next
invariant-loop-next l =
    free_bucket l.segments.segments l.pendings.pendings l.source l.fn.at (left_to_try l.next)
    ≡ free_bucket l.segments.segments l.pendings.pendings l.source l.fn.at (and_finer l.fn.granularity)

abbrev pub decreases-loop-next : goal.decreases-loop-next
decreases-loop-next l = length (left_to_try l.next)
