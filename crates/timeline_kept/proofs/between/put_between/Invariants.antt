use Rattle.std.proofs.Common.{drop, ◌≡◌}
use Rattle.timeline_kept.specs.PartLists.{parts_between, put_parts}
use Rattle.timeline_kept.proofs.between.put_between.Given as goal

abbrev pub invariant-loop-place : goal.invariant-loop-place
invariant-loop-place l = put_parts l.out (parts_between l.from l.to (drop l.place l.list)) ≡ put_parts l.fn.out (parts_between l.from l.to l.list)
