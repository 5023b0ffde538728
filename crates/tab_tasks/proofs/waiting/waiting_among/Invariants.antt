use Rattle.std.proofs.Common.{◌≡◌, map, take}
use Rattle.std.specs.Map.{values_of}
use Rattle.tab_tasks.specs.Waiting.{waiting_at}
use Rattle.tab_tasks.proofs.waiting.waiting_among.Given as goal

-- the rows that the places so far lead to
abbrev pub invariant-loop-place : goal.invariant-loop-place
invariant-loop-place l = map (λ r. r.now) l.found.items ≡ waiting_at (values_of l.rows.entries) (take l.place-index l.places)
