use Rattle.std.proofs.Common.{map, take, ◌≡◌}
use Rattle.chunk_rules.specs.Lives.{chunk_at}
use Rattle.chunk_rules.proofs.lives.with_life.Given as goal

abbrev pub invariant-loop-chunk : goal.invariant-loop-chunk
invariant-loop-chunk l = l.found.items ≡ map (chunk_at l.segments l.pendings) (take l.chunk-index l.chunks)
