use Rattle.std.proofs.Common.{map, take, ◌≡◌}
use Rattle.chunk_rules.specs.Copies.{root_chunk}
use Rattle.chunk_rules.proofs.copied.with_roots.Given as goal

abbrev pub invariant-loop-row : goal.invariant-loop-row
invariant-loop-row l = l.found.items ≡ map (root_chunk l.pendings) (take l.row-index l.chunks)
