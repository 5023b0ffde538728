use Rattle.std.proofs.Common.{◌≡◌, ◌-◌}
use Rattle.snap_codec.specs.Readers.{each_at}
use Rattle.snap_codec.proofs.Counted.{with_front}
use Rattle.snap_codec.proofs.values.each.Given as goal

-- the values so far, and those still to be read, are what reading all of them gives
abbrev pub invariant-loop : goal.invariant-loop
invariant-loop g l = with_front l.items.items (each_at g.T.Read.reads (l.count - l.counter) l.cursor.rest) ≡ each_at g.T.Read.reads l.count l.fn.cursor.rest
