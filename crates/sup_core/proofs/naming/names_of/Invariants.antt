use Rattle.std.proofs.Common.{◌≡◌, map, take}
use Rattle.book_rows.specs.Sequences.{name_of}
use Rattle.sup_core.proofs.naming.names_of.Given as goal

abbrev pub invariant-loop-sequence : goal.invariant-loop-sequence
invariant-loop-sequence l = l.names.items ≡ map name_of (map (λ u. u.now) (take l.sequence-index l.sequences))
