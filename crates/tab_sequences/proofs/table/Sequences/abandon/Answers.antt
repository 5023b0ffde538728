use Rattle.std.proofs.Common.{refl}
use Rattle.book_rows.specs.Sequences.{abandoned}
use Rattle.tab_sequences.proofs.Names.{distinct_map}
use Rattle.tab_sequences.proofs.table.Sequences.abandon.Goals as goal

pub invariant_of-self : goal.invariant_of-self
invariant_of-self c = rw c.abandon_in.ensures (distinct_map (abandoned c.args.source.now c.args.group c.args.from) (λ u. refl) c.self.inside.rows c.self.invariant)
