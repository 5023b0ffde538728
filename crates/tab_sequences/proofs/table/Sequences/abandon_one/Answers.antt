use Rattle.std.proofs.Common.{refl}
use Rattle.tab_sequences.specs.Changes.{abandoned_one}
use Rattle.tab_sequences.proofs.Names.{distinct_map}
use Rattle.tab_sequences.proofs.table.Sequences.abandon_one.Goals as goal

pub invariant_of-self : goal.invariant_of-self
invariant_of-self c = rw c.abandon_one_in.ensures (distinct_map (abandoned_one c.args.name.now) (λ u. refl) c.self.inside.rows c.self.invariant)
