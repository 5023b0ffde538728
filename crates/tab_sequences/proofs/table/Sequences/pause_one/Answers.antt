use Rattle.std.proofs.Common.{refl}
use Rattle.tab_sequences.specs.Changes.{paused_one}
use Rattle.tab_sequences.proofs.Names.{distinct_map}
use Rattle.tab_sequences.proofs.table.Sequences.pause_one.Goals as goal

pub invariant_of-self : goal.invariant_of-self
invariant_of-self c = rw c.pause_one_in.ensures (distinct_map (paused_one c.args.name.now) (λ u. refl) c.self.inside.rows c.self.invariant)
