use Rattle.std.proofs.Common.{refl}
use Rattle.book_rows.specs.Sequences.{published}
use Rattle.tab_sequences.proofs.Names.{distinct_map}
use Rattle.tab_sequences.proofs.table.Sequences.publish.Goals as goal

pub invariant_of-self : goal.invariant_of-self
invariant_of-self c = rw c.publish_in.ensures (distinct_map (published c.args.name.now) (λ u. refl) c.self.inside.rows c.self.invariant)
