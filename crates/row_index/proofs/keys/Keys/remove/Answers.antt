use Rattle.row_index.proofs.GroupLemmas.{marked_less}
use Rattle.row_index.proofs.keys.Keys.remove.Goals as goal

pub invariant_of-self : goal.invariant_of-self
invariant_of-self c = marked_less c.self.inside.marks c.self.inside.tree.entries c.remove.new.self.entries c.args.key c.self.invariant c.remove.ensures.updates.0
