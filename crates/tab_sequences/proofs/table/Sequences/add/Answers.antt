use Rattle.tab_sequences.proofs.Names.{distinct_added}
use Rattle.tab_sequences.proofs.Results.{either}
use Rattle.tab_sequences.proofs.table.Sequences.add.Goals as goal

pub invariant_of-self : goal.invariant_of-self
invariant_of-self c =
    either c.push.result c.push.ensures.ok c.push.ensures.err
    (λ e. rw e (distinct_added c.self.inside.rows c.args.row c.args.name c.requires.name (rw c.self.view_is c.requires.new) c.self.invariant))
    (λ e. rw e c.self.invariant)
