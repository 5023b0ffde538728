use Rattle.tab_sequences.proofs.Results.{either}
use Rattle.tab_sequences.proofs.table.Sequences.add_all.Goals as goal

pub invariant_of-self : goal.invariant_of-self
invariant_of-self c =
    either c.push_all.result c.push_all.ensures.ok c.push_all.ensures.err
    (λ e. rw (e, c.self.view_is) c.requires)
    (λ e. rw e c.self.invariant)
