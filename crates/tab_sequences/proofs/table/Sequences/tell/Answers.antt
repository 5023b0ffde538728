use Rattle.std.proofs.Common.{refl}
use Rattle.tab_sequences.specs.Changes.{told_in}
use Rattle.tab_sequences.proofs.Names.{distinct_map}
use Rattle.tab_sequences.proofs.Results.{either}
use Rattle.tab_sequences.proofs.table.Sequences.tell.Goals as goal

pub invariant_of-self : goal.invariant_of-self
invariant_of-self c =
    either c.tell_in.result c.tell_in.ensures.ok c.tell_in.ensures.err
    (λ e. rw e (distinct_map (told_in c.args.name.now c.args.reports c.args.closing) (λ u. refl) c.self.inside.rows c.self.invariant))
    (λ e. rw e c.self.invariant)
