use Rattle.std.proofs.Common.{◌≡◌, rules, subst}
use Rattle.row_index.specs.Groups.{KeySet}
use Rattle.row_index.specs.Index.{IsKey}
use Rattle.row_index.proofs.GroupLemmas.{marked_after}
use Rattle.row_index.proofs.IndexLemmas.{more_after}
use Rattle.row_index.proofs.keys.Keys.add.Goals as goal

pub invariant_of-self-2 : goal.invariant_of-self-2
invariant_of-self-2 c = marked_after c.self.inside.marks c.self.inside.tree.entries c.insert.new.self.entries c.args.key c.self.invariant c.mark.new.marks c.in_ok-insert.ensures.updates.0 c.mark.ensures.kept c.mark.ensures.own

pub returns-clause-more : goal.returns-clause-more
returns-clause-more c =
    λ k there.
    let view : c.args.self.now ≡ record { entries = c.self.inside.tree.entries } = search rules in
    more_after c.self.inside.tree.entries c.insert.new.self.entries c.args.key c.in_ok-insert.ensures.updates.0 k (subst (λ v. IsKey v.entries k) view there)
