use Rattle.std.proofs.Common.{FitsSigned, rules, w64}
use Rattle.std.proofs.lemmas.Int.{to_z-of_z}
use Rattle.book_rows.specs.Over.{Replacing}
use Rattle.upgrade_plan.proofs.Counting.{copies_fit}
use Rattle.upgrade_plan.proofs.filling.Plan.copies_from.Goals as goal

pub copies_for_replace-requires : goal.copies_for_replace-requires
copies_for_replace-requires c =
    let fits : FitsSigned w64 c.target.inside.version = search rules in
    rw (to_z-of_z w64 c.target.inside.version fits)
    (copies_fit Replacing c.args.self.now.pendings.now c.args.self.now.source.now c.args.self.now.commit
    (record { span = c.target.inside.span; lock = c.target.inside.lock; version = c.target.inside.version; since = 0 }) c.args.from c.requires.first c.requires.rows)
