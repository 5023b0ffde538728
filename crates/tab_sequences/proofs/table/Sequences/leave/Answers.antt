use Rattle.std.proofs.Common.{refl}
use Rattle.book_rows.specs.Reports.{left_by}
use Rattle.tab_sequences.proofs.Names.{distinct_map}
use Rattle.tab_sequences.proofs.table.Sequences.leave.Goals as goal

pub invariant_of-self : goal.invariant_of-self
invariant_of-self c = rw c.leave_in.ensures (distinct_map (left_by c.args.task.now) (λ u. refl) c.self.inside.rows c.self.invariant)
