use Rattle.std.proofs.Common.{ℤ, find, pos, w64, ◌+ℤ◌, ap, ◌∙◌}
use Rattle.std.proofs.lemmas.Int.{to_z-of_z}
use Rattle.book_rows.specs.Allocation.{is_pending_over}
use Rattle.tab_pending.proofs.Instants.{pending_instant}
use Rattle.tab_pending.proofs.table.Pendings.first_at.Goals as goal

pub returns-in-Some : goal.returns-in-Some
returns-in-Some c =
    rw (← c.self.view_is)
    (c.first_in.ensures
    ∙ (
    ap (λ s. find (is_pending_over c.args.source.now s) c.self.inside.pendings) c.in-Some.ensures
    ∙ (
    ap (λ (t : ℤ). find (is_pending_over c.args.source.now (record { start = t; end = t +ℤ pos 1 })) c.self.inside.pendings) (to_z-of_z w64 c.args.at c.ranges.at)
    ∙ ap (λ f. find f c.self.inside.pendings) (pending_instant c.args.source.now c.args.at)
    )
    ))
