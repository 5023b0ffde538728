use Rattle.std.proofs.Common.{subst, sym}
use Rattle.book_rows.specs.declared.rows.Book.{Book}
use Rattle.book_core.specs.Allocations.{MayAllot}
use Rattle.book_core.proofs.NewIds.{made_done, may_allot}
use Rattle.book_core.proofs.tables.Core.made_id.Goals as goal

pub given_id-requires : goal.given_id-requires
given_id-requires c =
    subst (λ (b : Book). MayAllot b c.args.new.pending) (sym c.in-Ok.ensures) (may_allot c.args.self.now c.args.task.now c.args.new c.requires.sound c.requires.made)

pub returns-in-Ok : goal.returns-in-Ok
returns-in-Ok c =
    made_done c.given_id.result c.args.self.now c.book_granted.new.self c.given_id.new.self c.args.task.now c.args.new c.in-Ok.ensures c.given_id.ensures
