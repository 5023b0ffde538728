use Rattle.std.proofs.Common.{◌++◌, subst, sym}
use Rattle.book_rows.specs.Shape.{AreDistinct, same_task}
use Rattle.book_rows.specs.declared.rows.Book.{Book}
use Rattle.overlord_core.proofs.ticking.add_tasks.Goals as goal

pub add_rows-requires : goal.add_rows-requires
add_rows-requires c = subst (λ (x : Book). AreDistinct same_task (x.tasks ++ c.args.rows.items)) (sym c.core.view_is) c.requires
