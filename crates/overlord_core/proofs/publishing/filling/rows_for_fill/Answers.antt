use Rattle.std.proofs.Common.{◌≤◌, length, subst, sym}
use Rattle.book_rows.specs.Outcome.{row_limit}
use Rattle.book_rows.specs.declared.rows.Book.{Book}
use Rattle.overlord_core.proofs.Plans.{rows_within}
use Rattle.overlord_core.proofs.publishing.filling.rows_for_fill.Goals as goal

pub over_rows-requires-clause-pendings : goal.over_rows-requires-clause-pendings
over_rows-requires-clause-pendings c = subst (λ (x : Book). length x.pendings ≤ row_limit) (sym c.core.view_is) (rows_within c.args.core.now c.requires.sound).0

pub over_rows-requires-clause-upgrades : goal.over_rows-requires-clause-upgrades
over_rows-requires-clause-upgrades c = subst (λ (x : Book). length x.upgrades ≤ row_limit) (sym c.core.view_is) (rows_within c.args.core.now c.requires.sound).1
