use Rattle.std.proofs.Common.{[], Ok, refl, sym, ◌∙◌}
use Rattle.laws_unsound.specs.Unsound.{Copied}
use Rattle.book_check.proofs.First.{told_rest, told_row}
use Rattle.book_check.proofs.row_rules.check_copied.Goals as goal

pub returns-in-Some : goal.returns-in-Some
returns-in-Some c = told_row Copied [] c.args.book.now c.in-Some.row (sym c.in_ok-found.ensures ∙ c.in-Some.is)

pub returns-in-None : goal.returns-in-None
returns-in-None c = told_rest Copied [] c.args.book.now (Ok tt) (sym c.in_ok-found.ensures ∙ c.in-None.is) refl
