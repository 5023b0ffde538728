use Rattle.std.proofs.Common.{[], sym, ◌∙◌, ◌∷◌}
use Rattle.laws_unsound.specs.Unsound.{BelowLocks, Compatible, Copied, OneSpan, Rooted, Shape, Whole}
use Rattle.book_check.proofs.First.{told_rest, told_row}
use Rattle.book_check.proofs.row_rules.check_counted_rows.Goals as goal

pub returns-in-Some : goal.returns-in-Some
returns-in-Some c = told_row Shape (Compatible ∷ OneSpan ∷ BelowLocks ∷ Rooted ∷ Whole ∷ Copied ∷ []) c.args.book.now c.in-Some.row (sym c.in_ok-found.ensures ∙ c.in-Some.is)

pub returns-in-None : goal.returns-in-None
returns-in-None c = told_rest Shape (Compatible ∷ OneSpan ∷ BelowLocks ∷ Rooted ∷ Whole ∷ Copied ∷ []) c.args.book.now c.check_compatible.result (sym c.in_ok-found.ensures ∙ c.in-None.is) c.check_compatible.ensures
