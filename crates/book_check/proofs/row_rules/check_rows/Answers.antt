use Rattle.std.proofs.Common.{[], rules, ◌∷◌}
use Rattle.laws_unsound.specs.Unsound.{BelowLocks, Compatible, Copied, OneSpan, Rooted, Shape, Whole}
use Rattle.book_check.proofs.First.{full_first, told_row}
use Rattle.book_check.proofs.row_rules.check_rows.Goals as goal

pub returns-then-not-has_room : goal.returns-then-not-has_room
returns-then-not-has_room c = told_row Shape (Compatible ∷ OneSpan ∷ BelowLocks ∷ Rooted ∷ Whole ∷ Copied ∷ []) c.args.book.now 0 (full_first c.args.book.now (search rules))
