-- What a checker tells of a book.
use Rattle.std.specs.Prelude.{◌∷◌, ◌≡◌, Err, List, Ok, Option, None, Result, Some, [], ⊤, ℕ}
use Rattle.book_rows.specs.declared.rows.Book.{Book}
use Rattle.laws_unsound.specs.Unsound.{BelowLocks, Breach, Compatible, Copied, OneSpan, Rooted, Rule, Shape, Whole, first_breach, number}
use Rattle.book_check.specs.declared.faults.CheckFault.{CheckFault}
use Rattle.book_check.specs.declared.faults.CheckFault.TheVariants as Faults

-- a rule and a row are those of the breach
abbrev pub IsBreach : ℕ → ℕ → Option Breach → Type 0
IsBreach rule row None = ⊥
IsBreach rule row (Some f) = (rule ≡ number f.rule) × (row ≡ f.row)

-- the answer tells the breach, or that there is none, unless memory ran out
abbrev pub Tells : Option Breach → Result ⊤ CheckFault → Type 0
Tells o (Ok _) = o ≡ None
Tells o (Err (Faults.Unsound rule row)) = IsBreach rule row o
Tells o (Err Faults.OutOfMemory) = ⊤

-- the rules on single rows, and on pairs of locks and of chunks
abbrev pub row_rules : List Rule
row_rules = Shape ∷ Compatible ∷ OneSpan ∷ BelowLocks ∷ Rooted ∷ Whole ∷ Copied ∷ []

abbrev pub first_row_breach : Book → Option Breach
first_row_breach b = first_breach row_rules b
