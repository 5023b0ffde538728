-- The first rule that a book breaks, and the least row that breaks it.
use Rattle.std.specs.Prelude.{◌∷◌, List, None, Option, Some, [], ℕ}
use Rattle.book_rows.specs.declared.rows.Book.{Book}
use Rattle.laws_unsound.specs.ChunkRows.{below_locks_row, compatible_row, copied_row, one_span_row, rooted_rows, whole_row}
use Rattle.laws_unsound.specs.HistoryRows.{carried_row, shown_row, tiled_row}
use Rattle.laws_unsound.specs.Rows.{least}
use Rattle.laws_unsound.specs.SequenceRows.{sequence_row}
use Rattle.laws_unsound.specs.ShapeRows.{shape_rows}

-- the rules, in their order
pub data Rule : Type 0 where
  Shape : Rule
  Compatible : Rule
  OneSpan : Rule
  BelowLocks : Rule
  Rooted : Rule
  Whole : Rule
  Copied : Rule
  Carried : Rule
  Shown : Rule
  Tiled : Rule
  InSequence : Rule

abbrev pub number : Rule → ℕ
number Shape = 0
number Compatible = 1
number OneSpan = 2
number BelowLocks = 3
number Rooted = 4
number Whole = 5
number Copied = 6
number Carried = 7
number Shown = 8
number Tiled = 9
number InSequence = 10

abbrev pub all_rules : List Rule
all_rules = Shape ∷ Compatible ∷ OneSpan ∷ BelowLocks ∷ Rooted ∷ Whole ∷ Copied ∷ Carried ∷ Shown ∷ Tiled ∷ InSequence ∷ []

-- the least row that breaks the rule, if one does; row 0 where the rule is of the whole book
abbrev pub row_of : Rule → Book → Option ℕ
row_of Shape b = least (shape_rows b)
row_of Compatible b = compatible_row b
row_of OneSpan b = one_span_row b
row_of BelowLocks b = below_locks_row b
row_of Rooted b = least (rooted_rows b)
row_of Whole b = whole_row b
row_of Copied b = copied_row b
row_of Carried b = carried_row b
row_of Shown b = shown_row b
row_of Tiled b = tiled_row b
row_of InSequence b = sequence_row b

-- a rule that the book breaks, and a row that breaks it
pub record Breach : Type 0 where
  pub rule : Rule
  pub row : ℕ

abbrev pub breach_or : Rule → Option ℕ → Option Breach → Option Breach
breach_or rule None rest = rest
breach_or rule (Some row) rest = Some (record { rule = rule; row = row })

abbrev pub first_breach : List Rule → Book → Option Breach
first_breach [] b = None
first_breach (rule ∷ rules) b = breach_or rule (row_of rule b) (first_breach rules b)

abbrev pub first_unsound : Book → Option Breach
first_unsound b = first_breach all_rules b
