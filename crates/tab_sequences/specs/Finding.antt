-- The sequence of a group's index.
use Rattle.std.specs.Prelude.{◌&&◌, ◌==◌, Bool, List, ℕ}
use Rattle.book_rows.specs.Sequences.{is_of_group}
use Rattle.book_rows.specs.declared.rows.SequenceRow.{SequenceRow}

abbrev pub is_at_index : List ℕ → ℕ → ℕ → SequenceRow → Bool
is_at_index source group index u = is_of_group source group u && (u.index == index)
