-- Sequences are abandoned and pause, name by name.
use Rattle.std.specs.Prelude.{◌&&◌, ◌∷◌, Bool, List, [], bytes_eq, cond, map, ℕ}
use Rattle.std.specs.List.{list_any}
use Rattle.book_rows.specs.Kinds.{is_unpublished, same_state}
use Rattle.book_rows.specs.Sequences.{name_of}
use Rattle.book_rows.specs.declared.kinds.SeqState.TheVariants as States
use Rattle.book_rows.specs.declared.rows.SequenceRow.{SequenceRow}
use Rattle.tab_sequences.specs.Changes.{abandoned_one, paused_one}

abbrev pub abandoned_each : List (List ℕ) → List SequenceRow → List SequenceRow
abandoned_each [] us = us
abandoned_each (n ∷ ns) us = abandoned_each ns (map (abandoned_one n) us)

abbrev pub paused_each : List (List ℕ) → List SequenceRow → List SequenceRow
paused_each [] us = us
paused_each (n ∷ ns) us = paused_each ns (map (paused_one n) us)

-- ---- the same, sequence by sequence

abbrev pub is_one_of : List (List ℕ) → SequenceRow → Bool
is_one_of names u = list_any (λ n. bytes_eq (name_of u) n) names

abbrev pub abandoned_by_name : List (List ℕ) → SequenceRow → SequenceRow
abandoned_by_name names u = record u { state = cond (is_one_of names u && is_unpublished u.state) States.Abandoned u.state; live = cond (is_one_of names u && is_unpublished u.state) [] u.live }

abbrev pub paused_by_name : List (List ℕ) → SequenceRow → SequenceRow
paused_by_name names u = record u { state = cond (is_one_of names u && same_state u.state States.Reading) States.Paused u.state }

-- those of these names are abandoned, and those of the others pause
abbrev pub by_names : List (List ℕ) → List (List ℕ) → SequenceRow → SequenceRow
by_names late over u = paused_by_name over (abandoned_by_name late u)
