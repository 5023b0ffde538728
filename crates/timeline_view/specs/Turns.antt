-- The starts and ends of marks.
use Rattle.std.specs.Prelude.{◌+◌, ◌<◌, ◌∷◌, ◌≡◌, ◌≤◌, ◌≤ℤ◌, ◌⊎◌, Bool, List, Some, [], false, int_lt, length, slice_get, slice_index_or, true, ℕ, ℤ}
use Rattle.std.specs.Ordering.{bool_cmp, nat_cmp, ordering_then}
use Rattle.std.specs.declared.cmp.Ordering.{Ordering}
use Rattle.book_rows.specs.Lists.{In}
use Rattle.timeline_view.specs.declared.marks.Mark.{Mark}
use Rattle.timeline_view.specs.declared.turns.Turn.{Turn}

abbrev pub start_turn : ℕ → Mark → Turn
start_turn s m = record { at = m.start; enters = true; place = s }

abbrev pub end_turn : ℕ → Mark → Turn
end_turn s m = record { at = m.end; enters = false; place = s }

-- the turn is that of a mark, which stands at its place
abbrev pub IsTurnOf : List Mark → Turn → Mark → Type 0
IsTurnOf ms x m = (slice_get ms x.place ≡ Some m) × ((x ≡ start_turn x.place m) ⊎ (x ≡ end_turn x.place m))

-- the starts and ends of the marks, and no others
pub record AreTurns (ms : List Mark) (xs : List Turn) : Type 0 where
  pub starts : (s : ℕ) (m : Mark) → slice_get ms s ≡ Some m → In (start_turn s m) xs
  pub ends : (s : ℕ) (m : Mark) → slice_get ms s ≡ Some m → In (end_turn s m) xs
  pub of : (x : Turn) → In x xs → (m : Mark) × IsTurnOf ms x m

-- in the order of their instants
abbrev pub DoTurnsRise : List Turn → Type 0
DoTurnsRise xs = (i j : ℕ) (d : Turn) → i ≤ j → j < length xs → (slice_index_or xs i d).at ≤ℤ (slice_index_or xs j d).at

abbrev pub turn_rest : Turn → Turn → Ordering
turn_rest a b = ordering_then (bool_cmp a.enters b.enters) (nat_cmp a.place b.place)

abbrev pub is_turn_before : ℤ → Turn → Bool
is_turn_before t x = int_lt x.at t

-- the turns of marks from a place on
abbrev pub turns_from : ℕ → List Mark → List Turn
turns_from s [] = []
turns_from s (m ∷ ms) = start_turn s m ∷ end_turn s m ∷ turns_from (s + 1) ms
