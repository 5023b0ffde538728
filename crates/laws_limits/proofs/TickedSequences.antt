-- A step of the clock keeps sequences within their limits.
use Rattle.std.proofs.Common.{◌≡◌, ℕ, ℤ, ◌<◌, ◌≤◌, ◌^◌, Bool, true, false, cond, ◌&&◌, List, [], ◌∷◌, map, find, Some, None, Option, arith, length, length-append}
use Rattle.std.specs.List.{AllByRecursion, list_all, list_any}
use Rattle.std.proofs.lemmas.Bool.{and_parts}
use Rattle.iv_time.specs.Range.{is_instant}
use Rattle.book_rows.specs.Kinds.{same_state}
use Rattle.book_rows.specs.Lists.{In}
use Rattle.book_rows.specs.Sequences.{abandoned}
use Rattle.book_rows.specs.Shape.{is_offset_row, is_supervisor_row}
use Rattle.book_rows.specs.Ticks.{Ticking, groups_of, is_active, is_late, is_over, late_from, opened_row, opens, stopped, ticked_all, ticked_group, ticked_groups, with_opened, with_stopped, without_late}
use Rattle.book_rows.specs.declared.kinds.SeqState.{SeqState}
use Rattle.book_rows.specs.declared.kinds.SeqState.TheVariants as States
use Rattle.book_rows.specs.declared.rows.Offset.{Offset}
use Rattle.book_rows.specs.declared.rows.OffsetRow.{OffsetRow}
use Rattle.book_rows.specs.declared.rows.SequenceRow.{SequenceRow}
use Rattle.book_rows.specs.declared.rows.SupervisorRow.{SupervisorRow}
use Rattle.laws_locks.proofs.Lists.{all_from_In, all_map, all_push}
use Rattle.laws_locks.proofs.Managing.{map_length}
use Rattle.laws_limits.proofs.FitRows.{AreFit, IsFitRow, fit_abandoned, fit_paused, has_state}
use Rattle.laws_limits.proofs.OpenedRows.{HasCounts, counts_of, fit_opened}

-- ---- sequences never get fewer

chain : (a b c : ℕ) → a ≤ b → b ≤ c → a ≤ c
chain a b c h k = omega arith

same_count : (f : SequenceRow → SequenceRow) (us : List SequenceRow) → length us ≤ length (map f us)
same_count f us = rw (map_length f us) (omega arith)

module _ (offsets : List OffsetRow) (now : ℤ) where
  late_grows : (o : Option SequenceRow) (s : SupervisorRow) (group : ℕ) (k : Ticking) → length k.rows ≤ length (late_from o s group k).rows
  late_grows None s group k = omega arith
  late_grows (Some u) s group k = same_count (abandoned s.source group u.index) k.rows

  opened_grows : (b : Bool) (u : SequenceRow) (k : Ticking) → length k.rows ≤ length (cond b k (opens u k)).rows
  opened_grows true u k = omega arith
  opened_grows false u k = rw (length-append k.rows (u ∷ [])) (omega arith)

  group_grows : (s : SupervisorRow) (group : ℕ) (k : Ticking) → length k.rows ≤ length (ticked_group offsets s now group k).rows
  group_grows s group k =
      let late = without_late s group now k in
      let still = with_stopped s group now late in
      chain (length k.rows) (length still.rows) (length (with_opened offsets s group now still).rows)
      (chain (length k.rows) (length late.rows) (length still.rows) (late_grows (find (is_late s group now) k.rows) s group k) (same_count (stopped s group now) late.rows))
      (opened_grows (list_any (is_active s group) still.rows) (opened_row offsets s group now still.rows) still)

  groups_grow : (gs : List ℕ) (s : SupervisorRow) (k : Ticking) → length k.rows ≤ length (ticked_groups offsets s now gs k).rows
  groups_grow [] s k = omega arith
  groups_grow (g ∷ gs) s k =
      chain (length k.rows) (length (ticked_group offsets s now g k).rows) (length (ticked_groups offsets s now gs (ticked_group offsets s now g k)).rows) (group_grows s g k) (groups_grow gs s (ticked_group offsets s now g k))

  all_grow : (ss : List SupervisorRow) (k : Ticking) → length k.rows ≤ length (ticked_all offsets now ss k).rows
  all_grow [] k = omega arith
  all_grow (s ∷ ss) k =
      chain (length k.rows) (length (ticked_groups offsets s now (groups_of s) k).rows) (length (ticked_all offsets now ss (ticked_groups offsets s now (groups_of s) k)).rows) (groups_grow (groups_of s) s k) (all_grow ss (ticked_groups offsets s now (groups_of s) k))

  -- ---- the steps of one group

  module _ (limits : list_all is_offset_row offsets ≡ true) (is : is_instant now ≡ true) where
    late_fits : (o : Option SequenceRow) (s : SupervisorRow) (group : ℕ) (k : Ticking) → AreFit k.rows → AreFit (late_from o s group k).rows
    late_fits None s group k h = h
    late_fits (Some u) s group k h = all_map IsFitRow IsFitRow (abandoned s.source group u.index) (fit_abandoned s.source group u.index) k.rows h

    stopped_state : (b : Bool) (s : SeqState) (closed : ℤ) (ends : List Offset) → has_state s closed ends ≡ true → has_state (cond (b && same_state s States.Reading) States.Paused s) closed ends ≡ true
    stopped_state true States.Reading closed ends h = h
    stopped_state true States.Paused closed ends h = h
    stopped_state true States.Closed closed ends h = h
    stopped_state true States.Published closed ends h = h
    stopped_state true States.Abandoned closed ends h = h
    stopped_state false s closed ends h = h

    stopped_fits : (s : SupervisorRow) (group : ℕ) (u : SequenceRow) → IsFitRow u → IsFitRow (stopped s group now u)
    stopped_fits s group u h = fit_paused (cond (is_over s group now u) States.Paused u.state) u (stopped_state _ u.state u.closed u.ends h.state_is) h

    opened_fits : (b : Bool) (s : SupervisorRow) (group : ℕ) (k : Ticking) → HasCounts s → In group (groups_of s) → length k.rows < 10 ^ 10 → AreFit k.rows → AreFit (cond b k (opens (opened_row offsets s group now k.rows) k)).rows
    opened_fits true s group k counts i few h = h
    opened_fits false s group k counts i few h = all_push IsFitRow k.rows (opened_row offsets s group now k.rows) h (fit_opened offsets s group now k.rows limits counts i is few h)

    group_fits : (s : SupervisorRow) (group : ℕ) (k : Ticking) → HasCounts s → In group (groups_of s) → length (ticked_group offsets s now group k).rows < 10 ^ 10 → AreFit k.rows → AreFit (ticked_group offsets s now group k).rows
    group_fits s group k counts i few h =
        let late = without_late s group now k in
        let still = with_stopped s group now late in
        opened_fits (list_any (is_active s group) still.rows) s group still counts i
        (below (length still.rows) (length (with_opened offsets s group now still).rows) (opened_grows (list_any (is_active s group) still.rows) (opened_row offsets s group now still.rows) still) few)
        (all_map IsFitRow IsFitRow (stopped s group now) (stopped_fits s group) late.rows (late_fits (find (is_late s group now) k.rows) s group k h)) where
          below : (a b : ℕ) → a ≤ b → b < 10 ^ 10 → a < 10 ^ 10
          below a b h k = omega arith

    -- ---- all groups of all supervisors

    few_before : (a b : ℕ) → a ≤ b → b < 10 ^ 10 → a < 10 ^ 10
    few_before a b h k = omega arith

    groups_fit : (gs : List ℕ) (s : SupervisorRow) (k : Ticking) → HasCounts s → AllByRecursion (λ g. In g (groups_of s)) gs → length (ticked_groups offsets s now gs k).rows < 10 ^ 10 → AreFit k.rows → AreFit (ticked_groups offsets s now gs k).rows
    groups_fit [] s k counts i few h = h
    groups_fit (g ∷ gs) s k counts i few h =
        let one = ticked_group offsets s now g k in
        groups_fit gs s one counts i.1 few (group_fits s g k counts i.0 (few_before (length one.rows) (length (ticked_groups offsets s now gs one).rows) (groups_grow gs s one) few) h)

    pub ticked_fit : (ss : List SupervisorRow) (k : Ticking) → list_all is_supervisor_row ss ≡ true → length (ticked_all offsets now ss k).rows < 10 ^ 10 → AreFit k.rows → AreFit (ticked_all offsets now ss k).rows
    ticked_fit [] k rows few h = h
    ticked_fit (s ∷ ss) k rows few h =
        let both = and_parts (is_supervisor_row s) (list_all is_supervisor_row ss) rows in
        let one = ticked_groups offsets s now (groups_of s) k in
        ticked_fit ss one both.1 few
        (groups_fit (groups_of s) s k (counts_of s both.0) (all_from_In (λ g. In g (groups_of s)) (groups_of s) (λ g i. i)) (few_before (length one.rows) (length (ticked_all offsets now ss one).rows) (all_grow ss one) few) h)
