-- What a tick's first two steps make of a group is told by the names of those that are abandoned, and that pause.
use Rattle.std.proofs.Common.{◌&&◌, ◌∙◌, ◌≡◌, Bool, List, None, Option, Some, [], ap, cond, false, filter, map, nat_le, not, refl, sym, true, ℕ, ℤ}
use Rattle.book_rows.specs.Kinds.{is_unpublished, same_state}
use Rattle.book_rows.specs.Lists.{In}
use Rattle.book_rows.specs.Sequences.{abandoned, is_of_group, is_open, name_of, open_rows}
use Rattle.book_rows.specs.Ticks.{stopped}
use Rattle.book_rows.specs.declared.kinds.SeqState.{SeqState}
use Rattle.book_rows.specs.declared.kinds.SeqState.TheVariants as States
use Rattle.book_rows.specs.declared.rows.SequenceRow.{SequenceRow}
use Rattle.book_rows.specs.declared.rows.SupervisorRow.{SupervisorRow}
use Rattle.laws_sequences.proofs.Filters.{filter_both}
use Rattle.tab_sequences.specs.Changes.{HaveDistinctNames}
use Rattle.sup_core.specs.ByNames.{by_names, is_one_of}
use Rattle.sup_core.specs.Ticking.{is_done_reading, is_from, is_past}
use Rattle.sup_core.proofs.ByName.{by_tests, map_both, tests_by_names}
use Rattle.sup_core.proofs.Listed.{is_listed}
use Rattle.sup_core.proofs.Named.{map_alike}

-- ---- which names are listed

-- those of the group's unpublished sequences that pass
open_listed : (source : List ℕ) (group : ℕ) (rows : List SequenceRow) → HaveDistinctNames rows → (q : SequenceRow → Bool) (w : SequenceRow) → In w rows → is_one_of (map name_of (filter q (open_rows source group rows))) w ≡ (is_open source group w && q w)
open_listed source group rows distinct q w i =
    ap (λ (us : List SequenceRow). is_one_of (map name_of us) w) (sym (filter_both (is_open source group) q rows))
    ∙ is_listed rows distinct (λ u. is_open source group u && q u) w i

-- ---- states: g and f stand for the group and the index, p for the time that is over

late_state : (g f p : Bool) (st : SeqState)
    → cond ((g && p) && same_state (cond ((g && is_unpublished st) && f) States.Abandoned st) States.Reading) States.Paused (cond ((g && is_unpublished st) && f) States.Abandoned st)
    ≡ cond (((g && is_unpublished st) && (not f && (same_state st States.Reading && p))) && same_state (cond (((g && is_unpublished st) && f) && is_unpublished st) States.Abandoned st) States.Reading) States.Paused (cond (((g && is_unpublished st) && f) && is_unpublished st) States.Abandoned st)
late_state false f p st = refl
late_state true true true States.Reading = refl
late_state true true true States.Paused = refl
late_state true true true States.Closed = refl
late_state true true true States.Published = refl
late_state true true true States.Abandoned = refl
late_state true true false States.Reading = refl
late_state true true false States.Paused = refl
late_state true true false States.Closed = refl
late_state true true false States.Published = refl
late_state true true false States.Abandoned = refl
late_state true false true States.Reading = refl
late_state true false true States.Paused = refl
late_state true false true States.Closed = refl
late_state true false true States.Published = refl
late_state true false true States.Abandoned = refl
late_state true false false States.Reading = refl
late_state true false false States.Paused = refl
late_state true false false States.Closed = refl
late_state true false false States.Published = refl
late_state true false false States.Abandoned = refl

late_live : (g f : Bool) (st : SeqState) (live : List (List ℕ)) → cond ((g && is_unpublished st) && f) [] live ≡ cond (((g && is_unpublished st) && f) && is_unpublished st) [] live
late_live false f st live = refl
late_live true true States.Reading live = refl
late_live true true States.Paused live = refl
late_live true true States.Closed live = refl
late_live true true States.Published live = refl
late_live true true States.Abandoned live = refl
late_live true false States.Reading live = refl
late_live true false States.Paused live = refl
late_live true false States.Closed live = refl
late_live true false States.Published live = refl
late_live true false States.Abandoned live = refl

-- where none is late
in_time_state : (g p : Bool) (st : SeqState)
    → cond ((g && p) && same_state st States.Reading) States.Paused st
    ≡ cond (((g && is_unpublished st) && (same_state st States.Reading && p)) && same_state (cond (((g && is_unpublished st) && false) && is_unpublished st) States.Abandoned st) States.Reading) States.Paused (cond (((g && is_unpublished st) && false) && is_unpublished st) States.Abandoned st)
in_time_state false p st = refl
in_time_state true true States.Reading = refl
in_time_state true true States.Paused = refl
in_time_state true true States.Closed = refl
in_time_state true true States.Published = refl
in_time_state true true States.Abandoned = refl
in_time_state true false States.Reading = refl
in_time_state true false States.Paused = refl
in_time_state true false States.Closed = refl
in_time_state true false States.Published = refl
in_time_state true false States.Abandoned = refl

in_time_live : (g : Bool) (st : SeqState) (live : List (List ℕ)) → live ≡ cond (((g && is_unpublished st) && false) && is_unpublished st) [] live
in_time_live false st live = refl
in_time_live true States.Reading live = refl
in_time_live true States.Paused live = refl
in_time_live true States.Closed live = refl
in_time_live true States.Published live = refl
in_time_live true States.Abandoned live = refl

-- ---- a group

module _ (s : SupervisorRow) (group : ℕ) (now : ℤ) where
  abbrev pub rows_left : Option ℕ → List SequenceRow → List SequenceRow
  rows_left None rows = rows
  rows_left (Some from) rows = map (abandoned s.source group from) rows

  -- the names of those that are abandoned, and of those that pause, among unpublished ones
  abbrev pub late_names : Option ℕ → List SequenceRow → List (List ℕ)
  late_names late unpublished = map name_of (filter (is_from late) unpublished)

  abbrev pub over_names : Option ℕ → List SequenceRow → List (List ℕ)
  over_names late unpublished = map name_of (filter (λ u. not (is_from late u) && is_done_reading s.duration now u) unpublished)

  module _ (rows : List SequenceRow) (distinct : HaveDistinctNames rows) where
    abbrev unpublished : List SequenceRow
    unpublished = open_rows s.source group rows

    named_as : (late : Option ℕ) (w : SequenceRow) → In w rows
        → by_names (late_names late unpublished) (over_names late unpublished) w ≡ by_tests (is_open s.source group w && is_from late w) (is_open s.source group w && (not (is_from late w) && is_done_reading s.duration now w)) w
    named_as late w i =
        tests_by_names (late_names late unpublished) (over_names late unpublished) w (is_open s.source group w && is_from late w) (is_open s.source group w && (not (is_from late w) && is_done_reading s.duration now w))
        (open_listed s.source group rows distinct (is_from late) w i)
        (open_listed s.source group rows distinct (λ u. not (is_from late u) && is_done_reading s.duration now u) w i)

    in_time : (w : SequenceRow) → stopped s group now w ≡ by_tests (is_open s.source group w && false) (is_open s.source group w && is_done_reading s.duration now w) w
    in_time w =
        let g : Bool = is_of_group s.source group w in
        λ i. record w { state = in_time_state g (is_past w.opened s.duration now) w.state i; live = in_time_live g w.state w.live i }

    late_too : (from : ℕ) (w : SequenceRow)
        → stopped s group now (abandoned s.source group from w) ≡ by_tests (is_open s.source group w && nat_le from w.index) (is_open s.source group w && (not (nat_le from w.index) && is_done_reading s.duration now w)) w
    late_too from w =
        let g : Bool = is_of_group s.source group w in
        λ i. record w { state = late_state g (nat_le from w.index) (is_past w.opened s.duration now) w.state i; live = late_live g (nat_le from w.index) w.state w.live i }

    pub settled_rows : (late : Option ℕ) → map (stopped s group now) (rows_left late rows) ≡ map (by_names (late_names late unpublished) (over_names late unpublished)) rows
    settled_rows None = map_alike (stopped s group now) (by_names (late_names None unpublished) (over_names None unpublished)) rows (λ w i. in_time w ∙ sym (named_as None w i))
    settled_rows (Some from) =
        map_both (stopped s group now) (abandoned s.source group from) (λ w. stopped s group now (abandoned s.source group from w)) (λ w. refl) rows
        ∙ map_alike (λ w. stopped s group now (abandoned s.source group from w)) (by_names (late_names (Some from) unpublished) (over_names (Some from) unpublished)) rows (λ w i. late_too from w ∙ sym (named_as (Some from) w i))
