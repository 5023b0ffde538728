-- What a tick makes of a group is told by the group's unpublished sequences alone.
use Rattle.std.proofs.Common.{◌&&◌, ◌∙◌, ◌∷◌, ◌≡◌, ◌||◌, Bool, List, Some, [], ap, cond, false, filter, find, inl, inr, map, nat_le, not, refl, subst, sym, true, ℕ, ℤ}
use Rattle.std.proofs.lemmas.Bool.{cases_Bool, false≢true}
use Rattle.std.specs.List.{list_any}
use Rattle.book_rows.specs.Kinds.{is_unpublished, same_state}
use Rattle.book_rows.specs.Sequences.{abandoned, is_abandoned_by, is_closed, is_of_group, is_open, open_rows}
use Rattle.book_rows.specs.Ticks.{is_active, is_late, is_over, last_ends, of_group, stopped}
use Rattle.book_rows.specs.declared.kinds.SeqState.{SeqState}
use Rattle.book_rows.specs.declared.kinds.SeqState.TheVariants as States
use Rattle.book_rows.specs.declared.rows.Offset.{Offset}
use Rattle.book_rows.specs.declared.rows.SequenceRow.{SequenceRow}
use Rattle.book_rows.specs.declared.rows.SupervisorRow.{SupervisorRow}
use Rattle.tab_sequences.specs.Changes.{is_active_state}
use Rattle.sup_core.specs.Ticking.{is_done_reading, is_late_closed, is_past}

-- ---- states

not_closed : (st : SeqState) → is_unpublished st ≡ false → same_state st States.Closed ≡ false
not_closed States.Reading e = absurd (false≢true (sym e))
not_closed States.Paused e = absurd (false≢true (sym e))
not_closed States.Closed e = absurd (false≢true (sym e))
not_closed States.Published e = refl
not_closed States.Abandoned e = refl

not_reading : (st : SeqState) → is_unpublished st ≡ false → same_state st States.Reading ≡ false
not_reading States.Reading e = absurd (false≢true (sym e))
not_reading States.Paused e = absurd (false≢true (sym e))
not_reading States.Closed e = absurd (false≢true (sym e))
not_reading States.Published e = refl
not_reading States.Abandoned e = refl

not_active : (st : SeqState) → is_unpublished st ≡ false → (same_state st States.Reading || same_state st States.Paused) ≡ false
not_active States.Reading e = absurd (false≢true (sym e))
not_active States.Paused e = absurd (false≢true (sym e))
not_active States.Closed e = absurd (false≢true (sym e))
not_active States.Published e = refl
not_active States.Abandoned e = refl

active_is : (st : SeqState) → (same_state st States.Reading || same_state st States.Paused) ≡ is_active_state st
active_is States.Reading = refl
active_is States.Paused = refl
active_is States.Closed = refl
active_is States.Published = refl
active_is States.Abandoned = refl

-- a state that pauses where it reads

paused_unpublished : (over : Bool) (st : SeqState) → is_unpublished (cond (over && same_state st States.Reading) States.Paused st) ≡ is_unpublished st
paused_unpublished true States.Reading = refl
paused_unpublished false States.Reading = refl
paused_unpublished true States.Paused = refl
paused_unpublished false States.Paused = refl
paused_unpublished true States.Closed = refl
paused_unpublished false States.Closed = refl
paused_unpublished true States.Published = refl
paused_unpublished false States.Published = refl
paused_unpublished true States.Abandoned = refl
paused_unpublished false States.Abandoned = refl

paused_closed : (over : Bool) (st : SeqState) → same_state (cond (over && same_state st States.Reading) States.Paused st) States.Closed ≡ same_state st States.Closed
paused_closed true States.Reading = refl
paused_closed false States.Reading = refl
paused_closed true States.Paused = refl
paused_closed false States.Paused = refl
paused_closed true States.Closed = refl
paused_closed false States.Closed = refl
paused_closed true States.Published = refl
paused_closed false States.Published = refl
paused_closed true States.Abandoned = refl
paused_closed false States.Abandoned = refl

paused_active : (over : Bool) (st : SeqState) → is_active_state (cond (over && same_state st States.Reading) States.Paused st) ≡ is_active_state st
paused_active true States.Reading = refl
paused_active false States.Reading = refl
paused_active true States.Paused = refl
paused_active false States.Paused = refl
paused_active true States.Closed = refl
paused_active false States.Closed = refl
paused_active true States.Published = refl
paused_active false States.Published = refl
paused_active true States.Abandoned = refl
paused_active false States.Abandoned = refl

and_turned : (a b : Bool) → (a && b) ≡ (b && a)
and_turned true true = refl
and_turned true false = refl
and_turned false true = refl
and_turned false false = refl

-- ---- a group

module _ (s : SupervisorRow) (group : ℕ) (now : ℤ) where
  -- the first late one is found among the unpublished ones
  pub late_found : (us : List SequenceRow) → find (is_late s group now) us ≡ find (is_late_closed s.timeout now) (open_rows s.source group us)
  late_found [] = refl
  late_found (u ∷ us) = elim (cases_Bool (is_of_group s.source group u)) [
    | inr off ↦ rw off (late_found us)
    | inl on ↦ elim (cases_Bool (is_unpublished u.state)) [
      | inl here ↦ rw (on, here) (ap (λ o. cond (is_closed u && is_past u.closed s.timeout now) (Some u) o) (late_found us))
      | inr gone ↦ rw (on, gone, not_closed u.state gone) (late_found us)
    ]
  ]

  -- so are those that are abandoned
  pub abandoned_found : (from : ℕ) (us : List SequenceRow) → filter (is_abandoned_by s.source group from) us ≡ filter (λ u. nat_le from u.index) (open_rows s.source group us)
  abandoned_found from [] = refl
  abandoned_found from (u ∷ us) = elim (cases_Bool (is_open s.source group u)) [
    | inr off ↦ rw off (abandoned_found from us)
    | inl on ↦ elim (cases_Bool (nat_le from u.index)) [
      | inl late ↦ rw (on, late) (ap (λ xs. u ∷ xs) (abandoned_found from us))
      | inr early ↦ rw (on, early) (abandoned_found from us)
    ]
  ]

  -- the others are unpublished after it
  pub open_after : (from : ℕ) (us : List SequenceRow) → open_rows s.source group (map (abandoned s.source group from) us) ≡ filter (λ u. not (nat_le from u.index)) (open_rows s.source group us)
  open_after from [] = refl
  open_after from (u ∷ us) = elim (cases_Bool (is_of_group s.source group u)) [
    | inr off ↦ rw off (open_after from us)
    | inl on ↦ elim (cases_Bool (is_unpublished u.state)) [
      | inr gone ↦ rw (on, gone, gone) (open_after from us)
      | inl here ↦ elim (cases_Bool (nat_le from u.index)) [
        | inl late ↦ rw (on, here, late) (open_after from us)
        | inr early ↦ rw (on, here, early, here) (ap (λ xs. u ∷ xs) (open_after from us))
      ]
    ]
  ]

  -- those that pause are found among the unpublished ones
  pub paused_found : (us : List SequenceRow) → filter (is_over s group now) us ≡ filter (is_done_reading s.duration now) (open_rows s.source group us)
  paused_found [] = refl
  paused_found (u ∷ us) = elim (cases_Bool (is_of_group s.source group u)) [
    | inr off ↦ rw off (paused_found us)
    | inl on ↦ elim (cases_Bool (is_unpublished u.state)) [
      | inl here ↦
          rw (on, here)
          (ap (λ b. cond b (u ∷ filter (is_over s group now) us) (filter (is_over s group now) us)) (and_turned (is_past u.opened s.duration now) (same_state u.state States.Reading))
          ∙ ap (λ xs. cond (is_done_reading s.duration now u) (u ∷ xs) xs) (paused_found us))
      | inr gone ↦ rw (on, gone, not_reading u.state gone) (off_twice u (is_past u.opened s.duration now) (paused_found us))
    ]
  ] where
    off_twice : (u : SequenceRow) (b : Bool) → filter (is_over s group now) us ≡ filter (is_done_reading s.duration now) (open_rows s.source group us)
        → cond (b && false) (u ∷ filter (is_over s group now) us) (filter (is_over s group now) us) ≡ filter (is_done_reading s.duration now) (open_rows s.source group us)
    off_twice u true rest = rest
    off_twice u false rest = rest

  -- pausing leaves which are unpublished
  pub open_stopped : (us : List SequenceRow) → open_rows s.source group (map (stopped s group now) us) ≡ map (stopped s group now) (open_rows s.source group us)
  open_stopped [] = refl
  open_stopped (u ∷ us) = by (is_open s.source group u) (is_open s.source group (stopped s group now u)) (ap (λ b. is_of_group s.source group u && b) (paused_unpublished (is_of_group s.source group u && is_past u.opened s.duration now) u.state)) (open_stopped us) where
    by : (a b : Bool) → b ≡ a → open_rows s.source group (map (stopped s group now) us) ≡ map (stopped s group now) (open_rows s.source group us)
        → cond b (stopped s group now u ∷ open_rows s.source group (map (stopped s group now) us)) (open_rows s.source group (map (stopped s group now) us)) ≡ map (stopped s group now) (cond a (u ∷ open_rows s.source group us) (open_rows s.source group us))
    by true true e rest = ap (λ xs. stopped s group now u ∷ xs) rest
    by true false e rest = absurd (false≢true e)
    by false true e rest = absurd (false≢true (sym e))
    by false false e rest = rest

  -- whether one is active is told by the unpublished ones
  pub active_found : (us : List SequenceRow) → list_any (is_active s group) us ≡ list_any (λ u. is_active_state u.state) (open_rows s.source group us)
  active_found [] = refl
  active_found (u ∷ us) = elim (cases_Bool (is_of_group s.source group u)) [
    | inr off ↦ rw off (active_found us)
    | inl on ↦ elim (cases_Bool (is_unpublished u.state)) [
      | inl here ↦ rw (on, here, active_is u.state) (ap (λ b. is_active_state u.state || b) (active_found us))
      | inr gone ↦ rw (on, gone, not_active u.state gone) (active_found us)
    ]
  ]

  pub active_stopped : (us : List SequenceRow) → list_any (λ u. is_active_state u.state) (map (stopped s group now) us) ≡ list_any (λ u. is_active_state u.state) us
  active_stopped [] = refl
  active_stopped (u ∷ us) =
      ap (λ b. b || list_any (λ u. is_active_state u.state) (map (stopped s group now) us)) (paused_active (is_of_group s.source group u && is_past u.opened s.duration now) u.state)
      ∙ ap (λ b. is_active_state u.state || b) (active_stopped us)

  -- the last closed one is an unpublished one
  pub ends_found : (at : List Offset) (us : List SequenceRow) → last_ends at (of_group s group us) ≡ last_ends at (open_rows s.source group us)
  ends_found at [] = refl
  ends_found at (u ∷ us) = elim (cases_Bool (is_of_group s.source group u)) [
    | inr off ↦ rw off (ends_found at us)
    | inl on ↦ elim (cases_Bool (is_unpublished u.state)) [
      | inl here ↦ rw (on, here) (ends_found (cond (is_closed u) u.ends at) us)
      | inr gone ↦
          rw (on, gone)
          (subst (λ (b : Bool). last_ends (cond b u.ends at) (of_group s group us) ≡ last_ends at (open_rows s.source group us)) (sym (not_closed u.state gone)) (ends_found at us))
    ]
  ]

  pub ends_stopped : (at : List Offset) (us : List SequenceRow) → last_ends at (map (stopped s group now) us) ≡ last_ends at us
  ends_stopped at [] = refl
  ends_stopped at (u ∷ us) =
      ap (λ b. last_ends (cond b u.ends at) (map (stopped s group now) us)) (paused_closed (is_of_group s.source group u && is_past u.opened s.duration now) u.state)
      ∙ ends_stopped (cond (is_closed u) u.ends at) us
