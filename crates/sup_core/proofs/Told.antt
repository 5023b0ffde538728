-- What is told to the sequence of a name is what a report makes of all.
use Rattle.std.proofs.Common.{◌≡◌, ◌||◌, Bool, List, None, Option, Some, false, inl, inr, map, refl, subst, sym, true, ℕ, ℤ}
use Rattle.std.proofs.lemmas.Bool.{cases_Bool, false≢true}
use Rattle.book_rows.specs.Kinds.{same_state}
use Rattle.book_rows.specs.Reports.{all_reported, kept, reported}
use Rattle.book_rows.specs.Sequences.{is_named, sequence_named}
use Rattle.book_rows.specs.declared.kinds.SeqState.{SeqState}
use Rattle.book_rows.specs.declared.kinds.SeqState.TheVariants as States
use Rattle.book_rows.specs.declared.rows.Report.{Report}
use Rattle.book_rows.specs.declared.rows.SequenceRow.{SequenceRow}
use Rattle.tab_sequences.specs.Changes.{HaveDistinctNames, is_active_state, told_in}
use Rattle.sup_core.specs.Reports.{closing_after, or_fault, state_fault}
use Rattle.sup_core.specs.declared.answers.SupFault.{SupFault}
use Rattle.sup_core.proofs.Named.{map_alike, named_one}

-- a report that isn't refused, of a sequence that isn't closed, is of one that reads or is paused
pub takes_report : (st : SeqState) (begin : Bool) (rest : Option SupFault) → or_fault (state_fault st begin) rest ≡ None → same_state st States.Closed ≡ false → (same_state st States.Reading || same_state st States.Paused) ≡ true
takes_report States.Reading begin rest e c = refl
takes_report States.Paused begin rest e c = refl
takes_report States.Closed begin rest e c = absurd (false≢true (sym c))
takes_report States.Published begin rest e c = cc
takes_report States.Abandoned begin rest e c = cc

active_is : (st : SeqState) → is_active_state st ≡ (same_state st States.Reading || same_state st States.Paused)
active_is States.Reading = refl
active_is States.Paused = refl
active_is States.Closed = refl
active_is States.Published = refl
active_is States.Abandoned = refl

-- the sequence of the name, where it takes the report
module _ (name : List ℕ) (new : Report) (clock : ℤ) (us : List SequenceRow) (u : SequenceRow) (distinct : HaveDistinctNames us) (found : sequence_named name us ≡ Some u) (takes : (same_state u.state States.Reading || same_state u.state States.Paused) ≡ true) where
  told_one : (w : SequenceRow) → is_named name w ≡ true → w ≡ u → told_in name (Some (kept new u.reports)) (closing_after u (kept new u.reports) clock) w ≡ reported name new clock w
  told_one w on same = subst (λ (x : SequenceRow). told_in name (Some (kept new u.reports)) (closing_after u (kept new u.reports) clock) x ≡ reported name new clock x) (sym same) (own (subst (λ (x : SequenceRow). is_named name x ≡ true) same on)) where
    own : is_named name u ≡ true → told_in name (Some (kept new u.reports)) (closing_after u (kept new u.reports) clock) u ≡ reported name new clock u
    own on = elim (cases_Bool (all_reported (kept new u.reports) u.live)) [
      | inl done ↦ rw (on, active_is u.state, takes, done) refl
      | inr left ↦ rw (on, active_is u.state, takes, left) refl
    ]

  told_other : (w : SequenceRow) → is_named name w ≡ false → told_in name (Some (kept new u.reports)) (closing_after u (kept new u.reports) clock) w ≡ reported name new clock w
  told_other w off = rw off refl

  pub all_told : map (told_in name (Some (kept new u.reports)) (closing_after u (kept new u.reports) clock)) us ≡ map (reported name new clock) us
  all_told = map_alike _ _ us (λ w i. elim (cases_Bool (is_named name w)) [ inl on ↦ told_one w on (named_one name us u w distinct found i on) | inr off ↦ told_other w off ])
