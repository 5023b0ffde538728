-- What is planned of a group, step by step.
use Rattle.std.proofs.Common.{◌∙◌, ◌≡◌, Bool, List, Option, ap, cond, false, sym, true, ℕ, ℤ}
use Rattle.book_rows.specs.declared.answers.Ticked.{Ticked}
use Rattle.book_rows.specs.declared.rows.OffsetRow.{OffsetRow}
use Rattle.book_rows.specs.declared.rows.SequenceRow.{SequenceRow}
use Rattle.book_rows.specs.declared.rows.SupervisorRow.{SupervisorRow}
use Rattle.sup_core.specs.Planning.{Planning, planned_by, planned_from, with_opening, with_told}
use Rattle.sup_core.specs.Ticking.{late_index, new_row, stays_active, told_all}

module _ (offsets : List OffsetRow) (s : SupervisorRow) (now : ℤ) (group size : ℕ) (us : List SequenceRow) (p : Planning) (late : Option ℕ) (t : Ticked) (first : late ≡ late_index s.timeout now us) (told : t ≡ told_all late s.duration now p.told us) where
  planned_where : (b : Bool) → stays_active late us ≡ b → cond b (with_told late s now us p) (with_opening (new_row offsets s group now size late us) (with_told late s now us p)) ≡ planned_by offsets s now group size us p
  planned_where b e =
      ap (λ (x : Bool). cond x (with_told late s now us p) (with_opening (new_row offsets s group now size late us) (with_told late s now us p))) (sym e)
      ∙ ap (λ (l : Option ℕ). planned_from l offsets s now group size us p) first

  pub plan_stays : stays_active late us ≡ true → record p { told = t } ≡ planned_by offsets s now group size us p
  plan_stays on = ap (λ (x : Ticked). record p { told = x }) told ∙ planned_where true on

  pub plan_opens : (new : SequenceRow) → new ≡ new_row offsets s group now size late us → stays_active late us ≡ false → with_opening new (record p { told = t }) ≡ planned_by offsets s now group size us p
  plan_opens new is off =
      ap (λ (x : Ticked). with_opening new (record p { told = x })) told
      ∙ (
      ap (λ (u : SequenceRow). with_opening u (with_told late s now us p)) is
      ∙ planned_where false off
      )
