use Rattle.std.proofs.Common.{◌∙◌, ◌≡◌, List, Option, ap, length, map, of_z, sym, to_z, w64, ℕ, ℤ}
use Rattle.std.proofs.lemmas.Int.{to_z-of_z}
use Rattle.book_rows.specs.Ticks.{of_group}
use Rattle.book_rows.specs.declared.rows.SequenceRow.{SequenceRow}
use Rattle.tab_sequences.proofs.Results.{OnOk_then}
use Rattle.sup_core.specs.Planning.{Planning, planned_by}
use Rattle.sup_core.specs.Ticking.{late_index, new_row, told_all}
use Rattle.sup_core.proofs.PlanSteps.{plan_opens, plan_stays}
use Rattle.sup_core.proofs.planning.plan_by.Goals as goal

pub returns-then-stays_active : goal.returns-then-stays_active
returns-then-stays_active c =
    let us : List SequenceRow = map (λ u. u.now) c.args.open.now in
    let size : ℕ = length (of_group c.args.row.now c.args.group c.args.sequences.now) in
    let given : to_z w64 (of_z w64 c.args.moment) ≡ c.args.moment = to_z-of_z w64 c.args.moment c.ranges.moment in
    let late : Option ℕ = c.late_index-late.result in
    let found : Planning = record { told = c.plan.inside.told; opened = c.plan.inside.opened.items } in
    plan_stays c.args.streams.now.offsets c.args.row.now c.args.moment c.args.group size us found late c.tell_all.new.told
    (c.late_index-late.ensures ∙ ap (λ (m : ℤ). late_index c.args.row.now.timeout m us) given)
    (c.in_ok-tell_all.ensures ∙ ap (λ (m : ℤ). told_all late c.args.row.now.duration m c.plan.inside.told us) given)
    (sym c.stays_active.ensures ∙ c.if-stays_active.true)
    ∙ ap (λ (p : Planning). planned_by c.args.streams.now.offsets c.args.row.now c.args.moment c.args.group size us p) c.plan.view_is

pub returns : goal.returns
returns c =
    let us : List SequenceRow = map (λ u. u.now) c.args.open.now in
    let size : ℕ = length (of_group c.args.row.now c.args.group c.args.sequences.now) in
    let given : to_z w64 (of_z w64 c.args.moment) ≡ c.args.moment = to_z-of_z w64 c.args.moment c.ranges.moment in
    let late : Option ℕ = c.late_index-late.result in
    let found : Planning = record { told = c.plan.inside.told; opened = c.plan.inside.opened.items } in
    OnOk_then c.plan_opening.result c.plan_opening.ensures
    (λ made.
    made
    ∙ (
    plan_opens c.args.streams.now.offsets c.args.row.now c.args.moment c.args.group size us found late c.tell_all.new.told
    (c.late_index-late.ensures ∙ ap (λ (m : ℤ). late_index c.args.row.now.timeout m us) given)
    (c.in_ok-tell_all.ensures ∙ ap (λ (m : ℤ). told_all late c.args.row.now.duration m c.plan.inside.told us) given)
    c.in_ok-opened.opened
    (c.in_ok-opened.ensures ∙ ap (λ (m : ℤ). new_row c.args.streams.now.offsets c.args.row.now c.args.group m size late us) given)
    (sym c.stays_active.ensures ∙ c.if-stays_active.false)
    ∙ ap (λ (p : Planning). planned_by c.args.streams.now.offsets c.args.row.now c.args.moment c.args.group size us p) c.plan.view_is
    ))
