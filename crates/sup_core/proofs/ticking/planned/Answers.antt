use Rattle.std.proofs.Common.{◌∙◌, ◌++◌, ◌≡◌, List, ap, of_z, subst, sym, to_z, w64, ℤ}
use Rattle.std.proofs.lemmas.Int.{to_z-of_z}
use Rattle.book_rows.specs.Ticks.{ticked}
use Rattle.book_rows.specs.declared.rows.SupervisorRow.{SupervisorRow}
use Rattle.tab_sequences.specs.Changes.{HaveDistinctNames}
use Rattle.sup_core.specs.ByNames.{abandoned_each, paused_each}
use Rattle.sup_core.specs.Planning.{Planning, carried_out, nothing_planned, planned_all}
use Rattle.sup_core.proofs.CarriedOut.{done_by_name, new_are_distinct}
use Rattle.sup_core.proofs.Results.{ok_then}
use Rattle.sup_core.proofs.Walked.{plan_is}
use Rattle.sup_core.proofs.ticking.planned.Goals as goal

pub returns : goal.returns
returns c =
    let same : planned_all c.args.streams.now.offsets (to_z w64 (of_z w64 c.args.moment)) c.args.sequences.now c.rows.result.now nothing_planned ≡ planned_all c.args.streams.now.offsets c.args.moment c.args.sequences.now c.args.supervisors.now nothing_planned =
    ap (λ (m : ℤ). planned_all c.args.streams.now.offsets m c.args.sequences.now c.rows.result.now nothing_planned) (to_z-of_z w64 c.args.moment c.ranges.moment)
    ∙ ap (λ (ss : List SupervisorRow). planned_all c.args.streams.now.offsets c.args.moment c.args.sequences.now ss nothing_planned) c.rows.ensures in
    record {
      whole = ok_then c.plan_all.result c.plan_all.ensures (λ plan is.
          subst (λ (p : Planning). carried_out c.args.sequences.now p ≡ ticked c.args.streams.now.offsets c.args.moment c.args.supervisors.now c.args.sequences.now) (sym (is ∙ same))
          (plan_is c.args.streams.now.offsets c.args.moment c.args.supervisors.now c.args.sequences.now c.requires));
      distinct = ok_then c.plan_all.result c.plan_all.ensures (λ plan is.
          subst (λ (p : Planning). HaveDistinctNames (c.args.sequences.now ++ p.opened)) (sym (is ∙ same))
          (new_are_distinct c.args.streams.now.offsets c.args.moment c.args.supervisors.now c.args.sequences.now c.requires));
      named = ok_then c.plan_all.result c.plan_all.ensures (λ plan is.
          subst
          (λ (p : Planning). paused_each p.told.paused (abandoned_each p.told.abandoned (c.args.sequences.now ++ p.opened)) ≡ (ticked c.args.streams.now.offsets c.args.moment c.args.supervisors.now c.args.sequences.now).rows)
          (sym (is ∙ same)) (done_by_name c.args.streams.now.offsets c.args.moment c.args.supervisors.now c.args.sequences.now c.requires));
    }
