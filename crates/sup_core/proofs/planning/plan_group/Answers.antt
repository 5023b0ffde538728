use Rattle.std.proofs.Common.{◌∙◌, ap, length, map, w64, ℤ}
use Rattle.std.proofs.lemmas.Int.{to_z-of_z}
use Rattle.book_rows.specs.Ticks.{of_group}
use Rattle.tab_sequences.proofs.Results.{OnOk_then}
use Rattle.sup_core.specs.Planning.{planned_by}
use Rattle.sup_core.proofs.planning.plan_group.Goals as goal

pub returns : goal.returns
returns c =
    rw (← c.in_ok-open.ensures, ← c.as_slice.ensures.value)
    (OnOk_then c.plan_by.result c.plan_by.ensures (λ made.
    made
    ∙ ap (λ (m : ℤ). planned_by c.args.streams.now.offsets c.args.row.now m c.args.group (length (of_group c.args.row.now c.args.group c.args.sequences.now)) (map (λ u. u.now) c.as_slice.result.now) c.args.plan.now)
    (to_z-of_z w64 c.args.moment c.ranges.moment)))
