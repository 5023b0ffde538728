use Rattle.std.proofs.Common.{◌∙◌, ◌<◌, ◌≡◌, Bool, ap, arith, cond, nat_lt, sym, true, w64, ℕ, ℤ}
use Rattle.std.proofs.lemmas.Bool.Decides.{nat_tests}
use Rattle.std.proofs.lemmas.Int.{to_z-of_z}
use Rattle.sup_core.specs.Planning.{planned_group}
use Rattle.sup_core.proofs.planning.plan_where.Goals as goal

is_less : (i n : ℕ) → i < n → nat_lt i n ≡ true
is_less i n h = grind (arith, nat_tests)

pub returns-in_ok-plan_group : goal.returns-in_ok-plan_group
returns-in_ok-plan_group c =
    c.in_ok-plan_group.ensures
    ∙ (
    ap (λ (m : ℤ). planned_group c.args.streams.now.offsets c.args.row.now m c.args.sequences.now c.args.group c.args.plan.now) (to_z-of_z w64 c.args.moment c.ranges.moment)
    ∙ ap (λ (b : Bool). cond b (planned_group c.args.streams.now.offsets c.args.row.now c.args.moment c.args.sequences.now c.args.group c.args.plan.now) c.args.plan.now)
    (sym (is_less c.args.group c.args.row.now.partitions c.if-group-row.true))
    )
