use Rattle.std.proofs.Common.{Some, [], ap, false, refl, rules, true, ◌++◌, ◌∙◌, ◌∷◌, ◌≡◌}
use Rattle.std.specs.List.{list_any}
use Rattle.row_search.proofs.Walking.{any_joined, begun, stepped_off, stepped_on, whole}
use Rattle.row_search.proofs.clashes.first_clashing.Goals as goal

pub loop-row-init : goal.loop-row-init
loop-row-init g c =
    let none : c.new-later.result ≡ [] = search rules in
    begun (g.K.Seeking.holds c.args.clash.now) c.args.before c.args.rows.now (λ x. list_any (g.K.Seeking.holds c.args.clash.now x) c.new-later.result) (λ x. rw none refl)

pub loop-row-preserved-then-clashes : goal.loop-row-preserved-then-clashes
loop-row-preserved-then-clashes g c =
    let holds = g.K.Seeking.holds c.args.clash.now in
    let left_is : c.loop-row.left.now ≡ c.in-Some.others.now ++ c.in-Some.row.now ∷ [] = search rules in
    let on : list_any (holds c.in-Some.row.now) c.loop-row.later ≡ true = search rules in
    stepped_on holds c.args.before c.args.rows.now c.loop-row.left.now c.in-Some.others.now c.in-Some.row.now (λ x. list_any (holds x) c.loop-row.later) (λ x. list_any (holds x) c.push.new.self) c.loop-row.least _ left_is
    (λ x. ap (λ xs. list_any (holds x) xs) c.in_ok-push.ensures.ok ∙ any_joined (holds x) c.loop-row.later c.in-Some.row.now) c.loop-row.invariant on (search rules)

pub loop-row-preserved : goal.loop-row-preserved
loop-row-preserved g c =
    let holds = g.K.Seeking.holds c.args.clash.now in
    let left_is : c.loop-row.left.now ≡ c.in-Some.others.now ++ c.in-Some.row.now ∷ [] = search rules in
    let off : list_any (holds c.in-Some.row.now) c.loop-row.later ≡ false = search rules in
    stepped_off holds c.args.before c.args.rows.now c.loop-row.left.now c.in-Some.others.now c.in-Some.row.now (λ x. list_any (holds x) c.loop-row.later) (λ x. list_any (holds x) c.push.new.self) c.loop-row.least c.loop-row.least left_is
    (λ x. ap (λ xs. list_any (holds x) xs) c.in_ok-push.ensures.ok ∙ any_joined (holds x) c.loop-row.later c.in-Some.row.now) c.loop-row.invariant off refl

pub returns : goal.returns
returns g c =
    whole (g.K.Seeking.holds c.args.clash.now) c.args.before c.args.rows.now c.loop-row.left.now (λ x. list_any (g.K.Seeking.holds c.args.clash.now x) c.loop-row.later) c.loop-row.least (search rules) c.loop-row.invariant
