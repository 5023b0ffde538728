use Rattle.std.proofs.Common.{[], false, refl, rules, true, ◌++◌, ◌∷◌, ◌≡◌}
use Rattle.std.specs.Option.{option_copied}
use Rattle.shape_rules.specs.Orders.{is_behind}
use Rattle.shape_rules.proofs.Ascending.{put_off, put_on}
use Rattle.row_search.proofs.Walking.{begun, stepped_off, stepped_on, whole}
use Rattle.shape_rules.proofs.order.first_behind.Goals as goal

pub loop-row-init : goal.loop-row-init
loop-row-init g c = begun g.A.Ascent.behind c.args.before c.args.rows.now (λ x. false) (λ x. refl)

-- the row doesn't come before the least: the least stays
pub loop-row-preserved-then-is_behind : goal.loop-row-preserved-then-is_behind
loop-row-preserved-then-is_behind g c =
    let behind = g.A.Ascent.behind in
    let left_is : c.loop-row.left.now ≡ c.in-Some.others.now ++ c.in-Some.row.now ∷ [] = search rules in
    let on : is_behind behind c.in-Some.row.now (option_copied c.loop-row.least) ≡ true = search rules in
    stepped_on behind c.args.before c.args.rows.now c.loop-row.left.now c.in-Some.others.now c.in-Some.row.now (λ x. is_behind behind x (option_copied c.loop-row.least)) (λ x. is_behind behind x (option_copied c.loop-row.least)) c.loop-row.found _ left_is
    (λ x. put_on behind g.met.A.Ascent.chains x c.in-Some.row.now (option_copied c.loop-row.least) on) c.loop-row.invariant on (search rules)

-- it does: it is the least
pub loop-row-preserved : goal.loop-row-preserved
loop-row-preserved g c =
    let behind = g.A.Ascent.behind in
    let left_is : c.loop-row.left.now ≡ c.in-Some.others.now ++ c.in-Some.row.now ∷ [] = search rules in
    let off : is_behind behind c.in-Some.row.now (option_copied c.loop-row.least) ≡ false = search rules in
    stepped_off behind c.args.before c.args.rows.now c.loop-row.left.now c.in-Some.others.now c.in-Some.row.now (λ x. is_behind behind x (option_copied c.loop-row.least)) (λ x. behind x c.in-Some.row.now) c.loop-row.found c.loop-row.found left_is
    (λ x. put_off behind g.met.A.Ascent.falls x c.in-Some.row.now (option_copied c.loop-row.least) off) c.loop-row.invariant off refl

pub returns : goal.returns
returns g c = whole g.A.Ascent.behind c.args.before c.args.rows.now c.loop-row.left.now (λ x. is_behind g.A.Ascent.behind x (option_copied c.loop-row.least)) c.loop-row.found (search rules) c.loop-row.invariant
