use Rattle.std.proofs.Common.{ap, arith, filter, length, ◌≡◌, ◌≤◌, ◌∙◌}
use Rattle.book_rows.specs.Form.{item_limit}
use Rattle.book_rows.specs.Ids.{is_of_span}
use Rattle.upgrade_plan.proofs.Counting.{few_in_span}
use Rattle.upgrade_plan.proofs.spans.core_of.Goals as goal

pub overflow_cast-result : goal.overflow_cast-result
overflow_cast-result c =
    let few : length (filter (is_of_span c.args.span) c.args.ids.now.ids.now) ≤ item_limit = few_in_span c.args.ids.now.ids.now c.args.span c.requires in
    let count : c.count_of.result ≡ length (filter (is_of_span c.args.span) c.args.ids.now.ids.now) = c.count_of.ensures ∙ ap length c.near.ensures in
    omega (arith, few, count)

pub returns-in_default-clause-few : goal.returns-in_default-clause-few
returns-in_default-clause-few c =
    let few : length (filter (is_of_span c.args.span) c.args.ids.now.ids.now) ≤ item_limit = few_in_span c.args.ids.now.ids.now c.args.span c.requires in
    let count : c.count_of.result ≡ length (filter (is_of_span c.args.span) c.args.ids.now.ids.now) = c.count_of.ensures ∙ ap length c.near.ensures in
    omega (arith, few, count)
