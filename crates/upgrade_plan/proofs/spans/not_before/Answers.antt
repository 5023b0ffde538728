use Rattle.std.proofs.Common.{ap, filter, rules, ◌∙◌}
use Rattle.std.proofs.lemmas.List.{take_rest}
use Rattle.std.proofs.lemmas.List.Sorted.{IsPartitionPoint-from_clause}
use Rattle.book_rows.specs.Ids.{is_of_span}
use Rattle.upgrade_plan.specs.BySpan.{spans_ascend}
use Rattle.upgrade_plan.proofs.Ascending.{front_splits, is_front, rest_ascends, without_before}
use Rattle.upgrade_plan.proofs.spans.not_before.Goals as goal

pub returns-clause-same : goal.returns-clause-same
returns-clause-same c =
    ap (λ ids. filter (is_of_span c.args.span) ids) (take_rest c.args.ids.now c.partition_point-from.result)
    ∙ without_before c.args.span c.partition_point-from.result c.args.ids.now
    (IsPartitionPoint-from_clause (is_front c.args.span) c.args.ids.now c.partition_point-from.result c.partition_point-from.ensures.partitioned (front_splits c.args.span c.args.ids.now c.requires) (λ a r f' k. search rules))

pub returns-clause-ascend : goal.returns-clause-ascend
returns-clause-ascend c = ap (λ ids. spans_ascend ids) (take_rest c.args.ids.now c.partition_point-from.result) ∙ rest_ascends c.args.span c.partition_point-from.result c.args.ids.now c.requires
