use Rattle.std.proofs.Common.{List, ap, map, not, rules, subst, sym, take, true, ◌∙◌, ◌≡◌, false}
use Rattle.std.specs.List.Sorted.{IsPartitionPoint}
use Rattle.std.proofs.lemmas.List.Sorted.{IsPartitionPoint-from_clause}
use Rattle.iv_span.specs.Extent.{Extent}
use Rattle.seg_names.specs.declared.seg_id.SegId.{SegId}
use Rattle.book_rows.specs.Lists.{list_links}
use Rattle.book_rows.specs.Spans.{span_at_most}
use Rattle.publish_core.proofs.SpanIds.{before_parts, links_drop, together, up_to_parts}
use Rattle.publish_core.proofs.lists.ids_of.Goals as goal

pub returns : goal.returns
returns c =
    let span_of : SegId → Extent = λ a. a.span in
    let ids : List SegId = c.args.ids.now in
    let rest : List SegId = c.split_at.result.1.now in
    let links : list_links span_at_most (map span_of rest) ≡ true =
    subst (λ (as' : List SegId). list_links span_at_most (map span_of as') ≡ true) (sym c.split_at.ensures.back) (links_drop span_of c.partition_point-before.result ids c.requires) in
    let first =
    IsPartitionPoint-from_clause (λ (a : SegId). not (span_at_most c.args.span a.span)) ids c.partition_point-before.result c.partition_point-before.ensures.partitioned
    (before_parts span_of c.args.span ids c.requires) (λ a r f' k. search rules) in
    let second =
    IsPartitionPoint-from_clause (λ (a : SegId). span_at_most a.span c.args.span) rest c.partition_point-count.result c.partition_point-count.ensures.partitioned
    (up_to_parts span_of c.args.span rest links) (λ a r f' k. search rules) in
    c.split_at-2.ensures.front
    ∙ (
    ap (λ (as' : List SegId). take c.partition_point-count.result as') c.split_at.ensures.back
    ∙ sym
    (
    together span_of c.args.span ids c.partition_point-before.result c.partition_point-count.result c.partition_point-before.ensures.bound first
    (subst (λ (as' : List SegId). IsPartitionPoint (λ a. span_at_most a.span c.args.span ≡ true) (λ a. span_at_most a.span c.args.span ≡ false) as' c.partition_point-count.result) c.split_at.ensures.back second)
    )
    )
