use Rattle.std.proofs.Common.{map, rules, subst, ap, ◌∙◌, length, ◌≤◌, ◌≡◌, ℕ}
use Rattle.std.proofs.lemmas.List.{length-map}
use Rattle.std.proofs.lemmas.List.Sorted.{IsPartitionPoint-from_clause}
use Rattle.book_rows.specs.Shown.{timeline_part}
use Rattle.timeline_kept.specs.Edges.{starts_by}
use Rattle.timeline_kept.proofs.Order.{started_part, splits}
use Rattle.timeline_kept.proofs.between.count_started.Goals as goal

pub returns : goal.returns
returns c =
    let ps = c.args.list.now in
    let same : c.as_slice.result.now ≡ map timeline_part ps = c.as_slice.ensures in
    splits (starts_by c.args.at) ps c.partition_point.result
    (IsPartitionPoint-from_clause (starts_by c.args.at) (map timeline_part ps) c.partition_point.result (rw same at c.partition_point.ensures.partitioned) (started_part c.args.at ps c.requires) (λ a r f' k. search rules))
    (subst (λ (n : ℕ). c.partition_point.result ≤ n) (ap length same ∙ length-map ps timeline_part) c.partition_point.ensures.bound)
