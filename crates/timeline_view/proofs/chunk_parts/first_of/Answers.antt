use Rattle.std.proofs.Common.{rules}
use Rattle.std.proofs.lemmas.List.Sorted.{IsPartitionPoint-from_clause}
use Rattle.timeline_view.specs.Chunks.{is_before}
use Rattle.timeline_view.proofs.ChunkIds.{before_splits}
use Rattle.timeline_view.proofs.chunk_parts.first_of.Goals as goal

pub returns : goal.returns
returns c =
    IsPartitionPoint-from_clause (is_before c.args.cover.now) c.args.ids.now c.partition_point.result c.partition_point.ensures.partitioned
    (before_splits c.args.cover.now c.args.ids.now c.requires.sorted c.requires.one)
    (λ a r f' k. search rules)
