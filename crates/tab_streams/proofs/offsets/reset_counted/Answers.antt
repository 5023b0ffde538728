use Rattle.std.proofs.Common.{◌∙◌, List, ap, length}
use Rattle.book_rows.specs.declared.rows.Offset.{Offset}
use Rattle.tab_streams.specs.ByName.{all_rows}
use Rattle.tab_streams.proofs.Counting.{counted_reset}
use Rattle.tab_streams.proofs.StreamLaws.{made_count}
use Rattle.tab_streams.proofs.offsets.reset_counted.Goals as goal

pub returns-clause-ok : goal.returns-clause-ok
returns-clause-ok c = c.in_ok-put_in.ensures.ok c.args.offsets.now c.in_ok-partitions.ensures

pub returns-clause-counted : goal.returns-clause-counted
returns-clause-counted c =
    let sum = c.in_ok-count.ensures in
    rw (c.in_ok-put_in.ensures.ok c.args.offsets.now c.in_ok-partitions.ensures)
    (counted_reset c.args.source.now c.args.stream.now c.args.offsets.now (all_rows c.args.sources.now.entries) (length c.in_ok-partitions.partitions) c.in_ok-count.count c.requires.ascend sum.0
    (ap (λ (ps : List Offset). length ps) c.in_ok-partitions.ensures ∙ made_count c.args.source.now c.args.stream.now c.args.offsets.now) sum.1)
