use Rattle.std.proofs.Common.{rules}
use Rattle.book_rows.specs.Shape.{is_chunk_row, is_posse_row}
use Rattle.limit_rules.proofs.Joining.{counted, joined}
use Rattle.limit_rules.proofs.limit_rows.table_limits.Goals as goal

pub returns : goal.returns
returns c =
    joined _ c.first_failing-3.result _ _ _ c.lesser.ensures (search rules)
    (joined _ _ _ _ _ c.lesser-row-2.ensures (counted is_posse_row c.args.book.now.posses c.first_failing-2.result c.args.starts.posses _ (search rules) c.requires.at_posses)
    (joined _ _ _ _ _ c.lesser-row.ensures (counted is_chunk_row c.args.book.now.chunks c.first_failing.result c.args.starts.chunks _ (search rules) c.requires.at_chunks) c.segment_limits-row.ensures))
