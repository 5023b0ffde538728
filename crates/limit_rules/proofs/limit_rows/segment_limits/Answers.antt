use Rattle.std.proofs.Common.{rules}
use Rattle.book_rows.specs.Shape.{is_pending_row, is_publication_row, is_segment_row, is_upgrade_row}
use Rattle.limit_rules.proofs.Joining.{counted, joined}
use Rattle.limit_rules.proofs.limit_rows.segment_limits.Goals as goal

pub returns : goal.returns
returns c =
    joined _ _ _ _ _ c.lesser.ensures (counted is_segment_row c.args.book.now.segments c.first_failing-4.result c.args.starts.segments _ (search rules) c.requires.at_segments)
    (joined _ _ _ _ _ c.lesser-row-3.ensures (counted is_pending_row c.args.book.now.pendings c.first_failing-3.result c.args.starts.pendings _ (search rules) c.requires.at_pendings)
    (joined _ _ _ _ _ c.lesser-row-2.ensures (counted is_upgrade_row c.args.book.now.upgrades c.first_failing-2.result c.args.starts.upgrades _ (search rules) c.requires.at_upgrades)
    (joined _ _ _ _ _ c.lesser-row.ensures (counted is_publication_row c.args.book.now.publications c.first_failing.result c.args.starts.publications _ (search rules) c.requires.at_publications) c.stream_limits-row.ensures)))
