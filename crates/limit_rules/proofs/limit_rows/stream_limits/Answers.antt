use Rattle.std.proofs.Common.{refl, rules}
use Rattle.book_rows.specs.Shape.{fits_kind, fits_state, is_offset_row, is_sequence_row, is_supervisor_row}
use Rattle.limit_rules.proofs.Joining.{counted, joined}
use Rattle.limit_rules.proofs.limit_rows.stream_limits.Goals as goal

pub returns : goal.returns
returns c =
    joined _ _ _ _ _ c.lesser.ensures (counted is_offset_row c.args.book.now.offsets c.first_failing-5.result c.args.starts.offsets _ (search rules) c.requires.at_offsets)
    (joined _ _ _ _ _ c.lesser-row-4.ensures (counted is_supervisor_row c.args.book.now.supervisors c.first_failing-4.result c.args.starts.supervisors _ (search rules) c.requires.at_supervisors)
    (joined _ _ _ _ _ c.lesser-row-3.ensures (counted is_sequence_row c.args.book.now.sequences c.first_failing-3.result c.args.starts.sequences _ (search rules) c.requires.at_sequences)
    (joined _ _ _ _ _ c.lesser-row-2.ensures (counted (λ m. fits_kind m.kind m) c.args.book.now.publications c.first_failing-2.result c.args.starts.publications _ (search rules) c.requires.at_publications)
    (joined _ _ _ _ _ c.lesser-row.ensures (counted (λ u. fits_state u.state u) c.args.book.now.sequences c.first_failing.result c.args.starts.sequences _ (search rules) c.requires.at_sequences) refl))))
