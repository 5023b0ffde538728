use Rattle.std.proofs.Common.{bytes_eq, filter, map, ◌++◌, ◌≡◌}
use Rattle.book_rows.specs.ShowSteps.{sequence_line}
use Rattle.overlord_core.proofs.rows_shown.sequence_lines.Given as goal

abbrev pub invariant-loop-sequence : goal.invariant-loop-sequence
invariant-loop-sequence l =
    l.lines.items ++ map sequence_line (filter (λ u. bytes_eq u.source l.source) l.sequence-iterator)
    ≡ map sequence_line (filter (λ u. bytes_eq u.source l.source) l.supervisors.sequences)
