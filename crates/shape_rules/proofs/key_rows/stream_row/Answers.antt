use Rattle.std.proofs.Common.{refl, rules, ◌≡◌, ◌∙◌}
use Rattle.book_rows.specs.Shape.{same_sequence, same_supervisor}
use Rattle.laws_unsound.specs.Counts.{before_offsets, before_sequences, before_supervisors}
use Rattle.laws_unsound.specs.Rows.{first_clashing}
use Rattle.laws_unsound.specs.ShapeRows.{are_unordered}
use Rattle.shape_rules.proofs.Joining.{joined}
use Rattle.shape_rules.proofs.key_rows.stream_row.Goals as goal

pub returns : goal.returns
returns c =
    let book = c.args.book.now in
    let offset : c.first_behind-offset.result ≡ first_clashing (before_offsets book) are_unordered book.offsets = search rules in
    let supervisor : c.in_ok-supervisor.supervisor ≡ first_clashing (before_supervisors book) same_supervisor book.supervisors = search rules in
    let sequence : c.in_ok-sequence.sequence ≡ first_clashing (before_sequences book) same_sequence book.sequences = search rules in
    c.lesser.ensures ∙ joined _ _ _ _ offset (c.lesser-row-2.ensures ∙ joined _ _ _ _ supervisor (c.lesser-row.ensures ∙ joined _ _ _ _ sequence refl))
