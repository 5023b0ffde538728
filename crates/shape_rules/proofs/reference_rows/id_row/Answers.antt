use Rattle.std.proofs.Common.{ap, rules, sym, ◌≡◌, ◌∙◌}
use Rattle.std.specs.List.{list_all}
use Rattle.laws_unsound.specs.Counts.{before_pendings, before_publications, before_segments}
use Rattle.laws_unsound.specs.Rows.{first_failing}
use Rattle.laws_unsound.specs.ShapeRows.{has_chunk}
use Rattle.shape_rules.specs.Clauses.{without_chunk}
use Rattle.shape_rules.proofs.Joining.{joined, lesser_none}
use Rattle.shape_rules.proofs.reference_rows.id_row.Goals as goal

pub returns : goal.returns
returns c =
    let book = c.args.book.now in
    let own = c.args.chunks.now in
    let segment : c.segment_row-segment.result ≡ first_failing (before_segments book) (λ r. has_chunk own r.id) book.segments = search rules in
    let pending : c.pending_row-pending.result ≡ first_failing (before_pendings book) (λ p. has_chunk own p.id) book.pendings = search rules in
    let added : c.added_row-added.result ≡ first_failing (before_publications book) (λ m. list_all (has_chunk own) m.adds) book.publications = search rules in
    let emptied : c.emptied_row-emptied.result ≡ first_failing (before_publications book) (λ m. list_all (has_chunk own) m.empties) book.publications = search rules in
    c.lesser.ensures
    ∙ (joined _ _ _ _ segment (c.lesser-row-2.ensures ∙ joined _ _ _ _ pending (c.lesser-row.ensures ∙ joined _ _ _ _ added (emptied ∙ sym (lesser_none _))))
    ∙ ap (λ cs. without_chunk cs book) c.requires.chunks)
