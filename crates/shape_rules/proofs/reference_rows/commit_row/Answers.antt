use Rattle.std.proofs.Common.{rules, sym, ◌≡◌, ◌∙◌}
use Rattle.std.specs.Prelude.{length, nat_le, nat_lt}
use Rattle.laws_unsound.specs.Counts.{before_posses, before_publications, before_segments}
use Rattle.laws_unsound.specs.Rows.{first_failing}
use Rattle.laws_unsound.specs.ShapeRows.{has_known_since}
use Rattle.shape_rules.proofs.Joining.{joined, lesser_none}
use Rattle.shape_rules.proofs.reference_rows.commit_row.Goals as goal

pub returns : goal.returns
returns c =
    let book = c.args.book.now in
    let segment : c.uncounted_segment-segment.result ≡ first_failing (before_segments book) (λ r. nat_lt r.commit (length book.publications)) book.segments = search rules in
    let lock : c.uncounted_lock-lock.result ≡ first_failing (before_posses book) (λ q. nat_le q.since (length book.publications)) book.posses = search rules in
    let publication : c.uncounted_publication-publication.result ≡ first_failing (before_publications book) (has_known_since book) book.publications = search rules in
    c.lesser.ensures ∙ joined _ _ _ _ segment (c.lesser-row.ensures ∙ joined _ _ _ _ lock (publication ∙ sym (lesser_none _)))
