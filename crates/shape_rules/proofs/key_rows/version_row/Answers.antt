use Rattle.std.proofs.Common.{rules, sym, ◌≡◌, ◌∙◌}
use Rattle.std.specs.Prelude.{int_le}
use Rattle.book_rows.specs.Shape.{fits_version, same_version}
use Rattle.laws_unsound.specs.Counts.{before_chunks, before_posses}
use Rattle.laws_unsound.specs.Rows.{first_clashing, first_failing}
use Rattle.shape_rules.proofs.Joining.{joined, lesser_none}
use Rattle.shape_rules.proofs.key_rows.version_row.Goals as goal

pub returns : goal.returns
returns c =
    let book = c.args.book.now in
    let late : c.late_lock-late.result ≡ first_failing (before_posses book) (λ q. int_le q.version book.last) book.posses = search rules in
    let chunk : c.late_chunk-chunk.result ≡ first_failing (before_chunks book) (λ k. int_le k.version book.last) book.chunks = search rules in
    let unfit : c.first_failing-unfit.result ≡ first_failing (before_posses book) fits_version book.posses = search rules in
    let same : c.in_ok-same.same ≡ first_clashing (before_posses book) same_version book.posses = search rules in
    c.lesser.ensures ∙ joined _ _ _ _ late (c.lesser-row-2.ensures ∙ joined _ _ _ _ chunk (c.lesser-row.ensures ∙ joined _ _ _ _ unfit (same ∙ sym (lesser_none _))))
