use Rattle.std.proofs.Common.{refl, rules, ◌++◌, ◌≡◌, ◌∙◌}
use Rattle.seg_names.specs.Ids.{same_id}
use Rattle.book_rows.specs.Shape.{pending_ids, same_chunk_row, same_upgrade, segment_ids}
use Rattle.laws_unsound.specs.Counts.{before_chunks, before_segments, before_upgrades}
use Rattle.laws_unsound.specs.Rows.{first_clashing}
use Rattle.shape_rules.proofs.Joining.{joined}
use Rattle.shape_rules.proofs.key_rows.id_row.Goals as goal

pub returns : goal.returns
returns c =
    let book = c.args.book.now in
    let chunk : c.in_ok-chunk.chunk ≡ first_clashing (before_chunks book) same_chunk_row book.chunks = search rules in
    let id : c.in_ok-id.id ≡ first_clashing (before_segments book) same_id (segment_ids book.segments ++ pending_ids book.pendings) = search rules in
    let upgrade : c.in_ok-upgrade.upgrade ≡ first_clashing (before_upgrades book) same_upgrade book.upgrades = search rules in
    c.lesser.ensures ∙ joined _ _ _ _ chunk (c.lesser-row-2.ensures ∙ joined _ _ _ _ id (c.lesser-row.ensures ∙ joined _ _ _ _ upgrade refl))
