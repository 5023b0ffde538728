use Rattle.std.proofs.Common.{rules, sym, ◌≡◌, ◌∙◌}
use Rattle.seg_names.specs.Ids.{same_id}
use Rattle.laws_unsound.specs.Counts.{before_pendings}
use Rattle.laws_unsound.specs.Rows.{first_clashing, least_clashing}
use Rattle.laws_unsound.specs.ShapeRows.{ask_alike, once_ids}
use Rattle.shape_rules.proofs.Joining.{joined, lesser_none}
use Rattle.shape_rules.proofs.key_rows.request_row.Goals as goal

pub returns : goal.returns
returns c =
    let book = c.args.book.now in
    let asked : c.in_ok-asked.asked ≡ first_clashing (before_pendings book) ask_alike book.pendings = search rules in
    let once : c.in_ok-once.once ≡ least_clashing same_id (once_ids book) = search rules in
    c.lesser.ensures ∙ joined _ _ _ _ asked (once ∙ sym (lesser_none _))
