use Rattle.std.proofs.Common.{refl, rules, ◌≡◌, ◌∙◌}
use Rattle.std.specs.Prelude.{nat_lt}
use Rattle.book_rows.specs.Locks.{same_number}
use Rattle.laws_unsound.specs.Counts.{before_posses}
use Rattle.laws_unsound.specs.Rows.{first_clashing, first_failing}
use Rattle.laws_unsound.specs.ShapeRows.{are_reversed}
use Rattle.shape_rules.proofs.Joining.{joined}
use Rattle.shape_rules.proofs.key_rows.lock_row.Goals as goal

pub returns : goal.returns
returns c =
    let book = c.args.book.now in
    let same : c.in_ok-same.same ≡ first_clashing (before_posses book) same_number book.posses = search rules in
    let behind : c.first_behind-behind.result ≡ first_clashing (before_posses book) are_reversed book.posses = search rules in
    let above : c.first_failing-above.result ≡ first_failing (before_posses book) (λ q. nat_lt q.number book.next_lock) book.posses = search rules in
    c.lesser.ensures ∙ joined _ _ _ _ same (c.lesser-row-2.ensures ∙ joined _ _ _ _ behind (c.lesser-row.ensures ∙ joined _ _ _ _ above refl))
