use Rattle.std.proofs.Common.{ap, rules, ◌≡◌, ◌∙◌}
use Rattle.book_rows.specs.Shape.{same_task}
use Rattle.laws_unsound.specs.Rows.{first_clashing}
use Rattle.shape_rules.specs.Clauses.{id_keys, lock_keys, stream_keys}
use Rattle.shape_rules.proofs.Joining.{joined}
use Rattle.shape_rules.proofs.key_rows.key_row.Goals as goal

pub returns : goal.returns
returns c =
    let book = c.args.book.now in
    let task : c.in_ok-task.task ≡ first_clashing 0 same_task book.tasks = search rules in
    c.lesser.ensures
    ∙ joined _ _ _ _ task
    (c.in_ok-locked.ensures ∙ ap (λ row. lock_keys book row) (c.in_ok-named.ensures ∙ ap (λ row. id_keys book row) (c.in_ok-streamed.ensures ∙ ap (λ row. stream_keys book row) c.in_ok-asked.ensures)))
