use Rattle.std.proofs.Common.{◌+◌, ◌++◌, ◌∙◌, ◌∷◌, ◌≡◌, List, Some, [], ap, get_or, map, take, ℕ}
use Rattle.std.specs.Prelude.{slice_get}
use Rattle.std.proofs.lemmas.List.{map-append, take_more}
use Rattle.std.proofs.lemmas.Option.{get_or_from_slice_get, slice_get_within}
use Rattle.book_rows.specs.ShowSteps.{task_line}
use Rattle.book_rows.specs.declared.replies.TaskLine.{TaskLine}
use Rattle.book_rows.specs.declared.rows.TaskRow.{TaskRow}
use Rattle.overlord_core.proofs.rows_shown.task_lines.Goals as goal

one_more : (ts : List TaskRow) (place : ℕ) (t : TaskRow) → slice_get ts place ≡ Some t → map task_line (take (place + 1) ts) ≡ map task_line (take place ts) ++ task_line t ∷ []
one_more ts place t is =
    ap (λ (xs : List TaskRow). map task_line xs) (take_more ts place t (slice_get_within ts place t is))
    ∙ map-append task_line (take place ts) (get_or ts place t ∷ [])
    ∙ ap (λ (x : TaskRow). map task_line (take place ts) ++ task_line x ∷ []) (get_or_from_slice_get ts place t t is)

pub loop-place-preserved : goal.loop-place-preserved
loop-place-preserved c =
    let more = one_more c.args.tasks.now c.loop-place.place c.task_at.result.now c.task_at.ensures in
    let pushed = c.in_ok-push.ensures.items in
    let line : c.in_ok-task_line.field-0 ≡ task_line c.task_at.result.now = c.in_ok-task_line.ensures in
    cc
