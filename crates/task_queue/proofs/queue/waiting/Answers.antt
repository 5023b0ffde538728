use Rattle.std.proofs.Common.{◌∙◌, ◌∷◌, ◌≡◌, ℕ, List, [], ap, arith, length, map, refl}
use Rattle.std.specs.Vec.Iter.{into_iter_len}
use Rattle.std.proofs.lemmas.Iterator.Adapters.{YieldsList-from_vec}
use Rattle.std.proofs.lemmas.Iterator.Consumers.{YieldsList-end}
use denote.Ref.{Bor}
use Rattle.book_rows.specs.declared.rows.TaskRow.{TaskRow}
use Rattle.task_queue.proofs.queue.waiting.Goals as goal

ids_of : (rows : List (Bor TaskRow)) → map (λ r. r.now.task) rows ≡ map (λ t. t.task) (map (λ r. r.now) (map (λ r. r) rows))
ids_of [] = refl
ids_of (r ∷ rs) = ap (λ (ids : List (List ℕ)). r.now.task ∷ ids) (ids_of rs)

pub returns : goal.returns
returns c =
    let rows : List (Bor TaskRow) = c.in_ok-rows.rows.items in
    let gives = c.into_iter-row-iterator.ensures.into_iter_gives in
    let long : into_iter_len c.into_iter-row-iterator.result ≡ length rows = omega (arith, gives.1, c.in_ok-rows.rows.ok.0) in
    let end = YieldsList-end (YieldsList-from_vec {s = c.into_iter-row-iterator.result} rows gives.0 long) c.loop-row.yielded c.loop-row.row-iterator c.loop-row.yielded_by c.next.result c.next.new.self c.in-None.is c.next.ensures.steps in
    c.loop-row.invariant
    ∙ (
    ids_of c.loop-row.yielded
    ∙ (ap (λ (found : List (Bor TaskRow)). map (λ t. t.task) (map (λ r. r.now) found)) end.0 ∙ ap (λ (ts : List TaskRow). map (λ t. t.task) ts) c.in_ok-rows.ensures)
    )
