use Rattle.std.proofs.Common.{ℕ, List, ◌++◌, map, take, get_or, ap, append_assoc, ◌∙◌}
use Rattle.book_rows.specs.Locks.{posse_of}
use Rattle.book_rows.specs.declared.rows.PosseRow.{PosseRow}
use Rattle.lock_posse.specs.Updates.{joining, joinings, revoking}
use Rattle.lock_posse.specs.declared.updates.Granting.{Granting}
use Rattle.lock_posse.proofs.Updated.{joinings_more}
use Rattle.lock_posse.proofs.updates.grantings.Goals as goal

pub loop-join-preserved : goal.loop-join-preserved
loop-join-preserved c =
    let rows : List PosseRow = c.args.rows.now in
    let joins : List ℕ = c.as_slice-joins.result.now in
    let task : List ℕ = c.args.task.now in
    let index : ℕ = c.loop-join.join-index in
    let revoked : List Granting = map revoking c.args.granted.now.revoked in
    let next : List Granting = joining (posse_of (get_or joins index 0) rows) joins task in
    c.in_ok-push_joining.ensures
    ∙ (
    ap (λ o. c.loop-join.updates.items ++ joining o joins task) c.row_of.ensures
    ∙ (
    ap (λ us. us ++ next) c.loop-join.invariant
    ∙ (append_assoc revoked (joinings rows joins task (take index joins)) next ∙ ap (λ us. revoked ++ us) (joinings_more rows joins task joins index 0 c.loop-join-test.true))
    )
    )
