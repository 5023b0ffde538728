use Rattle.std.proofs.Common.{◌+◌, ◌∙◌, ◌∷◌, ◌≡◌, List, ap, drop, sym, ℕ}
use Rattle.std.proofs.lemmas.List.{drop_all, drop_more}
use Rattle.seg_names.specs.declared.seg_id.SegId.{SegId}
use Rattle.book_rows.specs.Append.{without_roots}
use Rattle.book_rows.specs.declared.rows.PendingRow.{PendingRow}
use Rattle.publish_rows.proofs.UsedUp.{roots_all, roots_more}
use Rattle.publish_rows.proofs.taking.take_roots.Goals as goal

pub loop-id-preserved : goal.loop-id-preserved
loop-id-preserved c =
    let ids : List SegId = c.args.ids.now in
    let index : ℕ = c.loop-id.id-index in
    let root : SegId = c.id-item.result in
    let ps : List PendingRow = c.loop-id.pendings.pendings in
    let rest : drop index ids ≡ root ∷ drop (index + 1) ids = drop_more ids index root c.loop-id-test.true ∙ ap (λ a. a ∷ drop (index + 1) ids) (sym c.id-item.is) in
    rw c.take_root.ensures
    (
    ap (λ (rows : List PendingRow). record c.loop-id.pendings { pendings = rows }) (roots_more root (drop (index + 1) ids) ps ∙ sym (ap (λ (roots : List SegId). without_roots roots ps) rest))
    ∙ c.loop-id.invariant
    )

pub returns : goal.returns
returns c =
    let ps : List PendingRow = c.loop-id.pendings.pendings in
    ap (λ (rows : List PendingRow). record c.loop-id.pendings { pendings = rows })
    (roots_all ps ∙ sym (ap (λ (roots : List SegId). without_roots roots ps) (drop_all c.loop-id.id-index c.args.ids.now c.loop-id-test.false)))
    ∙ c.loop-id.invariant
