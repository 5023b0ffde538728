use Rattle.std.proofs.Common.{◌+◌, ◌∙◌, ◌∷◌, ◌≡◌, List, ap, drop, filter, not, sym, ℕ}
use Rattle.std.proofs.lemmas.List.{drop_all, drop_more}
use Rattle.book_rows.specs.Over.{Target}
use Rattle.book_rows.specs.Rewrite.{is_used_up}
use Rattle.book_rows.specs.declared.rows.UpgradeRow.{UpgradeRow}
use Rattle.publish_rows.proofs.UsedUp.{targets_all, targets_more}
use Rattle.publish_rows.proofs.taking.use_up.Goals as goal

pub loop-target-preserved : goal.loop-target-preserved
loop-target-preserved c =
    let xs : List Target = c.args.targets.now in
    let index : ℕ = c.loop-target.target-index in
    let x : Target = c.target-item.result in
    let us : List UpgradeRow = c.loop-target.pendings.upgrades in
    let rest : drop index xs ≡ x ∷ drop (index + 1) xs = drop_more xs index x c.loop-target-test.true ∙ ap (λ y. y ∷ drop (index + 1) xs) (sym c.target-item.is) in
    rw c.use_up_by.ensures
    (
    ap (λ (rows : List UpgradeRow). record c.loop-target.pendings { upgrades = rows })
    (targets_more x (drop (index + 1) xs) us ∙ sym (ap (λ (ys : List Target). filter (λ u. not (is_used_up ys u)) us) rest))
    ∙ c.loop-target.invariant
    )

pub returns : goal.returns
returns c =
    let us : List UpgradeRow = c.loop-target.pendings.upgrades in
    ap (λ (rows : List UpgradeRow). record c.loop-target.pendings { upgrades = rows })
    (targets_all us ∙ sym (ap (λ (ys : List Target). filter (λ u. not (is_used_up ys u)) us) (drop_all c.loop-target.target-index c.args.targets.now c.loop-target-test.false)))
    ∙ c.loop-target.invariant
