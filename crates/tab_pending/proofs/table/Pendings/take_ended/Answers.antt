use Rattle.std.proofs.Common.{ℕ, Bool, List, ap, ap₂, ◌∙◌}
use Rattle.book_rows.specs.Locks.{stripped, stripped_upgrades}
use Rattle.book_rows.specs.declared.rows.PendingRow.{PendingRow}
use Rattle.book_rows.specs.declared.rows.UpgradeRow.{UpgradeRow}
use Rattle.tab_pending.specs.PendingRows.{PendingRows}
use Rattle.tab_pending.proofs.Stripped.{ended_gone, pendings_stay, upgrades_stay}
use Rattle.tab_pending.proofs.table.Pendings.take_ended.Goals as goal

pub returns-then-not-ended : goal.returns-then-not-ended
returns-then-not-ended c =
    let both : List PendingRow → List UpgradeRow → PendingRows = λ ps us. record { pendings = ps; upgrades = us } in
    rw c.if-not-ended.true (ap₂ both (pendings_stay c.args.lock c.args.self.now.pendings) (upgrades_stay c.args.lock c.args.self.now.upgrades))

pub returns : goal.returns
returns c =
    let left : (ℕ → Bool) → PendingRows = λ gone. record { pendings = stripped gone c.args.self.now.pendings; upgrades = stripped_upgrades gone c.args.self.now.upgrades } in
    rw c.if-not-ended.false (c.take_posse.ensures ∙ ap left (ended_gone c.args.lock))
