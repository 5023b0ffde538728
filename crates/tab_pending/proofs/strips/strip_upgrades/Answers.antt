use Rattle.std.proofs.Common.{◌+◌, ℕ, List, drop, get_or, sym, ap, ◌∙◌}
use Rattle.std.proofs.lemmas.List.{drop_all, drop_more}
use Rattle.book_rows.specs.Lists.{stands_in}
use Rattle.book_rows.specs.Locks.{stripped_upgrades}
use Rattle.tab_pending.proofs.Stripped.{upgrades_all, upgrades_more}
use Rattle.tab_pending.proofs.strips.strip_upgrades.Goals as goal

pub loop-lock-preserved : goal.loop-lock-preserved
loop-lock-preserved c =
    let locks : List ℕ = c.args.locks.now in
    let index : ℕ = c.loop-lock.lock-index in
    ap (λ rs. stripped_upgrades (stands_in (drop (index + 1) locks)) rs) c.remove_all.ensures
    ∙ (
    upgrades_more (get_or locks index 0) (drop (index + 1) locks) c.loop-lock.rows
    ∙ (sym (ap (λ ns. stripped_upgrades (stands_in ns) c.loop-lock.rows) (drop_more locks index 0 c.loop-lock-test.true)) ∙ c.loop-lock.invariant)
    )

pub returns : goal.returns
returns c =
    upgrades_all c.loop-lock.rows
    ∙ (sym (ap (λ ns. stripped_upgrades (stands_in ns) c.loop-lock.rows) (drop_all c.loop-lock.lock-index c.args.locks.now c.loop-lock-test.false)) ∙ c.loop-lock.invariant)
