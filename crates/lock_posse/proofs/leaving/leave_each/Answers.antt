use Rattle.std.proofs.Common.{◌+◌, ℕ, List, drop, sym, ap, ◌∙◌}
use Rattle.std.proofs.lemmas.List.{drop_all, drop_more}
use Rattle.lock_posse.specs.Leaving.{left_rows}
use Rattle.lock_posse.proofs.leaving.leave_each.Goals as goal

pub loop-number-preserved : goal.loop-number-preserved
loop-number-preserved c =
    let numbers : List ℕ = c.args.numbers.now in
    let task : List ℕ = c.args.task.now in
    ap (λ ps. left_rows (drop (c.loop-number.number-index + 1) numbers) task ps) c.leave_row-ended.ensures.rows
    ∙ (sym (ap (λ ns. left_rows ns task c.loop-number.rows) (drop_more numbers c.loop-number.number-index 0 c.loop-number-test.true)) ∙ c.loop-number.invariant)

pub returns : goal.returns
returns c =
    sym (ap (λ ns. left_rows ns c.args.task.now c.loop-number.rows) (drop_all c.loop-number.number-index c.args.numbers.now c.loop-number-test.false)) ∙ c.loop-number.invariant
