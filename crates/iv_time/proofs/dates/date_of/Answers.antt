use Rattle.std.proofs.Common.{◌≡◌, arith, pos, ◌+ℤ◌}
use Rattle.std.proofs.lemmas.Int.{ints}
use Rattle.jiff_core.specs.Date.{epoch_day}
use Rattle.iv_time.proofs.DayDates.{date_is}
use Rattle.iv_time.proofs.dates.date_of.Goals as goal

pub returns-clause-year : goal.returns-clause-year
returns-clause-year c =
    let number : epoch_day c.from_days_since_min.result +ℤ pos 719528 ≡ pos c.args.days = omega (arith, ints, c.from_days_since_min.ensures) in
    rw c.from_plain.ensures ((date_is c.args.days c.from_days_since_min.result c.requires number).0)

pub returns-clause-month : goal.returns-clause-month
returns-clause-month c =
    let number : epoch_day c.from_days_since_min.result +ℤ pos 719528 ≡ pos c.args.days = omega (arith, ints, c.from_days_since_min.ensures) in
    rw c.from_plain.ensures ((date_is c.args.days c.from_days_since_min.result c.requires number).1)

pub returns-clause-day : goal.returns-clause-day
returns-clause-day c =
    let number : epoch_day c.from_days_since_min.result +ℤ pos 719528 ≡ pos c.args.days = omega (arith, ints, c.from_days_since_min.ensures) in
    rw c.from_plain.ensures ((date_is c.args.days c.from_days_since_min.result c.requires number).2)
