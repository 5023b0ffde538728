use Rattle.std.proofs.Common.{◌≡◌, arith, ℤ, pos, ◌+ℤ◌, ◌*ℤ◌, to_z, of_z, w64}
use Rattle.std.proofs.lemmas.Int.{ints}
use Rattle.iv_time.proofs.Ranges.{instant_test}
use Rattle.iv_time.proofs.reading.instant.Goals as goal

pub returns-clause-kept : goal.returns-clause-kept
returns-clause-kept c =
    let day : ℤ = c.in_ok-day.day in
    let low = c.in_ok-day.ensures.small.0 in
    let high = c.in_ok-day.ensures.small.1 in
    let clock = c.in_ok-clock.ensures.small in
    let same : to_z w64 (of_z w64 (to_z w64 (of_z w64 (pos 86400000 *ℤ to_z w64 (of_z w64 c.in_ok-day.day))) +ℤ to_z w64 c.in_ok-clock.clock)) ≡ pos 86400000 *ℤ c.in_ok-day.day +ℤ pos c.in_ok-clock.clock = omega (arith, ints, low, high, clock) in
    rw same (instant_test (pos 86400000 *ℤ c.in_ok-day.day +ℤ pos c.in_ok-clock.clock) (omega (arith, ints, low, high, clock), omega (arith, ints, low, high, clock)))
