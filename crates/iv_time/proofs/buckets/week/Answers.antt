use Rattle.std.proofs.Common.{◌≡◌, ◌∙◌, ap, arith, ℕ, pos, ◌-ℤ◌}
use Rattle.std.proofs.lemmas.Int.{ints}
use Rattle.jiff_core.specs.Calendar.{weekday_number}
use Rattle.jiff_core.specs.Date.{epoch_day}
use Rattle.jiff_core.proofs.CalendarLemmas.{weekday_number_bound}
use Rattle.iv_time.proofs.Casts.{week_from}
use Rattle.iv_time.proofs.buckets.week.Goals as goal

pub returns : goal.returns
returns c =
    let day_is : epoch_day c.to_plain.result ≡ pos c.args.day -ℤ pos 719528 = rw c.to_plain.ensures (omega (arith, ints, c.date_of.ensures.number)) in
    let weekday : c.to_monday_zero_offset.result ≡ pos (weekday_number (pos c.args.day -ℤ pos 719528)) =
    c.to_monday_zero_offset.ensures.value ∙ ap (λ (n : ℕ). pos n) (c.weekday-weekday.ensures ∙ ap weekday_number day_is) in
    week_from _ c.args.day _ (weekday_number (pos c.args.day -ℤ pos 719528)) c.days.ensures weekday (weekday_number_bound (pos c.args.day -ℤ pos 719528)) c.requires
