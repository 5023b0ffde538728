use Rattle.std.proofs.Common.{◌/◌, ◌%◌, ◌≡◌, Some, arith, slice_get, subst, ℕ}
use Rattle.span_keys.specs.Classes.{span_ranges}
use Rattle.tab_pending.proofs.RangePlaces.{count_carried, get_carried}
use Rattle.tab_pending.proofs.ranges.carry_range.Goals as goal

pub lock_at-lock-requires : goal.lock_at-lock-requires
lock_at-lock-requires c = omega (arith, c.requires, count_carried c.args.span c.args.locks.now)

pub returns : goal.returns
returns c =
    get_carried c.args.span c.args.locks.now (c.args.at / 8) (c.args.at % 8) c.args.at c.lock_at-lock.result c.span_range.result (omega arith) c.lock_at-lock.ensures
    (subst (λ (d : ℕ). slice_get (span_ranges d c.args.span) (c.args.at % 8) ≡ Some c.span_range.result) c.carry_digest.ensures c.span_range.ensures)
