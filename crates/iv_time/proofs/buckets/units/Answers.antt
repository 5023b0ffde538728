use Rattle.std.proofs.Common.{◌≡◌, ◌<◌, ◌^◌, arith, pos, ◌+ℤ◌, to_z, of_z, w64}
use Rattle.std.proofs.lemmas.Int.{ints}
use Rattle.iv_time.specs.Buckets.{from_zero}
use Rattle.iv_time.proofs.Casts.{cast_pair, first_cast, last_cast}
use Rattle.iv_time.proofs.buckets.units.Goals as goal

pub returns : goal.returns
returns c =
    let low = c.requires.ms.0 in
    let high = c.requires.ms.1 in
    let e : to_z w64 (of_z w64 (to_z w64 (of_z w64 c.args.ms) +ℤ pos 62167219200000)) ≡ c.args.ms +ℤ pos 62167219200000 = omega (arith, ints, low, high) in
    let m : from_zero c.args.ms < 2 ^ 49 = omega (arith, ints, low, high) in
    rw e (cast_pair _ _ _ _ (first_cast c.args.unit (from_zero c.args.ms) c.requires.unit m) (last_cast c.args.unit (from_zero c.args.ms) c.requires.unit c.requires.most m))
