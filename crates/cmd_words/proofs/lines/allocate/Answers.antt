use Rattle.std.proofs.Common.{◌≡◌, arith, of_z, to_z, w64}
use Rattle.std.proofs.lemmas.Int.{ints}
use Rattle.cmd_words.specs.Lines.{allocate_of}
use Rattle.cmd_words.proofs.lines.allocate.Goals as goal

pub returns : goal.returns
unfolding allocate_of
returns c =
    let at_is : to_z w64 (of_z w64 c.in_ok-at.at) ≡ c.in_ok-at.at = omega (arith, ints) in
    let now_is : to_z w64 (of_z w64 c.in_ok-now.now) ≡ c.in_ok-now.now = omega (arith, ints) in
    rw (c.in_ok-lock_kind.ensures, c.in_ok-at.ensures, c.in_ok-granularity.ensures, c.in_ok-now.ensures) (rw (at_is, now_is) at c.allocate_from.ensures)
