use Rattle.std.proofs.Common.{arith, int_lt, false, length, of_z, sym, to_z, true, w64, ◌≡◌, ◌≤◌}
use Rattle.std.proofs.lemmas.Int.{ints}
use Rattle.timeline_view.proofs.Tops.{has_started, none_later, starts_later}
use Rattle.timeline_view.proofs.looks.version_at.Goals as goal

pub returns-then-stretches-place : goal.returns-then-stretches-place
returns-then-stretches-place c =
    let t : to_z w64 (of_z w64 c.args.at) ≡ c.args.at = omega (arith, ints) in
    let split = rw t at c.count_past-place.ensures in
    let past : length c.args.stretches.now ≤ c.count_past-place.result = omega (arith, c.if-stretches-place.true) in
    sym (none_later c.args.stretches.now c.requires c.args.at c.count_past-place.result split past)

pub returns-then-at-next : goal.returns-then-at-next
returns-then-at-next c =
    let p = c.stretch_at-next.result.now in
    let t : to_z w64 (of_z w64 c.args.at) ≡ c.args.at = omega (arith, ints) in
    let s : to_z w64 (of_z w64 p.start) ≡ p.start = omega (arith, ints) in
    let split = rw t at c.count_past-place.ensures in
    let later : int_lt c.args.at p.start ≡ true = rw (t, s) at c.if-at-next.true in
    sym (starts_later c.args.stretches.now c.requires c.args.at c.count_past-place.result split p c.stretch_at-next.ensures later)

pub returns : goal.returns
returns c =
    let p = c.stretch_at-next.result.now in
    let t : to_z w64 (of_z w64 c.args.at) ≡ c.args.at = omega (arith, ints) in
    let s : to_z w64 (of_z w64 p.start) ≡ p.start = omega (arith, ints) in
    let v : to_z w64 (of_z w64 p.top.version) ≡ p.top.version = omega (arith, ints) in
    let split = rw t at c.count_past-place.ensures in
    let started : int_lt c.args.at p.start ≡ false = rw (t, s) at c.if-at-next.false in
    rw v (sym (has_started c.args.stretches.now c.requires c.args.at c.count_past-place.result split p c.stretch_at-next.ensures started))
