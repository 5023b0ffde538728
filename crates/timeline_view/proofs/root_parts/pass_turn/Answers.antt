use Rattle.std.proofs.Common.{arith, int_eq, int_lt, of_z, sym, to_z, w64, ◌&&◌, ◌∙◌, ◌≡◌}
use Rattle.std.proofs.lemmas.Int.{ints}
use Rattle.timeline_view.proofs.Piecing.{piece_indexed, piece_proper, turn_cut, turn_early, turn_passed}
use Rattle.timeline_view.proofs.Places.{got_In}
use Rattle.timeline_view.proofs.Turning.{place_within}
use Rattle.timeline_view.proofs.root_parts.pass_turn.Goals as goal

pub mark_at-mark-requires : goal.mark_at-mark-requires
mark_at-mark-requires c =
    let l = c.args.layout.now in
    place_within l.marks.now l.turns.now c.requires.turned c.requires.rise c.turn_at-turn.result (got_In l.turns.now c.args.at c.turn_at-turn.result c.turn_at-turn.ensures)

pub returns-then-not-is_cut : goal.returns-then-not-is_cut
returns-then-not-is_cut c =
    let l = c.args.layout.now in
    let m = c.mark_at-mark.result.now in
    let x = c.turn_at-turn.result in
    let p = c.args.stretch.now in
    let v : to_z w64 (of_z w64 p.top.version) ≡ p.top.version = omega (arith, ints) in
    let f : to_z w64 (of_z w64 c.args.from) ≡ c.args.from = omega (arith, ints) in
    let t : to_z w64 (of_z w64 x.at) ≡ x.at = omega (arith, ints) in
    let cut : c.is_cut.result ≡ (int_eq m.version p.top.version && int_lt c.args.from x.at) = rw (v, f, t) at c.is_cut.ensures in
    let keys = c.in_ok-turn_keys.ensures in
    rw f (turn_passed l.stretches.now l.marks.now l.turns.now c.requires.turned c.requires.rise p c.args.at x m c.args.keys.now.entries c.args.parts.now.items c.args.from c.turn_at-turn.ensures c.mark_at-mark.ensures c.requires.within
    c.turn_keys.new.keys.entries (sym cut ∙ c.if-not-is_cut.true) keys.more keys.own keys.less)

pub put_piece-requires-clause-proper : goal.put_piece-requires-clause-proper
put_piece-requires-clause-proper c =
    let l = c.args.layout.now in
    let m = c.mark_at-mark.result.now in
    let x = c.turn_at-turn.result in
    let p = c.args.stretch.now in
    let v : to_z w64 (of_z w64 p.top.version) ≡ p.top.version = omega (arith, ints) in
    let f : to_z w64 (of_z w64 c.args.from) ≡ c.args.from = omega (arith, ints) in
    let t : to_z w64 (of_z w64 x.at) ≡ x.at = omega (arith, ints) in
    let cut : c.is_cut.result ≡ (int_eq m.version p.top.version && int_lt c.args.from x.at) = rw (v, f, t) at c.is_cut.ensures in
    rw (f, t) (piece_proper l.stretches.now l.marks.now l.turns.now c.requires.turned c.requires.rise p c.args.at x m c.args.keys.now.entries c.args.parts.now.items c.args.from c.turn_at-turn.ensures c.mark_at-mark.ensures c.requires.within (sym cut ∙ c.if-not-is_cut.false))

pub put_piece-requires-clause-indexed : goal.put_piece-requires-clause-indexed
put_piece-requires-clause-indexed c =
    let l = c.args.layout.now in
    let m = c.mark_at-mark.result.now in
    let x = c.turn_at-turn.result in
    let p = c.args.stretch.now in
    let v : to_z w64 (of_z w64 p.top.version) ≡ p.top.version = omega (arith, ints) in
    let f : to_z w64 (of_z w64 c.args.from) ≡ c.args.from = omega (arith, ints) in
    let t : to_z w64 (of_z w64 x.at) ≡ x.at = omega (arith, ints) in
    let cut : c.is_cut.result ≡ (int_eq m.version p.top.version && int_lt c.args.from x.at) = rw (v, f, t) at c.is_cut.ensures in
    rw (v, f) (piece_indexed l.stretches.now l.marks.now l.turns.now c.requires.turned c.requires.rise p c.args.at x m c.args.keys.now.entries c.args.parts.now.items c.args.from c.turn_at-turn.ensures c.mark_at-mark.ensures c.requires.within (sym cut ∙ c.if-not-is_cut.false))

pub returns : goal.returns
returns c =
    let l = c.args.layout.now in
    let m = c.mark_at-mark.result.now in
    let x = c.turn_at-turn.result in
    let p = c.args.stretch.now in
    let v : to_z w64 (of_z w64 p.top.version) ≡ p.top.version = omega (arith, ints) in
    let f : to_z w64 (of_z w64 c.args.from) ≡ c.args.from = omega (arith, ints) in
    let t : to_z w64 (of_z w64 x.at) ≡ x.at = omega (arith, ints) in
    let cut : c.is_cut.result ≡ (int_eq m.version p.top.version && int_lt c.args.from x.at) = rw (v, f, t) at c.is_cut.ensures in
    let keys = c.in_ok-turn_keys-2.ensures in
    rw t (turn_cut l.stretches.now l.marks.now l.turns.now c.requires.turned c.requires.rise p c.args.at x m c.args.keys.now.entries c.args.parts.now.items c.args.from c.turn_at-turn.ensures c.mark_at-mark.ensures c.requires.within
    (sym cut ∙ c.if-not-is_cut.false) c.turn_keys-2.new.keys.entries c.put_piece.new.parts.items c.requires.among (turn_early l.turns.now c.args.at x p c.turn_at-turn.ensures c.requires.early) (rw (v, f, t) at c.in_ok-put_piece.ensures) keys.more keys.own keys.less)
