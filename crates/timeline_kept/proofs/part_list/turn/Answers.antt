use Rattle.std.proofs.Common.{ap, arith, drop, length, length-append, sym, take, ◌∙◌, ◌+◌, ◌-◌, ◌++◌, ◌≡◌}
use Rattle.timeline_kept.proofs.Placing.{turned}
use Rattle.timeline_kept.proofs.part_list.turn.Goals as goal

pub returns : goal.returns
returns g c = λ front back whole long.
    let first = c.bring.new.items in
    let last = c.move_to_end.new.items in
    let items = c.args.items.now.items in
    let len = c.args.items.now.len in
    let all : len ≡ length front + length back = sym c.as_mut_slice.ensures.len ∙ ap length (c.as_mut_slice.ensures.value ∙ whole) ∙ length-append front back in
    c.truncate.ensures.items
    ∙ turned front back c.args.from c.args.to (c.len.result - (c.args.to - c.args.from)) c.requires.order (omega (arith, c.requires.within, long)) (omega (arith, c.len.ensures, all, c.requires.order, c.requires.within, long)) len (drop (length first) items) first c.as_mut_slice-2.result.now last
    (drop (length last) (take len (first ++ drop (length first) items))) all (c.bring.ensures front back (c.as_mut_slice.ensures.value ∙ whole) long) c.as_mut_slice-2.ensures.value c.move_to_end.ensures
