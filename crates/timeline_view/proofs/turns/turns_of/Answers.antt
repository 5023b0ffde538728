use Rattle.std.proofs.Common.{arith, ap, ◌∙◌}
use Rattle.std.proofs.lemmas.List.{take_all}
use Rattle.timeline_view.specs.Turns.{turns_from}
use Rattle.timeline_view.proofs.Turning.{turns_are, turns_more, turns_rise}
use Rattle.timeline_view.proofs.turns.turns_of.Goals as goal

pub loop-place-preserved : goal.loop-place-preserved
loop-place-preserved c = turns_more c.args.marks.now c.loop-place.place c.mark_at.result.now c.loop-place.turns.items c.push_turns.new.turns.items c.mark_at.ensures c.loop-place.invariant c.in_ok-push_turns.ensures

pub returns-clause-all : goal.returns-clause-all
returns-clause-all c = turns_are c.args.marks.now c.loop-place.turns.items c.sort.new.self.items (c.loop-place.invariant ∙ ap (turns_from 0) (take_all c.loop-place.place c.args.marks.now (omega (arith, c.loop-place-test.false)))) c.sort.ensures.permutation

pub returns-clause-rise : goal.returns-clause-rise
returns-clause-rise c = turns_rise c.sort.new.self.items c.in_ok-sort.ensures.sorted
