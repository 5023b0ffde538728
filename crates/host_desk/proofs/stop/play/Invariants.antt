use Rattle.std.proofs.Common.{◌≡◌, length, take}
use Rattle.host_desk.specs.Replay.{items_of, run, start, left_after}
use Rattle.host_desk.proofs.stop.play.Given as goal

abbrev pub invariant-loop-call : goal.invariant-loop-call
invariant-loop-call l = record {
  seen : items_of l.seen.items ≡ (run (start (items_of l.first)) (take l.call-index l.calls)).seen;
  left : items_of l.left.items ≡ left_after l.fill (start (items_of l.first)) (items_of l.first) (take l.call-index l.calls);
  said : l.said ≡ length (run (start (items_of l.first)) (take l.call-index l.calls)).said;
}
