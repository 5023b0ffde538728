use Rattle.std.proofs.Common.{◌≡◌, ◌<◌, ◌+◌, ◌∙◌, sym, ap, ℕ, List, [], length, take, arith}
use Rattle.host_desk.specs.Replay.{Disk, items_of, start, seen_step, said_step, left_by, run}
use Rattle.host_desk.proofs.Stops.{run_call, left_call, said_call, said_fits}
use Rattle.host_desk.proofs.stop.play.Goals as goal

pub said_after-said-requires : goal.said_after-said-requires
said_after-said-requires c = said_fits c.args.calls.now c.loop-call.call-index c.call-item.result (omega arith) c.call-item.is (start (items_of c.args.first.now)) c.loop-call.said 18446744073709551616 c.loop-call.invariant.said c.requires

pub loop-call-preserved : goal.loop-call-preserved
loop-call-preserved c =
    let s = start (items_of c.args.first.now) in
    let calls = c.args.calls.now in
    let i = c.loop-call.call-index in
    let call = c.call-item.result in
    let less : i < length calls = omega arith in
    let so_far = c.loop-call.invariant in
    let seen : items_of c.deref.result.now ≡ (run s (take i calls)).seen = ap items_of c.deref.ensures.value ∙ so_far.seen in
    record {
      seen = c.in_ok-replay.ensures.done ∙ ap (λ (files : List (List ℕ)). seen_step files call) so_far.seen ∙ sym (ap (λ (d : Disk). d.seen) (run_call calls i call less c.call-item.is s));
      left = c.in_ok-leave.ensures ∙ (λ j. left_by c.args.fill (seen j) (so_far.left j) call) ∙ sym (left_call calls i call less c.call-item.is c.args.fill s (items_of c.args.first.now));
      said = c.said_after-said.ensures ∙ ap (λ (n : ℕ). n + length (said_step [] call)) so_far.said ∙ sym (said_call calls i call less c.call-item.is s);
    }
