use Rattle.std.proofs.Common.{◌+◌, ◌∙◌, ℕ, List, [], length, take, None, Some, sym, ap, arith}
use Rattle.std.proofs.lemmas.List.{get_or_read}
use Rattle.host_desk.specs.declared.call.Call.TheVariants.{Look}
use Rattle.host_desk.specs.declared.stop.Pick.TheVariants.{After, Fill}
use Rattle.host_desk.specs.Replay.{Disk, items_of, start, seen_step, said_step, torn}
use Rattle.host_desk.specs.Picked.{filled_after}
use Rattle.host_desk.proofs.Stops.{said_within, said_fits, said_call, run_call}
use Rattle.host_desk.proofs.Images.{observed_settled, observed_seen, observed_filled, picked_by, four_left, four_seen, four_torn}
use Rattle.host_desk.proofs.stop.Image.new.Goals as goal

pub play-requires : goal.play-requires
play-requires c = omega (arith, said_within (start (items_of c.args.first.now)) c.args.calls.now c.args.number, c.requires.said)

pub play-requires-in-After : goal.play-requires-in-After
play-requires-in-After c = omega (arith, said_within (start (items_of c.args.first.now)) c.args.calls.now c.args.number, c.requires.said)

pub play-requires-in-Fill : goal.play-requires-in-Fill
play-requires-in-Fill c = omega (arith, said_within (start (items_of c.args.first.now)) c.args.calls.now c.args.number, c.requires.said)

pub said_after-requires : goal.said_after-requires
said_after-requires c = said_fits c.args.calls.now c.args.number c.index-calls-number.result c.requires.number c.index-calls-number.is (start (items_of c.args.first.now)) c.in_ok-played-in-After.played.said 18446744073709551616 c.in_ok-played-in-After.ensures.said c.requires.said

pub said_after-requires-in-Fill : goal.said_after-requires-in-Fill
said_after-requires-in-Fill c = said_fits c.args.calls.now c.args.number c.index-calls-number.result c.requires.number c.index-calls-number.is (start (items_of c.args.first.now)) c.in_ok-played-in-Fill.played.said 18446744073709551616 c.in_ok-played-in-Fill.ensures.said c.requires.said

pub invariant_of-result : goal.invariant_of-result
invariant_of-result c = record { four = four_left None c.args.first.now c.in_ok-played-in-Before.played.left.items (take c.args.number c.args.calls.now) c.requires.four c.in_ok-played-in-Before.ensures.left }

pub invariant_of-result-in-After : goal.invariant_of-result-in-After
invariant_of-result-in-After c =
    let first = items_of c.args.first.now in
    let calls = c.args.calls.now in
    let number = c.args.number in
    let call = c.index-calls-number.result in
    let is = c.index-calls-number.is in
    let played = c.in_ok-played-in-After.ensures in
    let files = c.in_ok-replay-in-After.ensures.done ∙ ap (λ (f : List (List ℕ)). seen_step f call) played.seen ∙ sym (ap (λ (d : Disk). d.seen) (run_call calls number call c.requires.number is (start first))) in
    record { four = four_seen c.args.first.now c.replay.new.files.items (take (number + 1) calls) c.requires.four files }

pub invariant_of-result-in-Fill : goal.invariant_of-result-in-Fill
invariant_of-result-in-Fill c =
    let first = items_of c.args.first.now in
    let calls = c.args.calls.now in
    let number = c.args.number in
    let call = c.index-calls-number.result in
    let is = c.index-calls-number.is in
    let played = c.in_ok-played-in-Fill.ensures in
    let files = c.in_ok-tear-in-Fill.ensures ∙ ap (λ (l : List (List ℕ)). torn (Some c.in-Fill.byte) l call) played.left in
    record { four = four_torn c.in-Fill.byte c.args.first.now c.tear.new.left.items (take number calls) call c.requires.four files }

pub returns-in_ok-played-in-Before-clause-observed : goal.returns-in_ok-played-in-Before-clause-observed
returns-in_ok-played-in-Before-clause-observed c =
    let played = c.in_ok-played-in-Before in
    observed_settled (items_of c.args.first.now) c.args.calls.now c.args.number c.index-calls-number.result c.requires.number c.index-calls-number.is played.played.said (items_of played.played.left.items) played.ensures.said played.ensures.left

pub returns-in_ok-replay-in-After-clause-picked : goal.returns-in_ok-replay-in-After-clause-picked
returns-in_ok-replay-in-After-clause-picked c =
    let first = items_of c.args.first.now in
    let calls = c.args.calls.now in
    let number = c.args.number in
    let call = c.index-calls-number.result in
    let is = c.index-calls-number.is in
    let played = c.in_ok-played-in-After.ensures in
    let files = c.in_ok-replay-in-After.ensures.done ∙ ap (λ (f : List (List ℕ)). seen_step f call) played.seen ∙ sym (ap (λ (d : Disk). d.seen) (run_call calls number call c.requires.number is (start first))) in
    let said = c.said_after.ensures ∙ ap (λ (n : ℕ). n + length (said_step [] call)) played.said ∙ sym (said_call calls number call c.requires.number is (start first)) in
    picked_by first calls number call c.requires.number is c.args.pick After _ c.in-After.is files said

pub returns-in_ok-replay-in-After-clause-observed : goal.returns-in_ok-replay-in-After-clause-observed
returns-in_ok-replay-in-After-clause-observed c =
    let first = items_of c.args.first.now in
    let calls = c.args.calls.now in
    let number = c.args.number in
    let call = c.index-calls-number.result in
    let is = c.index-calls-number.is in
    let played = c.in_ok-played-in-After.ensures in
    let files = c.in_ok-replay-in-After.ensures.done ∙ ap (λ (f : List (List ℕ)). seen_step f call) played.seen ∙ sym (ap (λ (d : Disk). d.seen) (run_call calls number call c.requires.number is (start first))) in
    let said = c.said_after.ensures ∙ ap (λ (n : ℕ). n + length (said_step [] call)) played.said ∙ sym (said_call calls number call c.requires.number is (start first)) in
    observed_seen first calls number call c.requires.number is c.said_after.result (items_of c.replay.new.files.items) said files

pub returns-in_ok-tear-in-Fill-clause-picked : goal.returns-in_ok-tear-in-Fill-clause-picked
returns-in_ok-tear-in-Fill-clause-picked c =
    let first = items_of c.args.first.now in
    let calls = c.args.calls.now in
    let number = c.args.number in
    let call = c.index-calls-number.result in
    let is = c.index-calls-number.is in
    let played = c.in_ok-played-in-Fill.ensures in
    let files = c.in_ok-tear-in-Fill.ensures ∙ ap (λ (l : List (List ℕ)). torn (Some c.in-Fill.byte) l call) played.left in
    let said = c.said_after-in-Fill.ensures ∙ ap (λ (n : ℕ). n + length (said_step [] call)) played.said ∙ sym (said_call calls number call c.requires.number is (start first)) in
    picked_by first calls number call c.requires.number is c.args.pick (Fill c.in-Fill.byte) _ c.in-Fill.is (files ∙ ap (torn (Some c.in-Fill.byte) (filled_after c.in-Fill.byte first calls number)) (get_or_read calls number call c.requires.number is Look)) said

pub returns-in_ok-tear-in-Fill-clause-observed : goal.returns-in_ok-tear-in-Fill-clause-observed
returns-in_ok-tear-in-Fill-clause-observed c =
    let first = items_of c.args.first.now in
    let calls = c.args.calls.now in
    let number = c.args.number in
    let call = c.index-calls-number.result in
    let is = c.index-calls-number.is in
    let played = c.in_ok-played-in-Fill.ensures in
    let files = c.in_ok-tear-in-Fill.ensures ∙ ap (λ (l : List (List ℕ)). torn (Some c.in-Fill.byte) l call) played.left in
    let said = c.said_after-in-Fill.ensures ∙ ap (λ (n : ℕ). n + length (said_step [] call)) played.said ∙ sym (said_call calls number call c.requires.number is (start first)) in
    observed_filled first calls number call c.requires.number is c.in-Fill.byte c.said_after-in-Fill.result (items_of c.tear.new.left.items) said files
