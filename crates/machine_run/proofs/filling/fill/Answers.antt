use Rattle.std.proofs.Common.{rules, arith, ◌≡◌, ◌+◌, ◌∷◌, ℕ, sym, ◌∙◌, ap, subst}
use Rattle.machine_run.specs.Fold.{IsFilling, is_full}
use Rattle.machine_run.proofs.Items.{filling_start, filling_more, filling_full, filling_done, filling_failed, some_taken}
use Rattle.machine_run.proofs.filling.fill.Goals as goal

pub loop-stop-init : goal.loop-stop-init
loop-stop-init g c =
    let f = g.F.Feed in
    record {
      fits = c.requires.fits;
      goes = (g.met.F.Feed.adds_up).begins c.args.feed.now c.args.source.now;
      nearer = search rules;
      count = c.requires.batch;
      bytes = omega arith;
      filling = filling_start g.M.Machine.rules c.args.batch c.args.machine.now f.tells (f.left c.args.feed.now c.args.source.now) (f.breaks c.args.feed.now c.args.source.now) c.clear.new.self.items c.clear-2.new.self.items c.clear.ensures.items c.clear-2.ensures.items;
    }

pub returns-in-Ok-false-clause-filled : goal.returns-in-Ok-false-clause-filled
returns-in-Ok-false-clause-filled g c =
    let m = g.M.Machine.rules in
    let f = g.F.Feed in
    let l = c.loop-stop in
    let was = f.breaks c.args.feed.now c.args.source.now in
    let now = f.breaks l.feed l.source in
    let then = f.breaks c.advance.new.self c.advance.new.source in
    let after = f.left c.advance.new.self c.advance.new.source in
    filling_done m c.args.batch c.args.machine.now f.tells (f.left c.args.feed.now c.args.source.now) was now (f.left l.feed l.source) l.changes.items l.replies.items l.machine l.count l.bytes l.invariant.filling after then c.advance.new.source (λ told. c.in-Ok-false.ensures.none told c.in-Ok-false.field-0-test)

pub returns-in-Err-clause-filled : goal.returns-in-Err-clause-filled
returns-in-Err-clause-filled g c =
    let m = g.M.Machine.rules in
    let f = g.F.Feed in
    let l = c.loop-stop in
    let was = f.breaks c.args.feed.now c.args.source.now in
    let now = f.breaks l.feed l.source in
    let then = f.breaks c.advance.new.self c.advance.new.source in
    let after = f.left c.advance.new.self c.advance.new.source in
    filling_failed m c.args.batch c.args.machine.now f.tells (f.left c.args.feed.now c.args.source.now) was now (f.left l.feed l.source) l.changes.items l.replies.items l.machine l.count l.bytes l.invariant.filling after then c.advance.new.source c.in-Err.stop (λ told. c.in-Err.ensures.broken told)

pub returns-then-ends_batch-clause-filled : goal.returns-then-ends_batch-clause-filled
returns-then-ends_batch-clause-filled g c =
    let m = g.M.Machine.rules in
    let f = g.F.Feed in
    let l = c.loop-stop in
    let item = c.item-in-loop-stop.result.now in
    let later = f.left c.advance.new.self c.advance.new.source in
    let was = f.breaks c.args.feed.now c.args.source.now in
    let now = f.breaks l.feed l.source in
    let then = f.breaks c.advance.new.self c.advance.new.source in
    let same : item ≡ f.item c.advance.new.self = c.item-in-loop-stop.ensures in
    let weight : c.weigh-weight.result ≡ m.weigh item = c.weigh-weight.ensures ∙ ap m.weigh (c.item.ensures ∙ sym same) in
    filling_full m c.args.batch c.args.machine.now f.tells (f.left c.args.feed.now c.args.source.now) was now (f.left l.feed l.source) l.changes.items l.replies.items l.machine l.count l.bytes l.invariant.filling item later then
    (λ told. c.in-Ok-true.ensures.item told c.in-Ok-true.field-0-test ∙ ap (λ i. i ∷ later) (sym same))
    (λ told place more is. subst (λ i. now place (i ∷ more)) (sym same) (c.in-Ok-true.ensures.read told c.in-Ok-true.field-0-test place more is))
    c.decide.new.body.items c.decide.new.replies.items c.decide.new.self c.in_ok-decide.ensures.body c.in_ok-decide.ensures.reply c.in_ok-decide.ensures.next c.advance.new.source
    (ap (λ (w : ℕ). is_full c.args.batch (l.count + 1) (l.bytes + w)) (sym weight) ∙ sym c.ends_batch.ensures.full ∙ c.if-ends_batch.true)

pub loop-stop-preserved : goal.loop-stop-preserved
loop-stop-preserved g c =
    let m = g.M.Machine.rules in
    let f = g.F.Feed in
    let l = c.loop-stop in
    let item = c.item-in-loop-stop.result.now in
    let later = f.left c.advance.new.self c.advance.new.source in
    let was = f.breaks c.args.feed.now c.args.source.now in
    let now = f.breaks l.feed l.source in
    let then = f.breaks c.advance.new.self c.advance.new.source in
    let same : item ≡ f.item c.advance.new.self = c.item-in-loop-stop.ensures in
    let weight : c.weigh-weight.result ≡ m.weigh item = c.weigh-weight.ensures ∙ ap m.weigh (c.item.ensures ∙ sym same) in
    let more = c.ends_batch.ensures.more c.if-ends_batch.false in
    record {
      fits = c.in-Ok-true.ensures.fits;
      goes = (g.met.F.Feed.adds_up).goes_on c.args.feed.now c.args.source.now l.feed l.source c.advance.new.self c.advance.new.source l.invariant.goes c.advance.ensures.goes;
      nearer = omega (arith, l.invariant.nearer, c.in-Ok-true.ensures.nearer c.in-Ok-true.field-0-test);
      count = more.0;
      bytes = more.1;
      filling = subst (λ (w : ℕ). IsFilling m c.args.batch c.args.machine.now f.tells (f.left c.args.feed.now c.args.source.now) later was then c.decide.new.body.items c.decide.new.replies.items c.decide.new.self (l.count + 1) (l.bytes + w)) (sym weight)
          (filling_more m c.args.batch c.args.machine.now f.tells (f.left c.args.feed.now c.args.source.now) was now (f.left l.feed l.source) l.changes.items l.replies.items l.machine l.count l.bytes l.invariant.filling item later then
          (λ told. c.in-Ok-true.ensures.item told c.in-Ok-true.field-0-test ∙ ap (λ i. i ∷ later) (sym same))
          (λ told place after is. subst (λ i. now place (i ∷ after)) (sym same) (c.in-Ok-true.ensures.read told c.in-Ok-true.field-0-test place after is))
          c.decide.new.body.items c.decide.new.replies.items c.decide.new.self c.in_ok-decide.ensures.body c.in_ok-decide.ensures.reply c.in_ok-decide.ensures.next
          (ap (λ (w : ℕ). is_full c.args.batch (l.count + 1) (l.bytes + w)) (sym weight) ∙ sym c.ends_batch.ensures.full ∙ c.if-ends_batch.false));
    }

pub returns-in_err-decide-clause-lacked : goal.returns-in_err-decide-clause-lacked
returns-in_err-decide-clause-lacked g c = λ told err none.
    let f = g.F.Feed in
    let l = c.loop-stop in
    let later = f.left c.advance.new.self c.advance.new.source in
    let filling = l.invariant.filling in
    some_taken (f.item c.advance.new.self) later filling.items (f.left l.feed l.source) (f.left c.args.feed.now c.args.source.now) (c.in-Ok-true.ensures.item told c.in-Ok-true.field-0-test) (filling.taken told) none
