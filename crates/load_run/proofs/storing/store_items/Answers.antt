use Rattle.std.proofs.Common.{rules, ◌+◌, ◌<◌, ◌≡◌, ◌∙◌, Err, IsTrue, List, [], ap, arith, length, refl, subst, sym, true, ℕ}
use Rattle.std.specs.List.{All}
use Rattle.std.proofs.lemmas.List.Elements.{All-tail}
use Rattle.machine_run.specs.Fold.{IsFilled}
use Rattle.machine_run.specs.Rules.{body_of}
use Rattle.machine_run.specs.Runs.{HasNoRoomFor, ItemsStop, LacksMemory, Stands, plan_of}
use Rattle.machine_run.specs.Steps.{CutsShort, LacksRoom}
use Rattle.machine_run.specs.Stores.{HasNoRoom, HasRoom, with_record}
use Rattle.machine_run.specs.declared.filling.End.TheVariants.{Full}
use Rattle.machine_run.specs.declared.stop.Stop.{Stop}
use Rattle.machine_run.specs.declared.stop.Stop.TheVariants.{NoMemory, StoreFull}
use Rattle.machine_run.proofs.BatchSteps.{batch_full, batch_since, between_left, running_full, running_left, running_start, stored_more}
use Rattle.machine_run.proofs.Exits.{batch_stop, err_and}
use Rattle.load_run.specs.Loads.{lacks_alone, loading, nowhere, tallied}
use Rattle.load_run.specs.declared.tally.Tally.{Tally}
use Rattle.load_run.proofs.AllItems.{count_still, running_done, running_lacks, state_still, tally_still}
use Rattle.load_run.proofs.OneItem.{anything, step_filled}
use Rattle.load_run.proofs.storing.store_items.Goals as goal

pub loop-changes-init : goal.loop-changes-init
loop-changes-init g c =
    let m = g.M.Machine.rules in
    let j = g.J.Journal in
    let load = loading m g.M.Loader.refuses g.M.Loader.text in
    let first = c.args.machine.now in
    let all = g.I.Items.left c.args.items.now in
    let old = g.H.Host.desk c.args.host.now in
    record {
      opened = refl;
      counts = search rules;
      limit = refl;
      takes = c.requires.takes;
      stored = c.requires.stored;
      running = λ told. (
          let so_far = c.requires.stored told in
          running_start (plan_of m j.kept 1 (j.limit c.args.journal) first all old) g.met.M.Machine.kept j.holds anything old c.args.journal so_far refl refl refl ((g.met.J.Journal.laws told).begins so_far.content old.seen));
      state = refl;
      counted = ap (λ (t : Tally). tallied load t first all) c.requires.uncounted;
      few = subst (λ (t : Tally). t.done + t.refused + length all < 18446744073709551616) (sym c.requires.uncounted) (omega (arith, c.requires.few));
    }

pub returns-in_err-take_next-clause-now : goal.returns-in_err-take_next-clause-now
returns-in_err-take_next-clause-now g c = λ told.
    let m = g.M.Machine.rules in
    let kept = g.met.M.Machine.kept in
    let j = g.J.Journal in
    let l = c.loop-changes in
    let i = l.invariant in
    let first = c.args.machine.now in
    let all = g.I.Items.left c.args.items.now in
    let old = g.H.Host.desk c.args.host.now in
    let mid = g.H.Host.desk l.host in
    let left = g.I.Items.left l.items in
    let p = plan_of m j.kept 1 (j.limit c.args.journal) first all old in
    running_left p kept j.holds anything old mid l.journal anything left l.machine (i.running told)

pub returns-in_err-take_next-clause-stop : goal.returns-in_err-take_next-clause-stop
returns-in_err-take_next-clause-stop g c =
    let m = g.M.Machine.rules in
    let kept = g.met.M.Machine.kept in
    let j = g.J.Journal in
    let l = c.loop-changes in
    let i = l.invariant in
    let first = c.args.machine.now in
    let all = g.I.Items.left c.args.items.now in
    let old = g.H.Host.desk c.args.host.now in
    let mid = g.H.Host.desk l.host in
    let left = g.I.Items.left l.items in
    let p = plan_of m j.kept 1 (j.limit c.args.journal) first all old in
    let P = ItemsStop p (IsTrue g.H.Host.tells) lacks_alone nowhere old mid in
    err_and P c.from_residual.result c.from_residual.ensures.1 (λ e is. subst P (sym is) (λ told. running_lacks p kept j.holds anything old mid l.journal anything left l.machine (i.running told)))

pub returns-then-not-branch-clause-now : goal.returns-then-not-branch-clause-now
returns-then-not-branch-clause-now g c = λ told.
    let m = g.M.Machine.rules in
    let kept = g.met.M.Machine.kept in
    let j = g.J.Journal in
    let l = c.loop-changes in
    let i = l.invariant in
    let first = c.args.machine.now in
    let all = g.I.Items.left c.args.items.now in
    let old = g.H.Host.desk c.args.host.now in
    let mid = g.H.Host.desk l.host in
    let left = g.I.Items.left l.items in
    let p = plan_of m j.kept 1 (j.limit c.args.journal) first all old in
    running_left p kept j.holds anything old mid l.journal anything left l.machine (i.running told)

pub returns-then-not-branch-clause-done : goal.returns-then-not-branch-clause-done
returns-then-not-branch-clause-done g c = λ told.
    let m = g.M.Machine.rules in
    let kept = g.met.M.Machine.kept in
    let j = g.J.Journal in
    let l = c.loop-changes in
    let i = l.invariant in
    let first = c.args.machine.now in
    let all = g.I.Items.left c.args.items.now in
    let old = g.H.Host.desk c.args.host.now in
    let mid = g.H.Host.desk l.host in
    let left = g.I.Items.left l.items in
    let p = plan_of m j.kept 1 (j.limit c.args.journal) first all old in
    running_done p kept j.holds anything old mid l.journal anything left l.machine (i.running told) (c.in_ok-take_next.ensures.end c.if-not-branch.true).none

pub returns-in_err-journal-clause-any_moment : goal.returns-in_err-journal-clause-any_moment
returns-in_err-journal-clause-any_moment g c = λ told.
    let m = g.M.Machine.rules in
    let kept = g.met.M.Machine.kept in
    let j = g.J.Journal in
    let l = c.loop-changes in
    let i = l.invariant in
    let first = c.args.machine.now in
    let all = g.I.Items.left c.args.items.now in
    let old = g.H.Host.desk c.args.host.now in
    let mid = g.H.Host.desk l.host in
    let left = g.I.Items.left l.items in
    let p = plan_of m j.kept 1 (j.limit c.args.journal) first all old in
    let load = loading m g.M.Loader.refuses g.M.Loader.text in
    let new = g.H.Host.desk c.store_batch.new.host in
    let after = g.I.Items.left c.take_next.new.items in
    let state = c.take_next.new.machine in
    let changes : List ℕ = c.deref.result.now in
    let step = c.in_ok-take_next.ensures.step c.if-not-branch.false in
    let fill = subst (λ (b : List ℕ). IsFilled m 1 l.machine true left after anything anything tt b [] state Full) (sym c.deref.ensures.value) (step_filled load g.met.M.Loader.silent left after l.machine state c.take_next.new.changes.items l.tally c.take_next.new.tally step) in
    let r = i.running told in
    batch_since p kept j.holds anything old mid l.journal anything left l.machine r true after anything tt changes [] state Full fill refl new (c.store_batch.ensures.any_moment told r.stored.content r.stored.store)

pub returns-in_err-journal-clause-now : goal.returns-in_err-journal-clause-now
returns-in_err-journal-clause-now g c = λ told.
    let m = g.M.Machine.rules in
    let kept = g.met.M.Machine.kept in
    let j = g.J.Journal in
    let l = c.loop-changes in
    let i = l.invariant in
    let first = c.args.machine.now in
    let all = g.I.Items.left c.args.items.now in
    let old = g.H.Host.desk c.args.host.now in
    let mid = g.H.Host.desk l.host in
    let left = g.I.Items.left l.items in
    let p = plan_of m j.kept 1 (j.limit c.args.journal) first all old in
    let load = loading m g.M.Loader.refuses g.M.Loader.text in
    let new = g.H.Host.desk c.store_batch.new.host in
    let after = g.I.Items.left c.take_next.new.items in
    let state = c.take_next.new.machine in
    let changes : List ℕ = c.deref.result.now in
    let step = c.in_ok-take_next.ensures.step c.if-not-branch.false in
    let fill = subst (λ (b : List ℕ). IsFilled m 1 l.machine true left after anything anything tt b [] state Full) (sym c.deref.ensures.value) (step_filled load g.met.M.Loader.silent left after l.machine state c.take_next.new.changes.items l.tally c.take_next.new.tally step) in
    let r = i.running told in
    between_left p kept j.holds anything old mid l.journal anything left l.machine r true after anything tt changes [] state Full fill refl new.said new.seen (c.store_batch.ensures.now told r.stored.content r.stored.store)

pub returns-in_err-journal-clause-stop : goal.returns-in_err-journal-clause-stop
returns-in_err-journal-clause-stop g c =
    let m = g.M.Machine.rules in
    let kept = g.met.M.Machine.kept in
    let j = g.J.Journal in
    let l = c.loop-changes in
    let i = l.invariant in
    let first = c.args.machine.now in
    let all = g.I.Items.left c.args.items.now in
    let old = g.H.Host.desk c.args.host.now in
    let mid = g.H.Host.desk l.host in
    let left = g.I.Items.left l.items in
    let p = plan_of m j.kept 1 (j.limit c.args.journal) first all old in
    let load = loading m g.M.Loader.refuses g.M.Loader.text in
    let new = g.H.Host.desk c.store_batch.new.host in
    let after = g.I.Items.left c.take_next.new.items in
    let state = c.take_next.new.machine in
    let changes : List ℕ = c.deref.result.now in
    let step = c.in_ok-take_next.ensures.step c.if-not-branch.false in
    let fill = subst (λ (b : List ℕ). IsFilled m 1 l.machine true left after anything anything tt b [] state Full) (sym c.deref.ensures.value) (step_filled load g.met.M.Loader.silent left after l.machine state c.take_next.new.changes.items l.tally c.take_next.new.tally step) in
    let told = IsTrue g.H.Host.tells in
    let P = ItemsStop p told lacks_alone nowhere old new in
    let room = LacksRoom g.H.Host.tells (j.holds l.journal) (j.limit l.journal) (body_of changes) mid in
    let cut = CutsShort g.H.Host.tells (j.holds l.journal) j.kept (j.limit l.journal) (body_of changes) [] mid new in
    let memory : c.in_err-journal.field-0.0 ≡ NoMemory → told → LacksMemory p (Unit {0}) new = λ e t. subst (λ h. LacksMemory p (Unit {0}) (g.H.Host.desk h)) (sym (c.store_batch.ensures.memory (c.in_err-journal.was ∙ ap (λ (s : Stop). Err s) e))) (running_lacks p kept j.holds anything old mid l.journal anything left l.machine (i.running t)) in
    let full : (n : ℕ) → c.in_err-journal.field-0.0 ≡ StoreFull n → room n → told → (stands : Stands p new) × HasNoRoomFor p stands.done stands.rest stands.holds.content n = λ n e r t. (let so_far = i.running t in
    let none = subst (λ (k : ℕ). HasNoRoom k so_far.stored.content (body_of changes) n) i.limit (r t so_far.stored.content so_far.stored.store) in
    subst (λ h. (stands : Stands p (g.H.Host.desk h)) × HasNoRoomFor p stands.done stands.rest stands.holds.content n) (sym (c.store_batch.ensures.full n (c.in_err-journal.was ∙ ap (λ (s : Stop). Err s) e))) (running_full p kept j.holds anything old mid l.journal anything left l.machine so_far true after anything tt changes [] state Full fill refl n none)) in
    let breaks = λ (k : cut) (t : told). absurd (let some = (k t (i.running t).stored.content (i.running t).stored.store).some in omega (arith, some)) in
    err_and P c.from_residual-in_err-journal.result c.from_residual-in_err-journal.ensures.1 (λ e is.
    let same : e ≡ c.in_err-journal.field-0.0 = is in
    subst P (sym same) (batch_stop p told lacks_alone nowhere old mid new room cut i.counts c.in_err-journal.field-0.0 memory full breaks c.in_err-journal.ensures.stop))

pub loop-changes-preserved : goal.loop-changes-preserved
loop-changes-preserved g c =
    let m = g.M.Machine.rules in
    let kept = g.met.M.Machine.kept in
    let j = g.J.Journal in
    let l = c.loop-changes in
    let i = l.invariant in
    let first = c.args.machine.now in
    let all = g.I.Items.left c.args.items.now in
    let old = g.H.Host.desk c.args.host.now in
    let mid = g.H.Host.desk l.host in
    let left = g.I.Items.left l.items in
    let p = plan_of m j.kept 1 (j.limit c.args.journal) first all old in
    let load = loading m g.M.Loader.refuses g.M.Loader.text in
    let new = g.H.Host.desk c.store_batch.new.host in
    let after = g.I.Items.left c.take_next.new.items in
    let state = c.take_next.new.machine in
    let changes : List ℕ = c.deref.result.now in
    let step = c.in_ok-take_next.ensures.step c.if-not-branch.false in
    let fill = subst (λ (b : List ℕ). IsFilled m 1 l.machine true left after anything anything tt b [] state Full) (sym c.deref.ensures.value) (step_filled load g.met.M.Loader.silent left after l.machine state c.take_next.new.changes.items l.tally c.take_next.new.tally step) in
    let still = count_still load left after l.machine state c.take_next.new.changes.items l.tally c.take_next.new.tally step in
    record {
      opened = c.store_batch.ensures.opened ∙ i.opened;
      counts = search rules;
      limit = c.in_ok-journal.ensures.limit ∙ i.limit;
      takes = All-tail g.M.Loader.takes step.item after (subst (λ items. All g.M.Loader.takes items) step.taken i.takes);
      stored = λ told. (
          let so_far = i.stored told in
          let on = c.in_ok-journal.ensures.store told so_far.content so_far.store in
          stored_more m kept 1 l.machine true left after anything anything tt changes [] state Full j.holds l.journal mid so_far fill c.in_ok-journal.journal new on ((g.met.J.Journal.laws told).says c.in_ok-journal.journal (with_record so_far.content (body_of changes)) c.store_batch.new.host on));
      running = λ told. (
          let r = i.running told in
          let on = c.in_ok-journal.ensures.store told r.stored.content r.stored.store in
          batch_full p kept j.holds anything old mid l.journal anything left l.machine r true after anything tt changes [] state Full fill refl refl (g.met.J.Journal.laws told).goes_on new ((g.met.J.Journal.laws told).says c.in_ok-journal.journal (with_record r.stored.content (body_of changes)) c.store_batch.new.host on) (subst (λ (n : ℕ). HasRoom n r.stored.content (body_of changes)) i.limit (c.in_ok-journal.ensures.room told r.stored.content r.stored.store)) (c.in_ok-journal.ensures.keeps told r.stored.content r.stored.store) (c.in_ok-journal.ensures.said told) refl c.in_ok-journal.journal on (c.store_batch.ensures.any_moment told r.stored.content r.stored.store));
      state = state_still load left after l.machine state c.take_next.new.changes.items l.tally c.take_next.new.tally step ∙ i.state;
      counted = tally_still load left after l.machine state c.take_next.new.changes.items l.tally c.take_next.new.tally step ∙ i.counted;
      few = omega (arith, still, i.few);
    }
