use Rattle.std.proofs.Common.{rules, ◌≡◌, ℕ, List, IsTrue, Err, sym, ◌∙◌, ap, subst, refl}
use Rattle.machine_run.specs.Rules.{body_of}
use Rattle.machine_run.specs.Stores.{with_record, HasRoom, HasNoRoom}
use Rattle.machine_run.specs.Steps.{LacksRoom, CutsShort}
use Rattle.machine_run.specs.Fold.{IsFilled}
use Rattle.machine_run.specs.Runs.{plan_of, Stands, HasNoRoomFor, LacksMemory, ItemsStop}
use Rattle.machine_run.specs.declared.stop.Stop.{Stop}
use Rattle.machine_run.specs.declared.stop.Stop.TheVariants.{NoMemory, StoreFull}
use Rattle.machine_run.proofs.BatchSteps.{stored_more, running_start, lacks_then, some_left, running_full, running_left, between_left, batch_since, batch_cut, batch_full, batch_failed, batch_done}
use Rattle.machine_run.proofs.Exits.{err_and, batch_stop, feed_stop, fails_more}
use Rattle.machine_run.proofs.running.answer_items.Goals as goal

pub loop-replies-init : goal.loop-replies-init
loop-replies-init g c =
    let m = g.M.Machine.rules in
    let f = g.F.Feed in
    let j = g.J.Journal in
    let old = g.H.Host.desk c.args.host.now in
    let all = f.left c.args.feed.now c.args.source.now in
    record {
      opened = refl;
      counts = search rules;
      fits = c.requires.fits;
      goes = (g.met.F.Feed.adds_up).begins c.args.feed.now c.args.source.now;
      limit = refl;
      stored = c.requires.stored;
      running = λ told tell. (
          let so_far = c.requires.stored told in
          running_start (plan_of m j.kept c.args.batch (j.limit c.args.journal) c.args.machine.now all old) g.met.M.Machine.kept j.holds (f.breaks c.args.feed.now c.args.source.now) old c.args.journal so_far refl refl refl ((g.met.J.Journal.laws told).begins so_far.content old.seen));
    }

pub returns-in_err-end-clause-now : goal.returns-in_err-end-clause-now
returns-in_err-end-clause-now g c = λ told tell.
    let m = g.M.Machine.rules in
    let kept = g.met.M.Machine.kept in
    let f = g.F.Feed in
    let j = g.J.Journal in
    let l = c.loop-replies in
    let i = l.invariant in
    let first = c.args.machine.now in
    let all = f.left c.args.feed.now c.args.source.now in
    let old = g.H.Host.desk c.args.host.now in
    let mid = g.H.Host.desk l.host in
    let left = f.left l.feed l.source in
    let was = f.breaks c.args.feed.now c.args.source.now in
    let now = f.breaks l.feed l.source in
    let p = plan_of m j.kept c.args.batch (j.limit c.args.journal) first all old in
    running_left p kept j.holds was old mid l.journal now left l.machine (i.running told tell)

pub returns-in_err-end-clause-stop : goal.returns-in_err-end-clause-stop
returns-in_err-end-clause-stop g c =
    let m = g.M.Machine.rules in
    let kept = g.met.M.Machine.kept in
    let f = g.F.Feed in
    let j = g.J.Journal in
    let l = c.loop-replies in
    let i = l.invariant in
    let first = c.args.machine.now in
    let all = f.left c.args.feed.now c.args.source.now in
    let old = g.H.Host.desk c.args.host.now in
    let mid = g.H.Host.desk l.host in
    let left = f.left l.feed l.source in
    let was = f.breaks c.args.feed.now c.args.source.now in
    let now = f.breaks l.feed l.source in
    let p = plan_of m j.kept c.args.batch (j.limit c.args.journal) first all old in
    let fails = f.fails c.args.feed.now c.args.source.now c.fill.new.feed c.fill.new.source in
    let broken = f.breaks c.args.feed.now c.args.source.now c.fill.new.source in
    let P = ItemsStop p (IsTrue g.H.Host.tells × IsTrue f.tells) fails broken old mid in
    err_and P c.from_residual.result c.from_residual.ensures.1 (λ e is. subst P (sym is) (λ t. (let told = t.0 in let tell = t.1 in lacks_then p kept j.holds was old mid l.journal now left l.machine (i.running told tell) (fails NoMemory) (c.in_err-end.ensures.lacked tell refl))))

pub returns-in_err-journal-clause-any_moment : goal.returns-in_err-journal-clause-any_moment
returns-in_err-journal-clause-any_moment g c =
    let m = g.M.Machine.rules in
    let kept = g.met.M.Machine.kept in
    let f = g.F.Feed in
    let j = g.J.Journal in
    let l = c.loop-replies in
    let i = l.invariant in
    let first = c.args.machine.now in
    let all = f.left c.args.feed.now c.args.source.now in
    let old = g.H.Host.desk c.args.host.now in
    let mid = g.H.Host.desk l.host in
    let left = f.left l.feed l.source in
    let was = f.breaks c.args.feed.now c.args.source.now in
    let now = f.breaks l.feed l.source in
    let p = plan_of m j.kept c.args.batch (j.limit c.args.journal) first all old in
    let new = g.H.Host.desk c.store_batch.new.host in
    let after = f.left c.fill.new.feed c.fill.new.source in
    let then = f.breaks c.fill.new.feed c.fill.new.source in
    let here = c.fill.new.source in
    let state = c.fill.new.machine in
    let changes : List ℕ = c.deref.result.now in
    let replies : List ℕ = c.deref-in-loop-replies.result.now in
    let end = c.in_ok-end.end in
    let tells = f.tells in
    let fill = subst (λ (b : List ℕ). IsFilled m c.args.batch l.machine tells left after now then here b replies state end) (sym c.deref.ensures.value) (subst (λ (r : List ℕ). IsFilled m c.args.batch l.machine tells left after now then here c.fill.new.changes.items r state end) (sym c.deref-in-loop-replies.ensures.value) c.in_ok-end.ensures.filled) in
    λ told tell. (let r = i.running told tell in batch_since p kept j.holds was old mid l.journal now left l.machine (i.running told tell) tells after then here changes replies state end fill tell new (c.store_batch.ensures.any_moment told r.stored.content r.stored.store))

pub returns-in_err-journal-clause-now : goal.returns-in_err-journal-clause-now
returns-in_err-journal-clause-now g c =
    let m = g.M.Machine.rules in
    let kept = g.met.M.Machine.kept in
    let f = g.F.Feed in
    let j = g.J.Journal in
    let l = c.loop-replies in
    let i = l.invariant in
    let first = c.args.machine.now in
    let all = f.left c.args.feed.now c.args.source.now in
    let old = g.H.Host.desk c.args.host.now in
    let mid = g.H.Host.desk l.host in
    let left = f.left l.feed l.source in
    let was = f.breaks c.args.feed.now c.args.source.now in
    let now = f.breaks l.feed l.source in
    let p = plan_of m j.kept c.args.batch (j.limit c.args.journal) first all old in
    let new = g.H.Host.desk c.store_batch.new.host in
    let after = f.left c.fill.new.feed c.fill.new.source in
    let then = f.breaks c.fill.new.feed c.fill.new.source in
    let here = c.fill.new.source in
    let state = c.fill.new.machine in
    let changes : List ℕ = c.deref.result.now in
    let replies : List ℕ = c.deref-in-loop-replies.result.now in
    let end = c.in_ok-end.end in
    let tells = f.tells in
    let fill = subst (λ (b : List ℕ). IsFilled m c.args.batch l.machine tells left after now then here b replies state end) (sym c.deref.ensures.value) (subst (λ (r : List ℕ). IsFilled m c.args.batch l.machine tells left after now then here c.fill.new.changes.items r state end) (sym c.deref-in-loop-replies.ensures.value) c.in_ok-end.ensures.filled) in
    λ told tell. (let r = i.running told tell in between_left p kept j.holds was old mid l.journal now left l.machine (i.running told tell) tells after then here changes replies state end fill tell new.said new.seen (c.store_batch.ensures.now told r.stored.content r.stored.store))

pub returns-in_err-journal-clause-stop : goal.returns-in_err-journal-clause-stop
returns-in_err-journal-clause-stop g c =
    let m = g.M.Machine.rules in
    let kept = g.met.M.Machine.kept in
    let f = g.F.Feed in
    let j = g.J.Journal in
    let l = c.loop-replies in
    let i = l.invariant in
    let first = c.args.machine.now in
    let all = f.left c.args.feed.now c.args.source.now in
    let old = g.H.Host.desk c.args.host.now in
    let mid = g.H.Host.desk l.host in
    let left = f.left l.feed l.source in
    let was = f.breaks c.args.feed.now c.args.source.now in
    let now = f.breaks l.feed l.source in
    let p = plan_of m j.kept c.args.batch (j.limit c.args.journal) first all old in
    let new = g.H.Host.desk c.store_batch.new.host in
    let after = f.left c.fill.new.feed c.fill.new.source in
    let then = f.breaks c.fill.new.feed c.fill.new.source in
    let here = c.fill.new.source in
    let state = c.fill.new.machine in
    let changes : List ℕ = c.deref.result.now in
    let replies : List ℕ = c.deref-in-loop-replies.result.now in
    let end = c.in_ok-end.end in
    let tells = f.tells in
    let fill = subst (λ (b : List ℕ). IsFilled m c.args.batch l.machine tells left after now then here b replies state end) (sym c.deref.ensures.value) (subst (λ (r : List ℕ). IsFilled m c.args.batch l.machine tells left after now then here c.fill.new.changes.items r state end) (sym c.deref-in-loop-replies.ensures.value) c.in_ok-end.ensures.filled) in
    let fails = f.fails c.args.feed.now c.args.source.now c.fill.new.feed c.fill.new.source in
    let broken = f.breaks c.args.feed.now c.args.source.now c.fill.new.source in
    let both = IsTrue g.H.Host.tells × IsTrue f.tells in
    let P = ItemsStop p both fails broken old new in
    let room = LacksRoom g.H.Host.tells (j.holds l.journal) (j.limit l.journal) (body_of changes) mid in
    let cut = CutsShort g.H.Host.tells (j.holds l.journal) j.kept (j.limit l.journal) (body_of changes) replies mid new in
    let memory : c.in_err-journal.field-0.0 ≡ NoMemory → both → LacksMemory p (fails NoMemory) new = λ e t. (let told = t.0 in let tell = t.1 in
    let was_err = c.in_err-journal.was ∙ ap (λ (s : Stop). Err s) e in
    let some = some_left p kept j.holds was old mid l.journal now left l.machine (i.running told tell) tells after then here changes replies state end fill tell (c.store_batch.ensures.some was_err) in
    subst (λ h. LacksMemory p (fails NoMemory) (g.H.Host.desk h)) (sym (c.store_batch.ensures.memory was_err)) (lacks_then p kept j.holds was old mid l.journal now left l.machine (i.running told tell) (fails NoMemory) some)) in
    let full : (n : ℕ) → c.in_err-journal.field-0.0 ≡ StoreFull n → room n → both → (stands : Stands p new) × HasNoRoomFor p stands.done stands.rest stands.holds.content n = λ n e r t. (let told = t.0 in let tell = t.1 in
    let so_far = i.running told tell in
    let none = subst (λ (k : ℕ). HasNoRoom k so_far.stored.content (body_of changes) n) i.limit (r told so_far.stored.content so_far.stored.store) in
    subst (λ h. (stands : Stands p (g.H.Host.desk h)) × HasNoRoomFor p stands.done stands.rest stands.holds.content n) (sym (c.store_batch.ensures.full n (c.in_err-journal.was ∙ ap (λ (s : Stop). Err s) e))) (running_full p kept j.holds was old mid l.journal now left l.machine (i.running told tell) tells after then here changes replies state end fill tell n none)) in
    let breaks = λ (k : cut) (t : both). (let told = t.0 in let tell = t.1 in
    let r = i.running told tell in
    let short = k told r.stored.content r.stored.store in
    batch_cut p kept j.holds was old mid l.journal now left l.machine (i.running told tell) tells after then here changes replies state end fill tell refl (g.met.J.Journal.laws told).goes_on new short.holds (subst (λ (n : ℕ). HasRoom n r.stored.content (body_of changes)) i.limit short.room) short.keeps short.some short.out short.said_is) in
    err_and P c.from_residual-in_err-journal.result c.from_residual-in_err-journal.ensures.1 (λ e is.
    let same : e ≡ c.in_err-journal.field-0.0 = is in
    subst P (sym same) (batch_stop p both fails broken old mid new room cut i.counts c.in_err-journal.field-0.0 memory full breaks c.in_err-journal.ensures.stop))

pub returns-in-Done-clause-any_moment : goal.returns-in-Done-clause-any_moment
returns-in-Done-clause-any_moment g c =
    let m = g.M.Machine.rules in
    let kept = g.met.M.Machine.kept in
    let f = g.F.Feed in
    let j = g.J.Journal in
    let l = c.loop-replies in
    let i = l.invariant in
    let first = c.args.machine.now in
    let all = f.left c.args.feed.now c.args.source.now in
    let old = g.H.Host.desk c.args.host.now in
    let mid = g.H.Host.desk l.host in
    let left = f.left l.feed l.source in
    let was = f.breaks c.args.feed.now c.args.source.now in
    let now = f.breaks l.feed l.source in
    let p = plan_of m j.kept c.args.batch (j.limit c.args.journal) first all old in
    let new = g.H.Host.desk c.store_batch.new.host in
    let after = f.left c.fill.new.feed c.fill.new.source in
    let then = f.breaks c.fill.new.feed c.fill.new.source in
    let here = c.fill.new.source in
    let state = c.fill.new.machine in
    let changes : List ℕ = c.deref.result.now in
    let replies : List ℕ = c.deref-in-loop-replies.result.now in
    let end = c.in_ok-end.end in
    let tells = f.tells in
    let fill = subst (λ (b : List ℕ). IsFilled m c.args.batch l.machine tells left after now then here b replies state end) (sym c.deref.ensures.value) (subst (λ (r : List ℕ). IsFilled m c.args.batch l.machine tells left after now then here c.fill.new.changes.items r state end) (sym c.deref-in-loop-replies.ensures.value) c.in_ok-end.ensures.filled) in
    λ told tell. (let r = i.running told tell in batch_since p kept j.holds was old mid l.journal now left l.machine (i.running told tell) tells after then here changes replies state end fill tell new (c.store_batch.ensures.any_moment told r.stored.content r.stored.store))

pub returns-in-Done-clause-now : goal.returns-in-Done-clause-now
returns-in-Done-clause-now g c =
    let m = g.M.Machine.rules in
    let kept = g.met.M.Machine.kept in
    let f = g.F.Feed in
    let j = g.J.Journal in
    let l = c.loop-replies in
    let i = l.invariant in
    let first = c.args.machine.now in
    let all = f.left c.args.feed.now c.args.source.now in
    let old = g.H.Host.desk c.args.host.now in
    let mid = g.H.Host.desk l.host in
    let left = f.left l.feed l.source in
    let was = f.breaks c.args.feed.now c.args.source.now in
    let now = f.breaks l.feed l.source in
    let p = plan_of m j.kept c.args.batch (j.limit c.args.journal) first all old in
    let new = g.H.Host.desk c.store_batch.new.host in
    let after = f.left c.fill.new.feed c.fill.new.source in
    let then = f.breaks c.fill.new.feed c.fill.new.source in
    let here = c.fill.new.source in
    let state = c.fill.new.machine in
    let changes : List ℕ = c.deref.result.now in
    let replies : List ℕ = c.deref-in-loop-replies.result.now in
    let end = c.in_ok-end.end in
    let tells = f.tells in
    let fill = subst (λ (b : List ℕ). IsFilled m c.args.batch l.machine tells left after now then here b replies state end) (sym c.deref.ensures.value) (subst (λ (r : List ℕ). IsFilled m c.args.batch l.machine tells left after now then here c.fill.new.changes.items r state end) (sym c.deref-in-loop-replies.ensures.value) c.in_ok-end.ensures.filled) in
    λ told tell. (let r = i.running told tell in between_left p kept j.holds was old mid l.journal now left l.machine (i.running told tell) tells after then here changes replies state end fill tell new.said new.seen (c.store_batch.ensures.now told r.stored.content r.stored.store))

pub returns-in-Done-clause-done : goal.returns-in-Done-clause-done
returns-in-Done-clause-done g c = λ told tell.
    let m = g.M.Machine.rules in
    let kept = g.met.M.Machine.kept in
    let f = g.F.Feed in
    let j = g.J.Journal in
    let l = c.loop-replies in
    let i = l.invariant in
    let first = c.args.machine.now in
    let all = f.left c.args.feed.now c.args.source.now in
    let old = g.H.Host.desk c.args.host.now in
    let mid = g.H.Host.desk l.host in
    let left = f.left l.feed l.source in
    let was = f.breaks c.args.feed.now c.args.source.now in
    let now = f.breaks l.feed l.source in
    let p = plan_of m j.kept c.args.batch (j.limit c.args.journal) first all old in
    let new = g.H.Host.desk c.store_batch.new.host in
    let after = f.left c.fill.new.feed c.fill.new.source in
    let then = f.breaks c.fill.new.feed c.fill.new.source in
    let here = c.fill.new.source in
    let state = c.fill.new.machine in
    let changes : List ℕ = c.deref.result.now in
    let replies : List ℕ = c.deref-in-loop-replies.result.now in
    let end = c.in_ok-end.end in
    let tells = f.tells in
    let fill = subst (λ (b : List ℕ). IsFilled m c.args.batch l.machine tells left after now then here b replies state end) (sym c.deref.ensures.value) (subst (λ (r : List ℕ). IsFilled m c.args.batch l.machine tells left after now then here c.fill.new.changes.items r state end) (sym c.deref-in-loop-replies.ensures.value) c.in_ok-end.ensures.filled) in
    let r = i.running told tell in
    batch_done p kept j.holds was old mid l.journal now left l.machine (i.running told tell) tells after then here changes replies state end fill tell refl (g.met.J.Journal.laws told).goes_on new ((g.met.J.Journal.laws told).says c.in_ok-journal.journal (with_record r.stored.content (body_of changes)) c.store_batch.new.host (c.in_ok-journal.ensures.store told r.stored.content r.stored.store)) (subst (λ (n : ℕ). HasRoom n r.stored.content (body_of changes)) i.limit (c.in_ok-journal.ensures.room told r.stored.content r.stored.store)) (c.in_ok-journal.ensures.keeps told r.stored.content r.stored.store) (c.in_ok-journal.ensures.said told) c.in-Done.is

pub returns-in-Failed-clause-any_moment : goal.returns-in-Failed-clause-any_moment
returns-in-Failed-clause-any_moment g c =
    let m = g.M.Machine.rules in
    let kept = g.met.M.Machine.kept in
    let f = g.F.Feed in
    let j = g.J.Journal in
    let l = c.loop-replies in
    let i = l.invariant in
    let first = c.args.machine.now in
    let all = f.left c.args.feed.now c.args.source.now in
    let old = g.H.Host.desk c.args.host.now in
    let mid = g.H.Host.desk l.host in
    let left = f.left l.feed l.source in
    let was = f.breaks c.args.feed.now c.args.source.now in
    let now = f.breaks l.feed l.source in
    let p = plan_of m j.kept c.args.batch (j.limit c.args.journal) first all old in
    let new = g.H.Host.desk c.store_batch.new.host in
    let after = f.left c.fill.new.feed c.fill.new.source in
    let then = f.breaks c.fill.new.feed c.fill.new.source in
    let here = c.fill.new.source in
    let state = c.fill.new.machine in
    let changes : List ℕ = c.deref.result.now in
    let replies : List ℕ = c.deref-in-loop-replies.result.now in
    let end = c.in_ok-end.end in
    let tells = f.tells in
    let fill = subst (λ (b : List ℕ). IsFilled m c.args.batch l.machine tells left after now then here b replies state end) (sym c.deref.ensures.value) (subst (λ (r : List ℕ). IsFilled m c.args.batch l.machine tells left after now then here c.fill.new.changes.items r state end) (sym c.deref-in-loop-replies.ensures.value) c.in_ok-end.ensures.filled) in
    λ told tell. (let r = i.running told tell in batch_since p kept j.holds was old mid l.journal now left l.machine (i.running told tell) tells after then here changes replies state end fill tell new (c.store_batch.ensures.any_moment told r.stored.content r.stored.store))

pub returns-in-Failed-clause-now : goal.returns-in-Failed-clause-now
returns-in-Failed-clause-now g c =
    let m = g.M.Machine.rules in
    let kept = g.met.M.Machine.kept in
    let f = g.F.Feed in
    let j = g.J.Journal in
    let l = c.loop-replies in
    let i = l.invariant in
    let first = c.args.machine.now in
    let all = f.left c.args.feed.now c.args.source.now in
    let old = g.H.Host.desk c.args.host.now in
    let mid = g.H.Host.desk l.host in
    let left = f.left l.feed l.source in
    let was = f.breaks c.args.feed.now c.args.source.now in
    let now = f.breaks l.feed l.source in
    let p = plan_of m j.kept c.args.batch (j.limit c.args.journal) first all old in
    let new = g.H.Host.desk c.store_batch.new.host in
    let after = f.left c.fill.new.feed c.fill.new.source in
    let then = f.breaks c.fill.new.feed c.fill.new.source in
    let here = c.fill.new.source in
    let state = c.fill.new.machine in
    let changes : List ℕ = c.deref.result.now in
    let replies : List ℕ = c.deref-in-loop-replies.result.now in
    let end = c.in_ok-end.end in
    let tells = f.tells in
    let fill = subst (λ (b : List ℕ). IsFilled m c.args.batch l.machine tells left after now then here b replies state end) (sym c.deref.ensures.value) (subst (λ (r : List ℕ). IsFilled m c.args.batch l.machine tells left after now then here c.fill.new.changes.items r state end) (sym c.deref-in-loop-replies.ensures.value) c.in_ok-end.ensures.filled) in
    λ told tell. (let r = i.running told tell in between_left p kept j.holds was old mid l.journal now left l.machine (i.running told tell) tells after then here changes replies state end fill tell new.said new.seen (c.store_batch.ensures.now told r.stored.content r.stored.store))

pub returns-in-Failed-clause-stop : goal.returns-in-Failed-clause-stop
returns-in-Failed-clause-stop g c =
    let m = g.M.Machine.rules in
    let kept = g.met.M.Machine.kept in
    let f = g.F.Feed in
    let j = g.J.Journal in
    let l = c.loop-replies in
    let i = l.invariant in
    let first = c.args.machine.now in
    let all = f.left c.args.feed.now c.args.source.now in
    let old = g.H.Host.desk c.args.host.now in
    let mid = g.H.Host.desk l.host in
    let left = f.left l.feed l.source in
    let was = f.breaks c.args.feed.now c.args.source.now in
    let now = f.breaks l.feed l.source in
    let p = plan_of m j.kept c.args.batch (j.limit c.args.journal) first all old in
    let new = g.H.Host.desk c.store_batch.new.host in
    let after = f.left c.fill.new.feed c.fill.new.source in
    let then = f.breaks c.fill.new.feed c.fill.new.source in
    let here = c.fill.new.source in
    let state = c.fill.new.machine in
    let changes : List ℕ = c.deref.result.now in
    let replies : List ℕ = c.deref-in-loop-replies.result.now in
    let end = c.in_ok-end.end in
    let tells = f.tells in
    let fill = subst (λ (b : List ℕ). IsFilled m c.args.batch l.machine tells left after now then here b replies state end) (sym c.deref.ensures.value) (subst (λ (r : List ℕ). IsFilled m c.args.batch l.machine tells left after now then here c.fill.new.changes.items r state end) (sym c.deref-in-loop-replies.ensures.value) c.in_ok-end.ensures.filled) in
    let fails = f.fails c.args.feed.now c.args.source.now c.fill.new.feed c.fill.new.source in
    let broken = f.breaks c.args.feed.now c.args.source.now c.fill.new.source in
    let both = IsTrue g.H.Host.tells × IsTrue f.tells in
    let stop = c.in-Failed.stop in
    feed_stop p both fails broken old new stop (fails_more (f.fails l.feed l.source c.fill.new.feed c.fill.new.source) fails (λ s is. (g.met.F.Feed.adds_up).fails_then c.args.feed.now c.args.source.now l.feed l.source c.fill.new.feed c.fill.new.source s i.goes is) stop (c.in_ok-end.ensures.failed stop c.in-Failed.is)) (λ t. (let told = t.0 in let tell = t.1 in
    let r = i.running told tell in
    batch_failed p kept j.holds was old mid l.journal now left l.machine (i.running told tell) tells after then here changes replies state end fill tell refl (g.met.J.Journal.laws told).goes_on new ((g.met.J.Journal.laws told).says c.in_ok-journal.journal (with_record r.stored.content (body_of changes)) c.store_batch.new.host (c.in_ok-journal.ensures.store told r.stored.content r.stored.store)) (subst (λ (n : ℕ). HasRoom n r.stored.content (body_of changes)) i.limit (c.in_ok-journal.ensures.room told r.stored.content r.stored.store)) (c.in_ok-journal.ensures.keeps told r.stored.content r.stored.store) (c.in_ok-journal.ensures.said told) stop c.in-Failed.is))

pub loop-replies-preserved : goal.loop-replies-preserved
loop-replies-preserved g c =
    let m = g.M.Machine.rules in
    let kept = g.met.M.Machine.kept in
    let f = g.F.Feed in
    let j = g.J.Journal in
    let l = c.loop-replies in
    let i = l.invariant in
    let first = c.args.machine.now in
    let all = f.left c.args.feed.now c.args.source.now in
    let old = g.H.Host.desk c.args.host.now in
    let mid = g.H.Host.desk l.host in
    let left = f.left l.feed l.source in
    let was = f.breaks c.args.feed.now c.args.source.now in
    let now = f.breaks l.feed l.source in
    let p = plan_of m j.kept c.args.batch (j.limit c.args.journal) first all old in
    let new = g.H.Host.desk c.store_batch.new.host in
    let after = f.left c.fill.new.feed c.fill.new.source in
    let then = f.breaks c.fill.new.feed c.fill.new.source in
    let here = c.fill.new.source in
    let state = c.fill.new.machine in
    let changes : List ℕ = c.deref.result.now in
    let replies : List ℕ = c.deref-in-loop-replies.result.now in
    let end = c.in_ok-end.end in
    let tells = f.tells in
    let fill = subst (λ (b : List ℕ). IsFilled m c.args.batch l.machine tells left after now then here b replies state end) (sym c.deref.ensures.value) (subst (λ (r : List ℕ). IsFilled m c.args.batch l.machine tells left after now then here c.fill.new.changes.items r state end) (sym c.deref-in-loop-replies.ensures.value) c.in_ok-end.ensures.filled) in
    record {
      opened = c.store_batch.ensures.opened ∙ i.opened;
      counts = search rules;
      fits = c.in_ok-end.ensures.fits c.in-Full.is;
      goes = (g.met.F.Feed.adds_up).goes_on c.args.feed.now c.args.source.now l.feed l.source c.fill.new.feed c.fill.new.source i.goes c.fill.ensures.goes;
      limit = c.in_ok-journal.ensures.limit ∙ i.limit;
      stored = λ told. (
          let so_far = i.stored told in
          let on = c.in_ok-journal.ensures.store told so_far.content so_far.store in
          stored_more m kept c.args.batch l.machine tells left after now then here changes replies state end j.holds l.journal mid so_far fill c.in_ok-journal.journal new on ((g.met.J.Journal.laws told).says c.in_ok-journal.journal (with_record so_far.content (body_of changes)) c.store_batch.new.host on));
      running = λ told tell. (let r = i.running told tell in batch_full p kept j.holds was old mid l.journal now left l.machine (i.running told tell) tells after then here changes replies state end fill tell refl (g.met.J.Journal.laws told).goes_on new ((g.met.J.Journal.laws told).says c.in_ok-journal.journal (with_record r.stored.content (body_of changes)) c.store_batch.new.host (c.in_ok-journal.ensures.store told r.stored.content r.stored.store)) (subst (λ (n : ℕ). HasRoom n r.stored.content (body_of changes)) i.limit (c.in_ok-journal.ensures.room told r.stored.content r.stored.store)) (c.in_ok-journal.ensures.keeps told r.stored.content r.stored.store) (c.in_ok-journal.ensures.said told) c.in-Full.is c.in_ok-journal.journal (c.in_ok-journal.ensures.store told r.stored.content r.stored.store) (c.store_batch.ensures.any_moment told r.stored.content r.stored.store));
    }
