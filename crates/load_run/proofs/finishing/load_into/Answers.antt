use Rattle.std.proofs.Common.{rules, ◌++◌, ◌≡◌, ◌∙◌, Err, IsTrue, List, None, ap, arith, subst, sym, take, ℕ}
use Rattle.host_desk.specs.Since.{Since}
use Rattle.machine_run.specs.Rules.{state_after}
use Rattle.machine_run.specs.Runs.{Left, plan_of}
use Rattle.machine_run.specs.Steps.{Between, CutsShort, LacksRoom}
use Rattle.machine_run.specs.declared.stop.Stop.{Stop}
use Rattle.machine_run.specs.declared.stop.Stop.TheVariants.{NoMemory}
use Rattle.machine_run.proofs.Exits.{err_and}
use Rattle.machine_run.proofs.Replying.{since_weaken}
use Rattle.load_run.specs.Loads.{LoadLeft, LoadingStop, line_of, loading}
use Rattle.load_run.proofs.LineSteps.{lacks_line, line_cut, line_left, line_out, line_since, line_stop, said_none}
use Rattle.load_run.proofs.Silence.{items_stop, left_of_load}
use Rattle.load_run.proofs.finishing.load_into.Goals as goal

pub returns-in_err-journal-clause-any_moment : goal.returns-in_err-journal-clause-any_moment
returns-in_err-journal-clause-any_moment g c = λ told.
    let m = g.M.Machine.rules in
    let kept = g.met.M.Machine.kept in
    let silent = g.met.M.Loader.silent in
    let load = loading m g.M.Loader.refuses g.M.Loader.text in
    let j = g.J.Journal in
    let first = c.args.machine.now in
    let all = g.I.Items.left c.args.items.now in
    let old = g.H.Host.desk c.args.host.now in
    let mid = g.H.Host.desk c.store_items.new.host in
    let line = line_of load first all in
    let p = plan_of m j.kept 1 (j.limit c.args.journal) first all old in
    since_weaken (Left m first all old.said) (LoadLeft load first all old.said) old mid (c.store_items.ensures.any_moment told) (left_of_load load silent first all old.said)

pub returns-in_err-journal-clause-now : goal.returns-in_err-journal-clause-now
returns-in_err-journal-clause-now g c = λ told.
    let m = g.M.Machine.rules in
    let kept = g.met.M.Machine.kept in
    let silent = g.met.M.Loader.silent in
    let load = loading m g.M.Loader.refuses g.M.Loader.text in
    let j = g.J.Journal in
    let first = c.args.machine.now in
    let all = g.I.Items.left c.args.items.now in
    let old = g.H.Host.desk c.args.host.now in
    let mid = g.H.Host.desk c.store_items.new.host in
    let line = line_of load first all in
    let p = plan_of m j.kept 1 (j.limit c.args.journal) first all old in
    left_of_load load silent first all old.said mid.said mid.seen (c.store_items.ensures.now told)

pub returns-in_err-journal-clause-stop : goal.returns-in_err-journal-clause-stop
returns-in_err-journal-clause-stop g c =
    let m = g.M.Machine.rules in
    let kept = g.met.M.Machine.kept in
    let silent = g.met.M.Loader.silent in
    let load = loading m g.M.Loader.refuses g.M.Loader.text in
    let j = g.J.Journal in
    let first = c.args.machine.now in
    let all = g.I.Items.left c.args.items.now in
    let old = g.H.Host.desk c.args.host.now in
    let mid = g.H.Host.desk c.store_items.new.host in
    let line = line_of load first all in
    let p = plan_of m j.kept 1 (j.limit c.args.journal) first all old in
    let told = IsTrue g.H.Host.tells in
    let P = LoadingStop p line told old mid in
    err_and P c.from_residual.result c.from_residual.ensures.1 (λ e is. subst P (sym is) (items_stop p silent line told old mid c.in_err-journal.field-0.0 c.in_err-journal.ensures.stop))

pub returns-in_err-line-clause-any_moment : goal.returns-in_err-line-clause-any_moment
returns-in_err-line-clause-any_moment g c = λ told.
    let m = g.M.Machine.rules in
    let kept = g.met.M.Machine.kept in
    let silent = g.met.M.Loader.silent in
    let load = loading m g.M.Loader.refuses g.M.Loader.text in
    let j = g.J.Journal in
    let first = c.args.machine.now in
    let all = g.I.Items.left c.args.items.now in
    let old = g.H.Host.desk c.args.host.now in
    let mid = g.H.Host.desk c.store_items.new.host in
    let line = line_of load first all in
    let p = plan_of m j.kept 1 (j.limit c.args.journal) first all old in
    since_weaken (Left m first all old.said) (LoadLeft load first all old.said) old mid (c.store_items.ensures.any_moment told) (left_of_load load silent first all old.said)

pub returns-in_err-line-clause-now : goal.returns-in_err-line-clause-now
returns-in_err-line-clause-now g c = λ told.
    let m = g.M.Machine.rules in
    let kept = g.met.M.Machine.kept in
    let silent = g.met.M.Loader.silent in
    let load = loading m g.M.Loader.refuses g.M.Loader.text in
    let j = g.J.Journal in
    let first = c.args.machine.now in
    let all = g.I.Items.left c.args.items.now in
    let old = g.H.Host.desk c.args.host.now in
    let mid = g.H.Host.desk c.store_items.new.host in
    let line = line_of load first all in
    let p = plan_of m j.kept 1 (j.limit c.args.journal) first all old in
    left_of_load load silent first all old.said mid.said mid.seen (c.store_items.ensures.now told)

pub returns-in_err-line-clause-stop : goal.returns-in_err-line-clause-stop
returns-in_err-line-clause-stop g c =
    let m = g.M.Machine.rules in
    let kept = g.met.M.Machine.kept in
    let silent = g.met.M.Loader.silent in
    let load = loading m g.M.Loader.refuses g.M.Loader.text in
    let j = g.J.Journal in
    let first = c.args.machine.now in
    let all = g.I.Items.left c.args.items.now in
    let old = g.H.Host.desk c.args.host.now in
    let mid = g.H.Host.desk c.store_items.new.host in
    let line = line_of load first all in
    let p = plan_of m j.kept 1 (j.limit c.args.journal) first all old in
    let journal = c.in_ok-journal.journal in
    let state = c.store_items.new.machine in
    let state_is : state ≡ state_after m first all = c.in_ok-journal.ensures.state in
    let told = IsTrue g.H.Host.tells in
    let P = LoadingStop p line told old mid in
    err_and P c.from_residual-in_err-line.result c.from_residual-in_err-line.ensures.1 (λ e is. subst P (sym is) (λ t. lacks_line p kept silent j.holds state journal mid state_is (c.in_ok-journal.ensures.store t) (c.in_ok-journal.ensures.done t)))

pub returns-in_err-kept-clause-any_moment : goal.returns-in_err-kept-clause-any_moment
returns-in_err-kept-clause-any_moment g c = λ told.
    let m = g.M.Machine.rules in
    let kept = g.met.M.Machine.kept in
    let silent = g.met.M.Loader.silent in
    let load = loading m g.M.Loader.refuses g.M.Loader.text in
    let j = g.J.Journal in
    let first = c.args.machine.now in
    let all = g.I.Items.left c.args.items.now in
    let old = g.H.Host.desk c.args.host.now in
    let mid = g.H.Host.desk c.store_items.new.host in
    let line = line_of load first all in
    let p = plan_of m j.kept 1 (j.limit c.args.journal) first all old in
    let journal = c.in_ok-journal.journal in
    let state = c.store_items.new.machine in
    let state_is : state ≡ state_after m first all = c.in_ok-journal.ensures.state in
    let new = g.H.Host.desk c.store_batch.new.host in
    let line_is : c.deref.result.now ≡ line = c.deref.ensures.value ∙ c.in_ok-line.ensures ∙ (λ i. g.M.Loader.text (c.in_ok-journal.ensures.state i) (c.in_ok-journal.ensures.tally i)) in
    let stored = c.in_ok-journal.ensures.store told in
    let none = said_none p kept silent j.holds state journal mid state_is stored (c.in_ok-journal.ensures.done told) in
    let so_far = since_weaken (Left m first all old.said) (LoadLeft load first all old.said) old mid (c.store_items.ensures.any_moment told) (left_of_load load silent first all old.said) in
    line_since load kept first all old.said j.holds state journal mid state_is stored none old new so_far (subst (λ (t : List ℕ). Since (Between stored.content None t mid) mid new) line_is (c.store_batch.ensures.any_moment told stored.content stored.store))

pub returns-in_err-kept-clause-now : goal.returns-in_err-kept-clause-now
returns-in_err-kept-clause-now g c = λ told.
    let m = g.M.Machine.rules in
    let kept = g.met.M.Machine.kept in
    let silent = g.met.M.Loader.silent in
    let load = loading m g.M.Loader.refuses g.M.Loader.text in
    let j = g.J.Journal in
    let first = c.args.machine.now in
    let all = g.I.Items.left c.args.items.now in
    let old = g.H.Host.desk c.args.host.now in
    let mid = g.H.Host.desk c.store_items.new.host in
    let line = line_of load first all in
    let p = plan_of m j.kept 1 (j.limit c.args.journal) first all old in
    let journal = c.in_ok-journal.journal in
    let state = c.store_items.new.machine in
    let state_is : state ≡ state_after m first all = c.in_ok-journal.ensures.state in
    let new = g.H.Host.desk c.store_batch.new.host in
    let line_is : c.deref.result.now ≡ line = c.deref.ensures.value ∙ c.in_ok-line.ensures ∙ (λ i. g.M.Loader.text (c.in_ok-journal.ensures.state i) (c.in_ok-journal.ensures.tally i)) in
    let stored = c.in_ok-journal.ensures.store told in
    let none = said_none p kept silent j.holds state journal mid state_is stored (c.in_ok-journal.ensures.done told) in
    line_left load kept first all old.said j.holds state journal mid state_is stored none new.said new.seen (subst (λ (t : List ℕ). Between stored.content None t mid new.said new.seen) line_is (c.store_batch.ensures.now told stored.content stored.store))

pub returns-in_err-kept-clause-stop : goal.returns-in_err-kept-clause-stop
returns-in_err-kept-clause-stop g c =
    let m = g.M.Machine.rules in
    let kept = g.met.M.Machine.kept in
    let silent = g.met.M.Loader.silent in
    let load = loading m g.M.Loader.refuses g.M.Loader.text in
    let j = g.J.Journal in
    let first = c.args.machine.now in
    let all = g.I.Items.left c.args.items.now in
    let old = g.H.Host.desk c.args.host.now in
    let mid = g.H.Host.desk c.store_items.new.host in
    let line = line_of load first all in
    let p = plan_of m j.kept 1 (j.limit c.args.journal) first all old in
    let journal = c.in_ok-journal.journal in
    let state = c.store_items.new.machine in
    let state_is : state ≡ state_after m first all = c.in_ok-journal.ensures.state in
    let new = g.H.Host.desk c.store_batch.new.host in
    let line_is : c.deref.result.now ≡ line = c.deref.ensures.value ∙ c.in_ok-line.ensures ∙ (λ i. g.M.Loader.text (c.in_ok-journal.ensures.state i) (c.in_ok-journal.ensures.tally i)) in
    let told = IsTrue g.H.Host.tells in
    let P = LoadingStop p line told old new in
    let room = LacksRoom g.H.Host.tells (j.holds journal) (j.limit journal) None mid in
    let cut = CutsShort g.H.Host.tells (j.holds journal) j.kept (j.limit journal) None c.deref.result.now mid new in
    let memory : c.in_err-kept.field-0.0 ≡ NoMemory → ⊥ = λ e. absurd (let some = c.store_batch.ensures.some (c.in_err-kept.was ∙ ap (λ (s : Stop). Err s) e) in omega (arith, some)) in
    let full = λ (n : ℕ) (r : room n) (t : told). (let stored = c.in_ok-journal.ensures.store t in r t stored.content stored.store) in
    let breaks = λ (k : cut) (t : told). (let stored = c.in_ok-journal.ensures.store t in
    let short = k t stored.content stored.store in
    line_cut p kept silent j.holds state journal mid state_is stored (c.in_ok-journal.ensures.done t) line (g.met.J.Journal.laws t).goes_on new short.holds short.keeps short.out (short.said_is ∙ ap (λ (l : List ℕ). mid.said ++ take short.out l) line_is)) in
    err_and P c.from_residual-in_err-kept.result c.from_residual-in_err-kept.ensures.1 (λ e is. subst P (sym is) (line_stop p line told old mid new room cut c.store_items.ensures.counts c.in_err-kept.field-0.0 memory full breaks c.in_err-kept.ensures.stop))

pub returns-clause-any_moment : goal.returns-clause-any_moment
returns-clause-any_moment g c = λ told.
    let m = g.M.Machine.rules in
    let kept = g.met.M.Machine.kept in
    let silent = g.met.M.Loader.silent in
    let load = loading m g.M.Loader.refuses g.M.Loader.text in
    let j = g.J.Journal in
    let first = c.args.machine.now in
    let all = g.I.Items.left c.args.items.now in
    let old = g.H.Host.desk c.args.host.now in
    let mid = g.H.Host.desk c.store_items.new.host in
    let line = line_of load first all in
    let p = plan_of m j.kept 1 (j.limit c.args.journal) first all old in
    let journal = c.in_ok-journal.journal in
    let state = c.store_items.new.machine in
    let state_is : state ≡ state_after m first all = c.in_ok-journal.ensures.state in
    let new = g.H.Host.desk c.store_batch.new.host in
    let line_is : c.deref.result.now ≡ line = c.deref.ensures.value ∙ c.in_ok-line.ensures ∙ (λ i. g.M.Loader.text (c.in_ok-journal.ensures.state i) (c.in_ok-journal.ensures.tally i)) in
    let stored = c.in_ok-journal.ensures.store told in
    let none = said_none p kept silent j.holds state journal mid state_is stored (c.in_ok-journal.ensures.done told) in
    let so_far = since_weaken (Left m first all old.said) (LoadLeft load first all old.said) old mid (c.store_items.ensures.any_moment told) (left_of_load load silent first all old.said) in
    line_since load kept first all old.said j.holds state journal mid state_is stored none old new so_far (subst (λ (t : List ℕ). Since (Between stored.content None t mid) mid new) line_is (c.store_batch.ensures.any_moment told stored.content stored.store))

pub returns-clause-now : goal.returns-clause-now
returns-clause-now g c = λ told.
    let m = g.M.Machine.rules in
    let kept = g.met.M.Machine.kept in
    let silent = g.met.M.Loader.silent in
    let load = loading m g.M.Loader.refuses g.M.Loader.text in
    let j = g.J.Journal in
    let first = c.args.machine.now in
    let all = g.I.Items.left c.args.items.now in
    let old = g.H.Host.desk c.args.host.now in
    let mid = g.H.Host.desk c.store_items.new.host in
    let line = line_of load first all in
    let p = plan_of m j.kept 1 (j.limit c.args.journal) first all old in
    let journal = c.in_ok-journal.journal in
    let state = c.store_items.new.machine in
    let state_is : state ≡ state_after m first all = c.in_ok-journal.ensures.state in
    let new = g.H.Host.desk c.store_batch.new.host in
    let line_is : c.deref.result.now ≡ line = c.deref.ensures.value ∙ c.in_ok-line.ensures ∙ (λ i. g.M.Loader.text (c.in_ok-journal.ensures.state i) (c.in_ok-journal.ensures.tally i)) in
    let stored = c.in_ok-journal.ensures.store told in
    let none = said_none p kept silent j.holds state journal mid state_is stored (c.in_ok-journal.ensures.done told) in
    line_left load kept first all old.said j.holds state journal mid state_is stored none new.said new.seen (subst (λ (t : List ℕ). Between stored.content None t mid new.said new.seen) line_is (c.store_batch.ensures.now told stored.content stored.store))

pub returns-clause-done : goal.returns-clause-done
returns-clause-done g c = λ told.
    let m = g.M.Machine.rules in
    let kept = g.met.M.Machine.kept in
    let silent = g.met.M.Loader.silent in
    let load = loading m g.M.Loader.refuses g.M.Loader.text in
    let j = g.J.Journal in
    let first = c.args.machine.now in
    let all = g.I.Items.left c.args.items.now in
    let old = g.H.Host.desk c.args.host.now in
    let mid = g.H.Host.desk c.store_items.new.host in
    let line = line_of load first all in
    let p = plan_of m j.kept 1 (j.limit c.args.journal) first all old in
    let journal = c.in_ok-journal.journal in
    let state = c.store_items.new.machine in
    let state_is : state ≡ state_after m first all = c.in_ok-journal.ensures.state in
    let new = g.H.Host.desk c.store_batch.new.host in
    let line_is : c.deref.result.now ≡ line = c.deref.ensures.value ∙ c.in_ok-line.ensures ∙ (λ i. g.M.Loader.text (c.in_ok-journal.ensures.state i) (c.in_ok-journal.ensures.tally i)) in
    let stored = c.in_ok-journal.ensures.store told in
    line_out p kept silent j.holds state journal mid state_is stored (c.in_ok-journal.ensures.done told) line (g.met.J.Journal.laws told).goes_on new ((g.met.J.Journal.laws told).says c.in_ok-kept.kept stored.content c.store_batch.new.host (c.in_ok-kept.ensures.store told stored.content stored.store)) (c.in_ok-kept.ensures.keeps told stored.content stored.store) (c.in_ok-kept.ensures.said told ∙ ap (λ (l : List ℕ). mid.said ++ l) line_is)
