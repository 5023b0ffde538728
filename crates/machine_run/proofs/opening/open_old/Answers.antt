use Rattle.std.proofs.Common.{◌≡◌, ℕ, List, rules, sym, ◌∙◌, ap}
use Rattle.host_desk.specs.Desk.{KeepsCounts}
use Rattle.host_desk.proofs.Moments.{stays_then}
use Rattle.gate_log.specs.Format.{opening_of}
use Rattle.machine_run.specs.Stores.{no_log}
use Rattle.machine_run.specs.Opening.{IsOpened, OpenStop, IsRestored, RestoreStop}
use Rattle.machine_run.proofs.OldStore.{if_ok, if_ok_both, if_err, old_snapshot, old_both, old_stop, old_corrupt, old_store}
use Rattle.machine_run.proofs.opening.open_old.Goals as goal

pub returns-then-not-branch-clause-stop : goal.returns-then-not-branch-clause-stop
returns-then-not-branch-clause-stop g c = λ told. (old_snapshot g.M.Machine.rules g.met.M.Machine.kept (g.H.Host.desk c.args.host.now) c.args.log (c.requires.read told) (c.in_ok-load_snapshot.ensures.no told c.if-not-branch.true), (c.load_snapshot.ensures.disk told).seen)

pub returns-then-not-branch-2-clause-stop : goal.returns-then-not-branch-2-clause-stop
returns-then-not-branch-2-clause-stop g c = λ told.
    let a = g.H.Host.desk c.args.host.now in
    let loads = c.in_ok-load_snapshot.ensures.yes told c.if-not-branch.false in
    let absent = c.in_ok-second_is_absent.ensures.absent told ∙ c.if-not-branch-2.true in
    let same = (c.load_snapshot.ensures.disk told).seen in
    (old_both g.M.Machine.rules g.met.M.Machine.kept a c.args.log (c.requires.read told) c.load_snapshot.new.machine loads (ap (λ (s : ℕ → List ℕ). no_log (opening_of (s 1))) (sym same) ∙ absent), (c.second_is_absent.ensures.disk told).seen ∙ same)

pub returns-clause-store : goal.returns-clause-store
returns-clause-store g c = λ told.
    let m = g.M.Machine.rules in
    let a = g.H.Host.desk c.args.host.now in
    let x = g.H.Host.desk c.load_snapshot.new.host in
    let b = g.H.Host.desk c.second_is_absent.new.host in
    let d = g.H.Host.desk c.restore_all.new.host in
    let first = c.load_snapshot.new.machine in
    let state = c.restore_all.new.machine in
    let loads = c.in_ok-load_snapshot.ensures.yes told c.if-not-branch.false in
    let looks = stays_then a x b (c.load_snapshot.ensures.disk told) (c.second_is_absent.ensures.disk told) in
    let none = ap (λ (s : ℕ → List ℕ). no_log (opening_of (s 1))) (sym (c.load_snapshot.ensures.disk told).seen) ∙ c.in_ok-second_is_absent.ensures.absent told ∙ c.if-not-branch-2.false in
    if_ok (λ after. (after ≡ record c.args.log { place = after.place }) × IsRestored m (b.seen 0) first state after) (IsOpened m a d state) c.restore_all.result
    (λ after is both. old_store m g.met.M.Machine.kept a c.args.log (c.requires.read told) first loads b d looks (c.restore_all.ensures.disk told) none (c.requires.first_settled told) (c.requires.second_settled told) c.requires.first state after both.0 both.1)
    (if_ok_both (λ after. after ≡ record c.args.log { place = after.place }) (IsRestored m (b.seen 0) first state) c.restore_all.result c.restore_all.ensures.log (c.restore_all.ensures.restored told))

pub returns-clause-stop : goal.returns-clause-stop
returns-clause-stop g c =
    let m = g.M.Machine.rules in
    let a = g.H.Host.desk c.args.host.now in
    let x = g.H.Host.desk c.load_snapshot.new.host in
    let b = g.H.Host.desk c.second_is_absent.new.host in
    let d = g.H.Host.desk c.restore_all.new.host in
    let first = c.load_snapshot.new.machine in
    let counts : KeepsCounts a b = search rules in
    if_err (RestoreStop m g.H.Host.tells (b.seen 0) first c.args.log.place b d) (OpenStop m g.H.Host.tells c.args.log.limit a d) c.restore_all.result
    (old_stop m g.H.Host.tells c.args.log.limit first c.args.log.place a b d counts (λ file at bad told.
    (let loads = c.in_ok-load_snapshot.ensures.yes told c.if-not-branch.false in
    let looks = stays_then a x b (c.load_snapshot.ensures.disk told) (c.second_is_absent.ensures.disk told) in
    let none = ap (λ (s : ℕ → List ℕ). no_log (opening_of (s 1))) (sym (c.load_snapshot.ensures.disk told).seen) ∙ c.in_ok-second_is_absent.ensures.absent told ∙ c.if-not-branch-2.false in
    old_corrupt m g.met.M.Machine.kept a c.args.log (c.requires.read told) first loads b d looks (c.restore_all.ensures.disk told) none c.args.log.place c.requires.place file at (bad told))) (λ told. (c.restore_all.ensures.disk told).seen ∙ (c.second_is_absent.ensures.disk told).seen ∙ (c.load_snapshot.ensures.disk told).seen))
    c.restore_all.ensures.stop
