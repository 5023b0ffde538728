use Rattle.std.proofs.Common.{◌≡◌, ◌<◌, ℕ, inl, Err, sym, ◌∙◌, ap, subst}
use Rattle.gate_log.specs.declared.fault.LogFault.{LogFault}
use Rattle.gate_log.specs.declared.fault.LogFault.TheVariants.{Full}
use Rattle.machine_run.specs.Opening.{IsOpened}
use Rattle.machine_run.proofs.Untouched.{untouched_stays, no_store}
use Rattle.machine_run.proofs.OldStore.{store_second}
use Rattle.machine_run.proofs.NewStore.{at_least, one_answer, is_first, new_since, new_now, new_store}
use Rattle.machine_run.proofs.opening.open_new.Goals as goal

pub returns-then-not-branch-clause-stop : goal.returns-then-not-branch-clause-stop
returns-then-not-branch-clause-stop g c = λ told.
    let a = g.H.Host.desk c.args.host.now in
    (store_second g.M.Machine.rules (a.seen 0) (a.seen 1) (c.requires.absent told) (c.in_ok-second_is_absent.ensures.absent told ∙ c.if-not-branch.true), (c.second_is_absent.ensures.disk told).seen)

pub returns-in-Ok-clause-any_moment : goal.returns-in-Ok-clause-any_moment
returns-in-Ok-clause-any_moment g c = λ told.
    new_since g.M.Machine.rules g.met.M.Machine.kept (g.H.Host.desk c.args.host.now) (g.H.Host.desk c.second_is_absent.new.host) (c.second_is_absent.ensures.disk told) (c.requires.absent told) (c.in_ok-second_is_absent.ensures.absent told ∙ c.if-not-branch.false) (c.requires.second_settled told) (g.H.Host.desk c.make_log.new.host) (c.make_log.ensures.any_moment told) (λ t s f le is. g.met.H.Host.counts_now told c.args.host.now t s f le is)

pub returns-in-Ok-clause-now : goal.returns-in-Ok-clause-now
returns-in-Ok-clause-now g c = λ told.
    new_now g.M.Machine.rules g.met.M.Machine.kept (g.H.Host.desk c.args.host.now) (g.H.Host.desk c.second_is_absent.new.host) (c.second_is_absent.ensures.disk told) (c.requires.absent told) (c.in_ok-second_is_absent.ensures.absent told ∙ c.if-not-branch.false) (c.requires.second_settled told) (g.H.Host.desk c.make_log.new.host) (c.make_log.ensures.any_moment told) (λ i less. g.met.H.Host.reads_now told c.make_log.new.host i less)

pub returns-in-Ok-clause-store : goal.returns-in-Ok-clause-store
returns-in-Ok-clause-store g c = λ told.
    let opens = new_store g.M.Machine.rules g.met.M.Machine.kept (g.H.Host.desk c.args.host.now) (g.H.Host.desk c.second_is_absent.new.host) (c.second_is_absent.ensures.disk told) (c.requires.absent told) (c.in_ok-second_is_absent.ensures.absent told ∙ c.if-not-branch.false) (c.requires.second_settled told) (g.H.Host.desk c.make_log.new.host) (c.make_log.ensures.any_moment told) c.args.limit c.in-Ok.log (at_least 27 c.args.limit (λ below. one_answer c.make_log.result c.in-Ok.log (Full 0) c.in-Ok.is (c.make_log.ensures.full below))) c.in-Ok.ensures.log (c.in-Ok.ensures.made told) (c.in-Ok.ensures.says told) (c.in-Ok.ensures.describes told) (c.in-Ok.ensures.settled told) in
    subst (λ s. IsOpened g.M.Machine.rules (g.H.Host.desk c.args.host.now) (g.H.Host.desk c.make_log.new.host) s c.in-Ok.log) (sym c.requires.fresh) opens

pub returns-in-Err-Full-clause-stop : goal.returns-in-Err-Full-clause-stop
returns-in-Err-Full-clause-stop g c =
    let fault : (c.in-Err-Full.length ≡ 0) × (c.args.limit < 27) = rw c.in-Err-Full.field-0-is at c.in-Err-Full.ensures.fault in (
      fault.0,
      fault.1,
      λ told.
          let same = c.make_log.ensures.full_leaves (inl (c.in-Err-Full.is ∙ ap (λ (f : LogFault). Err f) (c.in-Err-Full.field-0-is ∙ ap (λ (n : ℕ). Full n) fault.0))) in (
            c.requires.absent told,
            is_first g.M.Machine.rules g.met.M.Machine.kept (g.H.Host.desk c.args.host.now) (g.H.Host.desk c.second_is_absent.new.host) (c.second_is_absent.ensures.disk told) (c.requires.absent told) (c.in_ok-second_is_absent.ensures.absent told ∙ c.if-not-branch.false),
            ap (λ h. (g.H.Host.desk h).seen) same ∙ (c.second_is_absent.ensures.disk told).seen,
          ),
    )

pub returns-in-Err-Failed-clause-any_moment : goal.returns-in-Err-Failed-clause-any_moment
returns-in-Err-Failed-clause-any_moment g c = λ told.
    new_since g.M.Machine.rules g.met.M.Machine.kept (g.H.Host.desk c.args.host.now) (g.H.Host.desk c.second_is_absent.new.host) (c.second_is_absent.ensures.disk told) (c.requires.absent told) (c.in_ok-second_is_absent.ensures.absent told ∙ c.if-not-branch.false) (c.requires.second_settled told) (g.H.Host.desk c.make_log.new.host) (c.make_log.ensures.any_moment told) (λ t s f le is. g.met.H.Host.counts_now told c.args.host.now t s f le is)

pub returns-in-Err-Failed-clause-now : goal.returns-in-Err-Failed-clause-now
returns-in-Err-Failed-clause-now g c = λ told.
    new_now g.M.Machine.rules g.met.M.Machine.kept (g.H.Host.desk c.args.host.now) (g.H.Host.desk c.second_is_absent.new.host) (c.second_is_absent.ensures.disk told) (c.requires.absent told) (c.in_ok-second_is_absent.ensures.absent told ∙ c.if-not-branch.false) (c.requires.second_settled told) (g.H.Host.desk c.make_log.new.host) (c.make_log.ensures.any_moment told) (λ i less. g.met.H.Host.reads_now told c.make_log.new.host i less)

pub returns-in_err-second_is_absent-clause-foreign : goal.returns-in_err-second_is_absent-clause-foreign
returns-in_err-second_is_absent-clause-foreign g c = λ told file at bad.
    untouched_stays (g.H.Host.desk c.args.host.now) (g.H.Host.desk c.second_is_absent.new.host) (λ t s f le is. g.met.H.Host.counts_now told c.args.host.now t s f le is) (c.second_is_absent.ensures.disk told)

pub returns-then-not-branch-clause-foreign : goal.returns-then-not-branch-clause-foreign
returns-then-not-branch-clause-foreign g c = λ told file at bad.
    untouched_stays (g.H.Host.desk c.args.host.now) (g.H.Host.desk c.second_is_absent.new.host) (λ t s f le is. g.met.H.Host.counts_now told c.args.host.now t s f le is) (c.second_is_absent.ensures.disk told)

pub returns-in-Ok-clause-foreign : goal.returns-in-Ok-clause-foreign
returns-in-Ok-clause-foreign g c = λ told file at bad.
    let m = g.M.Machine.rules in
    let a = g.H.Host.desk c.args.host.now in
    no_store m a a (g.H.Host.desk c.make_log.new.host) m.first file at (is_first m g.met.M.Machine.kept a (g.H.Host.desk c.second_is_absent.new.host) (c.second_is_absent.ensures.disk told) (c.requires.absent told) (c.in_ok-second_is_absent.ensures.absent told ∙ c.if-not-branch.false)) bad

pub returns-in-Err-Full-clause-foreign : goal.returns-in-Err-Full-clause-foreign
returns-in-Err-Full-clause-foreign g c = λ told file at bad.
    let m = g.M.Machine.rules in
    let a = g.H.Host.desk c.args.host.now in
    no_store m a a (g.H.Host.desk c.make_log.new.host) m.first file at (is_first m g.met.M.Machine.kept a (g.H.Host.desk c.second_is_absent.new.host) (c.second_is_absent.ensures.disk told) (c.requires.absent told) (c.in_ok-second_is_absent.ensures.absent told ∙ c.if-not-branch.false)) bad

pub returns-in-Err-OutOfMemory-clause-foreign : goal.returns-in-Err-OutOfMemory-clause-foreign
returns-in-Err-OutOfMemory-clause-foreign g c = λ told file at bad.
    let m = g.M.Machine.rules in
    let a = g.H.Host.desk c.args.host.now in
    no_store m a a (g.H.Host.desk c.make_log.new.host) m.first file at (is_first m g.met.M.Machine.kept a (g.H.Host.desk c.second_is_absent.new.host) (c.second_is_absent.ensures.disk told) (c.requires.absent told) (c.in_ok-second_is_absent.ensures.absent told ∙ c.if-not-branch.false)) bad

pub returns-in-Err-Failed-clause-foreign : goal.returns-in-Err-Failed-clause-foreign
returns-in-Err-Failed-clause-foreign g c = λ told file at bad.
    let m = g.M.Machine.rules in
    let a = g.H.Host.desk c.args.host.now in
    no_store m a a (g.H.Host.desk c.make_log.new.host) m.first file at (is_first m g.met.M.Machine.kept a (g.H.Host.desk c.second_is_absent.new.host) (c.second_is_absent.ensures.disk told) (c.requires.absent told) (c.in_ok-second_is_absent.ensures.absent told ∙ c.if-not-branch.false)) bad
