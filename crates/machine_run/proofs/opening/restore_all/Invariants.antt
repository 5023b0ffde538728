use Rattle.std.proofs.Common.{◌≡◌, ◌-◌, IsTrue}
use Rattle.host_desk.specs.Desk.{KeepsCounts, Stays}
use Rattle.gate_log.specs.Log.{Mark}
use Rattle.machine_run.specs.Opening.{IsRestoring}
use Rattle.machine_run.proofs.opening.restore_all.Given as goal

abbrev pub invariant-loop-machine : goal.invariant-loop-machine
invariant-loop-machine g l =
    let old = g.H.Host.desk l.initial.host in
    let now = g.H.Host.desk l.host in
    let start : Mark = l.initial.log in
    let log : Mark = l.log in record {
      opened : now.opened ≡ old.opened;
      counts : KeepsCounts old now;
      disk : IsTrue g.H.Host.tells → Stays old now;
      same_log : log ≡ record start { place = log.place };
      restoring : IsTrue g.H.Host.tells → IsRestoring g.M.Machine.rules (old.seen 0) l.initial.machine start.place l.machine log;
    }

abbrev pub decreases-loop-machine : goal.decreases-loop-machine
decreases-loop-machine g l = l.log.file_length - l.log.place
