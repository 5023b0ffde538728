use Rattle.std.proofs.Common.{◌≡◌, ◌-◌, ◌≤◌, ◌++◌, IsTrue, length, take, drop}
use Rattle.host_desk.specs.Desk.{KeepsCounts, Stays}
use Rattle.gate_log.proofs.reading.read_full.Given as goal

abbrev pub invariant-loop-done : goal.invariant-loop-done
invariant-loop-done g l = record {
  within : l.done ≤ length l.initial.into;
  opened : (g.H.Host.desk l.host).opened ≡ (g.H.Host.desk l.initial.host).opened;
  counts : KeepsCounts (g.H.Host.desk l.initial.host) (g.H.Host.desk l.host);
  disk : IsTrue g.H.Host.tells → Stays (g.H.Host.desk l.initial.host) (g.H.Host.desk l.host);
  there : IsTrue g.H.Host.tells → l.done ≤ length ((g.H.Host.desk l.initial.host).seen l.file) - l.at;
  filled : IsTrue g.H.Host.tells → l.into ≡ take l.done (drop l.at ((g.H.Host.desk l.initial.host).seen l.file)) ++ drop l.done l.initial.into;
}

abbrev pub decreases-loop-done : goal.decreases-loop-done
decreases-loop-done g l = length l.initial.into - l.done
