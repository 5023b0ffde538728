use Rattle.std.proofs.Common.{◌≡◌, ◌-◌, ◌≤◌, IsTrue, length, drop}
use Rattle.host_desk.specs.Desk.{KeepsCounts, Says}
use Rattle.machine_run.proofs.saying.say_all.Given as goal

abbrev pub invariant-loop-rest : goal.invariant-loop-rest
invariant-loop-rest g l = record {
  rest : l.rest ≡ drop (length l.bytes - length l.rest) l.bytes;
  shorter : length l.rest ≤ length l.bytes;
  opened : (g.H.Host.desk l.host).opened ≡ (g.H.Host.desk l.initial.host).opened;
  counts : KeepsCounts (g.H.Host.desk l.initial.host) (g.H.Host.desk l.host);
  said : IsTrue g.H.Host.tells → Says l.bytes (length l.bytes - length l.rest) (g.H.Host.desk l.initial.host) (g.H.Host.desk l.host);
}

abbrev pub decreases-loop-rest : goal.decreases-loop-rest
decreases-loop-rest g l = length l.rest
