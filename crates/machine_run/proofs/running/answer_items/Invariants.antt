use Rattle.std.proofs.Common.{◌≡◌, IsTrue}
use Rattle.host_desk.specs.Desk.{KeepsCounts}
use Rattle.machine_run.specs.Runs.{Stored, Running, plan_of}
use Rattle.machine_run.proofs.running.answer_items.Given as goal

abbrev pub invariant-loop-replies : goal.invariant-loop-replies
invariant-loop-replies g l =
    let old = g.H.Host.desk l.initial.host in
    let now = g.H.Host.desk l.host in
    let f = g.F.Feed in
    let j = g.J.Journal in
    let m = g.M.Machine.rules in
    let all = f.left l.initial.feed l.initial.source in
    record {
      opened : now.opened ≡ old.opened;
      counts : KeepsCounts old now;
      fits : f.fits l.feed l.source;
      goes : f.goes l.initial.feed l.initial.source l.feed l.source;
      limit : j.limit l.journal ≡ j.limit l.initial.journal;
      stored : IsTrue g.H.Host.tells → Stored m j.holds l.machine l.journal now;
      running : IsTrue g.H.Host.tells → IsTrue f.tells → Running (plan_of m j.kept l.batch (j.limit l.initial.journal) l.initial.machine all old) j.holds (f.breaks l.initial.feed l.initial.source) (f.breaks l.feed l.source) old now l.journal (f.left l.feed l.source) l.machine;
    }

abbrev pub decreases-loop-replies : goal.decreases-loop-replies
decreases-loop-replies g l = g.F.Feed.work l.feed
