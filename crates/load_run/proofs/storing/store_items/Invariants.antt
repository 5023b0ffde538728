use Rattle.std.proofs.Common.{◌+◌, ◌<◌, ◌^◌, ◌≡◌, IsTrue, length}
use Rattle.std.specs.List.{All}
use Rattle.host_desk.specs.Desk.{KeepsCounts}
use Rattle.machine_run.specs.Rules.{state_after}
use Rattle.machine_run.specs.Runs.{Running, Stored, plan_of}
use Rattle.load_run.specs.Loads.{loading, no_items, tallied}
use Rattle.load_run.proofs.OneItem.{anything}
use Rattle.load_run.proofs.storing.store_items.Given as goal

abbrev pub invariant-loop-changes : goal.invariant-loop-changes
invariant-loop-changes g l =
    let old = g.H.Host.desk l.initial.host in
    let now = g.H.Host.desk l.host in
    let j = g.J.Journal in
    let m = g.M.Machine.rules in
    let load = loading m g.M.Loader.refuses g.M.Loader.text in
    let first = l.initial.machine in
    let all = g.I.Items.left l.initial.items in
    let left = g.I.Items.left l.items in
    record {
      opened : now.opened ≡ old.opened;
      counts : KeepsCounts old now;
      limit : j.limit l.journal ≡ j.limit l.initial.journal;
      takes : All g.M.Loader.takes left;
      stored : IsTrue g.H.Host.tells → Stored m j.holds l.machine l.journal now;
      running : IsTrue g.H.Host.tells → Running (plan_of m j.kept 1 (j.limit l.initial.journal) first all old) j.holds anything anything old now l.journal left l.machine;
      state : state_after m l.machine left ≡ state_after m first all;
      counted : tallied load l.tally l.machine left ≡ tallied load no_items first all;
      few : l.tally.done + l.tally.refused + length left < 2 ^ 64;
    }

abbrev pub decreases-loop-changes : goal.decreases-loop-changes
decreases-loop-changes g l = length (g.I.Items.left l.items)
