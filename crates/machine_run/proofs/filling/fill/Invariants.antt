use Rattle.std.proofs.Common.{◌<◌, ◌≤◌}
use Rattle.machine_run.specs.Fold.{IsFilling, batch_bytes}
use Rattle.machine_run.proofs.filling.fill.Given as goal

abbrev pub invariant-loop-stop : goal.invariant-loop-stop
invariant-loop-stop g l =
    let f = g.F.Feed in record {
      fits : f.fits l.feed l.source;
      goes : f.goes l.initial.feed l.initial.source l.feed l.source;
      nearer : f.work l.feed ≤ f.work l.initial.feed;
      count : l.count < l.batch;
      bytes : l.bytes < batch_bytes;
      filling : IsFilling g.M.Machine.rules l.batch l.initial.machine f.tells (f.left l.initial.feed l.initial.source) (f.left l.feed l.source) (f.breaks l.initial.feed l.initial.source) (f.breaks l.feed l.source) l.changes.items l.replies.items l.machine l.count l.bytes;
    }

abbrev pub decreases-loop-stop : goal.decreases-loop-stop
decreases-loop-stop g l = g.F.Feed.work l.feed
