use Rattle.std.proofs.Common.{◌∙◌, ap}
use Rattle.book_rows.specs.Locks.{left_all_locks}
use Rattle.book_rows.specs.declared.rows.Book.{Book}
use Rattle.book_core.proofs.Leaving.{leaving_done}
use Rattle.book_core.proofs.tables.Core.left_all_locks.Goals as goal

pub returns : goal.returns
returns c =
    let b : Book = record {
      clock = c.self.inside.clock;
      last = c.self.inside.last;
      next_lock = c.self.inside.next_lock;
      tasks = c.self.inside.tasks;
      posses = c.self.inside.posses;
      chunks = c.self.inside.segments.chunks;
      segments = c.self.inside.segments.segments;
      pendings = c.self.inside.pendings.pendings;
      upgrades = c.self.inside.pendings.upgrades;
      publications = c.self.inside.streams.publications;
      offsets = c.self.inside.streams.offsets;
      supervisors = c.self.inside.supervisors.supervisors;
      sequences = c.self.inside.supervisors.sequences;
    } in
    leaving_done c.args.task.now b c.release_all.new.posses c.take_posses.new.self c.deref.result.now c.in_ok-ended.ensures.rows (c.deref.ensures.value ∙ c.in_ok-ended.ensures.ended) c.take_posses.ensures
    ∙ ap (λ (x : Book). left_all_locks c.args.task.now x) c.self.view_is
