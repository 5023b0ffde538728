use Rattle.std.proofs.Common.{Some, None}
use Rattle.lockbox.proofs.Seen.{found_in, searched_over}
use Rattle.lockbox.proofs.searches.least_in.Goals as goal

pub least_over-requires : goal.least_over-requires
least_over-requires c =
    let q = c.args.search.now in
    searched_over q.task.now q.want.now c.start-start.ensures.ordered q.wanted q.revoked.now q.joins.now

pub returns-in-Some : goal.returns-in-Some
returns-in-Some c =
    let q = c.args.search.now in
    rw c.found_after.ensures (found_in q.revoked.now q.joins.now q.task.now q.want.now q.wanted c.args.posses.now (Some c.in-Some.row.now) c.in-Some.ensures)

pub returns-in-None : goal.returns-in-None
returns-in-None c =
    let q = c.args.search.now in
    found_in q.revoked.now q.joins.now q.task.now q.want.now q.wanted c.args.posses.now None c.in-None.ensures
