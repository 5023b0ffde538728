use Rattle.lockbox.proofs.Seen.{searched_over}
use Rattle.lockbox.proofs.searches.numbers_in.Goals as goal

pub numbers_over-requires : goal.numbers_over-requires
numbers_over-requires c =
    let q = c.args.search.now in
    searched_over q.task.now q.want.now c.start-start.ensures.ordered q.wanted q.revoked.now q.joins.now
