use Rattle.lock_posse.proofs.Granted.{member_lists_more}
use Rattle.lock_posse.proofs.grants.lists_after.Goals as goal

pub loop-row-preserved : goal.loop-row-preserved
loop-row-preserved c =
    rw (c.in_ok-push_list.ensures, c.loop-row.invariant)
    (member_lists_more c.args.joins.now c.args.task.now c.args.rows.now c.loop-row.row-index c.row-item.result c.loop-row-test.true c.row-item.is)
