use Rattle.lockbox.proofs.Seen.{found_all}
use Rattle.lockbox.proofs.searches.least_found.Goals as goal

pub returns : goal.returns
returns c =
    rw (c.least_made.ensures, c.as_slice-3.ensures)
    (found_all c.args.task.now c.args.want.now c.args.wanted c.args.posses.now c.args.so_far.now c.least_in-best.result (rw (c.as_slice.ensures, c.as_slice-2.ensures) at c.least_in-best.ensures))
