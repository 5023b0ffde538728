use Rattle.std.proofs.Common.{rules}
use Rattle.cmd_codec.proofs.Rows.{allocate}
use Rattle.cmd_codec.proofs.reading.allocate.Goals as goal

pub returns : goal.returns
returns c =
    let e = c.in_ok-task.ensures in
    (rw (allocate c.args.cursor.now.rest, e.0) (search rules), e.1)
