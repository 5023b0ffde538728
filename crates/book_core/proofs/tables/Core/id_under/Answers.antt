use Rattle.book_rows.specs.declared.rows.TaskRow.{TaskRow}
use Rattle.book_core.specs.Allocations.{request_of}
use Rattle.book_core.proofs.NewIds.{roomed_id}
use Rattle.book_core.proofs.tables.Core.id_under.Goals as goal

pub returns-in-Ok : goal.returns-in-Ok
returns-in-Ok c =
    let t : TaskRow = c.args.row.now in
    roomed_id c.args.self.now (request_of c.args.request.now) t c.args.place.now c.args.lock c.in-Ok.pending c.if_room.result c.in-Ok.ensures (c.if_room.ensures t.task)
