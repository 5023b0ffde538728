use Rattle.std.proofs.Common.{Option, ap}
use Rattle.book_rows.specs.declared.kinds.Table.{Table}
use Rattle.lockbox.specs.Decided.{if_room}
use Rattle.book_core.proofs.tables.Core.if_room.Goals as goal

pub returns-in-Some : goal.returns-in-Some
returns-in-Some c = λ task. ap (λ (o : Option Table). if_room o c.args.new) (c.in-Some.ensures task)

pub returns-in-None : goal.returns-in-None
returns-in-None c = λ task. ap (λ (o : Option Table). if_room o c.args.new) (c.in-None.ensures task)
