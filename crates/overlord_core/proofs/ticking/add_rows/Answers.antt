use Rattle.std.proofs.Common.{◌∙◌, ◌≡◌, List, length, sym, take}
use Rattle.std.proofs.lemmas.Iterator.Adapters.{YieldsList-from_vec}
use Rattle.std.proofs.lemmas.Iterator.Consumers.{YieldsList-so_far, YieldsList-turn}
use Rattle.std.proofs.lemmas.List.{map-id}
use Rattle.book_rows.specs.declared.rows.TaskRow.{TaskRow}
use Rattle.overlord_core.proofs.TickOutcomes.{task_is_new}
use Rattle.overlord_core.proofs.ticking.add_rows.Goals as goal

pub add-requires : goal.add-requires
add-requires c =
    let rows : List TaskRow = c.args.rows.items in
    let added : List TaskRow = c.loop-row.yielded in
    let so_far : added ≡ take (length added) rows = sym (map-id added) ∙ YieldsList-so_far (YieldsList-from_vec rows (cc) (cc)) added c.loop-row.row-iterator c.loop-row.yielded_by in
    let turn = YieldsList-turn (YieldsList-from_vec rows (cc) (cc)) added c.loop-row.row-iterator c.loop-row.yielded_by c.next.result c.next.new.self c.in-Some.row c.in-Some.is c.next.ensures.steps in
    rw c.loop-row.invariant (task_is_new c.args.tasks.now added rows c.in-Some.row c.requires so_far turn.0 turn.1)
