use Rattle.std.proofs.Common.{◌≡◌, ◌+◌, ◌++◌, List, get_or, slice_get, take}
use Rattle.std.specs.Map.{values_of}
use Rattle.book_rows.specs.declared.rows.TaskRow.{TaskRow}
use Rattle.tab_tasks.specs.Waiting.{if_waiting, waiting_at}
use Rattle.tab_tasks.proofs.WaitingRows.{among_more, found_more, found_same}
use Rattle.tab_tasks.proofs.waiting.waiting_among.Goals as goal
use Rattle.tab_tasks.proofs.waiting.waiting_among.Goals.{in-Some+in_ok-push, in_default}

pub loop-place-preserved : goal.loop-place-preserved
loop-place-preserved c =
    let ts : List TaskRow = values_of c.args.rows.now.entries in
    let before : List TaskRow = waiting_at ts (take c.loop-place.place-index c.args.places.now) in
    let after : List TaskRow = waiting_at ts (take (c.loop-place.place-index + 1) c.args.places.now) in
    let more : List TaskRow = if_waiting (slice_get ts (get_or c.args.places.now c.loop-place.place-index 0)) in
    let is : after ≡ before ++ more = among_more ts c.args.places.now c.loop-place.place-index 0 c.loop-place-test.true in
    elim c.match-waiting_row.branch [
      | in-Some+in_ok-push w ↦ rw (w.found-is, w.in_ok-push.ensures.items) (found_more c.loop-place.found.items w.in-Some.row before after more c.loop-place.invariant w.in-Some.ensures is)
      | in_default w ↦ rw w.found-is (found_same c.loop-place.found.items before after more c.loop-place.invariant w.in_default.ensures is)
    ]
