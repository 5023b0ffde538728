use Rattle.std.proofs.Common.{◌≡◌, ◌+◌, ◌++◌, ◌<◌, List, arith, filter, length, slice_get, take}
use Rattle.std.specs.Map.{values_of}
use Rattle.book_rows.specs.TaskSteps.{is_waiting}
use Rattle.book_rows.specs.declared.rows.TaskRow.{TaskRow}
use Rattle.tab_tasks.specs.Waiting.{if_waiting}
use Rattle.tab_tasks.proofs.WaitingRows.{all_more, found_more, found_same}
use Rattle.tab_tasks.proofs.waiting.all_waiting.Goals as goal
use Rattle.tab_tasks.proofs.waiting.all_waiting.Goals.{in-Some+in_ok-push, in_default}

pub loop-place-preserved : goal.loop-place-preserved
loop-place-preserved c =
    let ts : List TaskRow = values_of c.args.rows.now.entries in
    let before : List TaskRow = filter is_waiting (take c.loop-place.place ts) in
    let after : List TaskRow = filter is_waiting (take (c.loop-place.place + 1) ts) in
    let more : List TaskRow = if_waiting (slice_get ts c.loop-place.place) in
    let within : c.loop-place.place < length ts = omega arith in
    let is : after ≡ before ++ more = all_more ts c.loop-place.place within in
    elim c.match-waiting_row.branch [
      | in-Some+in_ok-push w ↦ rw (w.found-is, w.in_ok-push.ensures.items) (found_more c.loop-place.found.items w.in-Some.row before after more c.loop-place.invariant w.in-Some.ensures is)
      | in_default w ↦ rw w.found-is (found_same c.loop-place.found.items before after more c.loop-place.invariant w.in_default.ensures is)
    ]
