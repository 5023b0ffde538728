use Rattle.std.proofs.Common.{◌≡◌, ◌<◌, ◌-◌, ◌∙◌, ap, List, ℕ, length, replicate, rules}
use Rattle.host_desk.specs.Replay.{written}
use Rattle.host_desk.proofs.FileLists.{items_of-read}
use Rattle.host_desk.proofs.Stops.{tore_write, tore_cut}
use Rattle.host_desk.proofs.stop.tear.Goals as goal

pub returns-in_ok-fill_over-in-Write : goal.returns-in_ok-fill_over-in-Write
returns-in_ok-fill_over-in-Write c =
    let files = c.args.left.now.items in
    let call = c.in-Write in
    let less : call.file < length files = search rules in
    let there = items_of-read files call.file c.index_mut.result.now c.index_mut.ensures.value less in
    let count : c.len-then-file-len.result ≡ length call.bytes.items = search rules in
    tore_write files call.file c.args.call.now c.fill_over.new.file c.args.byte call.at call.bytes call.done call.is (c.in_ok-fill_over-in-Write.ensures ∙ (λ i. written call.at (replicate (count i) c.args.byte) (there i)))

pub returns-in_ok-fill_past-in-Cut : goal.returns-in_ok-fill_past-in-Cut
returns-in_ok-fill_past-in-Cut c =
    let files = c.args.left.now.items in
    let call = c.in-Cut in
    let less : call.file < length files = search rules in
    let there = items_of-read files call.file c.index_mut-then-file-len-2.result.now c.index_mut-then-file-len-2.ensures.value less in
    tore_cut files call.file c.args.call.now c.fill_past.new.file c.args.byte call.len call.done call.is (c.in_ok-fill_past-in-Cut.ensures ∙ ap (λ (l : List ℕ). written call.len (replicate (length l - call.len) c.args.byte) l) there)
