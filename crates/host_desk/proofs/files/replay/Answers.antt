use Rattle.std.proofs.Common.{◌≡◌, ◌<◌, ◌∙◌, ap, List, ℕ, length, take, set, rules}
use Rattle.host_desk.specs.Replay.{items_of, written}
use Rattle.host_desk.proofs.FileLists.{items_of-read, items_of-set_same, wrote, made_shorter}
use Rattle.host_desk.proofs.files.replay.Goals as goal

pub returns-in_err-write_over-in-Write-clause-not_done : goal.returns-in_err-write_over-in-Write-clause-not_done
returns-in_err-write_over-in-Write-clause-not_done c =
    let same : items_of (set c.args.files.now.items c.in-Write.file c.write_over.new.file) ≡ items_of c.args.files.now.items = items_of-set_same c.args.files.now.items c.in-Write.file c.index_mut.result.now c.write_over.new.file c.index_mut.ensures.value c.in_err-write_over-in-Write.ensures.not_done in
    search rules

pub returns-in_ok-write_over-in-Write-clause-done : goal.returns-in_ok-write_over-in-Write-clause-done
returns-in_ok-write_over-in-Write-clause-done c =
    let files = c.args.files.now.items in
    let call = c.in-Write in
    let less : call.file < length files = search rules in
    let there = items_of-read files call.file c.index_mut.result.now c.index_mut.ensures.value less in
    let over = c.deref.ensures.value in
    wrote files call.file c.args.call.now call.at call.bytes call.done c.write_over.new.file call.is c.if-done.true (c.in_ok-write_over-in-Write.ensures.done ∙ (λ i. written call.at (over i) (there i)))

pub returns-then-file-len-2-clause-done : goal.returns-then-file-len-2-clause-done
returns-then-file-len-2-clause-done c =
    let files = c.args.files.now.items in
    let call = c.in-Cut in
    let less : call.file < length files = search rules in
    let there = items_of-read files call.file c.index_mut-then-file-len-2.result.now c.index_mut-then-file-len-2.ensures.value less in
    made_shorter files call.file c.args.call.now call.len call.done c.cut_to.new.file call.is c.if-done-2.true (c.cut_to.ensures ∙ ap (λ (l : List ℕ). take call.len l) there)
