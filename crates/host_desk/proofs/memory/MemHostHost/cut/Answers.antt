use Rattle.std.proofs.Common.{◌≡◌, ◌++◌, [], ◌∷◌, true, false, ◌∙◌}
use Rattle.host_desk.specs.declared.call.Call.TheVariants.{Cut as CutCall}
use Rattle.host_desk.specs.Desk.{Cut}
use Rattle.host_desk.specs.Replay.{items_of, run, start}
use Rattle.host_desk.specs.MemHost.{name_of}
use Rattle.host_desk.specs.ReplayLaws.{opened_of, changes_kept, seen_after_kept, step_cut, cut_holds, seen_there}
use Rattle.host_desk.proofs.memory.MemHostHost.cut.Goals as goal

pub returns-then-is_failing-clause-disk : goal.returns-then-is_failing-clause-disk
returns-then-is_failing-clause-disk c =
    let m = c.args.self.now in
    let n = c.fault.new.self in
    let first : n.first.items ≡ m.first.items = cc in
    let kept : n.calls.items ≡ m.calls.items ++ CutCall c.args.file c.args.len false ∷ [] = cc (c.in_ok-keep.ensures.kept) in
    changes_kept (opened_of (name_of m.first_name) (name_of m.second_name)) (opened_of (name_of n.first_name) (name_of n.second_name)) m.first.items n.first.items m.calls.items n.calls.items (CutCall c.args.file c.args.len false) m.store_faults m.say_faults n.store_faults n.say_faults first kept (Cut c.args.len) c.args.file (step_cut (run (start (items_of m.first.items)) m.calls.items) c.args.file c.args.len false)

pub returns-clause-disk : goal.returns-clause-disk
returns-clause-disk c =
    let m = c.args.self.now in
    let n = c.keep-2.new.self in
    let first : n.first.items ≡ m.first.items = cc in
    let kept : n.calls.items ≡ m.calls.items ++ CutCall c.args.file c.args.len true ∷ [] = cc (c.in_ok-keep-2.ensures.kept) in
    changes_kept (opened_of (name_of m.first_name) (name_of m.second_name)) (opened_of (name_of n.first_name) (name_of n.second_name)) m.first.items n.first.items m.calls.items n.calls.items (CutCall c.args.file c.args.len true) m.store_faults m.say_faults n.store_faults n.say_faults first kept (Cut c.args.len) c.args.file (step_cut (run (start (items_of m.first.items)) m.calls.items) c.args.file c.args.len true)

pub returns-clause-written : goal.returns-clause-written
returns-clause-written c =
    let m = c.args.self.now in
    let n = c.keep-2.new.self in
    let first : n.first.items ≡ m.first.items = cc in
    let kept : n.calls.items ≡ m.calls.items ++ CutCall c.args.file c.args.len true ∷ [] = cc (c.in_ok-keep-2.ensures.kept) in
    seen_after_kept (opened_of (name_of m.first_name) (name_of m.second_name)) (opened_of (name_of n.first_name) (name_of n.second_name)) m.first.items n.first.items m.calls.items n.calls.items (CutCall c.args.file c.args.len true) m.store_faults m.say_faults n.store_faults n.say_faults first kept c.args.file ∙ cut_holds (run (start (items_of m.first.items)) m.calls.items) c.args.file c.args.len (seen_there m.first.items m.files.items m.calls.items c.args.file m.seen m.four c.requires.file.number)
