use Rattle.std.proofs.Common.{◌≡◌, ◌++◌, [], ◌∷◌, List, ℕ, true, false, ◌∙◌, subst, rules}
use Rattle.host_desk.specs.declared.call.Call.TheVariants.{Write}
use Rattle.host_desk.specs.Desk.{Holds}
use Rattle.host_desk.specs.Replay.{file_of, items_of, run, start}
use Rattle.host_desk.specs.MemHost.{name_of}
use Rattle.host_desk.specs.ReplayLaws.{opened_of, seen_after_kept, written_kept, write_holds, seen_there}
use Rattle.host_desk.proofs.memory.MemHostHost.write_at.Goals as goal

pub returns-then-is_failing-clause-disk : goal.returns-then-is_failing-clause-disk
returns-then-is_failing-clause-disk c =
    let same : c.in-Ok.bytes.items ≡ c.args.bytes.now = search rules in
    let m = c.args.self.now in
    let n = c.fault-then-is_failing.new.self in
    let first : n.first.items ≡ m.first.items = cc in
    let kept : n.calls.items ≡ m.calls.items ++ Write c.args.file c.args.at c.in-Ok.bytes false ∷ [] = cc (c.in_ok-keep.ensures.kept) in
    written_kept (opened_of (name_of m.first_name) (name_of m.second_name)) (opened_of (name_of n.first_name) (name_of n.second_name)) m.first.items n.first.items m.calls.items n.calls.items c.args.file c.args.at c.in-Ok.bytes false m.store_faults m.say_faults n.store_faults n.say_faults c.args.bytes.now first kept same

pub returns-clause-disk : goal.returns-clause-disk
returns-clause-disk c =
    let same : c.in-Ok.bytes.items ≡ c.args.bytes.now = search rules in
    let m = c.args.self.now in
    let n = c.keep-2.new.self in
    let first : n.first.items ≡ m.first.items = cc in
    let kept : n.calls.items ≡ m.calls.items ++ Write c.args.file c.args.at c.in-Ok.bytes true ∷ [] = cc (c.in_ok-keep-2.ensures.kept) in
    written_kept (opened_of (name_of m.first_name) (name_of m.second_name)) (opened_of (name_of n.first_name) (name_of n.second_name)) m.first.items n.first.items m.calls.items n.calls.items c.args.file c.args.at c.in-Ok.bytes true m.store_faults m.say_faults n.store_faults n.say_faults c.args.bytes.now first kept same

pub returns-clause-written : goal.returns-clause-written
returns-clause-written c =
    let same : c.in-Ok.bytes.items ≡ c.args.bytes.now = search rules in
    let m = c.args.self.now in
    let n = c.keep-2.new.self in
    let first : n.first.items ≡ m.first.items = cc in
    let kept : n.calls.items ≡ m.calls.items ++ Write c.args.file c.args.at c.in-Ok.bytes true ∷ [] = cc (c.in_ok-keep-2.ensures.kept) in
    subst (λ (b : List ℕ). Holds (file_of (run (start (items_of m.first.items)) m.calls.items).seen c.args.file) c.args.at b (file_of (run (start (items_of n.first.items)) n.calls.items).seen c.args.file)) same (seen_after_kept (opened_of (name_of m.first_name) (name_of m.second_name)) (opened_of (name_of n.first_name) (name_of n.second_name)) m.first.items n.first.items m.calls.items n.calls.items (Write c.args.file c.args.at c.in-Ok.bytes true) m.store_faults m.say_faults n.store_faults n.say_faults first kept c.args.file ∙ write_holds (run (start (items_of m.first.items)) m.calls.items) c.args.file c.args.at c.in-Ok.bytes.items (seen_there m.first.items m.files.items m.calls.items c.args.file m.seen m.four c.requires.file.number) c.requires.place)
