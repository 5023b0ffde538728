use Rattle.std.proofs.Common.{◌≡◌, ◌++◌, [], ◌∷◌, true, false, ◌∙◌, sym}
use Rattle.host_desk.specs.declared.call.Call.TheVariants.{Sync}
use Rattle.host_desk.specs.Desk.{Same}
use Rattle.host_desk.specs.Replay.{items_of, run, start}
use Rattle.host_desk.specs.MemHost.{name_of}
use Rattle.host_desk.specs.ReplayLaws.{opened_of, changes_kept, seen_after_kept, left_after_kept, step_sync, sync_only, reads_now}
use Rattle.host_desk.proofs.memory.MemHostHost.sync.Goals as goal

pub returns-then-is_failing-clause-disk : goal.returns-then-is_failing-clause-disk
returns-then-is_failing-clause-disk c =
    let m = c.args.self.now in
    let n = c.fault.new.self in
    let first : n.first.items ≡ m.first.items = cc in
    let kept : n.calls.items ≡ m.calls.items ++ Sync c.args.file false ∷ [] = cc (c.in_ok-keep.ensures.kept) in
    changes_kept (opened_of (name_of m.first_name) (name_of m.second_name)) (opened_of (name_of n.first_name) (name_of n.second_name)) m.first.items n.first.items m.calls.items n.calls.items (Sync c.args.file false) m.store_faults m.say_faults n.store_faults n.say_faults first kept Same c.args.file (step_sync (run (start (items_of m.first.items)) m.calls.items) c.args.file false (λ i. reads_now (items_of m.first.items) m.calls.items i))

pub returns-then-is_failing-clause-seen : goal.returns-then-is_failing-clause-seen
returns-then-is_failing-clause-seen c =
    let m = c.args.self.now in
    let n = c.fault.new.self in
    let first : n.first.items ≡ m.first.items = cc in
    let kept : n.calls.items ≡ m.calls.items ++ Sync c.args.file false ∷ [] = cc (c.in_ok-keep.ensures.kept) in
    λ i f. seen_after_kept (opened_of (name_of m.first_name) (name_of m.second_name)) (opened_of (name_of n.first_name) (name_of n.second_name)) m.first.items n.first.items m.calls.items n.calls.items (Sync c.args.file false) m.store_faults m.say_faults n.store_faults n.say_faults first kept f i

pub returns-clause-disk : goal.returns-clause-disk
returns-clause-disk c =
    let m = c.args.self.now in
    let n = c.keep-2.new.self in
    let first : n.first.items ≡ m.first.items = cc in
    let kept : n.calls.items ≡ m.calls.items ++ Sync c.args.file true ∷ [] = cc (c.in_ok-keep-2.ensures.kept) in
    changes_kept (opened_of (name_of m.first_name) (name_of m.second_name)) (opened_of (name_of n.first_name) (name_of n.second_name)) m.first.items n.first.items m.calls.items n.calls.items (Sync c.args.file true) m.store_faults m.say_faults n.store_faults n.say_faults first kept Same c.args.file (step_sync (run (start (items_of m.first.items)) m.calls.items) c.args.file true (λ i. reads_now (items_of m.first.items) m.calls.items i))

pub returns-clause-seen : goal.returns-clause-seen
returns-clause-seen c =
    let m = c.args.self.now in
    let n = c.keep-2.new.self in
    let first : n.first.items ≡ m.first.items = cc in
    let kept : n.calls.items ≡ m.calls.items ++ Sync c.args.file true ∷ [] = cc (c.in_ok-keep-2.ensures.kept) in
    λ i f. seen_after_kept (opened_of (name_of m.first_name) (name_of m.second_name)) (opened_of (name_of n.first_name) (name_of n.second_name)) m.first.items n.first.items m.calls.items n.calls.items (Sync c.args.file true) m.store_faults m.say_faults n.store_faults n.say_faults first kept f i

pub returns-clause-durable : goal.returns-clause-durable
returns-clause-durable c =
    let m = c.args.self.now in
    let n = c.keep-2.new.self in
    let first : n.first.items ≡ m.first.items = cc in
    let kept : n.calls.items ≡ m.calls.items ++ Sync c.args.file true ∷ [] = cc (c.in_ok-keep-2.ensures.kept) in
    λ f left. sync_only (run (start (items_of m.first.items)) m.calls.items) c.args.file f (left_after_kept (opened_of (name_of m.first_name) (name_of m.second_name)) (opened_of (name_of n.first_name) (name_of n.second_name)) m.first.items n.first.items m.calls.items n.calls.items (Sync c.args.file true) m.store_faults m.say_faults n.store_faults n.say_faults first kept c.args.file f left) ∙ sym (seen_after_kept (opened_of (name_of m.first_name) (name_of m.second_name)) (opened_of (name_of n.first_name) (name_of n.second_name)) m.first.items n.first.items m.calls.items n.calls.items (Sync c.args.file true) m.store_faults m.say_faults n.store_faults n.say_faults first kept c.args.file)
