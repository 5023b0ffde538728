use Rattle.std.proofs.Common.{◌≡◌, [], ◌∷◌, ◌++◌, List, ℕ, refl, ap, ◌∙◌, subst}
use Rattle.host_desk.specs.declared.call.Call.TheVariants.{Look}
use Rattle.host_desk.specs.Desk.{Fills}
use Rattle.host_desk.specs.Desk.{Fills}
use Rattle.host_desk.specs.MemHost.{name_of}
use Rattle.host_desk.specs.ReplayLaws.{opened_of, stays_kept, stands}
use Rattle.host_desk.proofs.memory.MemHostHost.read_at.Goals as goal

pub returns-then-fails-clause-disk : goal.returns-then-fails-clause-disk
returns-then-fails-clause-disk c =
    let m = c.args.self.now in
    let n = c.fault.new.self in
    let first : n.first.items ≡ m.first.items = cc in
    let kept : n.calls.items ≡ m.calls.items ++ Look ∷ [] = cc (c.in_ok-keep.ensures.kept) in
    stays_kept (opened_of (name_of m.first_name) (name_of m.second_name)) (opened_of (name_of n.first_name) (name_of n.second_name)) m.first.items n.first.items m.calls.items n.calls.items Look m.store_faults m.say_faults n.store_faults n.say_faults first kept refl

pub returns-clause-disk : goal.returns-clause-disk
returns-clause-disk c =
    let m = c.args.self.now in
    let n = c.keep.new.self in
    let first : n.first.items ≡ m.first.items = cc in
    let kept : n.calls.items ≡ m.calls.items ++ Look ∷ [] = cc (c.in_ok-keep.ensures.kept) in
    stays_kept (opened_of (name_of m.first_name) (name_of m.second_name)) (opened_of (name_of n.first_name) (name_of n.second_name)) m.first.items n.first.items m.calls.items n.calls.items Look m.store_faults m.say_faults n.store_faults n.say_faults first kept refl

pub returns-clause-filled : goal.returns-clause-filled
returns-clause-filled c =
    let n = c.keep.new.self in
    let same = (returns-clause-disk c).seen in
    let is = stands n.first.items n.files.items n.calls.items c.args.file c.bytes_of.result.now n.seen c.bytes_of.ensures ∙ ap (λ (f : ℕ → List ℕ). f c.args.file) same in
    subst (λ (b : List ℕ). Fills b c.args.at c.args.into.now c.copy_from.new.into c.copy_from.result) is c.copy_from.ensures.filled
