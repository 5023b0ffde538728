use Rattle.std.proofs.Common.{List, ℕ, ap, ◌∙◌, ◌≡◌, ◌++◌, [], ◌∷◌, refl, rules}
use Rattle.std.specs.Prelude.{Option, Some, string_bytes}
use Rattle.host_desk.specs.declared.call.Call.TheVariants.{Look}
use Rattle.host_desk.specs.MemHost.{name_of}
use Rattle.host_desk.specs.ReplayLaws.{opened_of, stays_kept}
use Rattle.host_desk.proofs.Saying.{opened_first, opened_second}
use Rattle.host_desk.proofs.memory.MemHostHost.open_pair.Goals as goal

pub returns-then-fails-clause-disk : goal.returns-then-fails-clause-disk
returns-then-fails-clause-disk c =
    let m = c.args.self.now in
    let n = c.fault-then-fails.new.self in
    let first : n.first.items ≡ m.first.items = cc in
    let kept : n.calls.items ≡ m.calls.items ++ Look ∷ [] = cc (c.in_ok-keep.ensures.kept) in
    stays_kept (opened_of (name_of m.first_name) (name_of m.second_name)) (opened_of (name_of n.first_name) (name_of n.second_name)) m.first.items n.first.items m.calls.items n.calls.items Look m.store_faults m.say_faults n.store_faults n.say_faults first kept refl

pub returns-then-pair-eq0-clause-disk : goal.returns-then-pair-eq0-clause-disk
returns-then-pair-eq0-clause-disk c =
    let m = c.args.self.now in
    let n = c.keep.new.self in
    let first : n.first.items ≡ m.first.items = cc in
    let kept : n.calls.items ≡ m.calls.items ++ Look ∷ [] = cc (c.in_ok-keep.ensures.kept) in
    stays_kept (opened_of (name_of m.first_name) (name_of m.second_name)) (opened_of (name_of (Some c.in-Ok.name)) (name_of n.second_name)) m.first.items n.first.items m.calls.items n.calls.items Look m.store_faults m.say_faults n.store_faults n.say_faults first kept refl

pub returns-else-pair-eq0-clause-disk : goal.returns-else-pair-eq0-clause-disk
returns-else-pair-eq0-clause-disk c =
    let m = c.args.self.now in
    let n = c.keep.new.self in
    let first : n.first.items ≡ m.first.items = cc in
    let kept : n.calls.items ≡ m.calls.items ++ Look ∷ [] = cc (c.in_ok-keep.ensures.kept) in
    stays_kept (opened_of (name_of m.first_name) (name_of m.second_name)) (opened_of (name_of n.first_name) (name_of (Some c.in-Ok.name))) m.first.items n.first.items m.calls.items n.calls.items Look m.store_faults m.say_faults n.store_faults n.say_faults first kept refl

pub returns-then-pair-eq0-clause-opened : goal.returns-then-pair-eq0-clause-opened
returns-then-pair-eq0-clause-opened c =
    let m = c.args.self.now in
    let n = c.keep.new.self in
    let same : n.second_name ≡ m.second_name = cc in
    let bytes : string_bytes c.in-Ok.name ≡ c.args.name.now = search rules in
    ap (λ (b : List ℕ). opened_of (Some b) (name_of n.second_name)) bytes ∙ ap (λ (b : Option (List ℕ)). opened_of (Some c.args.name.now) b) (ap name_of same) ∙ opened_first (name_of m.first_name) (name_of m.second_name) (Some c.args.name.now) c.args.pair c.if-pair-eq0.true

pub returns-else-pair-eq0-clause-opened : goal.returns-else-pair-eq0-clause-opened
returns-else-pair-eq0-clause-opened c =
    let m = c.args.self.now in
    let n = c.keep.new.self in
    let same : n.first_name ≡ m.first_name = cc in
    let bytes : string_bytes c.in-Ok.name ≡ c.args.name.now = search rules in
    ap (λ (b : List ℕ). opened_of (name_of n.first_name) (Some b)) bytes ∙ ap (λ (b : Option (List ℕ)). opened_of b (Some c.args.name.now)) (ap name_of same) ∙ opened_second (name_of m.first_name) (name_of m.second_name) (Some c.args.name.now) c.args.pair c.requires.number c.if-pair-eq0.false
