use Rattle.std.proofs.Common.{◌≡◌, ◌≤◌, List, length, take, refl, sym, subst, rules}
use Rattle.host_desk.specs.declared.call.Call.{Call}
use Rattle.host_desk.specs.Replay.{AddsSay}
use Rattle.host_desk.specs.MemHost.{name_of}
use Rattle.host_desk.specs.ReplayLaws.{opened_of}
use Rattle.host_desk.proofs.Saying.{says_by, says_none_by}
use Rattle.host_desk.proofs.memory.MemHostHost.say.Goals as goal

pub returns-in_err-keep_said-clause-some : goal.returns-in_err-keep_said-clause-some
returns-in_err-keep_said-clause-some c =
    let m = c.args.self.now in
    let n = c.keep_said.new.self in
    let first : n.first.items ≡ m.first.items = cc in
    says_none_by (opened_of (name_of m.first_name) (name_of m.second_name)) (opened_of (name_of n.first_name) (name_of n.second_name)) m.first.items n.first.items m.calls.items n.calls.items c.args.bytes.now m.store_faults m.say_faults n.store_faults n.say_faults first c.in_err-keep_said.ensures.not_kept

pub returns-then-fails-2-clause-some : goal.returns-then-fails-2-clause-some
returns-then-fails-2-clause-some c =
    let m = c.args.self.now in
    let n = c.say_fault.new.self in
    let count = c.if-fails.count in
    let first : n.first.items ≡ m.first.items = cc in
    let calls : n.calls.items ≡ c.keep_said.new.self.calls.items = cc in
    let le : count ≤ length c.args.bytes.now = search rules in
    record { count = count; within = le; says = says_by (opened_of (name_of m.first_name) (name_of m.second_name)) (opened_of (name_of n.first_name) (name_of n.second_name)) m.first.items n.first.items m.calls.items n.calls.items c.args.bytes.now m.store_faults m.say_faults n.store_faults n.say_faults first (take count c.args.bytes.now) count (subst (λ (l : List Call). AddsSay (take count c.args.bytes.now) m.calls.items l) (sym calls) c.in_ok-keep_said.ensures.kept) refl }

pub returns-then-not-is_empty-clause-said : goal.returns-then-not-is_empty-clause-said
returns-then-not-is_empty-clause-said c =
    let m = c.args.self.now in
    let n = c.say_fault-then-not-is_empty.new.self in
    let count = c.if-fails.count in
    let first : n.first.items ≡ m.first.items = cc in
    let calls : n.calls.items ≡ c.keep_said.new.self.calls.items = cc in
    says_by (opened_of (name_of m.first_name) (name_of m.second_name)) (opened_of (name_of n.first_name) (name_of n.second_name)) m.first.items n.first.items m.calls.items n.calls.items c.args.bytes.now m.store_faults m.say_faults n.store_faults n.say_faults first (take count c.args.bytes.now) count (subst (λ (l : List Call). AddsSay (take count c.args.bytes.now) m.calls.items l) (sym calls) c.in_ok-keep_said.ensures.kept) refl

pub returns-then-not-is_empty-clause-some : goal.returns-then-not-is_empty-clause-some
returns-then-not-is_empty-clause-some c =
    let le : c.if-fails.count ≤ length c.args.bytes.now = search rules in
    record { count = c.if-fails.count; within = le; says = returns-then-not-is_empty-clause-said c }

pub returns-else-count-eq0-clause-said : goal.returns-else-count-eq0-clause-said
returns-else-count-eq0-clause-said c =
    let m = c.args.self.now in
    let n = c.keep_said.new.self in
    let count = c.if-fails.count in
    let first : n.first.items ≡ m.first.items = cc in
    says_by (opened_of (name_of m.first_name) (name_of m.second_name)) (opened_of (name_of n.first_name) (name_of n.second_name)) m.first.items n.first.items m.calls.items n.calls.items c.args.bytes.now m.store_faults m.say_faults n.store_faults n.say_faults first (take count c.args.bytes.now) count c.in_ok-keep_said.ensures.kept refl

pub returns-else-count-eq0-clause-some : goal.returns-else-count-eq0-clause-some
returns-else-count-eq0-clause-some c =
    let le : c.if-fails.count ≤ length c.args.bytes.now = search rules in
    record { count = c.if-fails.count; within = le; says = returns-else-count-eq0-clause-said c }
