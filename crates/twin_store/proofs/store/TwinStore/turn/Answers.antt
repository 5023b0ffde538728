use Rattle.std.proofs.Common.{◌≡◌, ◌+◌, ℕ, List, length, ◌∙◌, ap, sym, subst, arith}
use Rattle.host_desk.specs.Since.{IsSettled}
use Rattle.gate_log.specs.Format.{new_file}
use Rattle.gate_log.specs.Log.{Mark, Describes}
use Rattle.gate_log.specs.Making.{CanBeMade}
use Rattle.twin_store.specs.Pairs.{other_of}
use Rattle.twin_store.proofs.Turning.{can_turn, turn_run, log_turned, turn_moments, turn_says, turn_current, turn_settled}
use Rattle.twin_store.proofs.store.TwinStore.turn.Goals as goal

pub make_log-requires-clause-can : goal.make_log-requires-clause-can
make_log-requires-clause-can g c = λ told.
    let log : Mark = c.args.self.log in
    let old = g.H.Host.desk c.args.host.now in
    subst (λ (n : ℕ). CanBeMade (old.seen n)) (sym (c.other_file-other.ensures ∙ ap other_of c.file.ensures)) (can_turn log.generation (old.seen (other_of log.file)) (c.requires.current told).behind)

pub returns-in-Ok-clause-any_moment : goal.returns-in-Ok-clause-any_moment
returns-in-Ok-clause-any_moment g c = λ told.
    let log : Mark = c.args.self.log in
    let snapshot : List ℕ = c.args.snapshot.now in
    let old = g.H.Host.desk c.args.host.now in
    let new = g.H.Host.desk c.make_log.new.host in
    let is : c.other_file-other.result ≡ other_of log.file = c.other_file-other.ensures ∙ ap other_of c.file.ensures in
    let next : c.generation-generation.result + 1 ≡ log.generation + 1 = ap (λ (n : ℕ). n + 1) c.generation-generation.ensures in
    let run = turn_run log snapshot old new c.other_file-other.result (c.generation-generation.result + 1) is next (c.make_log.ensures.any_moment told) in
    turn_moments log snapshot old c.requires.file.number (c.requires.current told) (omega (arith, c.requires.generation)) (omega arith) new run (c.requires.settled told)

pub returns-in-Err-Full-clause-any_moment : goal.returns-in-Err-Full-clause-any_moment
returns-in-Err-Full-clause-any_moment g c = λ told.
    let log : Mark = c.args.self.log in
    let snapshot : List ℕ = c.args.snapshot.now in
    let old = g.H.Host.desk c.args.host.now in
    let new = g.H.Host.desk c.make_log.new.host in
    let is : c.other_file-other.result ≡ other_of log.file = c.other_file-other.ensures ∙ ap other_of c.file.ensures in
    let next : c.generation-generation.result + 1 ≡ log.generation + 1 = ap (λ (n : ℕ). n + 1) c.generation-generation.ensures in
    let run = turn_run log snapshot old new c.other_file-other.result (c.generation-generation.result + 1) is next (c.make_log.ensures.any_moment told) in
    turn_moments log snapshot old c.requires.file.number (c.requires.current told) (omega (arith, c.requires.generation)) (omega arith) new run (c.requires.settled told)

pub returns-in-Err-OutOfMemory-clause-any_moment :
    goal.returns-in-Err-OutOfMemory-clause-any_moment
returns-in-Err-OutOfMemory-clause-any_moment g c = λ told.
    let log : Mark = c.args.self.log in
    let snapshot : List ℕ = c.args.snapshot.now in
    let old = g.H.Host.desk c.args.host.now in
    let new = g.H.Host.desk c.make_log.new.host in
    let is : c.other_file-other.result ≡ other_of log.file = c.other_file-other.ensures ∙ ap other_of c.file.ensures in
    let next : c.generation-generation.result + 1 ≡ log.generation + 1 = ap (λ (n : ℕ). n + 1) c.generation-generation.ensures in
    let run = turn_run log snapshot old new c.other_file-other.result (c.generation-generation.result + 1) is next (c.make_log.ensures.any_moment told) in
    turn_moments log snapshot old c.requires.file.number (c.requires.current told) (omega (arith, c.requires.generation)) (omega arith) new run (c.requires.settled told)

pub returns-in-Err-Failed-clause-any_moment : goal.returns-in-Err-Failed-clause-any_moment
returns-in-Err-Failed-clause-any_moment g c = λ told.
    let log : Mark = c.args.self.log in
    let snapshot : List ℕ = c.args.snapshot.now in
    let old = g.H.Host.desk c.args.host.now in
    let new = g.H.Host.desk c.make_log.new.host in
    let is : c.other_file-other.result ≡ other_of log.file = c.other_file-other.ensures ∙ ap other_of c.file.ensures in
    let next : c.generation-generation.result + 1 ≡ log.generation + 1 = ap (λ (n : ℕ). n + 1) c.generation-generation.ensures in
    let run = turn_run log snapshot old new c.other_file-other.result (c.generation-generation.result + 1) is next (c.make_log.ensures.any_moment told) in
    turn_moments log snapshot old c.requires.file.number (c.requires.current told) (omega (arith, c.requires.generation)) (omega arith) new run (c.requires.settled told)

pub returns-in-Ok-clause-turned : goal.returns-in-Ok-clause-turned
returns-in-Ok-clause-turned g c = λ told.
    let log : Mark = c.args.self.log in
    let snapshot : List ℕ = c.args.snapshot.now in
    let old = g.H.Host.desk c.args.host.now in
    let new = g.H.Host.desk c.make_log.new.host in
    let is : c.other_file-other.result ≡ other_of log.file = c.other_file-other.ensures ∙ ap other_of c.file.ensures in
    let next : c.generation-generation.result + 1 ≡ log.generation + 1 = ap (λ (n : ℕ). n + 1) c.generation-generation.ensures in
    let run = turn_run log snapshot old new c.other_file-other.result (c.generation-generation.result + 1) is next (c.make_log.ensures.any_moment told) in
    let made : new.seen (other_of log.file) ≡ new_file (log.generation + 1) snapshot = ap new.seen (sym is) ∙ c.in-Ok.ensures.made told ∙ ap (λ (n : ℕ). new_file n snapshot) next in
    turn_says log snapshot old c.requires.file.number (c.requires.current told) (omega (arith, c.requires.generation)) (omega arith) new run made

pub returns-in-Ok-clause-current : goal.returns-in-Ok-clause-current
returns-in-Ok-clause-current g c = λ told.
    let log : Mark = c.args.self.log in
    let snapshot : List ℕ = c.args.snapshot.now in
    let old = g.H.Host.desk c.args.host.now in
    let new = g.H.Host.desk c.make_log.new.host in
    let is : c.other_file-other.result ≡ other_of log.file = c.other_file-other.ensures ∙ ap other_of c.file.ensures in
    let next : c.generation-generation.result + 1 ≡ log.generation + 1 = ap (λ (n : ℕ). n + 1) c.generation-generation.ensures in
    let run = turn_run log snapshot old new c.other_file-other.result (c.generation-generation.result + 1) is next (c.make_log.ensures.any_moment told) in
    let log_is = log_turned log c.in-Ok.log (length snapshot) c.other_file-other.result (c.generation-generation.result + 1) c.limit.result is next c.limit.ensures c.in-Ok.ensures.log in
    turn_current log snapshot old c.requires.file.number (c.requires.current told) (omega (arith, c.requires.generation)) (omega arith) new run c.in-Ok.log log_is (subst (λ (n : ℕ). Describes c.in-Ok.log (new.seen n)) is (c.in-Ok.ensures.describes told))

pub returns-in-Ok-clause-settled : goal.returns-in-Ok-clause-settled
returns-in-Ok-clause-settled g c = λ told.
    let log : Mark = c.args.self.log in
    let snapshot : List ℕ = c.args.snapshot.now in
    let old = g.H.Host.desk c.args.host.now in
    let new = g.H.Host.desk c.make_log.new.host in
    let is : c.other_file-other.result ≡ other_of log.file = c.other_file-other.ensures ∙ ap other_of c.file.ensures in
    let next : c.generation-generation.result + 1 ≡ log.generation + 1 = ap (λ (n : ℕ). n + 1) c.generation-generation.ensures in
    let run = turn_run log snapshot old new c.other_file-other.result (c.generation-generation.result + 1) is next (c.make_log.ensures.any_moment told) in
    turn_settled log snapshot old c.requires.file.number (c.requires.current told) (omega (arith, c.requires.generation)) (omega arith) new run (c.requires.settled told) (subst (λ (n : ℕ). IsSettled new n) is (c.in-Ok.ensures.settled told))
