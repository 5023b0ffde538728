use Rattle.std.proofs.Common.{◌≡◌, ◌+◌, ◌-◌, ◌<◌, ◌≤◌, ◌⊎◌, inl, inr, ⊎_elim, ℕ, List, length, arith, ap}
use Rattle.gate_log.proofs.Heads.{frame_there, torn_there}
use Rattle.gate_log.proofs.reading.read_head.Goals as goal

pub returns-then-is_whole-clause-head : goal.returns-then-is_whole-clause-head
returns-then-is_whole-clause-head g c = λ told.
    let bytes = (g.H.Host.desk c.args.host.now).seen c.args.file in
    let later = ap (λ (s : ℕ → List ℕ). s c.args.file) (c.read_full.ensures.disk told).seen in
    let long : c.args.file_length ≡ length bytes = c.requires.file_length told in
    let whole : (4 ≤ c.in_ok-count.count) × (0 < c.u32_of-size.result) × (c.u32_of-size.result < c.args.file_length - c.args.place - 5) = c.is_whole.ensures.yes c.if-is_whole.true in
    frame_there bytes ((g.H.Host.desk c.read_full.new.host).seen c.args.file) c.args.place c.read_full.new.into c.read_full-2.new.into c.in_ok-read_full.field-0 c.in_ok-count.count c.u32_of-size.result later (omega (arith, long)) (c.in_ok-read_full.ensures.filled told) c.if-gate-ne1.false (c.in_ok-count.ensures.filled told) c.u32_of-size.ensures
    (omega (arith, whole.0, c.in_ok-count.ensures.count)) whole.1 (omega (arith, whole.2, long))

pub returns-else-is_whole-clause-head : goal.returns-else-is_whole-clause-head
returns-else-is_whole-clause-head g c = λ told.
    let bytes = (g.H.Host.desk c.args.host.now).seen c.args.file in
    let later = ap (λ (s : ℕ → List ℕ). s c.args.file) (c.read_full.ensures.disk told).seen in
    let long : c.args.file_length ≡ length bytes = c.requires.file_length told in
    let torn : (c.in_ok-count.count < 4) ⊎ ((c.u32_of-size.result ≡ 0) ⊎ (length bytes ≤ c.args.place + 5 + c.u32_of-size.result)) = ⊎_elim (λ few. inl few) (λ rest. inr (⊎_elim (λ none. inl none) (λ short. inr (omega arith)) rest)) (c.is_whole.ensures.no c.if-is_whole.false) in
    torn_there bytes ((g.H.Host.desk c.read_full.new.host).seen c.args.file) c.args.place c.read_full.new.into c.read_full-2.new.into c.in_ok-read_full.field-0 c.in_ok-count.count c.u32_of-size.result later (omega (arith, long)) (c.in_ok-read_full.ensures.filled told) c.if-gate-ne1.false (c.in_ok-count.ensures.filled told) c.u32_of-size.ensures
    (c.in_ok-count.ensures.count) (omega (arith, long)) torn
