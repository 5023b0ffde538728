use Rattle.std.proofs.Common.{◌≡◌, Bool, if◌then◌else◌, ◌≤◌, ◌+◌, ◌-◌, ◌*◌, ◌++◌, [], drop, length, length-drop, true, ℕ, List, arith, sym, ◌∙◌, ap, subst, refl}
use Rattle.input_lines.specs.Reading.{Finds, unread, work_left}
use Rattle.input_lines.specs.Buffers.{reading_of, Takes}
use Rattle.input_lines.proofs.Looking.{found_short, last_short, found_cut, found_whole, looks_on, found_last, loses, drop_end}
use Rattle.input_lines.proofs.buffer.find_line.Goals as goal

pub take_part-requires-clause-size : goal.take_part-requires-clause-size
take_part-requires-clause-size g c =
    let i = c.loop-taken.invariant in
    omega (arith, i.size, i.buffer.taken, i.buffer.fits, ap length c.deref.ensures.value)

pub returns-then-taken-clause-found : goal.returns-then-taken-clause-found
returns-then-taken-clause-found g c = λ told.
    let b = c.loop-taken.buffer in
    let taken = c.in_ok-taken.taken in
    let before : List ℕ = c.loop-taken.line.items in
    let after : List ℕ = c.take_part.new.line.items in
    let takes = subst (λ (l : List ℕ). Takes (drop b.start l) (drop taken.next l) c.loop-taken.size before after taken.is_ended taken.size) c.deref.ensures.value c.in_ok-taken.ensures.takes in
    let whole = found_whole (reading_of c.args.buffer.now) (g.S.Source.remaining c.args.source.now) (reading_of b) (g.S.Source.remaining c.loop-taken.source) before c.loop-taken.size g.S.Source.tells c.loop-taken.invariant.looking (drop taken.next b.bytes.items) after taken.is_ended taken.size takes told c.if-taken.true in
    subst (λ f. Finds f (unread (reading_of c.args.buffer.now) (g.S.Source.remaining c.args.source.now)) after (drop taken.next b.bytes.items ++ g.S.Source.remaining c.loop-taken.source)) (sym c.whole.ensures) whole

pub returns-then-taken-clause-cut : goal.returns-then-taken-clause-cut
returns-then-taken-clause-cut g c = λ told unended.
    let b = c.loop-taken.buffer in
    let taken = c.in_ok-taken.taken in
    let before : List ℕ = c.loop-taken.line.items in
    let after : List ℕ = c.take_part.new.line.items in
    let takes = subst (λ (l : List ℕ). Takes (drop b.start l) (drop taken.next l) c.loop-taken.size before after taken.is_ended taken.size) c.deref.ensures.value c.in_ok-taken.ensures.takes in
    let cut = found_cut (reading_of c.args.buffer.now) (g.S.Source.remaining c.args.source.now) (reading_of b) (g.S.Source.remaining c.loop-taken.source) before c.loop-taken.size g.S.Source.tells c.loop-taken.invariant.looking (drop taken.next b.bytes.items) after taken.is_ended taken.size takes told c.if-taken.true in
    (sym c.loop-taken.invariant.still ∙ unended, cut)

pub returns-in_err-refill-clause-lost : goal.returns-in_err-refill-clause-lost
returns-in_err-refill-clause-lost g c = λ told err.
    let b = c.loop-taken.buffer in
    let taken = c.in_ok-taken.taken in
    let before : List ℕ = c.loop-taken.line.items in
    let after : List ℕ = c.take_part.new.line.items in
    let takes = subst (λ (l : List ℕ). Takes (drop b.start l) (drop taken.next l) c.loop-taken.size before after taken.is_ended taken.size) c.deref.ensures.value c.in_ok-taken.ensures.takes in
    loses (reading_of c.args.buffer.now) (g.S.Source.remaining c.args.source.now) (reading_of b) (g.S.Source.remaining c.loop-taken.source) before c.loop-taken.size g.S.Source.tells c.loop-taken.invariant.looking (drop taken.next b.bytes.items) after taken.is_ended taken.size takes told c.if-taken.false (g.S.Source.remaining c.refill.new.source) (c.in_err-refill.ensures.same told refl).0

pub returns-then-not-branch-clause-found : goal.returns-then-not-branch-clause-found
returns-then-not-branch-clause-found g c = λ told.
    let b = c.loop-taken.buffer in
    let taken = c.in_ok-taken.taken in
    let before : List ℕ = c.loop-taken.line.items in
    let after : List ℕ = c.take_part.new.line.items in
    let takes = subst (λ (l : List ℕ). Takes (drop b.start l) (drop taken.next l) c.loop-taken.size before after taken.is_ended taken.size) c.deref.ensures.value c.in_ok-taken.ensures.takes in
    let none = c.in_ok-refill.ensures.none c.if-not-branch.true in
    let rest : unread (reading_of c.refill.new.buffer) (g.S.Source.remaining c.refill.new.source) ≡ [] = drop_end c.refill.new.buffer.bytes.items c.refill.new.buffer.start none.1 (g.S.Source.remaining c.refill.new.source) (c.in_ok-refill.ensures.ended told none.0) in
    let last = found_last (reading_of c.args.buffer.now) (g.S.Source.remaining c.args.source.now) (reading_of b) (g.S.Source.remaining c.loop-taken.source) before c.loop-taken.size g.S.Source.tells c.loop-taken.invariant.looking (drop taken.next b.bytes.items) after taken.is_ended taken.size takes told c.if-taken.false (none.2 told) (unread (reading_of c.refill.new.buffer) (g.S.Source.remaining c.refill.new.source)) rest in
    subst (λ f. Finds f (unread (reading_of c.args.buffer.now) (g.S.Source.remaining c.args.source.now)) after (unread (reading_of c.refill.new.buffer) (g.S.Source.remaining c.refill.new.source))) (sym c.last.ensures) last

pub returns-then-taken-clause-short : goal.returns-then-taken-clause-short
returns-then-taken-clause-short g c = λ is.
    let b = c.loop-taken.buffer in
    let taken = c.in_ok-taken.taken in
    let before : List ℕ = c.loop-taken.line.items in
    let after : List ℕ = c.take_part.new.line.items in
    let takes = subst (λ (l : List ℕ). Takes (drop b.start l) (drop taken.next l) c.loop-taken.size before after taken.is_ended taken.size) c.deref.ensures.value c.in_ok-taken.ensures.takes in
    found_short (reading_of c.args.buffer.now) (g.S.Source.remaining c.args.source.now) (reading_of b) (g.S.Source.remaining c.loop-taken.source) before c.loop-taken.size g.S.Source.tells c.loop-taken.invariant.looking (drop taken.next b.bytes.items) after taken.is_ended taken.size takes (sym c.whole.ensures ∙ is)

pub returns-then-not-branch-clause-short : goal.returns-then-not-branch-clause-short
returns-then-not-branch-clause-short g c = λ is.
    let b = c.loop-taken.buffer in
    let taken = c.in_ok-taken.taken in
    let before : List ℕ = c.loop-taken.line.items in
    let after : List ℕ = c.take_part.new.line.items in
    let takes = subst (λ (l : List ℕ). Takes (drop b.start l) (drop taken.next l) c.loop-taken.size before after taken.is_ended taken.size) c.deref.ensures.value c.in_ok-taken.ensures.takes in
    last_short (reading_of c.args.buffer.now) (g.S.Source.remaining c.args.source.now) (reading_of b) (g.S.Source.remaining c.loop-taken.source) before c.loop-taken.size g.S.Source.tells c.loop-taken.invariant.looking (drop taken.next b.bytes.items) after taken.is_ended taken.size takes (sym c.last.ensures ∙ is)

fewer : (more : Bool) (new n : ℕ) (hand : List ℕ) → more ≡ true → new + (if more then 1 else 0) ≤ length hand + n → hand ≡ [] → new + 1 ≤ n
fewer more new n hand on nearer none =
    let step : new + 1 ≤ length hand + n = subst (λ (b : Bool). new + (if b then 1 else 0) ≤ length hand + n) on nearer in
    omega (arith, step, ap length none)

pub loop-taken-preserved : goal.loop-taken-preserved
loop-taken-preserved g c =
    let b = c.loop-taken.buffer in
    let taken = c.in_ok-taken.taken in
    let before : List ℕ = c.loop-taken.line.items in
    let after : List ℕ = c.take_part.new.line.items in
    let takes = subst (λ (l : List ℕ). Takes (drop b.start l) (drop taken.next l) c.loop-taken.size before after taken.is_ended taken.size) c.deref.ensures.value c.in_ok-taken.ensures.takes in
    record {
      buffer = c.refill.ensures.buffer;
      limit = c.refill.ensures.limit ∙ c.loop-taken.invariant.limit;
      still = c.in_ok-refill.ensures.still c.if-not-branch.false ∙ c.loop-taken.invariant.still;
      counts = omega (arith, c.refill.ensures.counts, c.loop-taken.invariant.counts);
      ended = λ told. c.in_ok-refill.ensures.ended told;
      taken = λ told. c.in_ok-refill.ensures.taken told ∙ c.loop-taken.invariant.taken told;
      size = omega (arith, c.loop-taken.invariant.size, c.in_ok-refill.ensures.came c.if-not-branch.false, takes.adds.size_is, ap length (takes.all c.if-taken.false).0, length-drop b.start b.bytes.items);
      looking = looks_on (reading_of c.args.buffer.now) (g.S.Source.remaining c.args.source.now) (reading_of b) (g.S.Source.remaining c.loop-taken.source) before c.loop-taken.size g.S.Source.tells c.loop-taken.invariant.looking (drop taken.next b.bytes.items) after taken.is_ended taken.size takes c.if-taken.false (reading_of c.refill.new.buffer) (g.S.Source.remaining c.refill.new.source) (fewer c.in_ok-refill.field-0 (work_left (reading_of c.refill.new.buffer)) (2 * (b.limit - b.taken)) (drop taken.next b.bytes.items) c.if-not-branch.false c.in_ok-refill.ensures.nearer (takes.all c.if-taken.false).1) (λ told. c.in_ok-refill.ensures.more told);
    }
