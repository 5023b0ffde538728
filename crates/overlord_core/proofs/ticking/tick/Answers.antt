use Rattle.std.proofs.Common.{◌++◌, ◌-◌, ◌≡◌, ◌∙◌, ◌⊎◌, IfOk, None, OnOk, Some, ap, length, rules, subst, sym, true, ℤ}
use Rattle.std.proofs.lemmas.Int.{to_z-of_z}
use mir.Val.{SFits}
use mir.Syntax.{w64}
use Rattle.book_rows.specs.Grant.{moment}
use Rattle.book_rows.specs.Outcome as rules_of
use Rattle.book_rows.specs.Outcome.{row_limit}
use Rattle.book_rows.specs.Shape.{AreDistinct, same_task}
use Rattle.book_rows.specs.Sound.{Sound}
use Rattle.book_rows.specs.SupSteps.{after_tick, tick_outcome, with_tasks}
use Rattle.book_rows.specs.TaskSteps.{all_failed}
use Rattle.book_rows.specs.Ticks.{Ticking, ticked}
use Rattle.book_rows.specs.declared.answers.Ticked.{Ticked}
use Rattle.book_rows.specs.declared.replies.Reply.TheVariants as Replies
use Rattle.book_rows.specs.declared.rows.Book.{Book}
use Rattle.sup_core.specs.Ticking.{tick_fault}
use Rattle.sup_core.specs.declared.answers.SupFault.TheVariants as Faults
use Rattle.book_core.specs.Done.{IsDone}
use Rattle.overlord_core.specs.Supervised.{may_refuse_tick}
use Rattle.book_core.specs.declared.outcomes.Outcome.{Outcome}
use Rattle.book_core.proofs.Refusing.{refusal_done}
use Rattle.overlord_core.proofs.TickOutcomes.{few_tasks, tick_is, tick_may_refuse, tick_refused, ticked_done}
use Rattle.overlord_core.proofs.ticking.tick.Goals as goal

pub told-requires : goal.told-requires
told-requires c =
    let b : Book = c.args.core.now in
    let m : ℤ = c.moment-moment.result in
    let fits : SFits w64 c.args.now = c.ranges.now in
    let fits_moment : SFits w64 m = search rules in
    let k : Ticking = ticked b.offsets m b.supervisors b.sequences in
    let moment_is : m ≡ moment b c.args.now = simp to_z-of_z at c.moment-moment.ensures in
    let passes : tick_fault (row_limit - length b.tasks) k ≡ None = simp to_z-of_z at c.in-Ok.ensures.passes in
    let told : c.in-Ok.ticked ≡ k.told = simp to_z-of_z at c.in-Ok.ensures.told in
    let rows : c.ticked.new.core ≡ record b { sequences = k.rows } = simp to_z-of_z at c.in-Ok.ensures.rows in
    let start : record c.ticked.new.core { clock = m } ≡ record b { clock = m; sequences = k.rows } = ap (λ (x : Book). record x { clock = m }) rows in
    let sound : Sound (tick_outcome b k m).book = subst (λ (z : ℤ). Sound (tick_outcome b (ticked b.offsets z b.supervisors b.sequences) z).book) (sym moment_is) c.requires.after in
    let after : Sound (after_tick k m b) = subst (λ (o : rules_of.Outcome). Sound o.book) (tick_is b k m (few_tasks b c.requires.sound) passes) sound in
    let apart : AreDistinct same_task ((all_failed c.in-Ok.ticked.ended (record c.ticked.new.core { clock = m })).tasks ++ c.in-Ok.ticked.submitted) =
    subst (λ (t : Ticked). AreDistinct same_task ((all_failed t.ended (record c.ticked.new.core { clock = m })).tasks ++ t.submitted)) (sym told)
    (subst (λ (x : Book). AreDistinct same_task ((all_failed k.told.ended x).tasks ++ k.told.submitted)) (sym start) after.shape.keys.tasks) in
    simp to_z-of_z apart

pub returns-in-Ok : goal.returns-in-Ok
returns-in-Ok c =
    let b : Book = c.args.core.now in
    let m : ℤ = c.moment-moment.result in
    let fits : SFits w64 c.args.now = c.ranges.now in
    let fits_moment : SFits w64 m = search rules in
    let k : Ticking = ticked b.offsets m b.supervisors b.sequences in
    let moment_is : m ≡ moment b c.args.now = simp to_z-of_z at c.moment-moment.ensures in
    let passes : tick_fault (row_limit - length b.tasks) k ≡ None = simp to_z-of_z at c.in-Ok.ensures.passes in
    let told : c.in-Ok.ticked ≡ k.told = simp to_z-of_z at c.in-Ok.ensures.told in
    let rows : c.ticked.new.core ≡ record b { sequences = k.rows } = simp to_z-of_z at c.in-Ok.ensures.rows in
    let start : record c.ticked.new.core { clock = m } ≡ record b { clock = m; sequences = k.rows } = ap (λ (x : Book). record x { clock = m }) rows in
    let left : OnOk c.told.result (c.told.new.core ≡ with_tasks c.in-Ok.ticked.submitted (all_failed c.in-Ok.ticked.ended (record c.ticked.new.core { clock = m }))) = simp to_z-of_z at c.told.ensures.after in
    let whole : with_tasks c.in-Ok.ticked.submitted (all_failed c.in-Ok.ticked.ended (record c.ticked.new.core { clock = m })) ≡ after_tick k m b =
    ap (λ (t : Ticked). with_tasks t.submitted (all_failed t.ended (record c.ticked.new.core { clock = m }))) told ∙ ap (λ (x : Book). with_tasks k.told.submitted (all_failed k.told.ended x)) start in
    let done = ticked_done c.told.result c.told.new.core (with_tasks c.in-Ok.ticked.submitted (all_failed c.in-Ok.ticked.ended (record c.ticked.new.core { clock = m })))
    (Replies.Tick c.in-Ok.ticked.abandoned c.in-Ok.ticked.opened c.in-Ok.ticked.paused) c.told.ensures.done left in
    let same : rules_of.changed (with_tasks c.in-Ok.ticked.submitted (all_failed c.in-Ok.ticked.ended (record c.ticked.new.core { clock = m }))) (Replies.Tick c.in-Ok.ticked.abandoned c.in-Ok.ticked.opened c.in-Ok.ticked.paused) ≡ tick_outcome b k m =
    ap (λ (x : Book). rules_of.changed x (Replies.Tick c.in-Ok.ticked.abandoned c.in-Ok.ticked.opened c.in-Ok.ticked.paused)) whole
    ∙ ap (λ (t : Ticked). rules_of.changed (after_tick k m b) (Replies.Tick t.abandoned t.opened t.paused)) told
    ∙ sym (tick_is b k m (few_tasks b c.requires.sound) passes) in
    subst (λ (z : ℤ). IfOk c.told.result (λ o. IsDone o c.told.new.core (tick_outcome b (ticked b.offsets z b.supervisors b.sequences) z))) moment_is
    (subst (λ (o : rules_of.Outcome). IfOk c.told.result (λ d. IsDone d c.told.new.core o)) same done)

pub tick_refusal-requires : goal.tick_refusal-requires
tick_refusal-requires c =
    let b : Book = c.args.core.now in
    let m : ℤ = c.moment-moment.result in
    let fits : SFits w64 c.args.now = c.ranges.now in
    let fits_moment : SFits w64 m = search rules in
    let k : Ticking = ticked b.offsets m b.supervisors b.sequences in
    let moment_is : m ≡ moment b c.args.now = simp to_z-of_z at c.moment-moment.ensures in
    let why : (c.in-Err.fault ≡ Faults.OutOfMemory) ⊎ (tick_fault (row_limit - length b.tasks) k ≡ Some c.in-Err.fault) = simp to_z-of_z at c.in-Err.ensures.refused in
    tick_may_refuse b k m c.in-Err.fault why

pub returns-in_ok-tick_refusal-in-Err : goal.returns-in_ok-tick_refusal-in-Err
returns-in_ok-tick_refusal-in-Err c =
    let b : Book = c.args.core.now in
    let m : ℤ = c.moment-moment.result in
    let fits : SFits w64 c.args.now = c.ranges.now in
    let fits_moment : SFits w64 m = search rules in
    let k : Ticking = ticked b.offsets m b.supervisors b.sequences in
    let moment_is : m ≡ moment b c.args.now = simp to_z-of_z at c.moment-moment.ensures in
    let why : (c.in-Err.fault ≡ Faults.OutOfMemory) ⊎ (tick_fault (row_limit - length b.tasks) k ≡ Some c.in-Err.fault) = simp to_z-of_z at c.in-Err.ensures.refused in
    let rule : tick_outcome b k m ≡ rules_of.refused b c.in_ok-tick_refusal-in-Err.field-0 = tick_refused b k m c.in-Err.fault c.in_ok-tick_refusal-in-Err.field-0 (few_tasks b c.requires.sound) why c.in_ok-tick_refusal-in-Err.ensures in
    let done : IsDone c.refused.result b (tick_outcome b k m) = subst (λ (o : rules_of.Outcome). IsDone c.refused.result b o) (sym rule) (refusal_done c.refused.result b c.in_ok-tick_refusal-in-Err.field-0 c.refused.ensures) in
    subst (λ (z : ℤ). IsDone c.refused.result c.ticked.new.core (tick_outcome b (ticked b.offsets z b.supervisors b.sequences) z)) moment_is
    (subst (λ (x : Book). IsDone c.refused.result x (tick_outcome b k m)) (sym c.in-Err.ensures.err) done)
