use Rattle.std.proofs.Common.{◌≡◌, subst, sym}
use Rattle.std.proofs.lemmas.Int.{to_z-of_z}
use mir.Val.{SFits}
use mir.Syntax.{w64}
use Rattle.book_rows.specs.Grant.{counters_at}
use Rattle.book_rows.specs.declared.answers.Counters.{Counters}
use Rattle.lockbox.specs.Decided.{AreCounters}
use Rattle.book_core.proofs.Conditions.{may_count}
use Rattle.book_core.proofs.tables.Core.decided_lock.Goals as goal

pub decide_lock-requires-clause-counters : goal.decide_lock-requires-clause-counters
decide_lock-requires-clause-counters c =
    let fits : SFits w64 c.args.now = c.ranges.now in
    let is : c.counters_at.result ≡ counters_at c.args.self.now c.args.now = simp to_z-of_z at c.counters_at.ensures in
    subst (λ (k : Counters). AreCounters k) (sym is) (may_count c.args.self.now c.args.now c.requires.sound c.requires.instant)
