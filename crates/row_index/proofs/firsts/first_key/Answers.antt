use Rattle.std.proofs.Common.{◌≡◌, ◌∷◌, [], Some, None, true, false, sym, ◌∙◌, subst, rules}
use Rattle.std.specs.BTreeMap.Range.{entries_between}
use Rattle.std.specs.declared.ops.Bound.TheVariants.{Included, Excluded}
use Rattle.row_index.specs.Index.{key_cmp, AllCome, AreInTurn}
use Rattle.row_index.proofs.FirstLemmas.{come_first, come_from, come_none, come_passed, in_turn}
use Rattle.row_index.proofs.firsts.first_key.Goals as goal

pub loop-key-init : goal.loop-key-init
loop-key-init g c =
    let walk : c.into_iter-key-iterator.result ≡ entries_between key_cmp (Included (c.args.range.0, 0)) (Excluded ((c.args.range.0.0, c.args.range.1), 0)) c.args.keys.now.entries = search rules in (
      tt,
      tt,
      rw walk (in_turn c.args.range c.args.keys.now.entries c.range-key-items.ensures.ordered),
      rw walk (come_first (g.R.Numbered.row_of c.args.rows.now) (g.Q.Query.passes c.args.query.now) c.args.range c.args.keys.now.entries),
    )

pub loop-key-preserved-else-passes : goal.loop-key-preserved-else-passes
loop-key-preserved-else-passes g c =
    let rows = g.R.Numbered.row_of c.args.rows.now in
    let test = g.Q.Query.passes c.args.query.now in
    let step : c.loop-key.key-iterator ≡ (c.in-Some.key.now, c.in-Some.field-0-1.now) ∷ c.next.new.self = search rules in
    let turn = subst (λ ks. AreInTurn c.args.range ks) step c.loop-key.invariant.2 in
    let left = subst (λ ks. AllCome rows test c.args.range c.args.keys.now.entries ks) step c.loop-key.invariant.3 in
    let found : rows c.in-Some.key.now.1 ≡ Some c.in-Some-row.row.now = search rules in
    let off : test c.in-Some-row.row.now ≡ false = search rules in (
      tt,
      tt,
      turn.2,
      come_passed rows test c.args.range c.args.keys.now.entries (c.in-Some.key.now, c.in-Some.field-0-1.now) c.next.new.self
          (λ r has. let same : Some c.in-Some-row.row.now ≡ Some r = sym found ∙ has in let e : c.in-Some-row.row.now ≡ r = cc in rw (← e) off) left,
    )

pub loop-key-preserved : goal.loop-key-preserved
loop-key-preserved g c =
    let rows = g.R.Numbered.row_of c.args.rows.now in
    let test = g.Q.Query.passes c.args.query.now in
    let step : c.loop-key.key-iterator ≡ (c.in-Some.key.now, c.in-Some.field-0-1.now) ∷ c.next.new.self = search rules in
    let turn = subst (λ ks. AreInTurn c.args.range ks) step c.loop-key.invariant.2 in
    let left = subst (λ ks. AllCome rows test c.args.range c.args.keys.now.entries ks) step c.loop-key.invariant.3 in
    let none : rows c.in-Some.key.now.1 ≡ None = search rules in (
      tt,
      tt,
      turn.2,
      come_passed rows test c.args.range c.args.keys.now.entries (c.in-Some.key.now, c.in-Some.field-0-1.now) c.next.new.self (λ r has. let clash : None ≡ Some r = sym none ∙ has in cc) left,
    )

pub returns-then-passes-clause-within : goal.returns-then-passes-clause-within
returns-then-passes-clause-within g c =
    let step : c.loop-key.key-iterator ≡ (c.in-Some.key.now, c.in-Some.field-0-1.now) ∷ c.next.new.self = search rules in
    let turn = subst (λ ks. AreInTurn c.args.range ks) step c.loop-key.invariant.2 in
    turn.0

pub returns-then-passes-clause-sound : goal.returns-then-passes-clause-sound
returns-then-passes-clause-sound g c =
    let rows = g.R.Numbered.row_of c.args.rows.now in
    let test = g.Q.Query.passes c.args.query.now in
    let found : rows c.in-Some.key.now.1 ≡ Some c.in-Some-row.row.now = search rules in
    let on : test c.in-Some-row.row.now ≡ true = search rules in
    (c.in-Some-row.row.now, found, on)

pub returns-then-passes-clause-first : goal.returns-then-passes-clause-first
returns-then-passes-clause-first g c =
    let rows = g.R.Numbered.row_of c.args.rows.now in
    let test = g.Q.Query.passes c.args.query.now in
    let step : c.loop-key.key-iterator ≡ (c.in-Some.key.now, c.in-Some.field-0-1.now) ∷ c.next.new.self = search rules in
    let turn = subst (λ ks. AreInTurn c.args.range ks) step c.loop-key.invariant.2 in
    let left = subst (λ ks. AllCome rows test c.args.range c.args.keys.now.entries ks) step c.loop-key.invariant.3 in
    come_from rows test c.args.range c.args.keys.now.entries (c.in-Some.key.now, c.in-Some.field-0-1.now) c.next.new.self turn left

pub returns-clause-first : goal.returns-clause-first
returns-clause-first g c =
    let rows = g.R.Numbered.row_of c.args.rows.now in
    let test = g.Q.Query.passes c.args.query.now in
    let end : c.loop-key.key-iterator ≡ [] = search rules in
    come_none rows test c.args.range c.args.keys.now.entries (subst (λ ks. AllCome rows test c.args.range c.args.keys.now.entries ks) end c.loop-key.invariant.3)
