use Rattle.std.proofs.Common.{◌≡◌, ◌∷◌, [], refl, ◌∙◌, subst, rules}
use Rattle.std.specs.BTreeMap.Range.{entries_between}
use Rattle.std.specs.declared.ops.Bound.TheVariants.{Included, Excluded}
use Rattle.row_index.specs.Index.{key_cmp}
use Rattle.row_index.proofs.IndexLemmas.{left_first}
use Rattle.tab_segments.specs.Leading.{is_taken}
use Rattle.tab_segments.proofs.Unused.{IsToCome, come_on, fewer_place, no_more_then, none_comes, same_place}
use Rattle.tab_segments.proofs.unusing.unuse_range.Goals as goal

pub loop-key-init : goal.loop-key-init
loop-key-init c =
    let walk : c.into_iter-key-iterator.result ≡ entries_between key_cmp (Included (c.args.range.0, 0)) (Excluded ((c.args.range.0.0, c.args.range.1), 0)) c.args.keys.now.entries = search rules in
    (tt, tt, refl, (λ s e got on. got), rw walk (left_first _ (is_taken c.args.source.now c.args.span) c.args.range c.args.keys.now.entries (λ s e. ⊥)))

pub loop-key-preserved : goal.loop-key-preserved
loop-key-preserved c =
    let source = c.args.source.now in
    let span = c.args.span in
    let before = c.loop-key.entries.items in
    let step : c.loop-key.key-iterator ≡ (c.in-Some.key.now, c.in-Some.field-0-1.now) ∷ c.next.new.self = search rules in
    let left = subst (λ ks. IsToCome source span before c.args.range c.args.keys.now.entries ks) step c.loop-key.invariant.4 in (
      tt,
      tt,
      rw c.unuse_at.ensures (same_place source span before c.in-Some.key.now.1 ∙ c.loop-key.invariant.2),
      rw c.unuse_at.ensures (no_more_then source span c.args.entries.now.items before _ c.loop-key.invariant.3 (fewer_place source span before c.in-Some.key.now.1)),
      rw c.unuse_at.ensures (come_on source span before c.args.range c.args.keys.now.entries (c.in-Some.key.now, c.in-Some.field-0-1.now) c.next.new.self left),
    )

pub returns-clause-none : goal.returns-clause-none
returns-clause-none c =
    let end : c.loop-key.key-iterator ≡ [] = search rules in
    none_comes c.args.source.now c.args.span c.loop-key.entries.items c.args.range c.args.keys.now.entries
    (subst (λ ks. IsToCome c.args.source.now c.args.span c.loop-key.entries.items c.args.range c.args.keys.now.entries ks) end c.loop-key.invariant.4)
