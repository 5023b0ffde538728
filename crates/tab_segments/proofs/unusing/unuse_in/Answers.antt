use Rattle.std.proofs.Common.{◌≡◌, ◌∙◌, Some, inl, inr, slice_get, subst, sym, rules}
use Rattle.row_index.specs.Index.{HasAll}
use Rattle.row_index.proofs.IndexLemmas.{split_below}
use Rattle.span_keys.specs.Classes.{span_ranges}
use Rattle.tab_segments.specs.Keys.{used_digest}
use Rattle.tab_segments.specs.Leading.{is_taken}
use Rattle.tab_segments.proofs.Unused.{all_unused, no_more_then, none_then}
use Rattle.tab_segments.proofs.unusing.unuse_in.Goals as goal

pub loop-at-preserved : goal.loop-at-preserved
loop-at-preserved c =
    let source = c.args.source.now in
    let span = c.args.span in
    let before = c.loop-at.entries.items in
    let after = c.unuse_range.new.entries.items in (
      c.unuse_range.ensures.same ∙ c.loop-at.invariant.0,
      no_more_then source span c.args.entries.now.items before after c.loop-at.invariant.1 c.unuse_range.ensures.fewer,
      λ i g lt got.
          elim (split_below i c.loop-at.at lt) [
            | inl old ↦ none_then source span before after g c.args.keys.now.entries c.unuse_range.ensures.fewer (c.loop-at.invariant.2 i g old got)
            | inr here ↦
                (let got' : slice_get (span_ranges (used_digest source) span) c.loop-at.at ≡ Some g = subst (λ n. slice_get (span_ranges (used_digest source) span) n ≡ Some g) here got in
                let own : slice_get (span_ranges (used_digest source) span) c.loop-at.at ≡ Some c.span_range.result = search rules in
                let both : Some c.span_range.result ≡ Some g = sym own ∙ got' in
                let same : c.span_range.result ≡ g = cc in
                subst (λ r. HasAll (λ s e. ⊥) (slice_get after) (is_taken source span) r c.args.keys.now.entries) same c.unuse_range.ensures.none)
          ],
    )

pub returns : goal.returns
returns c =
    all_unused c.args.source.now c.args.span c.args.entries.now.items c.loop-at.entries.items c.args.keys.now.entries c.requires.indexed c.requires.filled c.loop-at.invariant.0 c.loop-at.invariant.1
    (λ i g lt got. c.loop-at.invariant.2 i g (search rules) got)
