use Rattle.std.proofs.Common.{List, [], ap, arith, drop, subst, sym, true, ◌+◌, ◌<ℤ◌, ◌∙◌, ◌∷◌, ◌≡◌, ◌≤ℤ◌}
use Rattle.std.proofs.lemmas.Int.{ints}
use Rattle.std.proofs.lemmas.List.{drop_more}
use Rattle.iv_span.specs.Extent.{Extent}
use Rattle.book_rows.specs.Lists.{list_links}
use Rattle.book_rows.specs.Spans.{first_overlap, first_overlap_after, span_at_most}
use Rattle.apart_spans.specs.Apart.{are_apart}
use Rattle.publish_core.proofs.SpanOverlaps.{apart_on, links_on, overlaps_later}
use Rattle.publish_core.proofs.spans.first_overlap.Goals as goal

pub loop-span-preserved : goal.loop-span-preserved
loop-span-preserved c =
    let last : Extent = c.loop-span.last in
    let b : Extent = c.span-item.result in
    let rest : List Extent = drop (c.loop-span.span-index + 1) c.in_ok-first.rest.now in
    let here : drop c.loop-span.span-index c.in_ok-first.rest.now ≡ b ∷ rest =
    drop_more c.in_ok-first.rest.now c.loop-span.span-index b c.loop-span-test.true ∙ ap (λ (x : Extent). x ∷ rest) (sym c.span-item.is) in
    let links : list_links span_at_most (last ∷ b ∷ rest) ≡ true = subst (λ (ss : List Extent). list_links span_at_most (last ∷ ss) ≡ true) here c.loop-span.invariant.links in
    let real : b.start <ℤ b.end = c.start.ensures.ordered in
    let last_real : last.start <ℤ last.end = c.end.ensures.ordered in
    let apart : last.end ≤ℤ b.start = grind (arith, ints) in
    record {
      first = sym (overlaps_later last b rest links apart real) ∙ subst (λ (ss : List Extent). first_overlap_after (last ∷ []) ss ≡ first_overlap c.args.spans.now) here c.loop-span.invariant.first;
      links = links_on last b rest links;
      apart = λ later. c.loop-span.invariant.apart (subst (λ (ss : List Extent). are_apart (last ∷ ss) ≡ true) (sym here) (apart_on last b rest links apart last_real later));
    }
