use Rattle.std.proofs.Common.{[], drop, true, ◌∷◌, ◌≡◌}
use Rattle.book_rows.specs.Lists.{list_links}
use Rattle.book_rows.specs.Spans.{first_overlap, first_overlap_after, span_at_most}
use Rattle.apart_spans.specs.Apart.{are_apart}
use Rattle.publish_core.proofs.spans.first_overlap.Given as goal

-- what is asked of all is asked of the last span and those still to be passed
abbrev pub invariant-loop-span : goal.invariant-loop-span
invariant-loop-span l = record {
  first : first_overlap_after (l.last ∷ []) (drop l.span-index l.rest) ≡ first_overlap l.spans;
  links : list_links span_at_most (l.last ∷ drop l.span-index l.rest) ≡ true;
  apart : are_apart (l.last ∷ drop l.span-index l.rest) ≡ true → are_apart l.spans ≡ true;
}
