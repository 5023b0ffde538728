use Rattle.std.proofs.Common.{◌≡◌, ◌∷◌, drop}
use Rattle.book_rows.specs.Lists.{list_links}
use Rattle.book_rows.specs.Spans.{span_at_most}
use Rattle.command_forms.proofs.lists.spans_ascend.Given as goal

-- whether the last item and those still to be passed are in order is what is asked of all
abbrev pub invariant-loop-span : goal.invariant-loop-span
invariant-loop-span l = list_links span_at_most (l.last ∷ drop l.span-index l.rest) ≡ list_links span_at_most l.spans
