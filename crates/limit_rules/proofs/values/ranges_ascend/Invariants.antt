use Rattle.std.proofs.Common.{◌≡◌, ◌∷◌, drop, nat_lt}
use Rattle.book_rows.specs.Lists.{list_links}
use Rattle.limit_rules.proofs.values.ranges_ascend.Given as goal

-- whether the last item and those still to be passed are in order is what is asked of all
abbrev pub invariant-loop-range : goal.invariant-loop-range
invariant-loop-range l = list_links (λ a b. nat_lt a.partition b.partition) (l.last ∷ drop l.range-index l.rest) ≡ list_links (λ a b. nat_lt a.partition b.partition) l.ranges
