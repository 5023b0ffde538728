use Rattle.std.proofs.Common.{◌≡◌, ◌∷◌, drop, nat_lt}
use Rattle.book_rows.specs.Lists.{list_links}
use Rattle.limit_rules.proofs.values.offsets_ascend.Given as goal

-- whether the last item and those still to be passed are in order is what is asked of all
abbrev pub invariant-loop-offset : goal.invariant-loop-offset
invariant-loop-offset l = list_links (λ a b. nat_lt a.partition b.partition) (l.last ∷ drop l.offset-index l.rest) ≡ list_links (λ a b. nat_lt a.partition b.partition) l.offsets
