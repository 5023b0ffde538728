use Rattle.std.proofs.Common.{drop, ◌++◌, ◌≡◌}
use Rattle.row_search.specs.Listed.{listed_from}
use Rattle.row_search.proofs.listed.added_ids.Given as goal

-- the ids so far with those still to come are all
abbrev pub invariant-loop-commit : goal.invariant-loop-commit
invariant-loop-commit l = l.listed.items ++ listed_from (λ m. m.adds) l.commit (drop l.commit l.publications) ≡ listed_from (λ m. m.adds) 0 l.publications
