use Rattle.std.proofs.Common.{◌≡◌, ℕ, ℤ, ◌<◌, Some, slice_get}
use Rattle.row_index.specs.Index.{HasAll, IsPassing, IsUpTo}
use Rattle.row_index.proofs.firsts.first_number.Given as goal

abbrev pub invariant-loop-at : goal.invariant-loop-at
invariant-loop-at g l =
    ((b : ℕ) → l.best ≡ Some b → IsPassing (g.R.Numbered.row_of l.rows) (g.Q.Query.passes l.query) b)
    × ((i : ℕ) (j : (ℕ × ℤ) × ℤ) → i < l.at → slice_get (g.Q.Query.ranges l.query) i ≡ Some j → HasAll (λ s r. IsUpTo l.best s) (g.R.Numbered.row_of l.rows) (g.Q.Query.passes l.query) j l.keys.entries)
