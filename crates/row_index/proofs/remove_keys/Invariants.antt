use Rattle.std.proofs.Common.{◌≡◌, ℕ, ℤ, ◌<◌, Some, slice_get}
use Rattle.row_index.specs.Index.{IsKey, IsLess}
use Rattle.row_index.proofs.remove_keys.Given as goal

-- other rows have their keys, and the row's first ones are gone
abbrev pub invariant-loop-at : goal.invariant-loop-at
invariant-loop-at g l =
    IsLess l.number l.fn.keys.entries l.keys.entries
    × ((i : ℕ) (k : ℕ × ℤ) → i < l.at → slice_get (g.T.Keyed.keys l.row) i ≡ Some k → IsKey l.keys.entries (k, l.number) → ⊥)
