use Rattle.std.proofs.Common.{◌≡◌, ℕ, ◌-ℤ◌, Some}
use Rattle.std.specs.Prelude.{unsigned_abs}
use Rattle.row_index.specs.Index.{HasAll, IsPassing, IsUpTo}
use Rattle.row_index.proofs.firsts.first_in_range.Given as goal

abbrev pub invariant-loop-place : goal.invariant-loop-place
invariant-loop-place g l =
    let rows = g.R.Numbered.row_of l.rows in
    let test = g.Q.Query.passes l.query in
    ((b : ℕ) → l.fn.best ≡ Some b → IsUpTo l.least b)
    × (((b : ℕ) → l.fn.best ≡ Some b → IsPassing rows test b) → (b : ℕ) → l.least ≡ Some b → IsPassing rows test b)
    × HasAll (λ s r. IsUpTo l.least s) rows test (l.fn.range.0, l.place) l.keys.entries

abbrev pub decreases-loop-place : goal.decreases-loop-place
decreases-loop-place g l = unsigned_abs (l.fn.range.1 -ℤ l.place)
