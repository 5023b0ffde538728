use Rattle.std.proofs.Common.{◌≡◌, ◌++◌, ℕ, List, length, map, take, drop}
use Rattle.lock_posse.specs.Granting.{granted_row, member_lists}
use Rattle.lock_posse.proofs.grants.change_first.Given as goal

-- the first rows are done, the others are as they were, and the lists of the others are left
abbrev pub invariant-loop-at : goal.invariant-loop-at
invariant-loop-at l = record {
  long : length l.rows.items ≡ length l.fn.rows.items;
  done : (task : List ℕ) → l.initial.lists.items ≡ member_lists l.granted.joins task (take l.count l.fn.rows.items)
      → (l.rows.items ≡ map (granted_row l.granted.revoked l.granted.joins task) (take l.at l.fn.rows.items) ++ drop l.at l.fn.rows.items)
      × (l.lists.items ≡ member_lists l.granted.joins task (drop l.at (take l.count l.fn.rows.items)));
}
