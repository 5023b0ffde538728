-- Rows keep distinct numbers.
use Rattle.std.proofs.Common.{ℕ, ◌==◌, List, [], ◌∷◌, ◌++◌, map, IsNone}
use Rattle.book_rows.specs.Locks.{HasDistinctNumbers, posse_of, revoked_at, joined, left, stays, after_leave}
use Rattle.book_rows.specs.Grant.{joined_in, posses_after, revoked_in}
use Rattle.book_rows.specs.declared.answers.Granted.{Granted}
use Rattle.book_rows.specs.declared.rows.PosseRow.{PosseRow}
use Rattle.lock_posse.specs.Granting.{AreNew}
use Rattle.lock_posse.specs.Leaving.{left_rows}
use Rattle.lock_posse.proofs.Rows.{pairs_map, pairs_filter, pairs_push, pairs_append, all_map, all_from_find_none}

pub distinct_revoked : (n : ℕ) (ps : List PosseRow) → HasDistinctNumbers ps → HasDistinctNumbers (map (revoked_at n) ps)
distinct_revoked n ps h = pairs_map _ _ (revoked_at n) (λ x y e. e) ps h

pub distinct_joined : (n : ℕ) (t : List ℕ) (ps : List PosseRow) → HasDistinctNumbers ps → HasDistinctNumbers (map (joined n t) ps)
distinct_joined n t ps h = pairs_map _ _ (joined n t) (λ x y e. e) ps h

pub distinct_left : (n : ℕ) (t : List ℕ) (ps : List PosseRow) → HasDistinctNumbers ps → HasDistinctNumbers (after_leave n t ps)
distinct_left n t ps h = pairs_filter _ (stays n) (map (left n t) ps) (pairs_map _ _ (left n t) (λ x y e. e) ps h)

pub distinct_left_rows : (ns t : List ℕ) (ps : List PosseRow) → HasDistinctNumbers ps → HasDistinctNumbers (left_rows ns t ps)
distinct_left_rows [] t ps h = h
distinct_left_rows (n ∷ ns) t ps h = distinct_left_rows ns t (after_leave n t ps) (distinct_left n t ps h)

pub distinct_pushed : (ps : List PosseRow) (p : PosseRow) → HasDistinctNumbers ps → IsNone (posse_of p.number ps) → HasDistinctNumbers (ps ++ p ∷ [])
distinct_pushed ps p h none = pairs_push _ ps p h (all_from_find_none (λ q. q.number == p.number) ps none)

pub distinct_granted : (task : List ℕ) (g : Granted) (ps : List PosseRow) → HasDistinctNumbers ps → AreNew g.rows ps → HasDistinctNumbers (posses_after ps task g)
distinct_granted task g ps h new =
    pairs_append _ (map (joined_in g.joins task) (map (revoked_in g.revoked) ps)) g.rows
    (pairs_map _ _ (joined_in g.joins task) (λ x y e. e) (map (revoked_in g.revoked) ps) (pairs_map _ _ (revoked_in g.revoked) (λ x y e. e) ps h))
    new.0
    (all_map _ _ (joined_in g.joins task) (λ x e. e) (map (revoked_in g.revoked) ps) (all_map _ _ (revoked_in g.revoked) (λ x e. e) ps new.1))
