-- Ranges of which each starts where the one before it ends cover what is between once.
use Rattle.std.proofs.Common.{◌≡◌, ℕ, ◌<◌, ◌≤◌, Bool, true, false, cond, ◌==◌, ◌&&◌, List, [], ◌∷◌, ◌++◌, Some, None, Option, refl, sym, subst, arith, nat_le, nat_lt, inl, inr}
use Rattle.std.proofs.lemmas.Bool.Decides.{nat_tests}
use Rattle.std.proofs.lemmas.Bool.{and_parts, and_from, eqb-true, eq-eqb, cases_Bool}
use Rattle.book_rows.specs.Lists.{count}
use Rattle.book_rows.specs.Tiles.{ends_with, goes_on}
use Rattle.book_rows.specs.declared.rows.Range.{Range}
use Rattle.laws_offsets.specs.Coverage.{CoversOnce, lies_in, position_by}

in_row : (c : Bool) (y : Option ℕ) (w : Option (Option ℕ)) → cond c w None ≡ Some y → (c ≡ true) × (w ≡ Some y)
in_row true y w e = (refl, e)
in_row false y w e = cc

-- one range more, that starts where the others end
pub ends_push : (z y : Option ℕ) (rs : List Range) (r : Range) → ends_with z rs ≡ Some y → (nat_le r.start r.end && goes_on y r.start) ≡ true → ends_with z (rs ++ r ∷ []) ≡ Some (Some r.end)
ends_push z y [] r e h =
    let same : z ≡ y = cc in
    let on : (nat_le r.start r.end && goes_on z r.start) ≡ true = rw same h in
    rw on refl
ends_push z y (q ∷ rs) r e h =
    let both = in_row (nat_le q.start q.end && goes_on z q.start) y (ends_with (Some q.end) rs) e in
    let on : (nat_le q.start q.end && goes_on z q.start) ≡ true = both.0 in
    rw on (ends_push (Some q.end) y rs r both.1 h)

-- the first of ranges in a row, from an offset on
module _ (z : ℕ) (y : Option ℕ) (r : Range) (rs : List Range) (e : ends_with (Some z) (r ∷ rs) ≡ Some y) where
  first_on : (nat_le r.start r.end && (z == r.start)) ≡ true
  first_on = (in_row (nat_le r.start r.end && (z == r.start)) y (ends_with (Some r.end) rs) e).0

  starts : z ≡ r.start
  starts = eqb-true z r.start (and_parts (nat_le r.start r.end) (z == r.start) first_on).1

  up : nat_le r.start r.end ≡ true
  up = (and_parts (nat_le r.start r.end) (z == r.start) first_on).0

  rest : ends_with (Some r.end) rs ≡ Some y
  rest = (in_row (nat_le r.start r.end && (z == r.start)) y (ends_with (Some r.end) rs) e).1

same_end : (z y : ℕ) → Some (Some z) ≡ Some (Some y) → z ≡ y
same_end z y e = cc

-- they go up
goes_up : (z y : ℕ) (rs : List Range) → ends_with (Some z) rs ≡ Some (Some y) → z ≤ y
goes_up z y [] e = at z y (same_end z y e) where
  at : (z y : ℕ) → z ≡ y → z ≤ y
  at z y h = omega arith
goes_up z y (r ∷ rs) e = further z r.start r.end y (starts z (Some y) r rs e) (up z (Some y) r rs e) (goes_up r.end y rs (rest z (Some y) r rs e)) where
  further : (z s e y : ℕ) → z ≡ s → nat_le s e ≡ true → e ≤ y → z ≤ y
  further z s e y h k l = grind (arith, nat_tests)

-- nothing below is covered
none_under : (z y at : ℕ) (rs : List Range) → ends_with (Some z) rs ≡ Some (Some y) → at < z → count (lies_in at) rs ≡ 0
none_under z y at [] e lt = refl
none_under z y at (r ∷ rs) e lt =
    let same = starts z (Some y) r rs e in
    let off : lies_in at r ≡ false = before at z r.start r.end same lt in
    rw off (none_under r.end y at rs (rest z (Some y) r rs e) (below z r.start r.end at same (up z (Some y) r rs e) lt)) where
      before : (a z s e : ℕ) → z ≡ s → a < z → (nat_le s a && nat_lt a e) ≡ false
      before a z s e k h = grind (arith, nat_tests)

      below : (z s e a : ℕ) → z ≡ s → nat_le s e ≡ true → a < z → a < e
      below z s e a h k l = grind (arith, nat_tests)

-- nothing from the end on
none_over : (z y at : ℕ) (rs : List Range) → ends_with (Some z) rs ≡ Some (Some y) → y ≤ at → count (lies_in at) rs ≡ 0
none_over z y at [] e le = refl
none_over z y at (r ∷ rs) e le =
    let off : lies_in at r ≡ false = after at r.start r.end y (goes_up r.end y rs (rest z (Some y) r rs e)) le in
    rw off (none_over r.end y at rs (rest z (Some y) r rs e) le) where
      after : (a s e y : ℕ) → e ≤ y → y ≤ a → (nat_le s a && nat_lt a e) ≡ false
      after a s e y k h = grind (arith, nat_tests)

-- and what is between once
once_between : (z y at : ℕ) (rs : List Range) → ends_with (Some z) rs ≡ Some (Some y) → z ≤ at → at < y → count (lies_in at) rs ≡ 1
once_between z y at [] e le lt = absurd (apart z y at (same_end z y e) le lt) where
  apart : (z y a : ℕ) → z ≡ y → z ≤ a → a < y → ⊥
  apart z y a h k l = omega arith
once_between z y at (r ∷ rs) e le lt = elim (cases_Bool (nat_lt at r.end)) [
  | inl inside ↦
      let on : lies_in at r ≡ true = and_from (nat_le r.start at) (nat_lt at r.end) (reaches z r.start at (starts z (Some y) r rs e) le) inside in
      rw (on, none_under r.end y at rs (rest z (Some y) r rs e) (is_below at r.end inside)) refl
  | inr past ↦
      let off : lies_in at r ≡ false = beyond at r.start r.end past in
      rw off (once_between r.end y at rs (rest z (Some y) r rs e) (is_past at r.end past) lt)
] where
  reaches : (z s a : ℕ) → z ≡ s → z ≤ a → nat_le s a ≡ true
  reaches z s a h k = grind (arith, nat_tests)

  is_below : (a e : ℕ) → nat_lt a e ≡ true → a < e
  is_below a e h = grind (arith, nat_tests)

  is_past : (a e : ℕ) → nat_lt a e ≡ false → e ≤ a
  is_past a e h = grind (arith, nat_tests)

  beyond : (a s e : ℕ) → nat_lt a e ≡ false → (nat_le s a && nat_lt a e) ≡ false
  beyond a s e h = grind (arith, nat_tests)

-- ---- from where the run begins

-- a run that begins at an offset
covered_from : (z y : ℕ) (rs : List Range) (o : Option ℕ) → ends_with (Some z) rs ≡ Some (Some y) → position_by o rs ≡ Some z → CoversOnce (record { from = o; ranges = rs }) (Some y)
covered_from z y rs o e begins = record {
  once = λ first last at is to le lt. once_between z y at rs e (subst (λ n. n ≤ at) (one_number (position_by o rs) first z is begins) le) (subst (λ n. at < n) (some_number last y to) lt);
  none_below = λ first at is lt. none_under z y at rs e (subst (λ n. at < n) (one_number (position_by o rs) first z is begins) lt);
  none_from = λ last at to le. none_over z y at rs e (subst (λ n. n ≤ at) (some_number last y to) le);
  both = rw begins refl;
} where
  one_number : (o : Option ℕ) (a b : ℕ) → o ≡ Some a → o ≡ Some b → a ≡ b
  one_number o a b e f = cc

  some_number : (a b : ℕ) → Some b ≡ Some a → a ≡ b
  some_number a b e = cc

-- a run that begins nowhere
covered_nothing : CoversOnce (record { from = None; ranges = [] }) None
covered_nothing = record {
  once = λ first last at is to le lt. cc;
  none_below = λ first at is lt. refl;
  none_from = λ last at to le. refl;
  both = refl;
}

-- the ranges end somewhere, if the run begins somewhere
ends_somewhere : (z : ℕ) (y : Option ℕ) (rs : List Range) → ends_with (Some z) rs ≡ Some y → (n : ℕ) × (y ≡ Some n)
ends_somewhere z y [] e = (z, (let same : Some z ≡ y = cc in sym same))
ends_somewhere z y (r ∷ rs) e = ends_somewhere r.end y rs (rest z y r rs e)

covered_on : (z : ℕ) (y : Option ℕ) (rs : List Range) (o : Option ℕ) → ends_with (Some z) rs ≡ Some y → position_by o rs ≡ Some z → CoversOnce (record { from = o; ranges = rs }) y
covered_on z y rs o e begins =
    let w = ends_somewhere z y rs e in
    subst (λ (y : Option ℕ). CoversOnce (record { from = o; ranges = rs }) y) (sym w.1) (covered_from z w.0 rs o (subst (λ (y : Option ℕ). ends_with (Some z) rs ≡ Some y) w.1 e) begins)

-- ranges in a row cover once, from where they begin up to where they end
pub covered_once : (z y : Option ℕ) (rs : List Range) → ends_with z rs ≡ Some y → CoversOnce (record { from = z; ranges = rs }) y
covered_once (Some z) y rs e = covered_on z y rs (Some z) e refl
covered_once None y [] e = (let none : None ≡ y = cc in subst (λ (y : Option ℕ). CoversOnce (record { from = None; ranges = [] }) y) none covered_nothing)
covered_once None y (r ∷ rs) e =
    let both = in_row (nat_le r.start r.end && true) y (ends_with (Some r.end) rs) e in
    let up : nat_le r.start r.end ≡ true = (and_parts (nat_le r.start r.end) true both.0).0 in
    covered_on r.start y (r ∷ rs) None (rw (up, eq-eqb r.start r.start refl) both.1) refl
