-- Roots that are put at instants, and instants that are closed, in turn.
use Rattle.std.specs.Prelude.{◌&&◌, ◌++◌, ◌∷◌, ◌≡◌, ◌||◌, Bool, List, None, Option, Some, [], bytes_eq, false, filter, int_le, int_lt, map, not, true, ℕ, ℤ}
use Rattle.std.specs.List.{list_all}
use Rattle.std.specs.Ordering.{int_eq}
use Rattle.seg_names.specs.Ids.{same_id}
use Rattle.seg_names.specs.declared.seg_id.SegId.{SegId}
use Rattle.book_rows.specs.Lists.{Pairs, count}

-- a root is put at the instants of a source from the start up to the end; or, where there is no root, these are closed
pub record Stage : Type 0 where
  pub rank : ℤ
  pub source : List ℕ
  pub start : ℤ
  pub end : ℤ
  pub root : Option SegId

-- a source's instant lies there
abbrev pub is_within : List ℕ → ℤ → ℤ → List ℕ × ℤ → Bool
is_within source start end c = bytes_eq source c.0 && (int_le start c.1 && int_lt c.1 end)

abbrev pub within : Stage → List ℕ × ℤ → Bool
within x c = is_within x.source x.start x.end c

-- ---- in turn

abbrev pub put_at : Option SegId → List (List ℕ × ℤ) → List ((List ℕ × ℤ) × SegId)
put_at None cs = []
put_at (Some a) cs = map (λ c. (c, a)) cs

abbrev pub left_by : Option SegId → (List ℕ × ℤ → Bool) → List (List ℕ × ℤ) → List (List ℕ × ℤ)
left_by None test cs = filter (λ c. not (test c)) cs
left_by (Some a) test cs = cs

-- the roots that are put at these instants while they are open
abbrev pub found : List (List ℕ × ℤ) → List Stage → List ((List ℕ × ℤ) × SegId)
found cs [] = []
found cs (x ∷ xs) = put_at x.root (filter (within x) cs) ++ found (left_by x.root (within x) cs) xs

-- ---- by rank

abbrev pub closes : Option SegId → Bool
closes None = true
closes (Some a) = false

abbrev pub gives : SegId → Option SegId → Bool
gives a None = false
gives a (Some b) = same_id b a

-- the instant isn't closed by a lower rank
abbrev pub is_open_by : ℤ → List ℕ × ℤ → Stage → Bool
is_open_by rank c y = not (closes y.root && within y c) || int_le rank y.rank

-- the first may stand before the second: its rank is lower, or the same and it closes nothing that the second puts
abbrev pub ahead : Stage → Stage → Bool
ahead x y = int_lt x.rank y.rank || (int_eq x.rank y.rank && (not (closes x.root) || closes y.root))

abbrev pub AreInOrder : List Stage → Type 0
AreInOrder xs = Pairs (λ x y. ahead x y ≡ true) xs

-- how often the root is put at the instant by a rank up to those that close it
abbrev pub stays : List Stage → List ℕ × ℤ → SegId → ℕ
stays xs c a = count (λ x. gives a x.root && (within x c && list_all (is_open_by x.rank c) xs)) xs

-- at each instant of each source the same roots stay, each as often
abbrev pub StayAlike : List Stage → List Stage → Type 0
StayAlike xs ys = (c : List ℕ × ℤ) (a : SegId) → stays xs c a ≡ stays ys c a
