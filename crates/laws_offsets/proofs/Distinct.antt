-- Lists in ascending order name nothing twice.
use Rattle.std.proofs.Common.{◌≡◌, ℕ, ◌<◌, true, false, ◌==◌, ◌&&◌, List, [], ◌∷◌, map, arith, nat_lt, Bool}
use Rattle.std.specs.List.{AllByRecursion, list_all}
use Rattle.std.proofs.lemmas.Bool.{and_parts}
use Rattle.std.proofs.lemmas.Bool.Decides.{nat_tests}
use Rattle.book_rows.specs.Form.{are_offsets, are_parts, is_few, is_offset, is_range}
use Rattle.book_rows.specs.Lists.{Pairs, list_links}
use Rattle.book_rows.specs.Offsets.{end_of}
use Rattle.book_rows.specs.declared.rows.Offset.{Offset}
use Rattle.book_rows.specs.declared.rows.Range.{Range}

apart : (a b : ℕ) → a < b → (a == b) ≡ false
apart a b h = grind (arith, nat_tests)

lower : (a b : ℕ) → nat_lt a b ≡ true → a < b
lower a b h = grind (arith, nat_tests)

further : (n a b : ℕ) → n < a → nat_lt a b ≡ true → n < b
further n a b h k = grind (arith, nat_tests)

module _ {X : Type 0} (key : X → ℕ) where
  abbrev ascends : List X → Bool
  ascends xs = list_links (λ a b. nat_lt (key a) (key b)) xs

  -- no number stands there twice
  abbrev pub HasDistinct : List X → Type 0
  HasDistinct xs = Pairs (λ a b. (key a == key b) ≡ false) xs

  -- what is below the first is below all
  below_all : (n : ℕ) (x : X) (xs : List X) → n < key x → ascends (x ∷ xs) ≡ true → AllByRecursion (λ b. (n == key b) ≡ false) (x ∷ xs)
  below_all n x [] lt h = (apart n (key x) lt, tt)
  below_all n x (y ∷ ys) lt h =
      let both = and_parts (nat_lt (key x) (key y)) (ascends (y ∷ ys)) h in
      (apart n (key x) lt, below_all n y ys (further n (key x) (key y) lt both.0) both.1)

  pub ascending_distinct : (xs : List X) → ascends xs ≡ true → HasDistinct xs
  ascending_distinct [] h = tt
  ascending_distinct (x ∷ []) h = (tt, tt)
  ascending_distinct (x ∷ y ∷ ys) h =
      let both = and_parts (nat_lt (key x) (key y)) (ascends (y ∷ ys)) h in
      (below_all (key x) y ys (lower (key x) (key y) both.0) both.1, ascending_distinct (y ∷ ys) both.1)

abbrev pub HasDistinctParts : List Range → Type 0
HasDistinctParts parts = HasDistinct (λ r. r.partition) parts

abbrev pub HasDistinctPartitions : List Offset → Type 0
HasDistinctPartitions os = HasDistinct (λ o. o.partition) os

-- the form of ranges, and of offsets, allows no partition twice
pub distinct_parts : (rs : List Range) → are_parts rs ≡ true → HasDistinctParts rs
distinct_parts rs h = ascending_distinct (λ (r : Range). r.partition) rs (and_parts (is_few rs && list_all is_range rs) (list_links (λ a b. nat_lt a.partition b.partition) rs) h).1

pub distinct_offsets : (os : List Offset) → are_offsets os ≡ true → HasDistinctPartitions os
distinct_offsets os h = ascending_distinct (λ (o : Offset). o.partition) os (and_parts (is_few os && list_all is_offset os) (list_links (λ a b. nat_lt a.partition b.partition) os) h).1

-- the ends of ranges name what the ranges name
pub distinct_ends : (parts : List Range) → HasDistinctParts parts → HasDistinctPartitions (map end_of parts)
distinct_ends [] d = tt
distinct_ends (r ∷ rs) d = (each r rs d.0, distinct_ends rs d.1) where
  each : (r : Range) (rs : List Range) → AllByRecursion (λ (b : Range). (r.partition == b.partition) ≡ false) rs → AllByRecursion (λ (b : Offset). (r.partition == b.partition) ≡ false) (map end_of rs)
  each r [] a = tt
  each r (q ∷ rs) a = (a.0, each r rs a.1)
