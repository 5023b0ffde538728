-- Lists that are sorted by an order: as often the same elements, then they are element by element alike.
use Rattle.std.proofs.Common.{Bool, List, [], ap, arith, cond, false, get_or, inl, inr, length, refl, suc, sym, true, ℕ, ◌+◌, ◌<◌, ◌∙◌, ◌∷◌, ◌≡◌}
use Rattle.std.specs.Cmp.{IsTotalOrder}
use Rattle.std.specs.List.{AllByRecursion}
use Rattle.std.specs.List.Sorted.{IsSorted}
use Rattle.std.specs.Ordering.{eq_by_cmp, is_eq, is_gt, is_lt, ordering_reverse}
use Rattle.std.specs.declared.cmp.Ordering.{Ordering}
use Rattle.std.specs.declared.cmp.Ordering.TheVariants as Orderings
use Rattle.std.proofs.lemmas.Bool.{and_from, and_parts, false≢true}
use Rattle.std.proofs.lemmas.Cmp.{alike_right, tied_itself, upto}
use Rattle.std.proofs.lemmas.List.Sorted.{ranks_by, sorted_far}
use Rattle.book_rows.specs.Lists.{In, Pairs, count}
use Rattle.laws_chunks.proofs.Meanings.{count_pos}
use Rattle.laws_chunks.proofs.Members.{In-all}
use lib.Pointwise.{pointwise}

-- ---- a relation by places is one of pairs

module _ {X : Type 0} where
  all_at : (P : X → Type 0) (xs : List X) → ((j : ℕ) (d : X) → j < length xs → P (get_or xs j d)) → AllByRecursion P xs
  all_at P [] h = tt
  all_at P (x ∷ xs) h = (h 0 x (omega arith), all_at P xs (λ j d lt. h (suc j) d (omega (arith, lt))))

  pub pairs_at : (Q : X → X → Type 0) (xs : List X) → ((i j : ℕ) (d : X) → i < j → j < length xs → Q (get_or xs i d) (get_or xs j d)) → Pairs Q xs
  pairs_at Q [] h = tt
  pairs_at Q (x ∷ xs) h = (all_at (Q x) xs (λ j d lt. h 0 (suc j) d (omega arith) (omega (arith, lt))), pairs_at Q xs (λ i j d lt bound. h (suc i) (suc j) d (omega (arith, lt)) (omega (arith, bound))))

module _ {X : Type 0} {R : X → X → Ordering} (o : IsTotalOrder R) where
  abbrev up : X → X → Type 0
  up x y = is_gt (R x y) ≡ false

  turned : (r s : Ordering) → r ≡ ordering_reverse s → is_lt s ≡ false → is_gt r ≡ false
  turned r Orderings.Less e h = absurd (false≢true (sym h))
  turned r Orderings.Equal e h = rw e refl
  turned r Orderings.Greater e h = rw e refl

  pub sorted_pairs : (xs : List X) → IsSorted R xs → Pairs up xs
  sorted_pairs xs sorted = pairs_at up xs (λ i j d lt bound.
      turned (R (get_or xs i d) (get_or xs j d)) (R (get_or xs j d) (get_or xs i d)) (o.antisymm (get_or xs i d) (get_or xs j d))
      (sorted_far (λ x y. is_lt (R x y)) (ranks_by o (λ x. x)) xs sorted i j d (omega (arith, lt)) bound))

  like_right : (e x y : X) → eq_by_cmp R x y ≡ true → eq_by_cmp R e x ≡ eq_by_cmp R e y
  like_right e x y h = ap is_eq (alike_right o x y e (is_equal (R x y) h)) where
    is_equal : (r : Ordering) → is_eq r ≡ true → r ≡ Orderings.Equal
    is_equal Orderings.Less k = absurd (false≢true k)
    is_equal Orderings.Equal k = refl
    is_equal Orderings.Greater k = absurd (false≢true k)

  -- lists that are alike element by element have each element as often
  pub alike_counts : (e : X) (xs ys : List X) → pointwise (eq_by_cmp R) xs ys ≡ true → count (eq_by_cmp R e) xs ≡ count (eq_by_cmp R e) ys
  alike_counts e [] [] h = refl
  alike_counts e [] (y ∷ ys) h = absurd (false≢true h)
  alike_counts e (x ∷ xs) [] h = absurd (false≢true h)
  alike_counts e (x ∷ xs) (y ∷ ys) h = let both = and_parts (eq_by_cmp R x y) (pointwise (eq_by_cmp R) xs ys) h in rw (like_right e x y both.0, alike_counts e xs ys both.1) refl

  both_ways : (r s : Ordering) → r ≡ ordering_reverse s → is_gt r ≡ false → is_gt s ≡ false → is_eq r ≡ true
  both_ways r Orderings.Less e h k = absurd (false≢true (sym h ∙ rw e refl))
  both_ways r Orderings.Equal e h k = rw e refl
  both_ways r Orderings.Greater e h k = absurd (false≢true (sym k))

  -- the first of a sorted list isn't above what it has
  first_low : (x y : X) (ys : List X) → Pairs up (y ∷ ys) → 0 < count (eq_by_cmp R x) (y ∷ ys) → up y x
  first_low x y ys sorted some = let w = count_pos (eq_by_cmp R x) (y ∷ ys) some in by w.0 w.1 w.2 where
    from_eq : (r : Ordering) → is_eq r ≡ true → is_gt (ordering_reverse r) ≡ false
    from_eq Orderings.Less k = absurd (false≢true k)
    from_eq Orderings.Equal k = refl
    from_eq Orderings.Greater k = absurd (false≢true k)

    back : (z : X) → eq_by_cmp R x z ≡ true → up z x
    back z k = rw (o.antisymm z x) (from_eq (R x z) k)

    by : (z : X) → In z (y ∷ ys) → eq_by_cmp R x z ≡ true → up y x
    by z (inl same) k = rw same at (back z k)
    by z (inr i) k = upto o y z x (In-all (up y) z ys i sorted.0) (back z k)

  itself : (x : X) → eq_by_cmp R x x ≡ true
  itself x = rw (tied_itself o x) refl

  off : (b : Bool) (n m : ℕ) → cond b (1 + n) n ≡ cond b (1 + m) m → n ≡ m
  off true n m e = omega (arith, e)
  off false n m e = e

  counted : (x : X) (xs : List X) → 0 < count (eq_by_cmp R x) (x ∷ xs)
  counted x xs = rw (itself x) (omega arith)

  -- sorted lists that have each element as often are alike
  pub counts_alike : (xs ys : List X) → Pairs up xs → Pairs up ys → ((e : X) → count (eq_by_cmp R e) xs ≡ count (eq_by_cmp R e) ys) → pointwise (eq_by_cmp R) xs ys ≡ true
  counts_alike [] [] a b h = refl
  counts_alike [] (y ∷ ys) a b h = absurd (omega (arith, h y, counted y ys))
  counts_alike (x ∷ xs) [] a b h = absurd (omega (arith, h x, counted x xs))
  counts_alike (x ∷ xs) (y ∷ ys) a b h = and_from (eq_by_cmp R x y) (pointwise (eq_by_cmp R) xs ys) same (counts_alike xs ys a.1 b.1 tails) where
    low : up y x
    low = first_low x y ys b (rw (← h x) (counted x xs))

    high : up x y
    high = first_low y x xs a (rw (h y) (counted y ys))

    same : eq_by_cmp R x y ≡ true
    same = both_ways (R x y) (R y x) (o.antisymm x y) high low

    tails : (e : X) → count (eq_by_cmp R e) xs ≡ count (eq_by_cmp R e) ys
    tails e = off (eq_by_cmp R e y) (count (eq_by_cmp R e) xs) (count (eq_by_cmp R e) ys) (rw (like_right e x y same) at (h e))
