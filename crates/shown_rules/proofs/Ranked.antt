-- Stages that are sorted by rank, and of one rank those first that put a root, stand in order.
use Rattle.std.proofs.Common.{Bool, List, arith, false, get_or, not, true, ℤ, ◌&&◌, ◌≡◌, ◌||◌, int_lt}
use Rattle.std.specs.Fn.{Called, ComputesKey}
use Rattle.std.specs.List.Sorted.{IsSortedByKey}
use Rattle.std.specs.Ordering.{bool_cmp, int_cmp, int_eq, is_lt, ordering_then}
use Rattle.std.specs.declared.cmp.Ordering.{Ordering}
use Rattle.std.specs.Cmp.{IsTotalOrder, bool_cmp_total}
use Rattle.std.proofs.lemmas.Cmp.{int_cmp_total, on_total, then_total}
use Rattle.std.proofs.lemmas.Fn.{always_returns_same}
use Rattle.std.proofs.lemmas.Int.{ints}
use Rattle.std.proofs.lemmas.List.Sorted.{ranks_by, sorted_far}
use Rattle.shown_rules.specs.Stages.{AreInOrder, Stage, ahead, closes}
use Rattle.shown_rules.proofs.Ordered.{pairs_at}
use denote.Param.Members.{Mut}
use denote.Ref.{Bor}

abbrev pub key_cmp : ℤ × Bool → ℤ × Bool → Ordering
key_cmp x y = ordering_then (int_cmp x.0 y.0) (bool_cmp x.1 y.1)

key_total : IsTotalOrder key_cmp
key_total = then_total (on_total (λ (k : ℤ × Bool). k.0) int_cmp_total) (on_total (λ (k : ℤ × Bool). k.1) bool_cmp_total)

abbrev pub key_of : Stage → ℤ × Bool
key_of x = (x.rank, closes x.root)

ahead_from : (m n : ℤ) (b d : Bool) → is_lt (ordering_then (int_cmp n m) (bool_cmp d b)) ≡ false → (int_lt m n || (int_eq m n && (not b || d))) ≡ true
ahead_from m n true true h = grind (arith, ints)
ahead_from m n true false h = grind (arith, ints)
ahead_from m n false true h = grind (arith, ints)
ahead_from m n false false h = grind (arith, ints)

by_rank : (xs : List Stage) → IsSortedByKey key_of key_cmp xs → AreInOrder xs
by_rank xs sorted = pairs_at (λ x y. ahead x y ≡ true) xs (λ i j d lt bound.
    ahead_from (get_or xs i d).rank (get_or xs j d).rank (closes (get_or xs i d).root) (closes (get_or xs j d).root)
    (sorted_far (λ x y. is_lt (key_cmp (key_of x) (key_of y))) (ranks_by key_total key_of) xs sorted i j d (omega (arith, lt)) bound))

-- from the clause `sorted` of `sort_by_key`
pub in_order : {F : Type 0} {g : Mut F (Bor Stage × Unit {0}) (ℤ × Bool)} {f : F} (xs : List Stage)
    → ((key : Stage → ℤ × Bool) → ComputesKey g key f → IsSortedByKey key key_cmp xs)
    → ((a : Bor Stage × Unit {0}) (r : ℤ × Bool) (f' : F) → Called g f a r f' → (r ≡ key_of a.0.now) × (f' ≡ f)) → AreInOrder xs
in_order {g = g} {f = f} xs sorted h = by_rank xs (sorted key_of (always_returns_same g (λ a r. r ≡ key_of a.0.now) f h))
