-- Keys of the index, and which of them a range has.
use Rattle.std.proofs.Common.{◌≡◌, ◌⊎◌, ℕ, ℤ, ◌<◌, ◌≤ℤ◌, ◌<ℤ◌, ◌+◌, zero, suc, length, Bool, true, false, cond, List, [], ◌∷◌, Option, Some, None, IsSome, slice_get, arith, inl, inr, refl, sym, ◌∙◌, subst}
use Rattle.std.specs.Prelude.{⊤}
use Rattle.std.specs.declared.cmp.Ordering.{Ordering}
use Rattle.std.specs.declared.cmp.Ordering.TheVariants.{Less, Equal, Greater}
use Rattle.std.specs.declared.ops.Bound.TheVariants.{Included, Excluded}
use Rattle.std.specs.Ordering.{nat_cmp, int_cmp, is_eq, is_le, ordering_then}
use Rattle.std.specs.BTreeMap.{is_at}
use Rattle.std.specs.BTreeMap.Range.{range_contains, entries_between}
use Rattle.std.specs.Map.{lookup}
use Rattle.std.proofs.lemmas.Bool.{cases_Bool, cases_order}
use Rattle.std.proofs.lemmas.Int.{ints}
use Rattle.row_index.specs.Index.{In, key_cmp, IsKey, IsMore, IsLess, IsReached, Shows, Lies, HasAll, Comes, CountsOrComes, digest_key, digest_range}

abbrev pub Entries : Type 0
Entries = List (((ℕ × ℤ) × ℕ) × ⊤)

pub cmp_same : (x : ℕ) → nat_cmp x x ≡ Equal
cmp_same x = grind (arith)

pub at_means : (x y : ℕ) → is_at (nat_cmp x) y ≡ true → x ≡ y
at_means x y on = grind (arith)

pub int_same : (x : ℤ) → int_cmp x x ≡ Equal
int_same x = grind (arith, ints)

pub int_means : (x y : ℤ) → is_eq (int_cmp x y) ≡ true → x ≡ y
int_means x y on = grind (arith, ints)

pub int_le_cmp : (x y : ℤ) → x ≤ℤ y → is_le (int_cmp x y) ≡ true
int_le_cmp x y le = grind (arith, ints)

pub int_gt_cmp : (x y : ℤ) → y <ℤ x → int_cmp x y ≡ Greater
int_gt_cmp x y lt = grind (arith, ints)

pub zero_first : (s : ℕ) → is_le (nat_cmp 0 s) ≡ true
zero_first s = grind (arith)

pub then_first : (a b : Ordering) → is_eq (ordering_then a b) ≡ true → is_eq a ≡ true
then_first Less b on = cc
then_first Equal b on = refl
then_first Greater b on = cc

pub then_last : (a b : Ordering) → is_eq (ordering_then a b) ≡ true → is_eq b ≡ true
then_last Less b on = cc
then_last Equal b on = on
then_last Greater b on = cc

pub le_then : (a : Ordering) (s : ℕ) → is_le a ≡ true → is_le (ordering_then a (nat_cmp 0 s)) ≡ true
le_then Less s on = refl
le_then Equal s on = zero_first s
le_then Greater s on = cc

pub key_same : (k : (ℕ × ℤ) × ℕ) → is_at (key_cmp k) k ≡ true
key_same k = rw (cmp_same k.0.0, int_same k.0.1, cmp_same k.1) refl

pub number_means : (k q : (ℕ × ℤ) × ℕ) → is_at (key_cmp k) q ≡ true → k.1 ≡ q.1
number_means k q on = at_means k.1 q.1 (then_last (ordering_then (nat_cmp k.0.0 q.0.0) (int_cmp k.0.1 q.0.1)) (nat_cmp k.1 q.1) on)

-- a key in the range of places
pub in_places : (g : (ℕ × ℤ) × ℤ) (k : ℕ × ℤ) (s : ℕ) (q : (ℕ × ℤ) × ℕ) → Lies g k → is_at (key_cmp (k, s)) q ≡ true → range_contains key_cmp (Included (g.0, 0)) (Excluded ((g.0.0, g.1), 0)) q ≡ true
in_places g k s q lies on =
    let first = then_first (ordering_then (nat_cmp k.0 q.0.0) (int_cmp k.1 q.0.1)) (nat_cmp s q.1) on in
    let digest : k.0 ≡ q.0.0 = at_means k.0 q.0.0 (then_first (nat_cmp k.0 q.0.0) (int_cmp k.1 q.0.1) first) in
    let place : k.1 ≡ q.0.1 = int_means k.1 q.0.1 (then_last (nat_cmp k.0 q.0.0) (int_cmp k.1 q.0.1) first) in
    let own : g.0.0 ≡ q.0.0 = sym lies.0 ∙ digest in
    let same : nat_cmp g.0.0 q.0.0 ≡ Equal = rw own (cmp_same q.0.0) in
    rw (same, int_gt_cmp g.1 q.0.1 (subst (λ x. x <ℤ g.1) place lies.2), le_then (int_cmp g.0.1 q.0.1) q.1 (int_le_cmp g.0.1 q.0.1 (subst (λ x. g.0.1 ≤ℤ x) place lies.1))) refl

-- a key of the index that lies in the range comes in the walk along the range
pub comes_first : (g : (ℕ × ℤ) × ℤ) (k : ℕ × ℤ) (s : ℕ) (ks : Entries) → Lies g k → IsKey ks (k, s) → Comes s (entries_between key_cmp (Included (g.0, 0)) (Excluded ((g.0.0, g.1), 0)) ks)
comes_first g k s [] lies there = cc
comes_first g k s (e ∷ ks) lies there =
    elim (cases_Bool (is_at (key_cmp (k, s)) e.0)) [
      | inl here ↦ rw (in_places g k s e.0 lies here) (inl (sym (number_means (k, s) e.0 here)))
      | inr apart ↦
          (let later = comes_first g k s ks lies (rw apart at there) in
          elim (cases_Bool (range_contains key_cmp (Included (g.0, 0)) (Excluded ((g.0.0, g.1), 0)) e.0)) [ inl on ↦ rw on (inr later) | inr off ↦ rw off later ])
    ]

pub place_of : {X : Type 0} (x : X) (xs : List X) → In x xs → (i : ℕ) × (i < length xs) × (slice_get xs i ≡ Some x)
place_of x [] there = elim there [ ]
place_of x (y ∷ ys) there =
    elim there [
      | inl same ↦ (0, omega arith, rw same refl)
      | inr later ↦ (let p = place_of x ys later in (suc p.0, omega (arith, p.1), p.2))
    ]

pub in_at : {X : Type 0} (x : X) (xs : List X) (i : ℕ) → slice_get xs i ≡ Some x → In x xs
in_at x [] i got = cc
in_at x (y ∷ ys) zero got = inl (let e : x ≡ y = cc in e)
in_at x (y ∷ ys) (suc i) got = inr (in_at x ys i got)

-- ---- edits

pub more_after : (ks ks' : Entries) (k : (ℕ × ℤ) × ℕ) → ((p : (ℕ × ℤ) × ℕ) → lookup (is_at (key_cmp p)) ks' ≡ cond (is_at (key_cmp k) p) (Some tt) (lookup (is_at (key_cmp p)) ks)) → IsMore ks ks'
more_after ks ks' k noted p old =
    rw (noted p)
    (elim (is_at (key_cmp k) p) as (λ b. IsSome (cond b (Some tt) (lookup (is_at (key_cmp p)) ks))) [ true ↦ refl | false ↦ old ])

-- what is taken out brings nothing in
pub fewer_after : (ks ks' : Entries) (k : (ℕ × ℤ) × ℕ) → ((p : (ℕ × ℤ) × ℕ) → lookup (is_at (key_cmp p)) ks' ≡ cond (is_at (key_cmp k) p) None (lookup (is_at (key_cmp p)) ks)) → (p : (ℕ × ℤ) × ℕ) → IsKey ks' p → IsKey ks p
fewer_after ks ks' k noted p new =
    elim (cases_Bool (is_at (key_cmp k) p)) [
      | inl on ↦ (let none : IsSome {T = ⊤} None = rw (noted p, on) at new in cc)
      | inr off ↦ rw (noted p, off) at new
    ]

-- and is gone itself
pub gone_after : (ks ks' : Entries) (k : (ℕ × ℤ) × ℕ) → ((p : (ℕ × ℤ) × ℕ) → lookup (is_at (key_cmp p)) ks' ≡ cond (is_at (key_cmp k) p) None (lookup (is_at (key_cmp p)) ks)) → IsKey ks' k → ⊥
gone_after ks ks' k noted new = let none : IsSome {T = ⊤} None = rw (noted k, key_same k) at new in cc

pub own_after : (ks ks' : Entries) (k : (ℕ × ℤ) × ℕ) → ((p : (ℕ × ℤ) × ℕ) → lookup (is_at (key_cmp p)) ks' ≡ cond (is_at (key_cmp k) p) (Some tt) (lookup (is_at (key_cmp p)) ks)) → IsKey ks' k
own_after ks ks' k noted = rw (noted k, key_same k) refl

pub less_after : (ks ks' : Entries) (k : ℕ × ℤ) (n : ℕ) → ((p : (ℕ × ℤ) × ℕ) → lookup (is_at (key_cmp p)) ks' ≡ cond (is_at (key_cmp (k, n)) p) None (lookup (is_at (key_cmp p)) ks)) → IsLess n ks ks'
less_after ks ks' k n noted p apart old =
    elim (cases_Bool (is_at (key_cmp (k, n)) p)) [
      | inl on ↦ absurd (apart (sym (number_means (k, n) p on)))
      | inr off ↦ rw (noted p, off) old
    ]

-- ---- the walk

module _ {T : Type 0} (rows : ℕ → Option T) (test : T → Bool) (g : (ℕ × ℤ) × ℤ) (ks : Entries) where
  pub left_first : (counts : ℕ → T → Type 0) → CountsOrComes counts rows test g ks (entries_between key_cmp (Included (g.0, 0)) (Excluded ((g.0.0, g.1), 0)) ks)
  left_first counts s r k found on lies there = inr (comes_first g k s ks lies there)

  -- a key whose row is taken
  pub left_taken : (before after : ℕ → T → Type 0) (e : ((ℕ × ℤ) × ℕ) × ⊤) (left : Entries) (q : T) → ((s : ℕ) (r : T) → before s r → after s r) → rows e.0.1 ≡ Some q → after e.0.1 q → CountsOrComes before rows test g ks (e ∷ left) → CountsOrComes after rows test g ks left
  left_taken before after e left q kept has taken old s r k found on lies there =
      elim (old s r k found on lies there) [
        | inl counts ↦ inl (kept s r counts)
        | inr (inl here) ↦
            (let same : Some q ≡ Some r = sym has ∙ (rw here found) in
            let q' : q ≡ r = cc in
            inl (subst (λ n. after n r) here (subst (λ x. after e.0.1 x) q' taken)))
        | inr (inr later) ↦ inr later
      ]

  -- a key with no row, or whose row doesn't pass
  pub left_passed : (counts : ℕ → T → Type 0) (e : ((ℕ × ℤ) × ℕ) × ⊤) (left : Entries) → ((r : T) → rows e.0.1 ≡ Some r → test r ≡ false) → CountsOrComes counts rows test g ks (e ∷ left) → CountsOrComes counts rows test g ks left
  left_passed counts e left fails old s r k found on lies there =
      elim (old s r k found on lies there) [
        | inl counted ↦ inl counted
        | inr (inl here) ↦ (let off : test r ≡ false = fails r (rw here found) in let clash : true ≡ false = sym on ∙ off in cc)
        | inr (inr later) ↦ inr later
      ]

  pub left_none : (counts : ℕ → T → Type 0) → CountsOrComes counts rows test g ks [] → HasAll counts rows test g ks
  left_none counts old s r k found on lies there = elim (old s r k found on lies there) [ inl counted ↦ counted | inr none ↦ elim none [ ] ]

pub split_below : (i n : ℕ) → i < n + 1 → (i < n) ⊎ (i ≡ n)
split_below i n lt = elim (cases_order i n) [ inl same ↦ inr same | inr (inl low) ↦ inl low | inr (inr high) ↦ absurd (omega arith) ]

pub pair_same : (a b : ℕ) (x y : ℤ) → a ≡ b → x ≡ y → (let p : ℕ × ℤ = (a, x) in let q : ℕ × ℤ = (b, y) in p ≡ q)
pair_same a b x y e f = rw (e, f) refl

pub key_means : (k q : (ℕ × ℤ) × ℕ) → is_at (key_cmp k) q ≡ true → k.0 ≡ q.0
key_means k q on =
    let first = then_first (ordering_then (nat_cmp k.0.0 q.0.0) (int_cmp k.0.1 q.0.1)) (nat_cmp k.1 q.1) on in
    let digest : k.0.0 ≡ q.0.0 = at_means k.0.0 q.0.0 (then_first (nat_cmp k.0.0 q.0.0) (int_cmp k.0.1 q.0.1) first) in
    let place : k.0.1 ≡ q.0.1 = int_means k.0.1 q.0.1 (then_last (nat_cmp k.0.0 q.0.0) (int_cmp k.0.1 q.0.1) first) in
    pair_same k.0.0 q.0.0 k.0.1 q.0.1 digest place

pub own_left : (own : List (ℕ × ℤ)) (ks ks' : Entries) (k : ℕ × ℤ) (n : ℕ) → (In k own → ⊥) → ((p : (ℕ × ℤ) × ℕ) → lookup (is_at (key_cmp p)) ks' ≡ cond (is_at (key_cmp (k, n)) p) None (lookup (is_at (key_cmp p)) ks)) → Shows own n ks → Shows own n ks'
own_left own ks ks' k n lost noted old j there =
    elim (cases_Bool (is_at (key_cmp (k, n)) (j, n))) [
      | inl on ↦ (let same : k ≡ j = key_means (k, n) (j, n) on in absurd (lost (subst (λ x. In x own) (sym same) there)))
      | inr off ↦ rw (noted (j, n), off) (old j there)
    ]

-- ---- keys that are found by their digest alone

pub lies_at : (digest : ℕ) → Lies (digest_range digest) (digest_key digest)
lies_at digest = (refl, omega (arith, ints), omega (arith, ints))

-- where the key is one of the row's, the range reaches the row
pub digest_reached : (digest : ℕ) (own : List (ℕ × ℤ)) → In (digest_key digest) own → IsReached (digest_range digest ∷ []) own
digest_reached digest own there = (digest_range digest, digest_key digest, inl refl, there, lies_at digest)
