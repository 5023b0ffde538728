-- The first key of a range whose row passes, and the least number over the places of a range.
use Rattle.std.proofs.Common.{◌≡◌, ◌⊎◌, ℕ, ℤ, ◌≤◌, ◌≤ℤ◌, ◌<ℤ◌, ◌+ℤ◌, pos, Bool, true, false, [], ◌∷◌, Option, Some, None, arith, inl, inr, refl, sym, ◌∙◌, subst}
use Rattle.std.specs.Prelude.{filter, int_lt, not, ⊤}
use Rattle.std.specs.List.{AllByRecursion}
use Rattle.std.specs.List.Sorted.{IsStrictlySortedBy}
use Rattle.std.specs.declared.cmp.Ordering.{Ordering}
use Rattle.std.specs.declared.cmp.Ordering.TheVariants.{Less, Equal, Greater}
use Rattle.std.specs.declared.ops.Bound.TheVariants.{Included, Excluded}
use Rattle.std.specs.Ordering.{nat_cmp, int_cmp, is_eq, is_le, ordering_then}
use Rattle.std.specs.BTreeMap.{is_at}
use Rattle.std.specs.BTreeMap.Range.{range_contains}
use Rattle.std.specs.Map.{keys_of}
use Rattle.std.proofs.lemmas.Bool.{and_parts, cases_Bool}
use Rattle.std.proofs.lemmas.Int.{ints}
use Rattle.std.proofs.lemmas.Map.Keys.{sorted_head, sorted_tail}
use Rattle.row_index.specs.Index.{key_cmp, AllCome, AreInTurn, ComeFrom, HasAll, IsFrom, IsKey, IsPassing, IsUpTo, Lies, Stands}
use Rattle.row_index.proofs.IndexLemmas.{Entries, at_means, in_places, key_means, number_means, zero_first}

-- ---- the order of keys

int_equal : (x y : ℤ) → int_cmp x y ≡ Equal → x ≡ y
int_equal x y on = grind (arith, ints)

int_less : (x y : ℤ) → int_cmp x y ≡ Less → x <ℤ y
int_less x y on = grind (arith, ints)

nat_less : (x y : ℕ) → nat_cmp x y ≡ Less → x ≤ y
nat_less x y on = grind (arith)

int_below : (x y : ℤ) → is_le (int_cmp x y) ≡ true → x ≤ℤ y
int_below x y on = grind (arith, ints)

int_above : (x y : ℤ) → int_cmp x y ≡ Greater → y <ℤ x
int_above x y on = grind (arith, ints)

-- what a comparison by digest, place and number says where the digests are one
later : (a b c : Ordering) → a ≡ Equal → ordering_then (ordering_then a b) c ≡ Less → (b ≡ Less) ⊎ ((b ≡ Equal) × (c ≡ Less))
later Equal Less c one less = inl refl
later Equal Equal c one less = inr (refl, less)
later Equal Greater c one less = cc
later Less b c one less = cc
later Greater b c one less = cc

same_digest : (x y : ℕ) → x ≡ y → nat_cmp x y ≡ Equal
same_digest x y e = grind (arith)

from_less : (x y : (ℕ × ℤ) × ℕ) → x.0.0 ≡ y.0.0 → key_cmp x y ≡ Less → IsFrom x y
from_less x y one less =
    elim (later (nat_cmp x.0.0 y.0.0) (int_cmp x.0.1 y.0.1) (nat_cmp x.1 y.1) (same_digest x.0.0 y.0.0 one) less) [
      | inl before ↦ inl (int_less x.0.1 y.0.1 before)
      | inr both ↦ inr (int_equal x.0.1 y.0.1 both.0, nat_less x.1 y.1 both.1)
    ]

-- a key between the first place and the end, by its comparisons with both
between : (a b c d : Ordering) → is_le (ordering_then (ordering_then a b) d) ≡ true → not (is_le (ordering_then (ordering_then a c) d)) ≡ true → is_le d ≡ true
    → (is_eq a ≡ true) × (is_le b ≡ true) × (c ≡ Greater)
between Less b c d from below least = cc
between Greater b c d from below least = cc
between Equal Greater c d from below least = cc
between Equal Less Less d from below least = cc
between Equal Less Equal d from below least = (let clash : not true ≡ true = rw least at below in cc)
between Equal Less Greater d from below least = (refl, refl, refl)
between Equal Equal Less d from below least = cc
between Equal Equal Equal d from below least = (let clash : not true ≡ true = rw least at below in cc)
between Equal Equal Greater d from below least = (refl, refl, refl)

pub lies_between : (g : (ℕ × ℤ) × ℤ) (q : (ℕ × ℤ) × ℕ) → range_contains key_cmp (Included (g.0, 0)) (Excluded ((g.0.0, g.1), 0)) q ≡ true → Lies g q.0
lies_between g q on =
    let both = and_parts (is_le (key_cmp (g.0, 0) q)) (not (is_le (key_cmp ((g.0.0, g.1), 0) q))) on in
    let parts = between (nat_cmp g.0.0 q.0.0) (int_cmp g.0.1 q.0.1) (int_cmp g.1 q.0.1) (nat_cmp 0 q.1) both.0 both.1 (zero_first q.1) in
    (sym (at_means g.0.0 q.0.0 parts.0), int_below g.0.1 q.0.1 parts.1, int_above g.1 q.0.1 parts.2)

-- ---- the keys of a range, in turn

stands_in : (P : (ℕ × ℤ) × ℕ → Type 0) (ks : Entries) → AllByRecursion P (keys_of ks) → (k : (ℕ × ℤ) × ℕ) → Stands k ks → P k
stands_in P [] all k there = elim there [ ]
stands_in P (e ∷ ks) all k there = elim there [ inl here ↦ subst P here all.0 | inr later ↦ stands_in P ks all.1 k later ]

stands_kept : (test : ((ℕ × ℤ) × ℕ) × ⊤ → Bool) (ks : Entries) (k : (ℕ × ℤ) × ℕ) → Stands k (filter test ks) → Stands k ks
stands_kept test [] k there = there
stands_kept test (e ∷ ks) k there =
    elim (cases_Bool (test e)) [
      | inl on ↦ (let all : Stands k (e ∷ filter test ks) = rw on at there in elim all [ inl here ↦ inl here | inr later ↦ inr (stands_kept test ks k later) ])
      | inr off ↦ inr (stands_kept test ks k (rw off at there))
    ]

abbrev is_between : (ℕ × ℤ) × ℤ → ((ℕ × ℤ) × ℕ) × ⊤ → Bool
is_between g e = range_contains key_cmp (Included (g.0, 0)) (Excluded ((g.0.0, g.1), 0)) e.0

pub in_turn : (g : (ℕ × ℤ) × ℤ) (ks : Entries) → IsStrictlySortedBy key_cmp (keys_of ks) → AreInTurn g (filter (is_between g) ks)
in_turn g [] ordered = tt
in_turn g (e ∷ ks) ordered =
    let rest = in_turn g ks (sorted_tail key_cmp e.0 (keys_of ks) ordered) in
    elim (cases_Bool (is_between g e)) [
      | inl on ↦
          rw on (
            lies_between g e.0 on,
            (λ k there. stands_in (λ q. key_cmp e.0 q ≡ Less) ks (sorted_head key_cmp e.0 (keys_of ks) ordered) k (stands_kept (is_between g) ks k there)),
            rest,
          )
      | inr off ↦ rw off rest
    ]

key_is : (k q : (ℕ × ℤ) × ℕ) → is_at (key_cmp k) q ≡ true → q ≡ k
key_is k q on = both_same q.0 k.0 q.1 k.1 (sym (key_means k q on)) (sym (number_means k q on))
  where
    both_same : (a b : ℕ × ℤ) (m n : ℕ) → a ≡ b → m ≡ n → (let p : (ℕ × ℤ) × ℕ = (a, m) in let q : (ℕ × ℤ) × ℕ = (b, n) in p ≡ q)
    both_same a b m n e f = rw (e, f) refl

-- a key of the index that lies in the range is among those to come at first
stands_first : (g : (ℕ × ℤ) × ℤ) (k : ℕ × ℤ) (s : ℕ) (ks : Entries) → Lies g k → IsKey ks (k, s) → Stands (k, s) (filter (is_between g) ks)
stands_first g k s [] lies there = cc
stands_first g k s (e ∷ ks) lies there =
    elim (cases_Bool (is_at (key_cmp (k, s)) e.0)) [
      | inl here ↦ rw (in_places g k s e.0 lies here) (inl (key_is (k, s) e.0 here))
      | inr apart ↦
          (let later = stands_first g k s ks lies (rw apart at there) in
          elim (cases_Bool (is_between g e)) [ inl on ↦ rw on (inr later) | inr off ↦ rw off later ])
    ]

module _ {T : Type 0} (rows : ℕ → Option T) (test : T → Bool) (g : (ℕ × ℤ) × ℤ) (ks : Entries) where
  pub come_first : AllCome rows test g ks (filter (is_between g) ks)
  come_first s r k found on lies there = stands_first g k s ks lies there

  -- a key with no row, or whose row doesn't pass
  pub come_passed : (e : ((ℕ × ℤ) × ℕ) × ⊤) (left : Entries) → ((r : T) → rows e.0.1 ≡ Some r → test r ≡ false) → AllCome rows test g ks (e ∷ left) → AllCome rows test g ks left
  come_passed e left fails old s r k found on lies there =
      elim (old s r k found on lies there) [
        | inl here ↦ (let off : test r ≡ false = fails r (rw here found) in let clash : true ≡ false = sym on ∙ off in cc)
        | inr later ↦ later
      ]

  -- the key whose row passes comes before all others
  pub come_from : (e : ((ℕ × ℤ) × ℕ) × ⊤) (left : Entries) → AreInTurn g (e ∷ left) → AllCome rows test g ks (e ∷ left) → ComeFrom rows test g ks (Some e.0)
  come_from e left turn all s r k found on lies there =
      elim (all s r k found on lies there) [
        | inl here ↦ (e.0, refl, rw here (inr (refl, omega arith)))
        | inr later ↦ (e.0, refl, from_less e.0 (k, s) (turn.0.0 ∙ sym lies.0) (turn.1 (k, s) later))
      ]

  pub come_none : AllCome rows test g ks [] → ComeFrom rows test g ks None
  come_none all s r k found on lies there = elim (all s r k found on lies there) [ ]

-- ---- the least number, place after place

int_lt_means : (x y : ℤ) → int_lt x y ≡ true → x <ℤ y
int_lt_means x y on = grind (arith, ints)

int_from : (x y : ℤ) → int_lt x y ≡ false → y ≤ℤ x
int_from x y off = grind (arith, ints)

int_past : (f x : ℤ) → f <ℤ x → x <ℤ (f +ℤ pos 1) → ⊥
int_past f x past near = omega (arith, ints)

int_within : (x f e : ℤ) → x <ℤ (f +ℤ pos 1) → f <ℤ e → x <ℤ e
int_within x f e near below = omega (arith, ints)

int_up : (x e p : ℤ) → x <ℤ e → e ≤ℤ p → x <ℤ p
int_up x e p below past = omega (arith, ints)

int_none : (low x : ℤ) → low ≤ℤ x → x <ℤ low → ⊥
int_none low x from below = omega (arith, ints)

pub up_to : (best : Option ℕ) (b s : ℕ) → IsUpTo best b → b ≤ s → IsUpTo best s
up_to best b s is le = (is.0, is.1, omega (arith, is.2))

some_same : {X : Type 0} (x y : X) → Some x ≡ Some y → x ≡ y
some_same x y e = cc

module _ {T : Type 0} (rows : ℕ → Option T) (test : T → Bool) (digest : ℕ) (low : ℤ) (ks : Entries) where
  -- no key lies before the first place
  pub least_first : (best : Option ℕ) → HasAll (λ s r. IsUpTo best s) rows test ((digest, low), low) ks
  least_first best s r k found on lies there = absurd (int_none low k.1 lies.1 lies.2)

  -- the first key from a place on counts for all keys at its own place
  pub least_after : (best after : Option ℕ) (place end : ℤ) (h : (ℕ × ℤ) × ℕ) → ComeFrom rows test ((digest, place), end) ks (Some h) → h.0.1 <ℤ end → ((s : ℕ) → IsUpTo best s → IsUpTo after s) → IsUpTo after h.1
      → HasAll (λ s r. IsUpTo best s) rows test ((digest, low), place) ks → HasAll (λ s r. IsUpTo after s) rows test ((digest, low), h.0.1 +ℤ pos 1) ks
  least_after best after place end h from within kept own old s r k found on lies there =
      elim (cases_Bool (int_lt k.1 place)) [
        | inl before ↦ kept s (old s r k found on (lies.0, lies.1, int_lt_means k.1 place before) there)
        | inr behind ↦
            (let come = from s r k found on (lies.0, int_from k.1 place behind, int_within k.1 h.0.1 end lies.2 within) there in
            let after_h : IsFrom h (k, s) = subst (λ q. IsFrom q (k, s)) (sym (some_same h come.0 come.1)) come.2 in
            elim after_h [ inl past ↦ absurd (int_past h.0.1 k.1 past lies.2) | inr here ↦ up_to after h.1 s own here.1 ])
      ]

  pub least_last : (best : Option ℕ) (place end : ℤ) → end ≤ℤ place → HasAll (λ s r. IsUpTo best s) rows test ((digest, low), place) ks → HasAll (λ s r. IsUpTo best s) rows test ((digest, low), end) ks
  least_last best place end past old s r k found on lies there = old s r k found on (lies.0, lies.1, int_up k.1 end place lies.2 past) there

  -- where no key from a place on has a row that passes, those before it are all
  pub least_none : (best : Option ℕ) (place end : ℤ) → ComeFrom rows test ((digest, place), end) ks None → HasAll (λ s r. IsUpTo best s) rows test ((digest, low), place) ks
      → HasAll (λ s r. IsUpTo best s) rows test ((digest, low), end) ks
  least_none best place end from old s r k found on lies there =
      elim (cases_Bool (int_lt k.1 place)) [
        | inl before ↦ old s r k found on (lies.0, lies.1, int_lt_means k.1 place before) there
        | inr behind ↦ (let come = from s r k found on (lies.0, int_from k.1 place behind, lies.2) there in let clash : None ≡ Some come.0 = come.1 in cc)
      ]

  -- the lesser of two numbers of rows that pass is one of these
  pub lesser_sound : (best : Option ℕ) (result number b : ℕ) → ((a : ℕ) → best ≡ Some a → IsPassing rows test a) → IsPassing rows test number → (best ≡ Some result) ⊎ (result ≡ number) → Some result ≡ Some b → IsPassing rows test b
  lesser_sound best result number b old new one same =
      elim one [
        | inl kept ↦ subst (λ x. IsPassing rows test x) (some_same result b same) (old result kept)
        | inr fresh ↦ subst (λ x. IsPassing rows test x) (sym fresh ∙ some_same result b same) new
      ]

-- what counts goes on counting where the least number gets less
pub counts_on : (best after : Option ℕ) → ((b : ℕ) → best ≡ Some b → IsUpTo after b) → (s : ℕ) → IsUpTo best s → IsUpTo after s
counts_on best after kept s is = up_to after is.0 s (kept is.0 is.1) is.2
