-- Offsets at their places in a list whose partitions ascend.
use Rattle.std.proofs.Common.{◌++◌, ◌<◌, ◌==◌, ◌||◌, ◌∙◌, ◌∷◌, ◌≡◌, ◌≤◌, Bool, Err, List, None, Ok, Option, Result, Some, [], ap, arith, cond, false, find, get_or, inl, inr, length, nat_lt, refl, slice_get, subst, suc, sym, true, zero, ℕ, OnErr, OnOk}
use Rattle.std.specs.List.{AllByRecursion, AllWithin, insert, slice_set}
use Rattle.std.specs.Option.{option_map}
use Rattle.std.proofs.lemmas.Bool.{cases_Bool, cases_order, eqb-false, eqb-true, le-ltb, lt-ltb, ltb-false, ltb-true, ne_eqb, or_parts}
use Rattle.book_rows.specs.declared.rows.Offset.{Offset}
use Rattle.tab_streams.specs.ByName.{IsPlace, Rise, if_of, offset_of, set_by, set_offset, set_offsets}

-- ---- lower partitions stand first

item_of : (P : Offset → Type 0) (ps : List Offset) → AllByRecursion P ps → (k : ℕ) (d : Offset) → k < length ps → P (get_or ps k d)
item_of P [] h k d lt = absurd (omega (arith, lt))
item_of P (p ∷ ps) h zero d lt = h.0
item_of P (p ∷ ps) h (suc k) d lt = item_of P ps h.1 k d (omega (arith, lt))

lower_still : (partition : ℕ) (x y : Offset) → x.partition < y.partition → nat_lt y.partition partition ≡ true → nat_lt x.partition partition ≡ true
lower_still partition x y lt on = let below = ltb-true y.partition partition on in lt-ltb x.partition partition (omega (arith, lt, below))

pub partitioned : (partition : ℕ) (ps : List Offset) → Rise ps → (i j : ℕ) (d : Offset) → i ≤ j → j < length ps → nat_lt (get_or ps j d).partition partition ≡ true → nat_lt (get_or ps i d).partition partition ≡ true
partitioned partition [] h i j d le lt on = absurd (omega (arith, lt))
partitioned partition (p ∷ ps) h zero zero d le lt on = on
partitioned partition (p ∷ ps) h zero (suc j) d le lt on = lower_still partition p (get_or ps j d) (item_of (λ q. p.partition < q.partition) ps h.0 j d (omega (arith, lt))) on
partitioned partition (p ∷ ps) h (suc i) zero d le lt on = absurd (omega (arith, le))
partitioned partition (p ∷ ps) h (suc i) (suc j) d le lt on = partitioned partition ps h.1 i j d (omega (arith, le)) (omega (arith, lt)) on

-- ---- an offset is put at its place

module _ (same later : Offset → Bool) (o : Offset) where
  set_at_same : (ps : List Offset) (at : ℕ) (d : Offset) → at < length ps → ((k : ℕ) → k < at → (same (get_or ps k d) || later (get_or ps k d)) ≡ false)
      → same (get_or ps at d) ≡ true → set_by same later o ps ≡ slice_set ps at o
  set_at_same [] at d lt before on = absurd (omega arith)
  set_at_same (p ∷ ps) zero d lt before on = rw on refl
  set_at_same (p ∷ ps) (suc at) d lt before on =
      let none : (same p ≡ false) × (later p ≡ false) = or_parts (same p) (later p) (before 0 (omega arith)) in
      rw (none.0, none.1, set_at_same ps at d (omega arith) (λ k b. before (suc k) (omega arith)) on) refl

  set_at_later : (ps : List Offset) (at : ℕ) (d : Offset) → at < length ps → ((k : ℕ) → k < at → (same (get_or ps k d) || later (get_or ps k d)) ≡ false)
      → same (get_or ps at d) ≡ false → later (get_or ps at d) ≡ true → set_by same later o ps ≡ insert ps at o
  set_at_later [] at d lt before off on = absurd (omega arith)
  set_at_later (p ∷ ps) zero d lt before off on =
      let apart : same p ≡ false = off in
      let after : later p ≡ true = on in
      rw (apart, after) refl
  set_at_later (p ∷ ps) (suc at) d lt before off on =
      let none : (same p ≡ false) × (later p ≡ false) = or_parts (same p) (later p) (before 0 (omega arith)) in
      rw (none.0, none.1, set_at_later ps at d (omega arith) (λ k b. before (suc k) (omega arith)) off on) refl

  set_at_end : (ps : List Offset) (at : ℕ) (d : Offset) → at ≡ length ps → ((k : ℕ) → k < at → (same (get_or ps k d) || later (get_or ps k d)) ≡ false)
      → set_by same later o ps ≡ ps ++ o ∷ []
  set_at_end [] at d end before = refl
  set_at_end (p ∷ ps) zero d end before = absurd (omega (arith, end))
  set_at_end (p ∷ ps) (suc at) d end before =
      let none : (same p ≡ false) × (later p ≡ false) = or_parts (same p) (later p) (before 0 (omega arith)) in
      rw (none.0, none.1, set_at_end ps at d (omega (arith, end)) (λ k b. before (suc k) (omega arith))) refl

-- a lower partition is another one, and not a later
lower_none : (partition other : ℕ) → nat_lt other partition ≡ true → ((other == partition) || nat_lt partition other) ≡ false
lower_none partition other on =
    let lt : other < partition = ltb-true other partition on in
    by (other == partition) (nat_lt partition other) (ne_eqb other partition (λ e. omega (arith, e, lt))) (le-ltb partition other (omega (arith, lt))) where
      by : (s l : Bool) → s ≡ false → l ≡ false → (s || l) ≡ false
      by s l e f = rw (e, f) refl

above : (m n : ℕ) → m ≤ n → (m ≡ n → ⊥) → m < n
above m n le ne =
    elim (cases_order m n) [
      | inl eq ↦ absurd (ne eq)
      | inr (inl lt) ↦ lt
      | inr (inr gt) ↦ absurd (omega (arith, le, gt))
    ]

-- one that is neither lower nor the same is a later one
later_than : (partition other : ℕ) → nat_lt other partition ≡ false → (other == partition) ≡ false → partition < other
later_than partition other low apart =
    let le : partition ≤ other = ltb-false other partition low in
    above partition other le (λ e. eqb-false other partition apart (sym e))

module _ (o : Offset) (ps : List Offset) (at : ℕ) (place : IsPlace o.partition ps at) where
  before : (d : Offset) (k : ℕ) → k < at → (((get_or ps k d).partition == o.partition) || nat_lt o.partition (get_or ps k d).partition) ≡ false
  before d k lt = lower_none o.partition (get_or ps k d).partition (place.splits.0 k d (omega arith) lt)

  pub put_over : (d : Offset) → at < length ps → ((get_or ps at d).partition == o.partition) ≡ true → set_offset o ps ≡ slice_set ps at o
  put_over d lt on = set_at_same (λ p. p.partition == o.partition) (λ p. nat_lt o.partition p.partition) o ps at d lt (before d) on

  pub put_in : (d : Offset) → at < length ps → ((get_or ps at d).partition == o.partition) ≡ false → set_offset o ps ≡ insert ps at o
  put_in d lt off =
      set_at_later (λ p. p.partition == o.partition) (λ p. nat_lt o.partition p.partition) o ps at d lt (before d) off
      (lt-ltb o.partition (get_or ps at d).partition (later_than o.partition (get_or ps at d).partition (place.splits.1 at d (omega arith) lt) off))

  pub put_last : at ≡ length ps → set_offset o ps ≡ ps ++ o ∷ []
  put_last end = set_at_end (λ p. p.partition == o.partition) (λ p. nat_lt o.partition p.partition) o ps at o end (before o)

-- ---- partitions still ascend

set_all : (P : Offset → Type 0) (o : Offset) (ps : List Offset) → P o → AllByRecursion P ps → AllByRecursion P (set_offset o ps)
set_all P o [] h a = (h, tt)
set_all P o (p ∷ ps) h a = by (p.partition == o.partition) (nat_lt o.partition p.partition) (set_all P o ps h a.1) where
  by : (same later : Bool) → AllByRecursion P (set_offset o ps) → AllByRecursion P (cond same (o ∷ ps) (cond later (o ∷ p ∷ ps) (p ∷ set_offset o ps)))
  by true later rest = (h, a.1)
  by false true rest = (h, a)
  by false false rest = (a.0, rest)

all_above : (n m : ℕ) (ps : List Offset) → n ≤ m → AllByRecursion (λ q. m < q.partition) ps → AllByRecursion (λ q. n < q.partition) ps
all_above n m [] le a = tt
all_above n m (p ∷ ps) le a = let lt = a.0 in (omega (arith, le, lt), all_above n m ps le a.1)

set_rises : (o : Offset) (ps : List Offset) → Rise ps → Rise (set_offset o ps)
set_rises o [] h = (tt, tt)
set_rises o (p ∷ ps) h = by (p.partition == o.partition) (nat_lt o.partition p.partition) refl refl (set_rises o ps h.1) where
  by : (same later : Bool) → (p.partition == o.partition) ≡ same → nat_lt o.partition p.partition ≡ later → Rise (set_offset o ps) → Rise (cond same (o ∷ ps) (cond later (o ∷ p ∷ ps) (p ∷ set_offset o ps)))
  by true later e f rest = let same = eqb-true p.partition o.partition e in (all_above o.partition p.partition ps (omega (arith, same)) h.0, h.1)
  by false true e f rest =
      let lt : o.partition < p.partition = ltb-true o.partition p.partition f in
      ((lt, all_above o.partition p.partition ps (omega (arith, lt)) h.0), h)
  by false false e f rest =
      let le : p.partition ≤ o.partition = ltb-false o.partition p.partition f in
      let lt : p.partition < o.partition = above p.partition o.partition le (eqb-false p.partition o.partition e) in
      (set_all (λ q. p.partition < q.partition) o ps lt h.0, rest)

pub set_keeps : {X E : Type 0} (result : Result X E) (o : Offset) (old new : List Offset) → OnOk result (new ≡ set_offset o old) → OnErr result (new ≡ old) → Rise old → Rise new
set_keeps (Ok x) o old new ok err h = subst Rise (sym ok) (set_rises o old h)
set_keeps (Err e) o old new ok err h = subst Rise (sym err) h

-- setting one offset more
pub set_more : (ps os : List Offset) (o : Offset) → set_offsets ps (os ++ o ∷ []) ≡ set_offset o (set_offsets ps os)
set_more ps [] o = refl
set_more ps (p ∷ os) o = set_more (set_offset p ps) os o

-- ---- the offset of a partition is found at its place

none_later : (partition : ℕ) (ps : List Offset) → AllByRecursion (λ q. partition < q.partition) ps → find (λ q. q.partition == partition) ps ≡ None
none_later partition [] h = refl
none_later partition (p ∷ ps) h =
    let lt = h.0 in
    ap (λ same. cond same (Some p) (find (λ q. q.partition == partition) ps)) (ne_eqb p.partition partition (λ e. omega (arith, e, lt))) ∙ none_later partition ps h.1

found_by : (partition : ℕ) (ps : List Offset) (at : ℕ) → Rise ps → AllWithin (λ p. nat_lt p.partition partition ≡ true) ps 0 at → AllWithin (λ p. nat_lt p.partition partition ≡ false) ps at (length ps)
    → offset_of partition ps ≡ if_of partition (slice_get ps at)
found_by partition [] zero h a b = refl
found_by partition [] (suc at) h a b = refl
found_by partition (p ∷ ps) zero h a b =
    elim (cases_Bool (p.partition == partition)) [
      | inl on ↦ ap (λ same. option_map (λ (q : Offset). q.offset) (cond same (Some p) (find (λ q. q.partition == partition) ps))) on ∙ sym (ap (λ same. cond same (Some p.offset) None) on)
      | inr off ↦
          let lt : partition < p.partition = later_than partition p.partition (b 0 p (omega arith) (omega arith)) off in
          ap (λ same. option_map (λ (q : Offset). q.offset) (cond same (Some p) (find (λ q. q.partition == partition) ps))) off
          ∙ (ap (λ (f : Option Offset). option_map (λ (q : Offset). q.offset) f) (none_later partition ps (all_above partition p.partition ps (omega (arith, lt)) h.0))
          ∙ sym (ap (λ same. cond same (Some p.offset) None) off))
    ]
found_by partition (p ∷ ps) (suc at) h a b =
    let lt : p.partition < partition = ltb-true p.partition partition (a 0 p (omega arith) (omega arith)) in
    ap (λ same. option_map (λ (q : Offset). q.offset) (cond same (Some p) (find (λ q. q.partition == partition) ps))) (ne_eqb p.partition partition (λ e. omega (arith, e, lt)))
    ∙ found_by partition ps at h.1 (λ k d l t. a (suc k) d (omega arith) (omega (arith, t))) (λ k d l t. b (suc k) d (omega (arith, l)) (omega (arith, t)))

pub found_at : (partition : ℕ) (ps : List Offset) (at : ℕ) → Rise ps → IsPlace partition ps at → if_of partition (slice_get ps at) ≡ offset_of partition ps
found_at partition ps at h place = sym (found_by partition ps at h place.splits.0 place.splits.1)
