-- Instants, and the version of a new lock.
use Rattle.std.proofs.Common.{◌≡◌, ℤ, pos, ◌+ℤ◌, ◌≤ℤ◌, ◌<ℤ◌, Bool, true, false, cond, not, ◌&&◌, Some, None, refl, subst, arith, ◌≢◌, int_lt, int_le}
use Rattle.std.specs.Int.{int_max}
use Rattle.std.specs.Ordering.{int_eq}
use Rattle.std.proofs.lemmas.Bool.Decides.{Decides-int_eq}
use Rattle.std.proofs.lemmas.Bool.{and_from, and_parts, and_left, and_right, false≢true, false_from_ne_true}
use Rattle.std.proofs.lemmas.Int.{ints, clamps}
use Rattle.iv_time.specs.Range.{is_instant, first_instant, last_instant}
use Rattle.book_rows.specs.Grant.{version_for, last_after}
use Rattle.book_rows.specs.Shape.{is_append}
use Rattle.book_rows.specs.declared.answers.Counters.{Counters}
use Rattle.book_rows.specs.declared.kinds.LockKind.{LockKind}
use Rattle.book_rows.specs.declared.kinds.LockKind.TheVariants as LockKinds
use Rattle.laws_locks.specs.LockShape.{AreInstants}

-- ---- orders as tests

pub le_is : (a b : ℤ) → int_le a b ≡ true → a ≤ℤ b
le_is a b h = grind (arith, ints)

pub is_le : (a b : ℤ) → a ≤ℤ b → int_le a b ≡ true
is_le a b h = grind (arith, ints)

pub is_lt : (a b : ℤ) → a <ℤ b → int_lt a b ≡ true
is_lt a b h = grind (arith, ints)

pub le_le : (a b c : ℤ) → int_le a b ≡ true → int_le b c ≡ true → int_le a c ≡ true
le_le a b c h k = is_le a c (omega (arith, ints, le_is a b h, le_is b c k))

pub le_itself : (a : ℤ) → int_le a a ≡ true
le_itself a = is_le a a (omega (arith, ints))

-- ---- instants

pub later_is_instant : (a b : ℤ) → is_instant a ≡ true → is_instant b ≡ true → is_instant (int_max a b) ≡ true
later_is_instant a b h k = elim (int_lt b a) as (λ c. is_instant (cond c a b) ≡ true) [ true ↦ h | false ↦ k ]

-- ---- the version of a new lock

-- what a new lock's version is beside those before, and what the last version is after it
pub record IsNewVersion (kind : LockKind) (k : Counters) (v : ℤ) : Type 0 where
  pub instant : is_instant v ≡ true
  pub fits : cond (is_append kind) (int_eq v (pos 0)) (int_lt (pos 0) v) ≡ true
  pub last : is_instant (last_after kind k v) && int_le (pos 0) (last_after kind k v) ≡ true
  pub grows : int_le k.last (last_after kind k v) ≡ true
  pub within : int_le v (last_after kind k v) ≡ true
  pub apart : (x : Bool) (u : ℤ) → int_le u k.last ≡ true → (x && not (is_append kind) && int_eq u v) ≡ false

-- a version that no lock had
record IsFresh (last v : ℤ) : Type 0 where
  high : v ≤ℤ last_instant
  low : pos 0 <ℤ v
  above : last <ℤ v

max_is_fresh : (b : Bool) (k : Counters) (v : ℤ) → (k.last ≡ last_instant → b ≡ true) → cond b None (Some (int_max k.clock (k.last +ℤ pos 1))) ≡ Some v → pos 0 ≤ℤ k.last → k.last ≤ℤ last_instant → k.clock ≤ℤ last_instant → IsFresh k.last v
max_is_fresh true k v d e low high clock = cc
max_is_fresh false k v d e low high clock =
    let other : k.last ≢ last_instant = λ h. false≢true (d h) in
    let is : int_max k.clock (k.last +ℤ pos 1) ≡ v = cc in
    subst (λ (v : ℤ). IsFresh k.last v) is (greater k.clock k.last other low high clock) where
      greater : (clock last : ℤ) → (last ≢ last_instant) → pos 0 ≤ℤ last → last ≤ℤ last_instant → clock ≤ℤ last_instant → IsFresh last (int_max clock (last +ℤ pos 1))
      greater clock last other low high c = record { high = omega (arith, ints, clamps, other); low = omega (arith, ints, clamps, other); above = omega (arith, ints, clamps, other) }

new_of_fresh : (k : Counters) (v : ℤ) → AreInstants k.clock k.last → cond (int_eq k.last last_instant) None (Some (int_max k.clock (k.last +ℤ pos 1))) ≡ Some v → IsFresh k.last v
new_of_fresh k v h e =
    max_is_fresh (int_eq k.last last_instant) k v (Decides-int_eq k.last last_instant).1 e (le_is _ _ (and_parts _ _ h.last).1) (le_is _ _ (and_parts _ _ (and_parts _ _ h.last).0).1) (le_is _ _ (and_parts _ _ h.clock).1)

fresh_is_apart : (x : Bool) (k : Counters) (u v : ℤ) → IsFresh k.last v → int_le u k.last ≡ true → (x && true && int_eq u v) ≡ false
fresh_is_apart x k u v f e =
    and_right (x && true) (int_eq u v) (false_from_ne_true _ (λ on. differs k.last ((Decides-int_eq u v).0 on) f.above (le_is u k.last e))) where
      differs : (last : ℤ) → u ≡ v → last <ℤ v → u ≤ℤ last → ⊥
      differs last same above upto = omega (arith, ints)

fresh_instant : (k : Counters) (v : ℤ) → IsFresh k.last v → is_instant v ≡ true
fresh_instant k v f = and_from _ _ (is_le first_instant v (first f.low)) (is_le v last_instant f.high) where
  first : pos 0 <ℤ v → first_instant ≤ℤ v
  first low = omega (arith, ints)

fresh_last : (k : Counters) (v : ℤ) → IsFresh k.last v → is_instant v && int_le (pos 0) v ≡ true
fresh_last k v f = and_from _ _ (fresh_instant k v f) (is_le (pos 0) v (weaker f.low)) where
  weaker : pos 0 <ℤ v → pos 0 ≤ℤ v
  weaker low = omega (arith, ints)

fresh_grows : (k : Counters) (v : ℤ) → IsFresh k.last v → int_le k.last v ≡ true
fresh_grows k v f = is_le k.last v (weaker k.last f.above) where
  weaker : (last : ℤ) → last <ℤ v → last ≤ℤ v
  weaker last low = omega (arith, ints)

append_version : (k : Counters) (v : ℤ) → AreInstants k.clock k.last → pos 0 ≡ v → IsNewVersion LockKinds.Append k v
append_version k v h e = subst (λ (v : ℤ). IsNewVersion LockKinds.Append k v) e (record {
  instant = refl;
  fits = refl;
  last = h.last;
  grows = le_itself k.last;
  within = (and_parts _ _ h.last).1;
  apart = λ x u i. and_left (x && false) (int_eq u (pos 0)) (and_right x false refl);
})

pub new_version : (kind : LockKind) (k : Counters) (v : ℤ) → AreInstants k.clock k.last → version_for kind k ≡ Some v → IsNewVersion kind k v
new_version LockKinds.Append k v h e = append_version k v h (same e) where
  same : Some (pos 0) ≡ Some v → pos 0 ≡ v
  same e = cc
new_version LockKinds.Exclusive k v h e =
    let f = new_of_fresh k v h e in
    record { instant = fresh_instant k v f; fits = is_lt _ _ f.low; last = fresh_last k v f; grows = fresh_grows k v f; within = le_itself v; apart = λ x u i. fresh_is_apart x k u v f i }
new_version LockKinds.Shared k v h e =
    let f = new_of_fresh k v h e in
    record { instant = fresh_instant k v f; fits = is_lt _ _ f.low; last = fresh_last k v f; grows = fresh_grows k v f; within = le_itself v; apart = λ x u i. fresh_is_apart x k u v f i }
new_version LockKinds.Replace k v h e =
    let f = new_of_fresh k v h e in
    record { instant = fresh_instant k v f; fits = is_lt _ _ f.low; last = fresh_last k v f; grows = fresh_grows k v f; within = le_itself v; apart = λ x u i. fresh_is_apart x k u v f i }
