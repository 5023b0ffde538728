-- Tests and what they decide. The parts of a test need not be named: they are found by what they decide.
use Rattle.std.proofs.Common.{Bool, List, None, Option, Some, [], ap, cond, false, inl, inr, not, refl, subst, sym, true, ℕ, ℤ, ◌&&◌, ◌<◌, ◌==◌, ◌||◌, ◌∙◌, ◌∷◌, ◌≡◌, ◌≤◌, ◌⊎◌}
use Rattle.std.proofs.lemmas.Bool.{and_from, and_parts, cases_Bool, false≢true, le-leb, leb-true, lt-ltb, ltb-true, not-true, not_from_false, or_cases, or_left, or_right}
use Rattle.std.proofs.lemmas.Bool.Decides.{Decides-eqb, Decides-int_eq}
use Rattle.std.proofs.lemmas.Slice.Eq.{bytes_eq-Decides}
use Rattle.std.specs.Bool.{Decides}
use Rattle.std.specs.List.{AllByRecursion, list_all, list_any}
use Rattle.std.specs.Ordering.{int_eq}
use Rattle.std.specs.Prelude.{bytes_eq, nat_le, nat_lt}
use Rattle.seg_names.specs.Ids.{same_extent, same_id}
use Rattle.seg_names.specs.declared.seg_id.SegId.{SegId}
use Rattle.iv_span.specs.Extent.{Extent}
use Rattle.book_rows.specs.Ids.{is_listed, same_previous}
use Rattle.book_rows.specs.Kinds.{same_kind, same_status, same_task_kind}
use Rattle.book_rows.specs.Lists.{In, Pairs, is_empty, stands_in}
use Rattle.book_rows.specs.declared.kinds.LockKind.{LockKind}
use Rattle.book_rows.specs.declared.kinds.LockKind.TheVariants as LockKinds
use Rattle.book_rows.specs.declared.kinds.TaskKind.{TaskKind}
use Rattle.book_rows.specs.declared.kinds.TaskKind.TheVariants as TaskKinds
use Rattle.book_rows.specs.declared.kinds.TaskStatus.{TaskStatus}
use Rattle.book_rows.specs.declared.kinds.TaskStatus.TheVariants as Statuses
use Rattle.laws_chunks.proofs.Members.{In-all, all_from_In, all_pass, any_In, any_from_In, list_all_In, none_In, none_from_In}
use Rattle.laws_chunks.proofs.Spans.{same_extent_from, same_extent_means, same_id_from, same_id_means}
use Rattle.laws_shown.proofs.Histories.{In-listed, listed_In}
use Rattle.laws_shown.proofs.Testing.{replaces}
use Rattle.laws_unsound.specs.ChunkRows.{implies}
use Rattle.laws_unsound.specs.ShapeRows.{no_clash}

-- the test passes exactly where the property holds
pub record IsTestOf (t : Bool) (P : Type 0) : Type 0 where
  pub means : t ≡ true → P
  pub passes : P → t ≡ true

pub off_from : (t : Bool) → (t ≡ true → ⊥) → t ≡ false
off_from true f = absurd (f refl)
off_from false f = refl

-- ---- from one test to another

pub like : {t : Bool} {P Q : Type 0} → (P → Q) → (Q → P) → IsTestOf t P → IsTestOf t Q
like f g d = record { means = λ h. f (d.means h); passes = λ q. d.passes (g q) }

pub decided : {P : Type 0} (t : Bool) → Decides t P → IsTestOf t P
decided t d = record { means = d.0; passes = d.1 }

pub on : (t : Bool) → IsTestOf t (t ≡ true)
on t = record { means = λ h. h; passes = λ h. h }

pub off : (t : Bool) → IsTestOf (not t) (t ≡ false)
off t = record { means = not-true t; passes = not_from_false t }

-- where the property is refuted, the test fails
pub refused : {t : Bool} {P : Type 0} → IsTestOf t P → (P → ⊥) → t ≡ false
refused {t = t} d f = off_from t (λ h. f (d.means h))

pub refutes : {t : Bool} {P : Type 0} → IsTestOf t P → t ≡ false → P → ⊥
refutes d e p = false≢true (sym e ∙ d.passes p)

pub sure : {t : Bool} {P : Type 0} → IsTestOf t P → ((P → ⊥) → ⊥) → P
sure {t = t} d f = elim (cases_Bool t) [ inl passed ↦ d.means passed | inr failed ↦ absurd (f (refutes d failed)) ]

pub unless : {t : Bool} {P : Type 0} → IsTestOf t P → IsTestOf (not t) (P → ⊥)
unless {t = t} d = record { means = λ h. refutes d (not-true t h); passes = λ f. not_from_false t (refused d f) }

pub both : {a c : Bool} {P Q : Type 0} → IsTestOf a P → IsTestOf c Q → IsTestOf (a && c) (P × Q)
both {a = a} {c = c} d e = record { means = λ h. (let w = and_parts a c h in (d.means w.0, e.means w.1)); passes = λ w. and_from a c (d.passes w.0) (e.passes w.1) }

pub either : {a c : Bool} {P Q : Type 0} → IsTestOf a P → IsTestOf c Q → IsTestOf (a || c) (P ⊎ Q)
either {a = a} {c = c} {P = P} {Q = Q} d e = record { means = means; passes = passes } where
  means : (a || c) ≡ true → P ⊎ Q
  means h = elim (or_cases a c h) [ inl on ↦ inl (d.means on) | inr on ↦ inr (e.means on) ]

  passes : P ⊎ Q → (a || c) ≡ true
  passes (inl p) = or_left a c (d.passes p)
  passes (inr q) = or_right a c (e.passes q)

pub where_so : {a c : Bool} {P Q : Type 0} → IsTestOf a P → IsTestOf c Q → IsTestOf (implies a c) (P → Q)
where_so {a = a} {c = c} {P = P} {Q = Q} d e = record { means = means; passes = passes } where
  means : implies a c ≡ true → P → Q
  means h p = e.means (elim (or_cases (not a) c h) [ inl never ↦ absurd (refutes d (not-true a never) p) | inr on ↦ on ])

  passes : (P → Q) → implies a c ≡ true
  passes f = elim (cases_Bool a) [ inl on ↦ or_right (not a) c (e.passes (f (d.means on))) | inr off ↦ or_left (not a) c (not_from_false a off) ]

-- a test that depends on another
pub by_test : {P Q : Type 0} (t a c : Bool) → IsTestOf a P → IsTestOf c Q → IsTestOf (cond t a c) ((t ≡ true → P) × (t ≡ false → Q))
by_test true a c d e = record { means = λ h. (λ on. d.means h, λ never. absurd (false≢true (sym never))); passes = λ w. d.passes (w.0 refl) }
by_test false a c d e = record { means = λ h. (λ never. absurd (false≢true never), λ off. e.means h); passes = λ w. e.passes (w.1 refl) }

-- ---- lists

module _ {X : Type 0} where
  pub one_of : {test : X → Bool} {P : X → Type 0} → ((x : X) → IsTestOf (test x) (P x)) → (xs : List X) → IsTestOf (list_any test xs) ((x : X) × In x xs × P x)
  one_of {test = test} d xs = record { means = λ h. (let w = any_In test xs h in (w.0, w.1, (d w.0).means w.2)); passes = λ w. any_from_In test w.0 xs w.1 ((d w.0).passes w.2) }

  -- the test may be one of members alone
  pub each_in : {test : X → Bool} {P : X → Type 0} (xs : List X) → ((x : X) → In x xs → IsTestOf (test x) (P x)) → IsTestOf (list_all test xs) ((x : X) → In x xs → P x)
  each_in {test = test} xs d = record { means = λ h x i. (d x i).means (list_all_In test x xs i h); passes = λ f. all_pass test xs (λ x i. (d x i).passes (f x i)) }

  pub each_of : {test : X → Bool} {P : X → Type 0} → ((x : X) → IsTestOf (test x) (P x)) → (xs : List X) → IsTestOf (list_all test xs) ((x : X) → In x xs → P x)
  each_of d xs = each_in xs (λ x i. d x)

  pub all_of : {test : X → Bool} {P : X → Type 0} → ((x : X) → IsTestOf (test x) (P x)) → (xs : List X) → IsTestOf (list_all test xs) (AllByRecursion P xs)
  all_of {P = P} d xs = like (all_from_In P xs) (λ a x i. In-all P x xs i a) (each_of d xs)

  pub none_clash : (clash : X → X → Bool) (xs : List X) → IsTestOf (no_clash clash xs) (Pairs (λ x y. clash x y ≡ false) xs)
  none_clash clash [] = record { means = λ h. tt; passes = λ h. refl }
  none_clash clash (x ∷ xs) = both
      (like (λ e. all_from_In (λ y. clash x y ≡ false) xs (λ y i. none_In (clash x) y xs i e)) (λ a. none_from_In (clash x) xs (λ y i. In-all (λ z. clash x z ≡ false) y xs i a)) (off (list_any (clash x) xs)))
      (none_clash clash xs)

  pub empty : (xs : List X) → IsTestOf (is_empty xs) (xs ≡ [])
  empty [] = record { means = λ h. refl; passes = λ e. refl }
  empty (x ∷ xs) = record { means = λ h. absurd (false≢true h); passes = λ e. absurd (cc) }

-- ---- numbers, names, spans, ids and kinds

pub one_number : (n m : ℕ) → IsTestOf (n == m) (n ≡ m)
one_number n m = decided (n == m) (Decides-eqb n m)

pub below : (n m : ℕ) → IsTestOf (nat_lt n m) (n < m)
below n m = record { means = ltb-true n m; passes = lt-ltb n m }

pub at_most : (n m : ℕ) → IsTestOf (nat_le n m) (n ≤ m)
at_most n m = record { means = leb-true n m; passes = le-leb n m }

pub one_instant : (s t : ℤ) → IsTestOf (int_eq s t) (s ≡ t)
one_instant s t = decided (int_eq s t) (Decides-int_eq s t)

pub one_name : (a b : List ℕ) → IsTestOf (bytes_eq a b) (a ≡ b)
one_name a b = decided (bytes_eq a b) (bytes_eq-Decides a b)

pub one_span : (s t : Extent) → IsTestOf (same_extent s t) (s ≡ t)
one_span s t = record { means = same_extent_means s t; passes = same_extent_from s t }

pub one_id : (a b : SegId) → IsTestOf (same_id a b) (a ≡ b)
one_id a b = record { means = same_id_means a b; passes = same_id_from a b }

pub listed : (ids : List SegId) (a : SegId) → IsTestOf (is_listed ids a) (In a ids)
listed ids a = record { means = listed_In ids a; passes = In-listed ids a }

pub one_previous : (a b : Option SegId) → IsTestOf (same_previous a b) (a ≡ b)
one_previous None None = record { means = λ h. refl; passes = λ e. refl }
one_previous None (Some b) = record { means = λ h. absurd (false≢true h); passes = λ e. absurd (cc) }
one_previous (Some a) None = record { means = λ h. absurd (false≢true h); passes = λ e. absurd (cc) }
one_previous (Some a) (Some b) = record { means = λ h. ap (λ (x : SegId). Some x) (same_id_means a b h); passes = λ e. same_id_from a b (cc) }

pub stands : (ns : List ℕ) (n : ℕ) → IsTestOf (stands_in ns n) (In n ns)
stands ns n = like (λ w. subst (λ (m : ℕ). In m ns) w.2 w.1) (λ i. (n, i, refl)) (one_of (λ m. one_number m n) ns)

pub replacing : (k : LockKind) → IsTestOf (same_kind k LockKinds.Replace) (k ≡ LockKinds.Replace)
replacing k = record { means = replaces k; passes = λ e. rw e refl }

pub sharing : (k : LockKind) → IsTestOf (same_kind k LockKinds.Shared) (k ≡ LockKinds.Shared)
sharing LockKinds.Shared = record { means = λ h. refl; passes = λ e. refl }
sharing LockKinds.Exclusive = record { means = λ h. absurd (false≢true h); passes = λ e. absurd (cc) }
sharing LockKinds.Append = record { means = λ h. absurd (false≢true h); passes = λ e. absurd (cc) }
sharing LockKinds.Replace = record { means = λ h. absurd (false≢true h); passes = λ e. absurd (cc) }

pub running : (s : TaskStatus) → IsTestOf (same_status s Statuses.Running) (s ≡ Statuses.Running)
running Statuses.Running = record { means = λ h. refl; passes = λ e. refl }
running Statuses.Waiting = record { means = λ h. absurd (false≢true h); passes = λ e. absurd (cc) }
running Statuses.Success = record { means = λ h. absurd (false≢true h); passes = λ e. absurd (cc) }
running Statuses.Failed = record { means = λ h. absurd (false≢true h); passes = λ e. absurd (cc) }

pub realtime : (k : TaskKind) → IsTestOf (same_task_kind k TaskKinds.Realtime) (k ≡ TaskKinds.Realtime)
realtime TaskKinds.Realtime = record { means = λ h. refl; passes = λ e. refl }
realtime TaskKinds.Batch = record { means = λ h. absurd (false≢true h); passes = λ e. absurd (cc) }
realtime TaskKinds.Compaction = record { means = λ h. absurd (false≢true h); passes = λ e. absurd (cc) }
realtime TaskKinds.Other = record { means = λ h. absurd (false≢true h); passes = λ e. absurd (cc) }
