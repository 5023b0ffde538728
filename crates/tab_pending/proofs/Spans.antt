-- Rows whose spans aren't empty: what lies within a span overlaps it.
use Rattle.std.proofs.Common.{◌≡◌, ℕ, ◌<ℤ◌, Bool, true, false, ◌&&◌, not, cond, List, [], ◌∷◌, ◌++◌, Result, Ok, Err, None, OnOk, OnErr, filter, find, arith, ap, refl, inl, inr}
use Rattle.std.specs.List.{AllByRecursion}
use Rattle.std.proofs.lemmas.Bool.{and_parts, and_right, cases_Bool}
use Rattle.std.proofs.lemmas.Int.{ints}
use Rattle.std.specs.Str.{bytes_eq}
use Rattle.iv_span.specs.Extent.{Extent, covers, overlap}
use Rattle.book_rows.specs.Allocation.{is_pending_over, is_root}
use Rattle.book_rows.specs.Lists.{stands_in}
use Rattle.book_rows.specs.Rewrite.{is_copied, is_taken_up}
use Rattle.book_rows.specs.declared.rows.PendingRow.{PendingRow}
use Rattle.book_rows.specs.declared.rows.UpgradeRow.{UpgradeRow}
use Rattle.tab_pending.specs.PendingRows.{HaveSpans, RootsHaveSpans}
use Rattle.tab_pending.specs.Searches.{is_copied_over, is_taken_over, is_upgrade_across}

-- ---- the rows of a changed table

pub either : {T E P Q C : Type 0} (r : Result T E) → OnOk r P → OnErr r Q → (P → C) → (Q → C) → C
either (Ok x) h k f g = f h
either (Err e) h k f g = g k

module _ {X : Type 0} (P : X → Type 0) where
  pub all_filter : (p : X → Bool) (xs : List X) → AllByRecursion P xs → AllByRecursion P (filter p xs)
  all_filter p [] a = tt
  all_filter p (x ∷ xs) a =
      elim (p x) as (λ b. AllByRecursion P (cond b (x ∷ filter p xs) (filter p xs)))
      [ true ↦ (a.0, all_filter p xs a.1) | false ↦ all_filter p xs a.1 ]

  pub all_push : (xs : List X) (y : X) → AllByRecursion P xs → P y → AllByRecursion P (xs ++ y ∷ [])
  all_push [] y a h = (h, tt)
  all_push (x ∷ xs) y a h = (a.0, all_push xs y a.1 h)

  -- where what passes a test passes another one too, to ask for both is to ask for the first
  same_test : (over test : X → Bool) → ((x : X) → P x → test x ≡ true → over x ≡ true) → (x : X) → P x → (over x && test x) ≡ test x
  same_test over test h x a =
      elim (cases_Bool (test x)) [
        | inl on ↦ rw (on, h x a on) refl
        | inr off ↦ rw off (elim (cases_Bool (over x)) [ inl o ↦ rw o refl | inr o ↦ rw o refl ])
      ]

  filter_same : (over test : X → Bool) → ((x : X) → P x → test x ≡ true → over x ≡ true) → (xs : List X) → AllByRecursion P xs → filter (λ x. over x && test x) xs ≡ filter test xs
  filter_same over test h [] a = refl
  filter_same over test h (x ∷ xs) a = rw (same_test over test h x a.0) (ap (λ ys. cond (test x) (x ∷ ys) ys) (filter_same over test h xs a.1))

  others_same : (over test : X → Bool) → ((x : X) → P x → test x ≡ true → over x ≡ true) → (xs : List X) → AllByRecursion P xs → filter (λ x. not (over x && test x)) xs ≡ filter (λ x. not (test x)) xs
  others_same over test h [] a = refl
  others_same over test h (x ∷ xs) a = rw (same_test over test h x a.0) (ap (λ ys. cond (not (test x)) (x ∷ ys) ys) (others_same over test h xs a.1))

-- ---- pendings and upgrade rows

within_meets : (span s : Extent) → s.start <ℤ s.end → covers span s ≡ true → overlap s span ≡ true
within_meets span s some on = grind (arith, ints)

copied_over : (source : List ℕ) (span : Extent) (p : PendingRow) → p.id.span.start <ℤ p.id.span.end → is_copied source span p ≡ true → is_pending_over source span p ≡ true
copied_over source span p some on =
    let parts = and_parts (is_root p && bytes_eq p.id.source source) (covers span p.id.span) on in
    let first = and_parts (is_root p) (bytes_eq p.id.source source) parts.0 in
    rw (first.1, within_meets span p.id.span some parts.1) refl

taken_over : (lock : ℕ) (span : Extent) (u : UpgradeRow) → u.root.span.start <ℤ u.root.span.end → is_taken_up lock span u ≡ true → overlap u.root.span span ≡ true
taken_over lock span u some on = within_meets span u.root.span some (and_parts _ (covers span u.root.span) on).1

pub copied_same : (source : List ℕ) (span : Extent) (ps : List PendingRow) → HaveSpans ps → filter (is_copied_over source span) ps ≡ filter (is_copied source span) ps
copied_same source span ps a = filter_same _ (is_pending_over source span) (is_copied source span) (copied_over source span) ps a

pub taken_same : (lock : ℕ) (span : Extent) (us : List UpgradeRow) → RootsHaveSpans us → filter (is_taken_over lock span) us ≡ filter (is_taken_up lock span) us
taken_same lock span us a = filter_same _ (λ u. overlap u.root.span span) (is_taken_up lock span) (taken_over lock span) us a

pub untaken_same : (lock : ℕ) (span : Extent) (us : List UpgradeRow) → RootsHaveSpans us → filter (λ u. not (is_taken_over lock span u)) us ≡ filter (λ u. not (is_taken_up lock span u)) us
untaken_same lock span us a = others_same _ (λ u. overlap u.root.span span) (is_taken_up lock span) (taken_over lock span) us a

-- ---- no spans

pub none_across : (locks : List ℕ) (spans : List Extent) (us : List UpgradeRow) → spans ≡ [] → None ≡ find (is_upgrade_across locks spans) us
none_across locks spans us empty = rw empty (none us) where
  none : (vs : List UpgradeRow) → None ≡ find (is_upgrade_across locks []) vs
  none [] = refl
  none (v ∷ vs) = rw (and_right (stands_in locks v.posse) false refl) (none vs)
