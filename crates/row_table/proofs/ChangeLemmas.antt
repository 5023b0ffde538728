-- Rows after a change in place.
use Rattle.std.proofs.Common.{◌≡◌, ℕ, ◌<◌, Bool, true, false, cond, List, [], ◌∷◌, Some, None, IsSome, find, filter, map, length, arith, inl, inr, refl, ap}
use Rattle.std.specs.Ordering.{nat_cmp}
use Rattle.std.specs.BTreeMap.{is_at}
use Rattle.std.specs.Map.{set_value, values_of}
use Rattle.std.proofs.lemmas.Bool.{cases_Bool}
use Rattle.row_index.specs.Index.{row_at}
use Rattle.row_table.specs.Table.{AreBelow, changed_at, settled, entry_settled}

module _ {T : Type 0} where
  pub set_changed : (n : ℕ) (f : T → T) (es : List (ℕ × T)) (r : T) → row_at es n ≡ Some r → set_value (is_at (nat_cmp n)) es (f r) ≡ changed_at n f es
  set_changed n f [] r found = refl
  set_changed n f (e ∷ es) r found =
      elim (cases_Bool (is_at (nat_cmp n) e.0)) [
        | inl on ↦ (let same : Some e.1 ≡ Some r = rw on at found in let e' : e.1 ≡ r = cc in rw (on, e') refl)
        | inr off ↦ rw off (ap (λ xs. e ∷ xs) (set_changed n f es r (rw off at found)))
      ]

  pub below_changed : (m n : ℕ) (f : T → T) (es : List (ℕ × T)) → AreBelow m es → AreBelow m (changed_at n f es)
  below_changed m n f [] below s some = below s some
  below_changed m n f (e ∷ es) below s some =
      elim (cases_Bool (is_at (nat_cmp n) e.0)) [
        | inl on ↦
            elim (cases_Bool (is_at (nat_cmp s) e.0)) [
              | inl here ↦ below s (rw here refl)
              | inr apart ↦ below s (rw apart (rw (on, apart) at some))
            ]
        | inr off ↦
            elim (cases_Bool (is_at (nat_cmp s) e.0)) [
              | inl here ↦ below s (rw here refl)
              | inr apart ↦ below_changed m n f es (λ k more. below k (elim (is_at (nat_cmp k) e.0) as (λ b. IsSome (cond b (Some e.1) (row_at es k))) [ true ↦ refl | false ↦ more ])) s (rw (off, apart) at some)
            ]
      ]

  module _ (t : T → Bool) (f : T → T) (settles : (r : T) → t r ≡ true → t (f r) ≡ false) where
    pub map_changed : (es : List (ℕ × T)) (n : ℕ) (r : T) → row_at es n ≡ Some r → t r ≡ true → map (entry_settled t f) (changed_at n f es) ≡ map (entry_settled t f) es
    map_changed [] n r found passes = refl
    map_changed (e ∷ es) n r found passes =
        elim (cases_Bool (is_at (nat_cmp n) e.0)) [
          | inl here ↦
              (let same : Some e.1 ≡ Some r = rw here at found in
              let e' : e.1 ≡ r = cc in
              let on : t e.1 ≡ true = rw e' passes in
              rw (here, settles e.1 on, on) refl)
          | inr apart ↦ rw apart (ap (λ xs. entry_settled t f e ∷ xs) (map_changed es n r (rw apart at found) passes))
        ]

    pub fewer_pass : (es : List (ℕ × T)) (n : ℕ) (r : T) → row_at es n ≡ Some r → t r ≡ true → length (filter (λ e. t e.1) (changed_at n f es)) < length (filter (λ e. t e.1) es)
    fewer_pass [] n r found passes = cc
    fewer_pass (e ∷ es) n r found passes =
        elim (cases_Bool (is_at (nat_cmp n) e.0)) [
          | inl here ↦
              (let same : Some e.1 ≡ Some r = rw here at found in
              let e' : e.1 ≡ r = cc in
              let on : t e.1 ≡ true = rw e' passes in
              rw (here, settles e.1 on, on) (omega arith))
          | inr apart ↦
              (let rest = fewer_pass es n r (rw apart at found) passes in
              elim (cases_Bool (t e.1)) [ inl on ↦ rw (apart, on) (omega (arith, rest)) | inr off ↦ rw (apart, off) rest ])
        ]

  pub all_settled : (t : T → Bool) (f : T → T) (es : List (ℕ × T)) → find (λ e. t e.1) es ≡ None → map (entry_settled t f) es ≡ es
  all_settled t f [] none = refl
  all_settled t f (e ∷ es) none =
      elim (cases_Bool (t e.1)) [
        | inl on ↦ (let clash : Some e ≡ None = rw on at none in cc)
        | inr off ↦ rw off (ap (λ xs. e ∷ xs) (all_settled t f es (rw off at none)))
      ]

  pub values_settled : (t : T → Bool) (f : T → T) (es : List (ℕ × T)) → values_of (map (entry_settled t f) es) ≡ map (settled t f) (values_of es)
  values_settled t f [] = refl
  values_settled t f (e ∷ es) = ap (λ xs. settled t f e.1 ∷ xs) (values_settled t f es)
