-- What a walk answers of rows in a vector, as searches of the list.
use Rattle.std.proofs.Common.{◌≡◌, ℕ, ℤ, zero, suc, ◌≤◌, ◌⊎◌, Bool, true, false, List, [], ◌∷◌, ◌++◌, Option, Some, None, find, length, slice_get, arith, inl, inr, refl, sym, ◌∙◌, subst}
use Rattle.std.specs.List.{list_any}
use Rattle.std.proofs.lemmas.Bool.{cases_Bool}
use Rattle.row_index.specs.Index.{In, IsIndexed, IsKey, IsMore, IsPassing, Shows}
use Rattle.row_index.proofs.IndexLemmas.{Entries}

module _ {T : Type 0} (t : T → Bool) where
  pub found_at : (xs : List T) (b : ℕ) (r : T) → slice_get xs b ≡ Some r → t r ≡ true → ((s : ℕ) (q : T) → slice_get xs s ≡ Some q → t q ≡ true → b ≤ s) → Some r ≡ find t xs
  found_at [] b r got on least = cc
  found_at (x ∷ xs) zero r got on least = (let e : x ≡ r = cc in rw (e, on) refl)
  found_at (x ∷ xs) (suc b) r got on least =
      elim (cases_Bool (t x)) [
        | inl first ↦ (let low : suc b ≤ 0 = least 0 x refl first in absurd (omega arith))
        | inr off ↦ rw off (found_at xs b r got on (λ s q has passes. let low : suc b ≤ suc s = least (suc s) q has passes in omega arith))
      ]

  pub none_at : (xs : List T) → ((s : ℕ) (q : T) → slice_get xs s ≡ Some q → t q ≡ true → ⊥) → None ≡ find t xs
  none_at [] none = refl
  none_at (x ∷ xs) none =
      elim (cases_Bool (t x)) [ inl on ↦ absurd (none 0 x refl on) | inr off ↦ rw off (none_at xs (λ s q has on. none (suc s) q has on)) ]

  -- what a walk for the first answers
  abbrev pub IsFirstOf : List T → Option ℕ → Type 0
  IsFirstOf xs best = (s : ℕ) (r : T) → slice_get xs s ≡ Some r → t r ≡ true → (b : ℕ) × (best ≡ Some b) × (b ≤ s)

  pub first_place : (xs : List T) (best : Option ℕ) (n : ℕ) → best ≡ Some n → ((b : ℕ) → best ≡ Some b → IsPassing (slice_get xs) t b) → IsFirstOf xs best → slice_get xs n ≡ find t xs
  first_place xs best n is sound least =
      let own = sound n is in
      own.1 ∙ found_at xs n own.0 own.1 own.2 (λ s q has on.
      let d = least s q has on in
      let same : Some n ≡ Some d.0 = sym is ∙ d.1 in
      let n' : n ≡ d.0 = cc in
      let low : d.0 ≤ s = d.2 in
      omega arith)

  pub no_place : (xs : List T) (best : Option ℕ) → best ≡ None → IsFirstOf xs best → None ≡ find t xs
  no_place xs best is least = none_at xs (λ s q has on. let d = least s q has on in let clash : None ≡ Some d.0 = sym is ∙ d.1 in cc)

  any_at : (xs : List T) (s : ℕ) (r : T) → slice_get xs s ≡ Some r → t r ≡ true → true ≡ list_any t xs
  any_at [] s r got on = cc
  any_at (x ∷ xs) zero r got on = (let e : x ≡ r = cc in rw (e, on) refl)
  any_at (x ∷ xs) (suc s) r got on = elim (cases_Bool (t x)) [ inl first ↦ rw first refl | inr off ↦ rw off (any_at xs s r got on) ]

  none_pass : (xs : List T) → ((s : ℕ) (q : T) → slice_get xs s ≡ Some q → t q ≡ true → ⊥) → false ≡ list_any t xs
  none_pass [] none = refl
  none_pass (x ∷ xs) none =
      elim (cases_Bool (t x)) [ inl on ↦ absurd (none 0 x refl on) | inr off ↦ rw off (none_pass xs (λ s q has on. none (suc s) q has on)) ]

  pub any_place : (xs : List T) (b : Bool) → (b ≡ true → (s : ℕ) × IsPassing (slice_get xs) t s) → ((s : ℕ) (r : T) → slice_get xs s ≡ Some r → t r ≡ true → b ≡ true) → b ≡ list_any t xs
  any_place xs true sound all = let own = sound refl in any_at xs own.0 own.1.0 own.1.1 own.1.2
  any_place xs false sound all = none_pass xs (λ s q has on. let clash : false ≡ true = all s q has on in cc)

-- a place of a list with one row more is an old one, or the last
get_pushed : {T : Type 0} (xs : List T) (y : T) (s : ℕ) (r : T) → slice_get (xs ++ y ∷ []) s ≡ Some r → (slice_get xs s ≡ Some r) ⊎ ((s ≡ length xs) × (y ≡ r))
get_pushed [] y zero r got = inr (refl, cc)
get_pushed [] y (suc s) r got = cc
get_pushed (x ∷ xs) y zero r got = inl got
get_pushed (x ∷ xs) y (suc s) r got =
    elim (get_pushed xs y s r got) [ inl old ↦ inl old | inr last ↦ (let e : s ≡ length xs = last.0 in inr (omega arith, last.1)) ]

-- the index of a vector with one row more, whose keys were added before
pub index_pushed : {T : Type 0} (keys : T → List (ℕ × ℤ)) (xs : List T) (y : T) (n : ℕ) (ks ks' : Entries) → n ≡ length xs → IsMore ks ks' → Shows (keys y) n ks' → IsIndexed keys (slice_get xs) ks → IsIndexed keys (slice_get (xs ++ y ∷ [])) ks'
index_pushed keys xs y n ks ks' last more own old s r got k there =
    elim (get_pushed xs y s r got) [
      | inl was ↦ more (k, s) (old s r was k there)
      | inr new ↦
          (let s' : n ≡ s = last ∙ sym new.0 in
          subst (λ i. IsKey ks' (k, i)) s' (own k (subst (λ x. In k (keys x)) (sym new.1) there)))
    ]
