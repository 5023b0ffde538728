-- Rows after an edit.
use Rattle.std.proofs.Common.{◌≡◌, ℕ, ◌+◌, ◌<◌, Bool, true, false, not, cond, List, [], ◌∷◌, ◌++◌, Option, Some, None, IsSome, find, filter, length, arith, inl, inr, refl, subst, ap}
use Rattle.std.specs.Option.{option_map}
use Rattle.std.specs.Ordering.{nat_cmp}
use Rattle.std.specs.Cmp.{nat_cmp_total, eq_by_cmp_equiv}
use Rattle.std.specs.List.Sorted.{IsStrictlySortedBy}
use Rattle.std.specs.BTreeMap.{is_at}
use Rattle.std.specs.Map.{remove_entry, keys_of, values_of}
use Rattle.std.proofs.lemmas.Bool.{cases_Bool}
use Rattle.std.proofs.lemmas.Map.{lookup-none}
use Rattle.std.proofs.lemmas.Map.Keys.{IsDistinct-from_sorted}
use Rattle.std.proofs.lemmas.Map.Entries.{none_past_head}
use Rattle.row_index.specs.Index.{row_at}
use Rattle.row_table.specs.Table.{AreBelow}
use Rattle.row_index.proofs.IndexLemmas.{cmp_same, at_means}

module _ {T : Type 0} where
  pub row_more : (s : ℕ) (e : ℕ × T) (es : List (ℕ × T)) → IsSome (row_at es s) → IsSome (row_at (e ∷ es) s)
  row_more s e es some = elim (is_at (nat_cmp s) e.0) as (λ b. IsSome (cond b (Some e.1) (row_at es s))) [ true ↦ refl | false ↦ some ]

  pub below_tail : (n : ℕ) (e : ℕ × T) (es : List (ℕ × T)) → AreBelow n (e ∷ es) → AreBelow n es
  below_tail n e es below s some = below s (row_more s e es some)

  pub below_pushed : (n : ℕ) (row : T) (es : List (ℕ × T)) → AreBelow n es → AreBelow (n + 1) (es ++ (n, row) ∷ [])
  below_pushed n row [] below s some =
      elim (cases_Bool (is_at (nat_cmp s) n)) [
        | inl on ↦ (let same : s ≡ n = at_means s n on in omega arith)
        | inr off ↦ (let clash : IsSome {T = T} None = rw off at some in cc)
      ]
  below_pushed n row (e ∷ es) below s some =
      elim (cases_Bool (is_at (nat_cmp s) e.0)) [
        | inl on ↦ (let lt : s < n = below s (rw on refl) in omega arith)
        | inr off ↦ below_pushed n row es (below_tail n e es below) s (rw off at some)
      ]

  pub below_removed : (n : ℕ) (test : ℕ → Bool) (es : List (ℕ × T)) → AreBelow n es → AreBelow n (remove_entry test es)
  below_removed n test [] below = below
  below_removed n test (e ∷ es) below =
      elim (cases_Bool (test e.0)) [
        | inl on ↦ rw on (below_tail n e es below)
        | inr off ↦ rw off (λ s some.
            elim (cases_Bool (is_at (nat_cmp s) e.0)) [
              | inl here ↦ below s (rw here refl)
              | inr apart ↦ below_removed n test es (below_tail n e es below) s (rw apart at some)
            ])
      ]

  -- no later row has the first one's number
  pub none_again : (e : ℕ × T) (es : List (ℕ × T)) → IsStrictlySortedBy nat_cmp (keys_of (e ∷ es)) → row_at es e.0 ≡ None
  none_again e es sorted = lookup-none (is_at (nat_cmp e.0)) es (none_past_head (eq_by_cmp_equiv nat_cmp_total) e.0 e es (IsDistinct-from_sorted nat_cmp (keys_of (e ∷ es)) sorted) (rw (cmp_same e.0) refl))

  -- a row of the rest isn't under the first number
  pub apart_from_head : (e : ℕ × T) (es : List (ℕ × T)) (s : ℕ) → IsStrictlySortedBy nat_cmp (keys_of (e ∷ es)) → IsSome (row_at es s) → is_at (nat_cmp s) e.0 ≡ false
  apart_from_head e es s sorted some =
      elim (cases_Bool (is_at (nat_cmp s) e.0)) [
        | inl here ↦
            (let there : IsSome (row_at es e.0) = subst (λ n. IsSome (row_at es n)) (at_means s e.0 here) some in
            let clash : IsSome {T = T} None = rw (none_again e es sorted) at there in cc)
        | inr apart ↦ apart
      ]

  pub found_there : (p : ℕ × T → Bool) (es : List (ℕ × T)) (f : ℕ × T) → find p es ≡ Some f → IsSome (row_at es f.0)
  found_there p [] f found = cc
  found_there p (e ∷ es) f found =
      elim (cases_Bool (p e)) [
        | inl on ↦ (let same : Some e ≡ Some f = rw on at found in let e' : e ≡ f = cc in rw (← e', cmp_same e.0) refl)
        | inr off ↦ row_more f.0 e es (found_there p es f (rw off at found))
      ]

  -- a row that passes is none of those that stay
  pub filter_removed : (t : T → Bool) (es : List (ℕ × T)) (n : ℕ) (r : T) → row_at es n ≡ Some r → t r ≡ true → filter (λ e. not (t e.1)) (remove_entry (is_at (nat_cmp n)) es) ≡ filter (λ e. not (t e.1)) es
  filter_removed t [] n r found passes = refl
  filter_removed t (e ∷ es) n r found passes =
      elim (cases_Bool (is_at (nat_cmp n) e.0)) [
        | inl here ↦ (let same : Some e.1 ≡ Some r = rw here at found in let e' : e.1 ≡ r = cc in let on : t e.1 ≡ true = rw e' passes in rw (here, on) refl)
        | inr apart ↦
            (let later : row_at es n ≡ Some r = rw apart at found in
            elim (cases_Bool (t e.1)) [
              | inl on ↦ rw (apart, on) (filter_removed t es n r later passes)
              | inr off ↦ rw (apart, off) (ap (λ xs. e ∷ xs) (filter_removed t es n r later passes))
            ])
      ]

  -- where none passes, all stay
  pub filter_all : (t : T → Bool) (es : List (ℕ × T)) → find (λ e. t e.1) es ≡ None → filter (λ e. not (t e.1)) es ≡ es
  filter_all t [] none = refl
  filter_all t (e ∷ es) none =
      elim (cases_Bool (t e.1)) [
        | inl on ↦ (let clash : Some e ≡ None = rw on at none in cc)
        | inr off ↦ rw off (ap (λ xs. e ∷ xs) (filter_all t es (rw off at none)))
      ]

  pub length_removed : (s : ℕ) (es : List (ℕ × T)) → IsSome (row_at es s) → length (remove_entry (is_at (nat_cmp s)) es) < length es
  length_removed s [] some = cc
  length_removed s (e ∷ es) some =
      elim (cases_Bool (is_at (nat_cmp s) e.0)) [
        | inl on ↦ rw on (omega arith)
        | inr off ↦ rw off (let rest = length_removed s es (rw off at some) in omega arith)
      ]

  pub find_values : (t : T → Bool) (es : List (ℕ × T)) → option_map (λ e. e.1) (find (λ e. t e.1) es) ≡ find t (values_of es)
  find_values t [] = refl
  find_values t (e ∷ es) =
      elim (cases_Bool (t e.1)) [ inl on ↦ rw on refl | inr off ↦ rw off (find_values t es) ]

  pub values_filtered : (p : T → Bool) (es : List (ℕ × T)) → values_of (filter (λ e. p e.1) es) ≡ filter p (values_of es)
  values_filtered p [] = refl
  values_filtered p (e ∷ es) =
      elim (cases_Bool (p e.1)) [
        | inl on ↦ rw on (ap (λ xs. e.1 ∷ xs) (values_filtered p es))
        | inr off ↦ rw off (values_filtered p es)
      ]

  -- the same by the number alone
  pub some_number : (o : Option (ℕ × T)) (n : ℕ) → option_map (λ e. e.0) o ≡ Some n → (f : ℕ × T) × (o ≡ Some f) × (f.0 ≡ n)
  some_number None n h = cc
  some_number (Some f) n h = (f, refl, cc)

  pub no_number : (o : Option (ℕ × T)) → option_map (λ e. e.0) o ≡ None → o ≡ None
  no_number None h = refl
  no_number (Some f) h = cc
