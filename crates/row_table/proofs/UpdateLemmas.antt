-- Rows after changes that bring keys, one after another.
use Rattle.std.proofs.Common.{◌≡◌, ℕ, ℤ, Bool, List, [], ◌∷◌, ◌++◌, Option, Some, None, IsSome, find, inl, inr, refl, sym, ◌∙◌, ap}
use Rattle.std.specs.Ordering.{nat_cmp}
use Rattle.std.specs.List.Sorted.{IsStrictlySortedBy}
use Rattle.std.specs.Option.{option_map}
use Rattle.std.specs.BTreeMap.{is_at}
use Rattle.std.specs.Map.{keys_of, values_of}
use Rattle.std.proofs.lemmas.Bool.{cases_Bool}
use Rattle.std.proofs.lemmas.List.{append-nil}
use Rattle.row_index.specs.Index.{IsIndexed, IsMore, Shows, row_at}
use Rattle.row_index.proofs.IndexLemmas.{Entries}
use Rattle.row_table.specs.Table.{AreBelow, AreShown, BringsOnly, changed_at, changed_each, changed_first, number_of_first, placed, updated, with_number}
use Rattle.row_table.proofs.RowLemmas.{index_put, row_set}
use Rattle.row_table.proofs.ChangeLemmas.{below_changed, set_changed}
use Rattle.row_table.proofs.EditLemmas.{found_there}
use Rattle.row_table.proofs.ListLemmas.{changed_values, none_changed}

module _ {T : Type 0} where
  -- a change under a number that no row has changes nothing
  pub changed_nowhere : (n : ℕ) (f : T → T) (es : List (ℕ × T)) → row_at es n ≡ None → changed_at n f es ≡ es
  changed_nowhere n f [] none = refl
  changed_nowhere n f (e ∷ es) none =
      elim (cases_Bool (is_at (nat_cmp n) e.0)) [
        | inl on ↦ (let clash : Some e.1 ≡ None = rw on at none in cc)
        | inr off ↦ rw off (ap (λ xs. e ∷ xs) (changed_nowhere n f es (rw off at none)))
      ]

  keys_changed : (n : ℕ) (f : T → T) (es : List (ℕ × T)) → keys_of (changed_at n f es) ≡ keys_of es
  keys_changed n f [] = refl
  keys_changed n f (e ∷ es) =
      elim (cases_Bool (is_at (nat_cmp n) e.0)) [ inl on ↦ rw on refl | inr off ↦ rw off (ap (λ ks. e.0 ∷ ks) (keys_changed n f es)) ]

  changed_append : (n : ℕ) (f : T → T) (es more : List (ℕ × T)) → IsSome (row_at es n) → changed_at n f (es ++ more) ≡ changed_at n f es ++ more
  changed_append n f [] more there = cc
  changed_append n f (e ∷ es) more there =
      elim (cases_Bool (is_at (nat_cmp n) e.0)) [
        | inl on ↦ rw on refl
        | inr off ↦ rw off (ap (λ xs. e ∷ xs) (changed_append n f es more (rw off at there)))
      ]

  values_append : (es more : List (ℕ × T)) → values_of (es ++ more) ≡ values_of es ++ values_of more
  values_append [] more = refl
  values_append (e ∷ es) more = ap (λ xs. e.1 ∷ xs) (values_append es more)

  -- ---- the index

  module _ (keys : T → List (ℕ × ℤ)) (n : ℕ) (f : T → T) (es : List (ℕ × T)) (ks : Entries) where
    index_changed : (o : Option T) → row_at es n ≡ o → ((r : T) → row_at es n ≡ Some r → Shows (keys (f r)) n ks) → IsIndexed keys (row_at es) ks → IsIndexed keys (row_at (changed_at n f es)) ks
    index_changed None none own old = rw (changed_nowhere n f es none) old
    index_changed (Some r) found own old =
        rw (← set_changed n f es r found)
        (index_put keys es _ ks ks n (f r) (λ k apart there. there) (own r found) (row_set n (f r) es (rw found refl)) old)

module _ {U T : Type 0} (keys : T → List (ℕ × ℤ)) (brought : U → List (ℕ × ℤ)) (after : U → T → T) (brings : (u : U) (r : T) → BringsOnly (keys r) (keys (after u r)) (brought u)) where
  -- the index of a row that was changed, where what it may get was added before
  pub index_updated : (u : U) (n : ℕ) (es : List (ℕ × T)) (ks : Entries) → Shows (brought u) n ks → IsIndexed keys (row_at es) ks → IsIndexed keys (row_at (changed_at n (after u) es)) ks
  index_updated u n es ks own old =
      index_changed keys n (after u) es ks (row_at es n) refl
      (λ r found k there. elim (brings u r k there) [ inl was ↦ old n r found k was | inr new ↦ own k new ])
      old

pub index_more : {T : Type 0} (keys : T → List (ℕ × ℤ)) (rows : ℕ → Option T) (ks ks' : Entries) → IsMore ks ks' → IsIndexed keys rows ks → IsIndexed keys rows ks'
index_more keys rows ks ks' more old = λ s r found k there. more (k, s) (old s r found k there)

module _ {U : Type 0} (keys : U → List (ℕ × ℤ)) where
  pub shown_more : (ks ks' : Entries) (ps : List (ℕ × U)) → IsMore ks ks' → AreShown keys ks ps → AreShown keys ks' ps
  shown_more ks ks' [] more old = tt
  shown_more ks ks' (p ∷ ps) more old = (λ k there. more (k, p.0) (old.0 k there), shown_more ks ks' ps more old.1)

  pub shown_push : (ks ks' : Entries) (ps : List (ℕ × U)) (p : ℕ × U) → IsMore ks ks' → Shows (keys p.1) p.0 ks' → AreShown keys ks ps → AreShown keys ks' (ps ++ p ∷ [])
  shown_push ks ks' [] p more own old = (own, tt)
  shown_push ks ks' (q ∷ ps) p more own old = (λ k there. more (k, q.0) (old.0 k there), shown_push ks ks' ps p more own old.1)

-- ---- the rows

module _ {U T : Type 0} (passes : U → T → Bool) where
  placed_next : (es : List (ℕ × T)) (us : List U) (v u : U) (o : Option ℕ) → placed passes es (us ++ u ∷ []) ≡ placed passes es us ++ placed passes es (u ∷ []) → with_number o v (placed passes es (us ++ u ∷ [])) ≡ with_number o v (placed passes es us) ++ placed passes es (u ∷ [])
  placed_next es us v u None rest = rest
  placed_next es us v u (Some n) rest = ap (λ ps. (n, v) ∷ ps) rest

  placed_push : (es : List (ℕ × T)) (us : List U) (u : U) → placed passes es (us ++ u ∷ []) ≡ placed passes es us ++ placed passes es (u ∷ [])
  placed_push es [] u = refl
  placed_push es (v ∷ us) u = placed_next es us v u (number_of_first (passes v) es) (placed_push es us u)

  pub placed_there : (es : List (ℕ × T)) (us : List U) (u : U) (n : ℕ) → number_of_first (passes u) es ≡ Some n → placed passes es us ++ (n, u) ∷ [] ≡ placed passes es (us ++ u ∷ [])
  placed_there es us u n found = sym (placed_push es us u ∙ ap (λ o. placed passes es us ++ with_number o u []) found)

  pub placed_nowhere : (es : List (ℕ × T)) (us : List U) (u : U) → number_of_first (passes u) es ≡ None → placed passes es us ≡ placed passes es (us ++ u ∷ [])
  placed_nowhere es us u none = sym (placed_push es us u ∙ (ap (λ o. placed passes es us ++ with_number o u []) none ∙ append-nil (placed passes es us)))

module _ {U T : Type 0} (passes : U → T → Bool) (after : U → T → T) where
  pub below_each : (m : ℕ) (ps : List (ℕ × U)) (es : List (ℕ × T)) → AreBelow m es → AreBelow m (changed_each after ps es)
  below_each m [] es below = below
  below_each m (p ∷ ps) es below = below_each m ps (changed_at p.0 (after p.1) es) (below_changed m p.0 (after p.1) es below)

  module _ (stays : (u v : U) (r : T) → passes u (after v r) ≡ passes u r) where
    number_kept : (u v : U) (n : ℕ) (es : List (ℕ × T)) → number_of_first (passes u) (changed_at n (after v) es) ≡ number_of_first (passes u) es
    number_kept u v n [] = refl
    number_kept u v n (e ∷ es) =
        elim (cases_Bool (is_at (nat_cmp n) e.0)) [
          | inl here ↦ elim (cases_Bool (passes u e.1)) [ inl on ↦ rw (here, stays u v e.1, on) refl | inr off ↦ rw (here, stays u v e.1, off) refl ]
          | inr apart ↦ elim (cases_Bool (passes u e.1)) [ inl on ↦ rw (apart, on) refl | inr off ↦ rw (apart, off) (number_kept u v n es) ]
        ]

    placed_kept : (us : List U) (v : U) (n : ℕ) (es : List (ℕ × T)) → placed passes (changed_at n (after v) es) us ≡ placed passes es us
    placed_kept [] v n es = refl
    placed_kept (u ∷ us) v n es =
        ap (λ o. with_number o u (placed passes (changed_at n (after v) es) us)) (number_kept u v n es) ∙ ap (λ ps. with_number (number_of_first (passes u) es) u ps) (placed_kept us v n es)

    updated_one : (u : U) (us : List U) (es more : List (ℕ × T)) → IsStrictlySortedBy nat_cmp (keys_of es) → (o : Option (ℕ × T)) → find (λ e. passes u e.1) es ≡ o
        → ((es' : List (ℕ × T)) → IsStrictlySortedBy nat_cmp (keys_of es') → values_of (changed_each after (placed passes es' us) (es' ++ more)) ≡ updated passes after us (values_of es') ++ values_of more)
        → values_of (changed_each after (with_number (option_map (λ e. e.0) o) u (placed passes es us)) (es ++ more)) ≡ updated passes after us (changed_first (passes u) (after u) (values_of es)) ++ values_of more
    updated_one u us es more sorted None none rest = rest es sorted ∙ ap (λ rs. updated passes after us rs ++ values_of more) (none_changed (passes u) (after u) es none)
    updated_one u us es more sorted (Some g) found rest =
        let es' : List (ℕ × T) = changed_at g.0 (after u) es in
        ap (λ xs. values_of (changed_each after (placed passes es us) xs)) (changed_append g.0 (after u) es more (found_there (λ e. passes u e.1) es g found))
        ∙ ap (λ ps. values_of (changed_each after ps (es' ++ more))) (sym (placed_kept us u g.0 es))
        ∙ rest es' (rw (keys_changed g.0 (after u) es) sorted)
        ∙ ap (λ rs. updated passes after us rs ++ values_of more) (changed_values (passes u) (after u) es g sorted found)

    -- what the changes make of the rows, with the new rows behind them
    pub updated_values : (us : List U) (es more : List (ℕ × T)) → IsStrictlySortedBy nat_cmp (keys_of es) → values_of (changed_each after (placed passes es us) (es ++ more)) ≡ updated passes after us (values_of es) ++ values_of more
    updated_values [] es more sorted = values_append es more
    updated_values (u ∷ us) es more sorted = updated_one u us es more sorted (find (λ e. passes u e.1) es) refl (λ es' sorted'. updated_values us es' more sorted')
