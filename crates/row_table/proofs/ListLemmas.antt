-- What a walk answers, as searches of the list of rows.
use Rattle.std.proofs.Common.{◌≡◌, ℕ, ◌<◌, ◌≤◌, Bool, true, false, nat_lt, List, [], ◌∷◌, Option, Some, None, IsSome, find, filter, arith, inl, inr, refl, sym, ◌∙◌, subst, ap}
use Rattle.std.specs.Prelude.{⊤}
use Rattle.std.specs.List.{list_any}
use Rattle.std.specs.Option.{option_map}
use Rattle.std.specs.Ordering.{nat_cmp}
use Rattle.std.specs.Cmp.{nat_cmp_total}
use Rattle.std.specs.List.Sorted.{IsStrictlySortedBy}
use Rattle.std.specs.BTreeMap.{is_at}
use Rattle.std.specs.Map.{keys_of, values_of}
use Rattle.std.proofs.lemmas.Bool.{cases_Bool, cases_order}
use Rattle.std.proofs.lemmas.Map.{lookup-none}
use Rattle.std.proofs.lemmas.Map.Keys.{sorted_tail}
use Rattle.std.proofs.lemmas.Map.Entries.{none_below_head}
use Rattle.row_index.specs.Index.{IsBefore, IsPassing, row_at}
use Rattle.row_index.proofs.IndexLemmas.{cmp_same}
use Rattle.row_table.specs.Table.{rows_of, changed_at, changed_first, lower, least_by}
use Rattle.row_table.proofs.RowLemmas.{cmp_less}
use Rattle.row_table.proofs.EditLemmas.{apart_from_head, row_more, found_there, some_number}
use Rattle.row_table.proofs.LeastLemmas.{row_later}

pub head_least : {T : Type 0} (e : ℕ × T) (es : List (ℕ × T)) (s : ℕ) → IsStrictlySortedBy nat_cmp (keys_of (e ∷ es)) → IsSome (row_at (e ∷ es) s) → e.0 ≤ s
head_least {T} e es s sorted some =
    elim (cases_order s e.0) [
      | inl same ↦ omega arith
      | inr (inl lt) ↦
          (let none : row_at (e ∷ es) s ≡ None = lookup-none (is_at (nat_cmp s)) (e ∷ es) (none_below_head nat_cmp_total s e es sorted (cmp_less s e.0 lt)) in
          let clash : IsSome {T = T} None = rw none at some in cc)
      | inr (inr gt) ↦ omega arith
    ]

module _ {T : Type 0} (t : T → Bool) where
  pub any_there : (es : List (ℕ × T)) (s : ℕ) (r : T) → row_at es s ≡ Some r → t r ≡ true → list_any t (values_of es) ≡ true
  any_there [] s r found on = cc
  any_there (e ∷ es) s r found on =
      elim (cases_Bool (t e.1)) [
        | inl first ↦ rw first refl
        | inr off ↦
            elim (cases_Bool (is_at (nat_cmp s) e.0)) [
              | inl here ↦ (let same : Some e.1 ≡ Some r = rw here at found in let e' : e.1 ≡ r = cc in let clash : false ≡ true = sym off ∙ (rw e' on) in cc)
              | inr apart ↦ rw off (any_there es s r (rw apart at found) on)
            ]
      ]

  pub none_there : (es : List (ℕ × T)) → IsStrictlySortedBy nat_cmp (keys_of es) → ((s : ℕ) (r : T) → row_at es s ≡ Some r → t r ≡ false) → list_any t (values_of es) ≡ false
  none_there [] sorted none = refl
  none_there (e ∷ es) sorted none =
      rw (none e.0 e.1 (rw (cmp_same e.0) refl))
      (none_there es (sorted_tail nat_cmp e.0 (keys_of es) sorted) (λ s r found. none s r (row_later t e es sorted s r found)))

  pub any_found : (es : List (ℕ × T)) (b : Bool) → IsStrictlySortedBy nat_cmp (keys_of es) → (b ≡ true → (s : ℕ) × IsPassing (row_at es) t s) → ((s : ℕ) (r : T) → row_at es s ≡ Some r → t r ≡ true → b ≡ true) → b ≡ list_any t (values_of es)
  any_found es true sorted sound all = let own = sound refl in sym (any_there es own.0 own.1.0 own.1.1 own.1.2)
  any_found es false sorted sound all =
      sym (none_there es sorted (λ s r found.
      elim (cases_Bool (t r)) [ inl on ↦ (let clash : false ≡ true = all s r found on in cc) | inr off ↦ off ]))

  -- where the first row passes, it is the first of those gathered
  all_first : (whole : List (ℕ × T)) (e : ℕ × T) (es : List (ℕ × T)) (ms : List (ℕ × ⊤)) → t e.1 ≡ true → IsStrictlySortedBy nat_cmp (keys_of (e ∷ es)) → IsStrictlySortedBy nat_cmp (keys_of ms) → ((s : ℕ) (r : T) → row_at (e ∷ es) s ≡ Some r → row_at whole s ≡ Some r) → ((s : ℕ) → IsSome (row_at ms s) → IsPassing (row_at (e ∷ es)) t s) → ((s : ℕ) (r : T) → row_at (e ∷ es) s ≡ Some r → t r ≡ true → IsSome (row_at ms s)) → ((ns : List (ℕ × ⊤)) → IsStrictlySortedBy nat_cmp (keys_of ns) → ((s : ℕ) → IsSome (row_at ns s) → IsPassing (row_at es) t s) → ((s : ℕ) (r : T) → row_at es s ≡ Some r → t r ≡ true → IsSome (row_at ns s)) → rows_of whole (keys_of ns) ≡ filter t (values_of es)) → rows_of whole (keys_of ms) ≡ e.1 ∷ filter t (values_of es)
  all_first whole e es [] on sorted rising held sound all rest = let some : IsSome {T = ⊤} None = all e.0 e.1 (rw (cmp_same e.0) refl) on in cc
  all_first whole e es (m ∷ ms) on sorted rising held sound all rest =
      let first = sound m.0 (rw (cmp_same m.0) refl) in
      let low : e.0 ≤ m.0 = head_least e es m.0 sorted (rw first.1 refl) in
      let high : m.0 ≤ e.0 = head_least m ms e.0 rising (all e.0 e.1 (rw (cmp_same e.0) refl) on) in
      let same : m.0 ≡ e.0 = omega arith in
      let row : row_at whole m.0 ≡ Some e.1 = rw same (held e.0 e.1 (rw (cmp_same e.0) refl)) in
      rw row
      (ap (λ l. e.1 ∷ l) (rest ms (sorted_tail nat_cmp m.0 (keys_of ms) rising)
      (λ s some.
      let own = sound s (row_more s m ms some) in
      let apart : is_at (nat_cmp s) e.0 ≡ false = subst (λ n. is_at (nat_cmp s) n ≡ false) same (apart_from_head m ms s rising some) in
      (own.0, rw apart at own.1, own.2))
      (λ s r found passes.
      let apart : is_at (nat_cmp s) m.0 ≡ false = rw same (apart_from_head e es s sorted (rw found refl)) in
      let some : IsSome (row_at (m ∷ ms) s) = all s r (row_later t e es sorted s r found) passes in
      rw apart at some)))

  -- the rows of the numbers that a walk gathered are those that pass
  pub all_found : (whole es : List (ℕ × T)) (ms : List (ℕ × ⊤)) → IsStrictlySortedBy nat_cmp (keys_of es) → IsStrictlySortedBy nat_cmp (keys_of ms) → ((s : ℕ) (r : T) → row_at es s ≡ Some r → row_at whole s ≡ Some r) → ((s : ℕ) → IsSome (row_at ms s) → IsPassing (row_at es) t s) → ((s : ℕ) (r : T) → row_at es s ≡ Some r → t r ≡ true → IsSome (row_at ms s)) → rows_of whole (keys_of ms) ≡ filter t (values_of es)
  all_found whole [] [] sorted rising held sound all = refl
  all_found whole [] (m ∷ ms) sorted rising held sound all = let own = sound m.0 (rw (cmp_same m.0) refl) in let clash : None ≡ Some own.0 = own.1 in cc
  all_found whole (e ∷ es) ms sorted rising held sound all =
      elim (cases_Bool (t e.1)) [
        | inr off ↦
            rw off (all_found whole es ms (sorted_tail nat_cmp e.0 (keys_of es) sorted) rising
            (λ s r found. held s r (row_later t e es sorted s r found))
            (λ s some.
            let own = sound s some in
            elim (cases_Bool (is_at (nat_cmp s) e.0)) [
              | inl here ↦ (let same : Some e.1 ≡ Some own.0 = rw here at own.1 in let e' : e.1 ≡ own.0 = cc in let clash : false ≡ true = sym off ∙ (rw e' own.2) in cc)
              | inr apart ↦ (own.0, rw apart at own.1, own.2)
            ])
            (λ s r found on. all s r (row_later t e es sorted s r found) on))
        | inl on ↦ rw on (all_first whole e es ms on sorted rising held sound all
            (λ ns up sound' all'. all_found whole es ns (sorted_tail nat_cmp e.0 (keys_of es) sorted) up (λ s r found. held s r (row_later t e es sorted s r found)) sound' all'))
      ]

  -- ---- a change of the first row that passes

  pub changed_values : (f : T → T) (es : List (ℕ × T)) (g : ℕ × T) → IsStrictlySortedBy nat_cmp (keys_of es) → find (λ e. t e.1) es ≡ Some g → values_of (changed_at g.0 f es) ≡ changed_first t f (values_of es)
  changed_values f [] g sorted found = refl
  changed_values f (e ∷ es) g sorted found =
      elim (cases_Bool (t e.1)) [
        | inl on ↦ (let same : Some e ≡ Some g = rw on at found in let e' : e ≡ g = cc in rw (← e', cmp_same e.0, on) refl)
        | inr off ↦
            (let later : find (λ e. t e.1) es ≡ Some g = rw off at found in
            rw (apart_from_head e es g.0 sorted (found_there (λ e. t e.1) es g later), off)
            (ap (λ xs. e.1 ∷ xs) (changed_values f es g (sorted_tail nat_cmp e.0 (keys_of es) sorted) later)))
      ]

  pub none_changed : (f : T → T) (es : List (ℕ × T)) → find (λ e. t e.1) es ≡ None → values_of es ≡ changed_first t f (values_of es)
  none_changed f [] none = refl
  none_changed f (e ∷ es) none =
      elim (cases_Bool (t e.1)) [
        | inl on ↦ (let clash : Some e ≡ None = rw on at none in cc)
        | inr off ↦ rw off (ap (λ xs. e.1 ∷ xs) (none_changed f es (rw off at none)))
      ]

  pub changed_values_at : (f : T → T) (es : List (ℕ × T)) (n : ℕ) → IsStrictlySortedBy nat_cmp (keys_of es) → option_map (λ e. e.0) (find (λ e. t e.1) es) ≡ Some n → values_of (changed_at n f es) ≡ changed_first t f (values_of es)
  changed_values_at f es n sorted h =
      let g = some_number (find (λ e. t e.1) es) n h in
      subst (λ s. values_of (changed_at s f es) ≡ changed_first t f (values_of es)) g.2 (changed_values f es g.0 sorted g.1)

module _ {T : Type 0} (rank : T → ℕ) (t : T → Bool) where
  taken : (e : ℕ × T) (es : List (ℕ × T)) (q : T) → t e.1 ≡ true → IsStrictlySortedBy nat_cmp (keys_of (e ∷ es)) → (best : Option T) → ((p : T) → best ≡ Some p → (s : ℕ) × (row_at es s ≡ Some p) × (t p ≡ true)) → Some (lower rank e.1 best) ≡ Some q → (s : ℕ) × (row_at (e ∷ es) s ≡ Some q) × (t q ≡ true)
  taken e es q on sorted None later found = (let same : e.1 ≡ q = cc in (e.0, rw (← same, cmp_same e.0) refl, rw (← same) on))
  taken e es q on sorted (Some p) later found =
      elim (cases_Bool (nat_lt (rank p) (rank e.1))) [
        | inl less ↦ (let found' : Some p ≡ Some q = rw less at found in let same : p ≡ q = cc in let own = later p refl in (own.0, rw (← same) (row_later t e es sorted own.0 p own.1), rw (← same) own.2))
        | inr more ↦ (let found' : Some e.1 ≡ Some q = rw more at found in let same : e.1 ≡ q = cc in (e.0, rw (← same, cmp_same e.0) refl, rw (← same) on))
      ]

  pub least_there : (es : List (ℕ × T)) (q : T) → IsStrictlySortedBy nat_cmp (keys_of es) → least_by rank t (values_of es) ≡ Some q → (s : ℕ) × (row_at es s ≡ Some q) × (t q ≡ true)
  least_there [] q sorted found = cc
  least_there (e ∷ es) q sorted found =
      elim (cases_Bool (t e.1)) [
        | inl on ↦ taken e es q on sorted (least_by rank t (values_of es)) (λ p has. least_there es p (sorted_tail nat_cmp e.0 (keys_of es) sorted) has) (rw on at found)
        | inr off ↦
            (let own = least_there es q (sorted_tail nat_cmp e.0 (keys_of es) sorted) (rw off at found) in
            (own.0, row_later t e es sorted own.0 q own.1, own.2))
      ]

  not_below : (a b : ℕ × ℕ) → IsBefore a b → nat_lt b.0 a.0 ≡ false
  not_below a b (inl lt) = (let lt' : a.0 < b.0 = lt in grind (arith))
  not_below a b (inr same) = (let same' : a.0 ≡ b.0 = same.0 in grind (arith))

  strictly_below : (a b : ℕ × ℕ) → IsBefore a b → b.1 < a.1 → nat_lt a.0 b.0 ≡ true
  strictly_below a b (inl lt) after = (let lt' : a.0 < b.0 = lt in grind (arith))
  strictly_below a b (inr same) after = (let le : a.1 ≤ b.1 = same.1 in absurd (omega arith))

  head_lower : (r : T) (best : Option T) → ((q : T) → best ≡ Some q → nat_lt (rank q) (rank r) ≡ false) → lower rank r best ≡ r
  head_lower r None over = refl
  head_lower r (Some q) over = rw (over q refl) refl

  pub least_found : (es : List (ℕ × T)) (b : ℕ) (r : T) → IsStrictlySortedBy nat_cmp (keys_of es) → row_at es b ≡ Some r → t r ≡ true → ((s : ℕ) (q : T) → row_at es s ≡ Some q → t q ≡ true → IsBefore (rank r, b) (rank q, s)) → Some r ≡ least_by rank t (values_of es)
  least_found [] b r sorted found on least = cc
  least_found (e ∷ es) b r sorted found on least =
      elim (cases_Bool (is_at (nat_cmp b) e.0)) [
        | inl here ↦
            (let same : Some e.1 ≡ Some r = rw here at found in
            let r' : e.1 ≡ r = cc in
            rw (r', on) (sym (ap (λ x. Some x) (head_lower r (least_by rank t (values_of es)) (λ q has.
            let own = least_there es q (sorted_tail nat_cmp e.0 (keys_of es) sorted) has in
            not_below (rank r, b) (rank q, own.0) (least own.0 q (row_later t e es sorted own.0 q own.1) own.2))))))
        | inr apart ↦
            (let later : row_at es b ≡ Some r = rw apart at found in
            let rest = least_found es b r (sorted_tail nat_cmp e.0 (keys_of es) sorted) later on (λ s q has passes. least s q (row_later t e es sorted s q has) passes) in
            elim (cases_Bool (t e.1)) [
              | inl first ↦
                  (let low : e.0 ≤ b = head_least e es b sorted (rw found refl) in
                  let other : (e.0 ≡ b → ⊥) = λ same. (let clash : false ≡ true = sym apart ∙ (rw (same, cmp_same b) refl) in cc) in
                  let lt : e.0 < b = elim (cases_order e.0 b) [ inl same ↦ absurd (other same) | inr (inl lt) ↦ lt | inr (inr gt) ↦ absurd (omega arith) ] in
                  rw (first, ← rest, strictly_below (rank r, b) (rank e.1, e.0) (least e.0 e.1 (rw (cmp_same e.0) refl) first) lt) refl)
              | inr off ↦ rw off rest
            ])
      ]

  pub no_least : (es : List (ℕ × T)) → IsStrictlySortedBy nat_cmp (keys_of es) → ((s : ℕ) (r : T) → row_at es s ≡ Some r → t r ≡ false) → None ≡ least_by rank t (values_of es)
  no_least [] sorted none = refl
  no_least (e ∷ es) sorted none =
      rw (none e.0 e.1 (rw (cmp_same e.0) refl))
      (no_least es (sorted_tail nat_cmp e.0 (keys_of es) sorted) (λ s r found. none s r (row_later t e es sorted s r found)))

  -- what a walk for the least answers
  abbrev pub IsLeastOf : List (ℕ × T) → Option ℕ → Type 0
  IsLeastOf es best = (s : ℕ) (r : T) → row_at es s ≡ Some r → t r ≡ true → (b : ℕ) × (q : T) × (best ≡ Some b) × (row_at es b ≡ Some q) × IsBefore (rank q, b) (rank r, s)

  row_least : (es : List (ℕ × T)) (best : Option ℕ) (n : ℕ) (p : T) → best ≡ Some n → row_at es n ≡ Some p → IsLeastOf es best → (s : ℕ) (q : T) → row_at es s ≡ Some q → t q ≡ true → IsBefore (rank p, n) (rank q, s)
  row_least es best n p is row least s q found on =
      let d = least s q found on in
      let same : Some n ≡ Some d.0 = sym is ∙ d.2 in
      let n' : d.0 ≡ n = cc in
      let row' : Some d.1 ≡ Some p = sym d.3 ∙ (rw n' row) in
      let p' : d.1 ≡ p = cc in
      subst (λ x. IsBefore (rank x, n) (rank q, s)) p' (subst (λ i. IsBefore (rank d.1, i) (rank q, s)) n' d.4)

  pub least_row : (es : List (ℕ × T)) (best : Option ℕ) (n : ℕ) → IsStrictlySortedBy nat_cmp (keys_of es) → best ≡ Some n → ((b : ℕ) → best ≡ Some b → IsPassing (row_at es) t b) → IsLeastOf es best → row_at es n ≡ least_by rank t (values_of es)
  least_row es best n sorted is sound least =
      let own = sound n is in
      own.1 ∙ least_found es n own.0 sorted own.1 own.2 (row_least es best n own.0 is own.1 least)

  pub least_none : (es : List (ℕ × T)) (best : Option ℕ) → IsStrictlySortedBy nat_cmp (keys_of es) → best ≡ None → IsLeastOf es best → None ≡ least_by rank t (values_of es)
  least_none es best sorted is least =
      no_least es sorted (λ s r found.
      elim (cases_Bool (t r)) [
        | inl on ↦ (let d = least s r found on in let clash : None ≡ Some d.0 = sym is ∙ d.2 in cc)
        | inr off ↦ off
      ])
