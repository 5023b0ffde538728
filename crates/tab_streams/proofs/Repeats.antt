-- Publications by their numbers: the first that passes a test, and the first that another one repeats.
use Rattle.std.proofs.Common.{◌&&◌, ◌+◌, ◌++◌, ◌<◌, ◌||◌, ◌∙◌, ◌∷◌, ◌≡◌, ◌≤◌, Bool, Err, List, None, Ok, OnErr, OnOk, Option, Result, Some, [], ap, ap₂, arith, bytes_eq, cond, false, find, inl, inr, length, nat_le, refl, subst, suc, sym, true, zero, ℕ}
use Rattle.std.specs.List.{list_any}
use Rattle.std.specs.Option.{option_map}
use Rattle.std.proofs.lemmas.Bool.{cases_Bool, cases_lt, false≢true, or_parts}
use Rattle.std.proofs.lemmas.Bool.Decides.{nat_tests}
use Rattle.book_rows.specs.Lists.{is_empty, or_else, place_from}
use Rattle.book_rows.specs.Kinds.{same_pub_kind}
use Rattle.book_rows.specs.Publications.{forgets, is_like, is_of_same_stream, repeat_from, repeat_of}
use Rattle.book_rows.specs.declared.kinds.PubKind.TheVariants as PubKinds
use Rattle.book_rows.specs.declared.rows.Publication.{Publication}
use Rattle.tab_streams.specs.Keys.{forgets_from, is_like_from}
use Rattle.tab_streams.specs.Numbered.{AreNumbered, rows_of}
use Rattle.tab_streams.specs.declared.keys.Entry.{Entry}

pub numbered_push : (n : ℕ) (es : List Entry) (e : Entry) → AreNumbered n es → e.number ≡ n + length es → AreNumbered n (es ++ e ∷ [])
numbered_push n [] e h is = (omega (arith, is), tt)
numbered_push n (x ∷ xs) e h is = (h.0, numbered_push (n + 1) xs e h.1 (omega (arith, is)))

pub push_keeps : {X E : Type 0} (result : Result X E) (n : ℕ) (old new : List Entry) (e : Entry) → OnOk result (new ≡ old ++ e ∷ []) → OnErr result (new ≡ old) → AreNumbered n old → e.number ≡ n + length old → AreNumbered n new
push_keeps (Ok x) n old new e ok err h is = subst (AreNumbered n) (sym ok) (numbered_push n old e h is)
push_keeps (Err w) n old new e ok err h is = subst (AreNumbered n) (sym err) h

-- ---- the first that passes

pub found_number : (test : Publication → Bool) (n : ℕ) (es : List Entry) → AreNumbered n es → option_map (λ e. e.number) (find (λ e. test e.row) es) ≡ place_from n test (rows_of es)
found_number test n [] h = refl
found_number test n (e ∷ es) h = by (test e.row) (found_number test (n + 1) es h.1) where
  by : (v : Bool) → option_map (λ e. e.number) (find (λ e. test e.row) es) ≡ place_from (n + 1) test (rows_of es)
      → option_map (λ (x : Entry). x.number) (cond v (Some e) (find (λ e. test e.row) es)) ≡ cond v (Some n) (place_from (n + 1) test (rows_of es))
  by true rest = ap Some h.0
  by false rest = rest

-- ---- the first that another one repeats

module _ (like : Publication) where
  -- from a number on
  abbrev found_from : ℕ → List Entry → Option ℕ
  found_from from es = option_map (λ e. e.number) (find (is_like_from from like) es)

  -- the number of the first entry, where it counts
  abbrev seen : Option ℕ → ℕ → Entry → Option ℕ
  seen found n e = or_else found (cond (is_like like e.row) (Some n) None)

  with_none : (found : Option ℕ) → or_else found None ≡ found
  with_none (Some n) = refl
  with_none None = refl

  -- where nothing is forgotten from here on
  kept : (from n : ℕ) (found : Option ℕ) (es : List Entry) → AreNumbered n es → from ≤ n → list_any (forgets_from from like) es ≡ false → repeat_from n found like (rows_of es) ≡ or_else found (found_from from es)
  kept from n found [] h le none = sym (with_none found)
  kept from n found (e ∷ es) h le none =
      let parts = or_parts (forgets_from from like e) (list_any (forgets_from from like) es) none in
      let low : nat_le from e.number ≡ true = low_number from n e.number le h.0 in
      let stays : forgets like e.row ≡ false = sym (ap (λ b. b && forgets like e.row) low) ∙ parts.0 in
      let rest : repeat_from (n + 1) (seen found n e) like (rows_of es) ≡ or_else (seen found n e) (found_from from es) = kept from (n + 1) (seen found n e) es h.1 (omega (arith, le)) parts.1 in
      ap (λ b. repeat_from (n + 1) (cond b None (seen found n e)) like (rows_of es)) stays
      ∙ (rest ∙ (by found (is_like like e.row) ∙ ap (λ b. or_else found (option_map (λ (x : Entry). x.number) (cond (b && is_like like e.row) (Some e) (find (is_like_from from like) es)))) (sym low))) where
        low_number : (from n number : ℕ) → from ≤ n → number ≡ n → nat_le from number ≡ true
        low_number from n number le is = grind (arith, nat_tests)

        by : (found : Option ℕ) (v : Bool) → or_else (or_else found (cond v (Some n) None)) (found_from from es) ≡ or_else found (option_map (λ (x : Entry). x.number) (cond v (Some e) (find (is_like_from from like) es)))
        by (Some k) v = refl
        by None true = ap Some (sym h.0)
        by None false = refl

  -- a number further on is as good, where all entries have greater ones
  same_from : (last n : ℕ) (es : List Entry) → AreNumbered n es → last + 1 ≤ n → list_any (forgets_from last like) es ≡ list_any (forgets_from (last + 1) like) es
  same_from last n [] h le = refl
  same_from last n (e ∷ es) h le = ap₂ (λ u v. (u && forgets like e.row) || v) (both last n e.number le h.0) (same_from last (n + 1) es h.1 (omega (arith, le))) where
    both : (last n number : ℕ) → last + 1 ≤ n → number ≡ n → nat_le last number ≡ nat_le (last + 1) number
    both last n number le is = grind (arith, nat_tests)

  -- where the last entry that forgets is still to come
  forgotten : (last n : ℕ) (found : Option ℕ) (es : List Entry) → AreNumbered n es → n ≤ last → list_any (forgets_from last like) es ≡ true → list_any (forgets_from (last + 1) like) es ≡ false
      → repeat_from n found like (rows_of es) ≡ found_from (last + 1) es
  forgotten last n found [] h le some none = cc
  forgotten last n found (e ∷ es) h le some none =
      let parts = or_parts (forgets_from (last + 1) like e) (list_any (forgets_from (last + 1) like) es) none in
      let early : nat_le (last + 1) e.number ≡ false = is_early last n e.number le h.0 in
      let skip : found_from (last + 1) (e ∷ es) ≡ found_from (last + 1) es = ap (λ b. option_map (λ (x : Entry). x.number) (cond (b && is_like like e.row) (Some e) (find (is_like_from (last + 1) like) es))) early in
      elim (cases_lt n last) [
        | inl before ↦
            let apart : nat_le last e.number ≡ false = is_before last n e.number before h.0 in
            let later : list_any (forgets_from last like) es ≡ true = sym (ap (λ b. (b && forgets like e.row) || list_any (forgets_from last like) es) apart) ∙ some in
            forgotten last (n + 1) (cond (forgets like e.row) None (seen found n e)) es h.1 (omega (arith, before)) later parts.1 ∙ sym skip
        | inr here ↦
            elim (cases_Bool (forgets like e.row)) [
              | inl on ↦
                  ap (λ b. repeat_from (n + 1) (cond b None (seen found n e)) like (rows_of es)) on ∙ (kept (last + 1) (n + 1) None es h.1 (omega (arith, le, here)) parts.1 ∙ sym skip)
              | inr off ↦
                  let later : list_any (forgets_from last like) es ≡ true = sym (drop_first (nat_le last e.number) (forgets like e.row) (list_any (forgets_from last like) es) off) ∙ some in
                  absurd (false≢true (sym parts.1 ∙ (sym (same_from last (n + 1) es h.1 (omega (arith, here))) ∙ later)))
            ]
      ] where
        is_early : (last n number : ℕ) → n ≤ last → number ≡ n → nat_le (last + 1) number ≡ false
        is_early last n number le is = grind (arith, nat_tests)

        is_before : (last n number : ℕ) → n < last → number ≡ n → nat_le last number ≡ false
        is_before last n number lt is = grind (arith, nat_tests)

        drop_first : (a b c : Bool) → b ≡ false → ((a && b) || c) ≡ c
        drop_first true b c off = ap (λ v. v || c) off
        drop_first false b c off = refl

  -- the first that counts is the repeat
  pub repeated : (from : ℕ) (es : List Entry) → AreNumbered 0 es → list_any (forgets_from from like) es ≡ false → ((k : ℕ) → from ≡ k + 1 → list_any (forgets_from k like) es ≡ true)
      → option_map (λ e. e.number) (find (is_like_from from like) es) ≡ repeat_of like (rows_of es)
  repeated zero es h none last = sym (kept zero 0 None es h (omega arith) none)
  repeated (suc k) es h none last =
      let next : suc k ≡ k + 1 = omega arith in
      let past : list_any (forgets_from (k + 1) like) es ≡ false = subst (λ i. list_any (forgets_from i like) es ≡ false) next none in
      ap (λ i. found_from i es) next ∙ sym (forgotten k 0 None es h (omega arith) (last k next) past)

  -- no entry has a number behind the last
  pub none_past : (from n : ℕ) (es : List Entry) → AreNumbered n es → n + length es ≤ from → list_any (forgets_from from like) es ≡ false
  none_past from n [] h le = refl
  none_past from n (e ∷ es) h le = ap₂ (λ u v. (u && forgets like e.row) || v) (is_low from n e.number (length es) h.0 (omega (arith, le))) (none_past from (n + 1) es h.1 (omega (arith, le))) where
    is_low : (from n number rest : ℕ) → number ≡ n → n + rest + 1 ≤ from → nat_le from number ≡ false
    is_low from n number rest is le = grind (arith, nat_tests)

  -- nothing makes the earlier ones of a publication with ids count no more
  pub none_forgets : (es : List Entry) → (is_empty like.adds && is_empty like.empties) ≡ false → list_any (forgets_from 0 like) es ≡ false
  none_forgets [] off = refl
  none_forgets (e ∷ es) off =
      ap₂ (λ u v. (nat_le 0 e.number && u) || v)
      (ap (λ b. b && same_pub_kind e.row.kind PubKinds.Reset && bytes_eq e.row.source like.source && is_of_same_stream e.row.ranges like.ranges) off)
      (none_forgets es off)
      ∙ (no_more (nat_le 0 e.number)) where
        no_more : (a : Bool) → ((a && false) || false) ≡ false
        no_more true = refl
        no_more false = refl
