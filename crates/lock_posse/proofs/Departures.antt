-- A task that leaves its locks in turn leaves each by itself.
use Rattle.std.proofs.Common.{◌≡◌, ℕ, Bool, true, false, cond, ◌==◌, ◌&&◌, ◌||◌, not, List, [], ◌∷◌, map, filter, refl, ap, ◌∙◌, inl, inr, arith}
use Rattle.std.specs.List.{AllByRecursion, list_any}
use Rattle.std.specs.Str.{bytes_eq}
use Rattle.std.proofs.lemmas.Bool.{cases_Bool, eq-eqb, or_parts}
use Rattle.std.proofs.lemmas.Bool.Decides.{nat_tests}
use Rattle.book_rows.specs.Lists.{is_empty}
use Rattle.book_rows.specs.Locks.{HasDistinctNumbers, after_leave, ends, is_member, locks_of, same_number}
use Rattle.book_rows.specs.declared.rows.PosseRow.{PosseRow}
use Rattle.lock_posse.specs.Leaving.{ended_of, is_last, left_by, numbers_last}
use Rattle.lock_posse.proofs.Rows.{all_filter, all_of_map, all_weaker}

-- something is left where one passes
pub any_left : {X : Type 0} (test : X → Bool) (xs : List X) → list_any test xs ≡ not (is_empty (filter test xs))
any_left test [] = refl
any_left test (x ∷ xs) = elim (cases_Bool (test x)) [ inl on ↦ rw on refl | inr off ↦ rw off (any_left test xs) ]

module _ (task : List ℕ) where
  -- a row of another number stays as it is
  past_row : (n : ℕ) (p : PosseRow) (ps : List PosseRow) → (p.number == n) ≡ false → after_leave n task (p ∷ ps) ≡ p ∷ after_leave n task ps
  past_row n p ps e =
      ap (λ (b : Bool). cond (not (b && is_empty (cond b (left_by task p).members p.members))) (record p { members = cond b (left_by task p).members p.members } ∷ after_leave n task ps) (after_leave n task ps)) e

  past_all : (n : ℕ) (ps : List PosseRow) → AllByRecursion (λ q. (q.number == n) ≡ false) ps → after_leave n task ps ≡ ps
  past_all n [] a = refl
  past_all n (p ∷ ps) a = past_row n p ps a.0 ∙ ap (λ qs. p ∷ qs) (past_all n ps a.1)

  -- the row of the number goes, or loses the task
  at_row : (p : PosseRow) (ps : List PosseRow) → AllByRecursion (λ q. (q.number == p.number) ≡ false) ps
      → after_leave p.number task (p ∷ ps) ≡ cond (not (is_empty (left_by task p).members)) (left_by task p ∷ ps) ps
  at_row p ps a =
      ap (λ (b : Bool). cond (not (b && is_empty (cond b (left_by task p).members p.members))) (record p { members = cond b (left_by task p).members p.members } ∷ after_leave p.number task ps) (after_leave p.number task ps)) (eq-eqb p.number p.number refl)
      ∙ ap (λ qs. cond (not (is_empty (left_by task p).members)) (left_by task p ∷ qs) qs) (past_all p.number ps a)

  past_ends : (n : ℕ) (p : PosseRow) (ps : List PosseRow) → (p.number == n) ≡ false → ends n task (p ∷ ps) ≡ ends n task ps
  past_ends n p ps e = ap (λ (b : Bool). (b && is_empty (cond b (left_by task p).members p.members)) || ends n task ps) e

  none_ends : (n : ℕ) (ps : List PosseRow) → AllByRecursion (λ q. (q.number == n) ≡ false) ps → ends n task ps ≡ false
  none_ends n [] a = refl
  none_ends n (p ∷ ps) a = past_ends n p ps a.0 ∙ none_ends n ps a.1

  or_none : (b : Bool) → (b || false) ≡ b
  or_none true = refl
  or_none false = refl

  at_ends : (p : PosseRow) (ps : List PosseRow) → AllByRecursion (λ q. (q.number == p.number) ≡ false) ps
      → ends p.number task (p ∷ ps) ≡ is_empty (left_by task p).members
  at_ends p ps a =
      ap (λ (b : Bool). (b && is_empty (cond b (left_by task p).members p.members)) || ends p.number task ps) (eq-eqb p.number p.number refl)
      ∙ (ap (λ b. is_empty (left_by task p).members || b) (none_ends p.number ps a) ∙ or_none (is_empty (left_by task p).members))

  -- ---- several numbers, none of them the row's

  past_ended : (ns : List ℕ) (p : PosseRow) (ps : List PosseRow) → AllByRecursion (λ n. (p.number == n) ≡ false) ns → ended_of ns task (p ∷ ps) ≡ ended_of ns task ps
  past_ended [] p ps a = refl
  past_ended (n ∷ ns) p ps a =
      ap (λ b. cond b (n ∷ ended_of ns task (after_leave n task (p ∷ ps))) (ended_of ns task (after_leave n task (p ∷ ps)))) (past_ends n p ps a.0)
      ∙ ap (λ ms. cond (ends n task ps) (n ∷ ms) ms) (ap (λ qs. ended_of ns task qs) (past_row n p ps a.0) ∙ past_ended ns p (after_leave n task ps) a.1)

  -- ---- distinct numbers

  others_listed : (p : PosseRow) (ps : List PosseRow) → AllByRecursion (λ q. same_number p q ≡ false) ps → AllByRecursion (λ n. (p.number == n) ≡ false) (locks_of task ps)
  others_listed p ps a = all_of_map (λ n. (p.number == n) ≡ false) (λ q. q.number) (filter (is_member task) ps) (all_filter (λ q. same_number p q ≡ false) (is_member task) ps a)

  turned : (p q : PosseRow) → same_number p q ≡ false → (q.number == p.number) ≡ false
  turned p q e = grind (arith, nat_tests)

  apart : (p : PosseRow) (ps : List PosseRow) → AllByRecursion (λ q. same_number p q ≡ false) ps → AllByRecursion (λ q. (q.number == p.number) ≡ false) ps
  apart p ps a = all_weaker (λ q. same_number p q ≡ false) (λ q. (q.number == p.number) ≡ false) (turned p) ps a

  pub not_there : (ms : List (List ℕ)) → list_any (λ m. bytes_eq m task) ms ≡ false → filter (λ m. not (bytes_eq m task)) ms ≡ ms
  not_there [] e = refl
  not_there (m ∷ ms) e =
      let parts = or_parts (bytes_eq m task) (list_any (λ m. bytes_eq m task) ms) e in
      ap (λ b. cond (not b) (m ∷ filter (λ m. not (bytes_eq m task)) ms) (filter (λ m. not (bytes_eq m task)) ms)) parts.0
      ∙ ap (λ xs. m ∷ xs) (not_there ms parts.1)

  -- ---- all locks of the task

  ended_one : (b : Bool) (p : PosseRow) (ps : List PosseRow) → AllByRecursion (λ n. (p.number == n) ≡ false) (locks_of task ps)
      → ended_of (locks_of task ps) task (cond (not b) (left_by task p ∷ ps) ps) ≡ ended_of (locks_of task ps) task ps
  ended_one true p ps a = refl
  ended_one false p ps a = past_ended (locks_of task ps) (left_by task p) ps a

  numbers_one : (b : Bool) (p : PosseRow) (rest : List PosseRow) → cond b (p.number ∷ map (λ q. q.number) rest) (map (λ q. q.number) rest) ≡ map (λ q. q.number) (cond b (p ∷ rest) rest)
  numbers_one true p rest = refl
  numbers_one false p rest = refl

  pub ended_all : (ps : List PosseRow) → HasDistinctNumbers ps → ended_of (locks_of task ps) task ps ≡ numbers_last task ps
  ended_all [] h = refl
  ended_all (p ∷ ps) h =
      elim (cases_Bool (is_member task p)) [
        | inl on ↦
            rw on
            (
            ap (λ b. cond b (p.number ∷ ended_of (locks_of task ps) task (after_leave p.number task (p ∷ ps))) (ended_of (locks_of task ps) task (after_leave p.number task (p ∷ ps)))) (at_ends p ps (apart p ps h.0))
            ∙ (
            ap (λ ms. cond (is_empty (left_by task p).members) (p.number ∷ ms) ms)
            (
            ap (λ qs. ended_of (locks_of task ps) task qs) (at_row p ps (apart p ps h.0))
            ∙ (ended_one (is_empty (left_by task p).members) p ps (others_listed p ps h.0) ∙ ended_all ps h.1)
            )
            ∙ numbers_one (is_empty (left_by task p).members) p (filter (is_last task) ps)
            )
            )
        | inr off ↦ rw off (past_ended (locks_of task ps) p ps (others_listed p ps h.0) ∙ ended_all ps h.1)
      ]
