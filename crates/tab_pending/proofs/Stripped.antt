-- What goes with one lock after another goes with all of them.
use Rattle.std.proofs.Common.{◌≡◌, ℕ, Bool, true, false, cond, ◌==◌, ◌&&◌, not, List, [], ◌∷◌, filter, refl, sym, ap, ◌∙◌, inl, inr}
use Rattle.std.proofs.lemmas.Bool.{cases_Bool, cases_eq, eq-eqb, ne_eqb}
use Rattle.book_rows.specs.Lists.{stands_in}
use Rattle.book_rows.specs.Locks.{stripped, stripped_upgrades}
use Rattle.book_rows.specs.declared.rows.PendingRow.{PendingRow}
use Rattle.book_rows.specs.declared.rows.UpgradeRow.{UpgradeRow}

first_gone : (n m : ℕ) (ns : List ℕ) → (not (m == n) && not (stands_in ns m)) ≡ not (stands_in (n ∷ ns) m)
first_gone n m ns =
    elim (cases_eq m n) [
      | inl e ↦ rw (eq-eqb m n e, eq-eqb n m (sym e)) refl
      | inr apart ↦ rw (ne_eqb m n apart, ne_eqb n m (λ e. apart (sym e))) refl
    ]

and_true : (b : Bool) → b ≡ (b && true)
and_true true = refl
and_true false = refl

and_false : (b : Bool) → (b && false) ≡ false
and_false true = refl
and_false false = refl

module _ {X : Type 0} (key : X → ℕ) where
  abbrev kept : (ℕ → Bool) → List X → List X
  kept gone xs = filter (λ x. not (gone (key x))) xs

  none_gone : (gone : ℕ → Bool) → ((n : ℕ) → gone n ≡ false) → (xs : List X) → xs ≡ kept gone xs
  none_gone gone h [] = refl
  none_gone gone h (x ∷ xs) = rw (h (key x)) (ap (λ ys. x ∷ ys) (none_gone gone h xs))

  one_gone : (n : ℕ) (ns : List ℕ) (xs : List X) → kept (stands_in ns) (kept (λ m. m == n) xs) ≡ kept (stands_in (n ∷ ns)) xs
  one_gone n ns [] = refl
  one_gone n ns (x ∷ xs) =
      elim (cases_Bool (key x == n)) [
        | inl on ↦
            (let over : not (stands_in (n ∷ ns) (key x)) ≡ false = sym (first_gone n (key x) ns) ∙ ap (λ b. not b && not (stands_in ns (key x))) on in
            rw (on, over) (one_gone n ns xs))
        | inr off ↦
            (let same : not (stands_in ns (key x)) ≡ not (stands_in (n ∷ ns) (key x)) = sym (ap (λ b. not b && not (stands_in ns (key x))) off) ∙ first_gone n (key x) ns in
            rw (off, ← same) (ap (λ ys. cond (not (stands_in ns (key x))) (x ∷ ys) ys) (one_gone n ns xs)))
      ]

pub pendings_more : (n : ℕ) (ns : List ℕ) (ps : List PendingRow) → stripped (stands_in ns) (stripped (λ m. m == n) ps) ≡ stripped (stands_in (n ∷ ns)) ps
pendings_more n ns ps = one_gone (λ p. p.posse) n ns ps

pub upgrades_more : (n : ℕ) (ns : List ℕ) (us : List UpgradeRow) → stripped_upgrades (stands_in ns) (stripped_upgrades (λ m. m == n) us) ≡ stripped_upgrades (stands_in (n ∷ ns)) us
upgrades_more n ns us = one_gone (λ u. u.posse) n ns us

pub pendings_all : (ps : List PendingRow) → ps ≡ stripped (stands_in []) ps
pendings_all ps = none_gone (λ p. p.posse) (stands_in []) (λ n. refl) ps

pub upgrades_all : (us : List UpgradeRow) → us ≡ stripped_upgrades (stands_in []) us
upgrades_all us = none_gone (λ u. u.posse) (stands_in []) (λ n. refl) us

-- ---- a lock that may have ended

pub pendings_stay : (n : ℕ) (ps : List PendingRow) → ps ≡ stripped (λ m. (m == n) && false) ps
pendings_stay n ps = none_gone (λ p. p.posse) (λ m. (m == n) && false) (λ m. and_false (m == n)) ps

pub upgrades_stay : (n : ℕ) (us : List UpgradeRow) → us ≡ stripped_upgrades (λ m. (m == n) && false) us
upgrades_stay n us = none_gone (λ u. u.posse) (λ m. (m == n) && false) (λ m. and_false (m == n)) us

pub ended_gone : (n : ℕ) → ◌≡◌ {A = ℕ → Bool} (λ m. m == n) (λ m. (m == n) && true)
ended_gone n = λ i m. and_true (m == n) i
