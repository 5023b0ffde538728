-- For whoever keeps the book: what goes when a task leaves its locks, one after another.
use Rattle.std.proofs.Common.{◌≡◌, ℕ, Bool, true, false, cond, ◌==◌, ◌&&◌, not, List, [], ◌∷◌, filter, refl, sym, ap, ◌∙◌, inl, inr}
use Rattle.std.proofs.lemmas.Bool.{cases_Bool, cases_eq, eq-eqb, ne_eqb}
use Rattle.book_rows.specs.Lists.{stands_in}
use Rattle.book_rows.specs.Locks.{after_leave, ends, ends_at, left_lock, left_locks, stripped, stripped_upgrades}
use Rattle.book_rows.specs.declared.rows.Book.{Book}
use Rattle.lock_posse.specs.Leaving.{ended_of, left_rows}

-- the locks that are left
pub left_locks_posses : (ns task : List ℕ) (b : Book) → (left_locks ns task b).posses ≡ left_rows ns task b.posses
left_locks_posses [] task b = refl
left_locks_posses (n ∷ ns) task b = left_locks_posses ns task (left_lock n task b)

module _ {X : Type 0} (key : X → ℕ) where
  abbrev kept : (ℕ → Bool) → List X → List X
  kept gone xs = filter (λ x. not (gone (key x))) xs

  none_gone : (xs : List X) → xs ≡ kept (stands_in []) xs
  none_gone [] = refl
  none_gone (x ∷ xs) = ap (λ ys. x ∷ ys) (none_gone xs)

  gone_twice : (p q r : ℕ → Bool) → ((n : ℕ) → (not (p n) && not (q n)) ≡ not (r n)) → (xs : List X) → kept q (kept p xs) ≡ kept r xs
  gone_twice p q r h [] = refl
  gone_twice p q r h (x ∷ xs) =
      elim (cases_Bool (p (key x))) [
        | inl on ↦
            let over : not (r (key x)) ≡ false = sym (h (key x)) ∙ ap (λ b. not b && not (q (key x))) on in
            rw (on, over) (gone_twice p q r h xs)
        | inr off ↦
            let same : not (q (key x)) ≡ not (r (key x)) = sym (ap (λ b. not b && not (q (key x))) off) ∙ h (key x) in
            rw (off, ← same) (ap (λ ys. cond (not (q (key x))) (x ∷ ys) ys) (gone_twice p q r h xs))
      ]

first_gone : (e : Bool) (n m : ℕ) (ns : List ℕ) → (not ((m == n) && e) && not (stands_in ns m)) ≡ not (stands_in (cond e (n ∷ ns) ns) m)
first_gone true n m ns =
    elim (cases_eq m n) [
      | inl e ↦ rw (eq-eqb m n e, eq-eqb n m (sym e)) refl
      | inr apart ↦ rw (ne_eqb m n apart, ne_eqb n m (λ e. apart (sym e))) refl
    ]
first_gone false n m ns = elim (cases_Bool (m == n)) [ inl on ↦ rw on refl | inr off ↦ rw off refl ]

-- the pendings that are left, and the upgrade rows: those of no lock that ended
pub left_locks_pendings : (ns task : List ℕ) (b : Book) → (left_locks ns task b).pendings ≡ stripped (stands_in (ended_of ns task b.posses)) b.pendings
left_locks_pendings [] task b = none_gone (λ p. p.posse) b.pendings
left_locks_pendings (n ∷ ns) task b =
    left_locks_pendings ns task (left_lock n task b)
    ∙ gone_twice (λ p. p.posse) (ends_at n task b.posses) (stands_in (ended_of ns task (after_leave n task b.posses))) (stands_in (ended_of (n ∷ ns) task b.posses))
    (λ m. first_gone (ends n task b.posses) n m (ended_of ns task (after_leave n task b.posses))) b.pendings

pub left_locks_upgrades : (ns task : List ℕ) (b : Book) → (left_locks ns task b).upgrades ≡ stripped_upgrades (stands_in (ended_of ns task b.posses)) b.upgrades
left_locks_upgrades [] task b = none_gone (λ u. u.posse) b.upgrades
left_locks_upgrades (n ∷ ns) task b =
    left_locks_upgrades ns task (left_lock n task b)
    ∙ gone_twice (λ u. u.posse) (ends_at n task b.posses) (stands_in (ended_of ns task (after_leave n task b.posses))) (stands_in (ended_of (n ∷ ns) task b.posses))
    (λ m. first_gone (ends n task b.posses) n m (ended_of ns task (after_leave n task b.posses))) b.upgrades
