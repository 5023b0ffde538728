-- A list of distinct texts is no longer than one that has them all.
use Rattle.std.proofs.Common.{◌≡◌, ◌≤◌, ◌⊎◌, inl, inr, ℕ, Bool, true, false, List, [], ◌∷◌, ◌++◌, length, refl, sym, subst, ap, ◌∙◌, arith, bytes_eq, length-append}
use Rattle.std.proofs.lemmas.Bool.{false≢true}
use Rattle.std.proofs.lemmas.Slice.Eq.{bytes_eq-Decides}
use Rattle.book_rows.specs.Lists.{In, Pairs}
use Rattle.laws_locks.proofs.Lists.{In-all, In-append, In-left, In-right}

module _ {X : Type 0} where
  -- the list around an element
  record Around (x : X) (xs : List X) : Type 0 where
    before : List X
    after : List X
    whole : xs ≡ before ++ x ∷ after

  around : (x : X) (xs : List X) → In x xs → Around x xs
  around x [] i = absurd i
  around x (y ∷ ys) (inl e) = record { before = []; after = ys; whole = ap (λ (z : X). z ∷ ys) (sym e) }
  around x (y ∷ ys) (inr i) = let rest = around x ys i in record { before = y ∷ rest.before; after = rest.after; whole = ap (λ (l : List X). y ∷ l) rest.whole }

  -- any other element of it is before or after
  other : (x y : X) (before after : List X) → In y (before ++ x ∷ after) → (y ≡ x → ⊥) → In y (before ++ after)
  other x y before after i apart = by (In-append y before (x ∷ after) i) where
    by : In y before ⊎ In y (x ∷ after) → In y (before ++ after)
    by (inl j) = In-left y before after j
    by (inr (inl e)) = absurd (apart e)
    by (inr (inr j)) = In-right y before after j

  no_longer : (same : X → X → Bool) → ((x y : X) → x ≡ y → same x y ≡ true) → (xs ys : List X) → Pairs (λ x y. same x y ≡ false) xs → ((x : X) → In x xs → In x ys) → length xs ≤ length ys
  no_longer same laws [] ys d h = omega arith
  no_longer same laws (x ∷ xs) ys d h =
      let a = around x ys (h x (inl refl)) in
      let rest : length xs ≤ length (a.before ++ a.after) =
      no_longer same laws xs (a.before ++ a.after) d.1
      (λ y i. other x y a.before a.after (subst (λ (l : List X). In y l) a.whole (h y (inr i))) (λ e. false≢true (sym (In-all (λ z. same x z ≡ false) y xs i d.0) ∙ laws x y (sym e)))) in
      omega (arith, rest, length-append a.before a.after, length-append a.before (x ∷ a.after), ap length a.whole)

pub texts_no_longer : (xs ys : List (List ℕ)) → Pairs (λ x y. bytes_eq x y ≡ false) xs → ((x : List ℕ) → In x xs → In x ys) → length xs ≤ length ys
texts_no_longer xs ys d h = no_longer bytes_eq (λ x y e. (bytes_eq-Decides x y).1 e) xs ys d h
