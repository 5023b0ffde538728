-- What look-ups in lists say; of the least lock that passes, that of laws_locks is passed on.
use Rattle.std.proofs.Common.{Bool, List, None, Option, Some, [], ap, cond, false, find, inl, inr, refl, sym, true, ◌∙◌, ◌∷◌, ◌≡◌}
use Rattle.std.specs.List.{fold}
use Rattle.book_rows.specs.Lists.{In}
use Rattle.book_rows.specs.Locks.{better, least, least_step}
use Rattle.book_rows.specs.declared.rows.PosseRow.{PosseRow}
use Rattle.laws_locks.proofs.Lists.{In-all, found_In, none_found}
pub use Rattle.laws_locks.proofs.LookUps.{least_found as least_some}

module _ {X : Type 0} (p : X → Bool) where
  -- nothing found: each fails
  pub find_none : (xs : List X) → find p xs ≡ None → (x : X) → In x xs → p x ≡ false
  find_none xs h x i = In-all (λ x. p x ≡ false) x xs i (none_found p xs h)

  -- one found: it is of the list, and passes
  pub find_some : (xs : List X) (x : X) → find p xs ≡ Some x → In x xs × (p x ≡ true)
  find_some xs x h = found_In p x xs h

-- the same of the lock of the least number
least_from_none : (test : PosseRow → Bool) (best : Option PosseRow) (ps : List PosseRow) → fold (least_step test) best ps ≡ None → (best ≡ None) × ((p : PosseRow) → In p ps → test p ≡ false)
least_from_none test best [] h = (h, λ p i. absurd i)
least_from_none test best (q ∷ ps) h = go (test q) refl (least_from_none test (least_step test best q) ps h) where
  go : (b : Bool) → test q ≡ b → (least_step test best q ≡ None) × ((p : PosseRow) → In p ps → test p ≡ false) → (best ≡ None) × ((p : PosseRow) → In p (q ∷ ps) → test p ≡ false)
  go true e w = (let step : cond (test q) (Some (better best q)) best ≡ None = w.0 in absurd (some_not_none (better best q) (ap (λ (b : Bool). cond b (Some (better best q)) best) (sym e) ∙ step))) where
    some_not_none : (p : PosseRow) → Some p ≡ None → ⊥
    some_not_none p e = cc
  go false e w = (ap (λ (b : Bool). cond b (Some (better best q)) best) (sym e) ∙ w.0, at) where
    at : (p : PosseRow) → In p (q ∷ ps) → test p ≡ false
    at p (inl same) = rw same e
    at p (inr i) = w.1 p i

pub least_none : (test : PosseRow → Bool) (ps : List PosseRow) → least test ps ≡ None → (p : PosseRow) → In p ps → test p ≡ false
least_none test ps h = (least_from_none test None ps h).1
