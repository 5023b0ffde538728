-- The last closed sequence that stays tells where the next one starts.
use Rattle.std.proofs.Common.{◌&&◌, ◌∷◌, ◌≡◌, Bool, List, None, Option, Some, [], cond, false, filter, fold, not, refl, subst, sym, true, ℕ}
use Rattle.book_rows.specs.Sequences.{is_closed}
use Rattle.book_rows.specs.Ticks.{last_ends}
use Rattle.book_rows.specs.declared.rows.Offset.{Offset}
use Rattle.book_rows.specs.declared.rows.SequenceRow.{SequenceRow}
use Rattle.sup_core.specs.Ticking.{ends_or, is_from, last_closed, later_closed}

module _ (late : Option ℕ) (at : List Offset) where
  ends_from : (us : List SequenceRow) (last : Option SequenceRow) → last_ends (ends_or at last) (filter (λ u. not (is_from late u)) us) ≡ ends_or at (fold (later_closed late) last us)
  ends_from [] last = refl
  ends_from (u ∷ us) last = by (not (is_from late u)) (is_closed u) refl (λ o. ends_from us o) where
    by : (n c : Bool) → is_closed u ≡ c → ((o : Option SequenceRow) → last_ends (ends_or at o) (filter (λ v. not (is_from late v)) us) ≡ ends_or at (fold (later_closed late) o us))
        → last_ends (ends_or at last) (cond n (u ∷ filter (λ v. not (is_from late v)) us) (filter (λ v. not (is_from late v)) us)) ≡ ends_or at (fold (later_closed late) (cond (n && c) (Some u) last) us)
    by true true e rest = subst (λ (b : Bool). last_ends (cond b u.ends (ends_or at last)) (filter (λ v. not (is_from late v)) us) ≡ ends_or at (fold (later_closed late) (Some u) us)) (sym e) (rest (Some u))
    by true false e rest = subst (λ (b : Bool). last_ends (cond b u.ends (ends_or at last)) (filter (λ v. not (is_from late v)) us) ≡ ends_or at (fold (later_closed late) last us)) (sym e) (rest last)
    by false c e rest = rest last

  pub last_ends_are : (us : List SequenceRow) → last_ends at (filter (λ u. not (is_from late u)) us) ≡ ends_or at (last_closed late us)
  last_ends_are us = ends_from us None
