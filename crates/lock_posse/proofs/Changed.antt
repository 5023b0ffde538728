-- Changes of locks in place, row by row.
use Rattle.std.proofs.Common.{◌≡◌, ℕ, List, ◌==◌, ◌&&◌, not, map, inl, inr, refl}
use Rattle.std.proofs.lemmas.Bool.{cases_Bool}
use Rattle.book_rows.specs.Locks.{is_member, left, revoked_at}
use Rattle.book_rows.specs.declared.rows.PosseRow.{PosseRow}
use Rattle.row_table.specs.Table.{settled}
use Rattle.lock_posse.proofs.Departures.{not_there}

settled_revoked : (number : ℕ) (p : PosseRow) → settled (λ q. (q.number == number) && not q.revoked) (revoked_at number) p ≡ revoked_at number p
settled_revoked number p =
    elim (cases_Bool (p.number == number)) [
      | inl e ↦ elim (cases_Bool p.revoked) [ inl h ↦ rw (e, h) refl | inr h ↦ rw (e, h) refl ]
      | inr e ↦ elim (cases_Bool p.revoked) [ inl h ↦ rw (e, h) refl | inr h ↦ rw (e, h) refl ]
    ]

settled_left : (number : ℕ) (task : List ℕ) (p : PosseRow) → settled (λ q. (q.number == number) && is_member task q) (left number task) p ≡ left number task p
settled_left number task p =
    elim (cases_Bool (p.number == number)) [
      | inl e ↦ elim (cases_Bool (is_member task p)) [ inl h ↦ rw (e, h) refl | inr h ↦ rw (e, h, not_there task p.members h) refl ]
      | inr e ↦ rw e refl
    ]

-- a change of those that it concerns is the change of all
pub all_revoked : (number : ℕ) (ps : List PosseRow) → map (settled (λ q. (q.number == number) && not q.revoked) (revoked_at number)) ps ≡ map (revoked_at number) ps
all_revoked number ps = λ i. map (λ p. settled_revoked number p i) ps

pub all_left : (number : ℕ) (task : List ℕ) (ps : List PosseRow) → map (settled (λ q. (q.number == number) && is_member task q) (left number task)) ps ≡ map (left number task) ps
all_left number task ps = λ i. map (λ p. settled_left number task p i) ps
