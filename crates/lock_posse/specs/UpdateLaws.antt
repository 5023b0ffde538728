-- What changes that bring members promise of the keys.
use Rattle.std.specs.Prelude.{◌≡◌, ◌⊎◌, ℕ, ℤ, Bool, true, false, List, None, Option, Some, [], ◌∷◌, ◌==◌, cond, refl, unwrap_or}
use Rattle.std.proofs.Common.{inl, inr}
use Rattle.std.proofs.lemmas.Bool.{eqb-true}
use Rattle.book_rows.specs.declared.rows.PosseRow.{PosseRow}
use Rattle.row_index.specs.Index.{In, IsReached, digest_range}
use Rattle.row_index.proofs.IndexLemmas.{digest_reached}
use Rattle.row_table.specs.Table.{BringsOnly}
use Rattle.lock_posse.specs.Keys.{lock_keys, member_keys, number_digest}
use Rattle.lock_posse.specs.Updates.{after_granting, granting_keys}
use Rattle.lock_posse.specs.declared.updates.Granting.{Granting}

pub granting_covers : (number : ℕ) (p : PosseRow) → (number == p.number) ≡ true → IsReached (digest_range (number_digest number) ∷ []) (lock_keys p)
granting_covers number p on = let same : number ≡ p.number = eqb-true number p.number on in digest_reached (number_digest number) (lock_keys p) (inl (rw same refl))

member_brought : (o : Option (List (List ℕ))) (ms : List (List ℕ)) (k : ℕ × ℤ) → In k (member_keys (unwrap_or o ms)) → In k (member_keys ms) ⊎ In k (granting_keys o)
member_brought None ms k there = inl there
member_brought (Some ns) ms k there = inr there

either_brought : (b : Bool) (o : Option (List (List ℕ))) (ms : List (List ℕ)) (k : ℕ × ℤ) → In k (member_keys (cond b (unwrap_or o ms) ms)) → In k (member_keys ms) ⊎ In k (granting_keys o)
either_brought true o ms k there = member_brought o ms k there
either_brought false o ms k there = inl there

pub granting_brings : (q : Granting) (p : PosseRow) → BringsOnly (lock_keys p) (lock_keys (after_granting q p)) (granting_keys q.members)
granting_brings q p k there =
    elim there [
      | inl e ↦ inl (inl e)
      | inr (inl e) ↦ inl (inr (inl e))
      | inr (inr later) ↦ elim (either_brought (q.number == p.number) q.members p.members k later) [ inl old ↦ inl (inr (inr old)) | inr new ↦ inr new ]
    ]
