-- Which groups of keys are marked after an edit.
use Rattle.std.proofs.Common.{◌≡◌, ◌⊎◌, ℕ, ℤ, pos, Bool, cond, List, Some, None, inl, inr, subst}
use Rattle.std.specs.BTreeMap.{is_at}
use Rattle.std.specs.Map.{lookup}
use Rattle.std.proofs.lemmas.Bool.{cases_Bool}
use Rattle.row_index.specs.Groups.{AreMarked, IsMarked, group_of}
use Rattle.row_index.specs.Index.{IsKey, key_cmp}
use Rattle.row_index.proofs.IndexLemmas.{Entries, fewer_after, key_means}

module _ (marks : List Bool) (ks ks' : Entries) (key : (ℕ × ℤ) × ℕ) (old : AreMarked marks ks) where
  pub marked_after : (marks' : List Bool) → ((p : (ℕ × ℤ) × ℕ) → lookup (is_at (key_cmp p)) ks' ≡ cond (is_at (key_cmp key) p) (Some tt) (lookup (is_at (key_cmp p)) ks)) → ((group : ℕ) → IsMarked marks group → IsMarked marks' group) → (key.0.1 ≡ pos 0) ⊎ IsMarked marks' (group_of key.0.0) → AreMarked marks' ks'
  marked_after marks' noted kept own p new =
      elim (cases_Bool (is_at (key_cmp key) p)) [
        | inl on ↦ subst (λ k. (k.1 ≡ pos 0) ⊎ IsMarked marks' (group_of k.0)) (key_means key p on) own
        | inr off ↦ (elim (old p (rw (noted p, off) at new)) [ inl none ↦ inl none | inr marked ↦ inr (kept (group_of p.0.0) marked) ])
      ]

  pub marked_less : ((p : (ℕ × ℤ) × ℕ) → lookup (is_at (key_cmp p)) ks' ≡ cond (is_at (key_cmp key) p) None (lookup (is_at (key_cmp p)) ks)) → AreMarked marks ks'
  marked_less noted p new = old p (fewer_after ks ks' key noted p new)
