-- The segments of a root and its copies.
use Rattle.std.proofs.Common.{Bool, List, [], arith, cond, false, filter, inl, inr, not, refl, true, ℕ, ◌&&◌, ◌+◌, ◌++◌, ◌∙◌, ◌∷◌, ◌≡◌}
use Rattle.std.proofs.lemmas.Bool.{and_from, and_parts, cases_Bool}
use Rattle.seg_names.specs.Ids.{same_id}
use Rattle.seg_names.specs.declared.seg_id.SegId.{SegId}
use Rattle.book_rows.specs.Append.{as_row, is_copy_of, is_root_of, rows_of_root}
use Rattle.book_rows.specs.Lists.{In, count}
use Rattle.book_rows.specs.declared.rows.PendingRow.{PendingRow}
use Rattle.book_rows.specs.declared.rows.SegmentRow.{SegmentRow}
use Rattle.laws_chunks.proofs.Members.{In-append, In-filter, In-left, In-map, In-right, count-append, count-filter, count_map, filter_In, map_In}

-- those that pass two tests, and those that pass the first alone
count_split : {X : Type 0} (p q f : X → Bool) (xs : List X) → count (λ x. (p x && q x) && f x) xs + count (λ x. (p x && not (q x)) && f x) xs ≡ count (λ x. p x && f x) xs
count_split p q f [] = refl
count_split p q f (x ∷ xs) = step (p x) (q x) (f x) (count (λ x. (p x && q x) && f x) xs) (count (λ x. (p x && not (q x)) && f x) xs) (count (λ x. p x && f x) xs) (count_split p q f xs) where
  step : (a b c : Bool) (m n k : ℕ) → m + n ≡ k → cond ((a && b) && c) (1 + m) m + cond ((a && not b) && c) (1 + n) n ≡ cond (a && c) (1 + k) k
  step true true true m n k h = omega (arith, h)
  step true false true m n k h = omega (arith, h)
  step true true false m n k h = h
  step true false false m n k h = h
  step false b c m n k h = h

module _ (k : ℕ) (r : SegId) (ps : List PendingRow) where
  -- each is of a pending of the root
  pub row_from : (n : SegmentRow) → In n (rows_of_root k r ps) → (p : PendingRow) × In p ps × (same_id p.root r ≡ true) × (n ≡ as_row k p)
  row_from n i =
      let w = In-map (as_row k) n (filter (is_root_of r) ps ++ filter (is_copy_of r) ps) i in
      elim (In-append w.0 (filter (is_root_of r) ps) (filter (is_copy_of r) ps) w.1) [
        | inl j ↦ (let was = In-filter (is_root_of r) w.0 ps j in (w.0, was.0, (and_parts (same_id w.0.root r) (same_id w.0.id r) was.1).0, w.2))
        | inr j ↦ (let was = In-filter (is_copy_of r) w.0 ps j in (w.0, was.0, (and_parts (same_id w.0.root r) (not (same_id w.0.id r)) was.1).0, w.2))
      ]

  -- and each pending of the root becomes one
  pub row_of : (p : PendingRow) → In p ps → same_id p.root r ≡ true → In (as_row k p) (rows_of_root k r ps)
  row_of p i on = map_In (as_row k) p (filter (is_root_of r) ps ++ filter (is_copy_of r) ps) (elim (cases_Bool (same_id p.id r)) [
    | inl root ↦ In-left p (filter (is_root_of r) ps) (filter (is_copy_of r) ps) (filter_In (is_root_of r) p ps i (and_from (same_id p.root r) (same_id p.id r) on root))
    | inr copy ↦ In-right p (filter (is_root_of r) ps) (filter (is_copy_of r) ps) (filter_In (is_copy_of r) p ps i (rw (on, copy) refl))
  ])

  pub count_rows : (f : SegmentRow → Bool) → count f (rows_of_root k r ps) ≡ count (λ p. same_id p.root r && f (as_row k p)) ps
  count_rows f =
      count_map f (as_row k) (filter (is_root_of r) ps ++ filter (is_copy_of r) ps)
      ∙ count-append (λ p. f (as_row k p)) (filter (is_root_of r) ps) (filter (is_copy_of r) ps)
      ∙ rw (count-filter (λ p. f (as_row k p)) (is_root_of r) ps, count-filter (λ p. f (as_row k p)) (is_copy_of r) ps) (count_split (λ p. same_id p.root r) (λ p. same_id p.id r) (λ p. f (as_row k p)) ps)
