-- What loops over numbers make, one number further.
use Rattle.std.proofs.Common.{◌+◌, ◌++◌, ◌-◌, ◌<◌, ◌∙◌, ◌∷◌, ◌≡◌, Bool, List, [], ap, append_assoc, arith, cond, false, filter, map, refl, suc, sym, true, ℕ, ℤ}
use Rattle.std.specs.List.{range_with_len}
use Rattle.std.proofs.lemmas.List.FromFn.{map-range_with_len_more}
use Rattle.book_rows.specs.Names.{replica_name}
use Rattle.book_rows.specs.Ticks.{has_partitions, replicas_of}
use Rattle.book_rows.specs.declared.rows.OffsetRow.{OffsetRow}
use Rattle.book_rows.specs.declared.rows.SequenceRow.{SequenceRow}
use Rattle.book_rows.specs.declared.rows.SupervisorRow.{SupervisorRow}
use Rattle.sup_core.specs.Planning.{Planning, planned_group, planned_groups}

range_left : (a n : ℕ) → a < n → range_with_len a (n - a) ≡ a ∷ range_with_len (a + 1) (n - (a + 1))
range_left a n less = ap (λ (m : ℕ). range_with_len a m) (more a n less) where
  more : (a n : ℕ) → a < n → n - a ≡ suc (n - (a + 1))
  more a n less = omega arith

pub replicas_more : (name : List ℕ) (n : ℕ) (live : List (List ℕ)) (id : List ℕ) → live ≡ replicas_of name n → id ≡ replica_name name n → live ++ id ∷ [] ≡ replicas_of name (n + 1)
replicas_more name n live id e f = rw (e, f) (sym (map-range_with_len_more (replica_name name) 0 n n (omega arith)))

mapped_left : {X : Type 0} (f : ℕ → X) (q : ℕ → Bool) (a n : ℕ) → a < n
    → map f (filter q (range_with_len a (n - a))) ≡ cond (q a) (f a ∷ map f (filter q (range_with_len (a + 1) (n - (a + 1))))) (map f (filter q (range_with_len (a + 1) (n - (a + 1)))))
mapped_left f q a n less = ap (λ (ns : List ℕ). map f (filter q ns)) (range_left a n less) ∙ by (q a) where
  by : (b : Bool) → map f (cond b (a ∷ filter q (range_with_len (a + 1) (n - (a + 1)))) (filter q (range_with_len (a + 1) (n - (a + 1)))))
      ≡ cond b (f a ∷ map f (filter q (range_with_len (a + 1) (n - (a + 1))))) (map f (filter q (range_with_len (a + 1) (n - (a + 1)))))
  by true = refl
  by false = refl

-- what is made of those before and of those that are left, as one more is made
pub made_further : {X : Type 0} (f : ℕ → X) (q : ℕ → Bool) (a n : ℕ) (made : List X) → a < n
    → (made ++ cond (q a) (f a ∷ []) []) ++ map f (filter q (range_with_len (a + 1) (n - (a + 1)))) ≡ made ++ map f (filter q (range_with_len a (n - a)))
made_further f q a n made less = append_assoc made (cond (q a) (f a ∷ []) []) (map f (filter q (range_with_len (a + 1) (n - (a + 1))))) ∙ ap (λ xs. made ++ xs) (by (q a) ∙ sym (mapped_left f q a n less)) where
  by : (b : Bool) → cond b (f a ∷ []) [] ++ map f (filter q (range_with_len (a + 1) (n - (a + 1)))) ≡ cond b (f a ∷ map f (filter q (range_with_len (a + 1) (n - (a + 1))))) (map f (filter q (range_with_len (a + 1) (n - (a + 1)))))
  by true = refl
  by false = refl

module _ (offsets : List OffsetRow) (s : SupervisorRow) (now : ℤ) (us : List SequenceRow) where
  abbrev left_after : ℕ → Planning → Planning
  left_after g p = planned_groups offsets s now us (filter (has_partitions s) (range_with_len g (s.task_count - g))) p

  groups_left : (g : ℕ) (p : Planning) → g < s.task_count → left_after g p ≡ left_after (g + 1) (cond (has_partitions s g) (planned_group offsets s now us g p) p)
  groups_left g p less = ap (λ (ns : List ℕ). planned_groups offsets s now us (filter (has_partitions s) ns) p) (range_left g s.task_count less) ∙ by (has_partitions s g) where
    by : (b : Bool) → planned_groups offsets s now us (cond b (g ∷ filter (has_partitions s) (range_with_len (g + 1) (s.task_count - (g + 1)))) (filter (has_partitions s) (range_with_len (g + 1) (s.task_count - (g + 1))))) p
        ≡ left_after (g + 1) (cond b (planned_group offsets s now us g p) p)
    by true = refl
    by false = refl

  pub groups_step : (g : ℕ) (p q : Planning) → g < s.task_count → q ≡ cond (has_partitions s g) (planned_group offsets s now us g p) p → left_after (g + 1) q ≡ left_after g p
  groups_step g p q less is = ap (λ (x : Planning). left_after (g + 1) x) is ∙ sym (groups_left g p less)
