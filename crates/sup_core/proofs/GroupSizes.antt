-- The size of a group is told by which indexes its sequences have.
use Rattle.std.proofs.Common.{◌+◌, ◌<◌, ◌==◌, ◌≡◌, List, arith, inl, inr, length, map, nat_lt, subst, suc, sym, true, zero, ℕ}
use Rattle.std.specs.List.{list_any, range_with_len}
use Rattle.std.proofs.lemmas.Bool.{and_from, and_parts, eq-eqb, eqb-true}
use Rattle.std.proofs.lemmas.Bool.Decides.{nat_tests}
use Rattle.book_rows.specs.Lists.{In}
use Rattle.laws_sequences.specs.Links.{AreCounted}
use Rattle.book_rows.specs.Sequences.{is_of_group}
use Rattle.book_rows.specs.declared.rows.SequenceRow.{SequenceRow}
use Rattle.laws_locks.proofs.Lists.{In-filter, In-map, any_In, any_from_In, both_true}
use Rattle.laws_sequences.proofs.Counts.{group_rows, index_below}
use Rattle.tab_sequences.specs.Finding.{is_at_index}

below_in_range : (n a m : ℕ) → m < n → In (a + m) (range_with_len a n)
below_in_range zero a m h = absurd (omega arith)
below_in_range (suc n) a zero h = inl (omega arith)
below_in_range (suc n) a (suc m) h = inr (subst (λ (x : ℕ). In x (range_with_len (a + 1) n)) (omega arith) (below_in_range n (a + 1) m (omega arith)))

module _ (source : List ℕ) (group index : ℕ) (us : List SequenceRow) (counted : AreCounted us) where
  abbrev size : ℕ
  size = length (group_rows source group us)

  below_where_there : list_any (is_at_index source group index) us ≡ true → nat_lt index size ≡ true
  below_where_there e =
      let u = any_In (is_at_index source group index) us e in
      let both = and_parts (is_of_group source group u.0) (u.0.index == index) u.2 in
      less u.0.index index size (eqb-true u.0.index index both.1) (index_below us source group u.0 counted u.1 both.0) where
        less : (i j n : ℕ) → i ≡ j → i < n → nat_lt j n ≡ true
        less i j n same h = grind (arith, nat_tests)

  there_where_below : nat_lt index size ≡ true → list_any (is_at_index source group index) us ≡ true
  there_where_below e =
      let listed : In index (map (λ (u : SequenceRow). u.index) (group_rows source group us)) = subst (λ (ns : List ℕ). In index ns) (sym (counted source group)) (subst (λ (x : ℕ). In x (range_with_len 0 size)) (from_zero index) (below_in_range size 0 index (less index size e))) in
      let u = In-map (λ (u : SequenceRow). u.index) index (group_rows source group us) listed in
      let there = In-filter (is_of_group source group) u.0 us u.1 in
      any_from_In (is_at_index source group index) u.0 us there.0 (and_from (is_of_group source group u.0) (u.0.index == index) there.1 (eq-eqb u.0.index index (sym u.2))) where
        less : (i n : ℕ) → nat_lt i n ≡ true → i < n
        less i n h = grind (arith, nat_tests)

        from_zero : (i : ℕ) → 0 + i ≡ i
        from_zero i = omega arith

  pub is_below : list_any (is_at_index source group index) us ≡ nat_lt index size
  is_below = both_true (list_any (is_at_index source group index) us) (nat_lt index size) below_where_there there_where_below
