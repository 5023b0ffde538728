-- Where the partitions of a supervisor's groups stand after a publication of one of them.
use Rattle.std.proofs.Common.{◌≡◌, ℕ, zero, suc, ◌+◌, ◌%◌, ◌<◌, Bool, true, false, ◌==◌, ◌&&◌, List, [], ◌∷◌, map, filter, Some, None, refl, sym, ◌∙◌, ap, arith}
use Rattle.std.specs.List.{AllByRecursion, range_with_len}
use Rattle.std.proofs.lemmas.Bool.{and_parts, eq-eqb, eqb-true, false≢true, ne_eqb}
use Rattle.book_rows.specs.Lists.{Pairs}
use Rattle.book_rows.specs.Offsets.{end_of, store, stored}
use Rattle.book_rows.specs.Sequences.{are_ranges, named, partitions_of, positions}
use Rattle.book_rows.specs.declared.rows.Offset.{Offset}
use Rattle.book_rows.specs.declared.rows.OffsetRow.{OffsetRow}
use Rattle.book_rows.specs.declared.rows.Range.{Range}
use Rattle.book_rows.specs.declared.rows.SupervisorRow.{SupervisorRow}
use Rattle.laws_locks.proofs.Lists.{all_from_In, all_weaker, pairs_filter}
use Rattle.laws_offsets.specs.Lookups.{listed}
use Rattle.laws_offsets.proofs.Distinct.{HasDistinctPartitions}
use Rattle.laws_offsets.proofs.StoredRows.{stored_here}
use Rattle.laws_sequences.proofs.Filters.{all_passing}

-- ---- a group's partitions are distinct

range_above : (a b n : ℕ) → a < b → AllByRecursion (λ p. (a == p) ≡ false) (range_with_len b n)
range_above a b zero h = tt
range_above a b (suc n) h = (ne_eqb a b (λ e. omega arith), range_above a (b + 1) n (omega arith))

pub range_distinct : (a n : ℕ) → Pairs (λ p q. (p == q) ≡ false) (range_with_len a n)
range_distinct a zero = tt
range_distinct a (suc n) = (range_above a (a + 1) n (omega arith), range_distinct (a + 1) n)

pub partitions_distinct : (s : SupervisorRow) (group : ℕ) → Pairs (λ p q. (p == q) ≡ false) (partitions_of s group)
partitions_distinct s group = pairs_filter _ (λ p. (p % s.task_count) == group) _ (range_distinct 0 s.partitions)

all_named : (P : ℕ → Type 0) (os : List Offset) → AllByRecursion P (named os) → AllByRecursion (λ o. P o.partition) os
all_named P [] a = tt
all_named P (o ∷ os) a = (a.0, all_named P os a.1)

pub distinct_named : (os : List Offset) → Pairs (λ p q. (p == q) ≡ false) (named os) → HasDistinctPartitions os
distinct_named [] d = tt
distinct_named (o ∷ os) d = (all_named (λ q. (o.partition == q) ≡ false) os d.0, distinct_named os d.1)

-- ---- where the partitions stand after a publication

pub ends_of_ranges : (ss es : List Offset) (rs : List Range) → are_ranges ss es rs ≡ true → map end_of rs ≡ es
ends_of_ranges [] [] [] h = refl
ends_of_ranges [] [] (r ∷ rs) h = cc
ends_of_ranges [] (e ∷ es) rs h = cc
ends_of_ranges (s ∷ ss) [] rs h = cc
ends_of_ranges (s ∷ ss) (e ∷ es) [] h = cc
ends_of_ranges (s ∷ ss) (e ∷ es) (r ∷ rs) h =
    let a = and_parts (((r.partition == s.partition) && (r.partition == e.partition)) && (r.start == s.offset) && (r.end == e.offset)) (are_ranges ss es rs) h in
    let b = and_parts (((r.partition == s.partition) && (r.partition == e.partition)) && (r.start == s.offset)) (r.end == e.offset) a.0 in
    let c = and_parts ((r.partition == s.partition) && (r.partition == e.partition)) (r.start == s.offset) b.0 in
    let d = and_parts (r.partition == s.partition) (r.partition == e.partition) c.0 in
    rw (eqb-true r.partition e.partition d.1, eqb-true r.end e.offset b.1, ends_of_ranges ss es rs a.1) refl

-- each offset of a list is what the list has for its partition
listed_elsewhere : (o : Offset) (os xs : List Offset) → AllByRecursion (λ (b : Offset). (o.partition == b.partition) ≡ false) xs → AllByRecursion (λ x. listed x.partition os ≡ Some x.offset) xs → AllByRecursion (λ x. listed x.partition (o ∷ os) ≡ Some x.offset) xs
listed_elsewhere o os [] a b = tt
listed_elsewhere o os (x ∷ xs) a b = (rw a.0 b.0, listed_elsewhere o os xs a.1 b.1)

all_listed : (os : List Offset) → HasDistinctPartitions os → AllByRecursion (λ x. listed x.partition os ≡ Some x.offset) os
all_listed [] d = tt
all_listed (o ∷ os) d = (rw (eq-eqb o.partition o.partition refl) refl, listed_elsewhere o os os d.0 (all_listed os d.1))

stand_there : (after : List OffsetRow) (source stream : List ℕ) (os : List Offset) → AllByRecursion (λ x. stored after source stream x.partition ≡ Some x.offset) os → positions after source stream (named os) ≡ os
stand_there after source stream [] a = refl
stand_there after source stream (o ∷ os) a = rw (a.0, stand_there after source stream os a.1) refl

pub positions_published : (rows : List OffsetRow) (source stream : List ℕ) (ps : List ℕ) (es : List Offset) → named es ≡ ps → HasDistinctPartitions es → positions (store rows source stream es) source stream ps ≡ es
positions_published rows source stream ps es n d =
    rw (← n) (stand_there (store rows source stream es) source stream es (all_weaker _ _ (λ x l. stored_here source stream x.partition es rows d ∙ rw l refl) es (all_listed es d)))

-- partitions of another group stand where they stood
not_listed_here : (tc g h p : ℕ) (os : List Offset) → AllByRecursion (λ o. (o.partition % tc == g) ≡ true) os → (g == h) ≡ false → ((p % tc) == h) ≡ true → listed p os ≡ None
not_listed_here tc g h p [] a e f = refl
not_listed_here tc g h p (o ∷ os) a e f =
    let off : (o.partition == p) ≡ false = ne_eqb o.partition p (λ same. false≢true (sym e ∙ eq-eqb g h (sym (eqb-true (o.partition % tc) g a.0) ∙ ap (λ n. n % tc) same ∙ eqb-true (p % tc) h f))) in
    rw off (not_listed_here tc g h p os a.1 e f)

positions_alike_on : (rows after : List OffsetRow) (source stream : List ℕ) (ps : List ℕ) → AllByRecursion (λ p. stored after source stream p ≡ stored rows source stream p) ps → positions after source stream ps ≡ positions rows source stream ps
positions_alike_on rows after source stream [] h = refl
positions_alike_on rows after source stream (p ∷ ps) h = rw (h.0, positions_alike_on rows after source stream ps h.1) refl

each_passes : {X : Type 0} (p : X → Bool) (xs : List X) → AllByRecursion (λ x. p x ≡ true) (filter p xs)
each_passes p xs = all_passing p (λ x. p x ≡ true) xs (all_from_In _ xs (λ x i e. e))

pub positions_other : (rows : List OffsetRow) (s : SupervisorRow) (g h : ℕ) (es : List Offset) → named es ≡ partitions_of s g → HasDistinctPartitions es → (g == h) ≡ false → positions (store rows s.source s.stream es) s.source s.stream (partitions_of s h) ≡ positions rows s.source s.stream (partitions_of s h)
positions_other rows s g h es n d e =
    let of_g : AllByRecursion (λ p. ((p % s.task_count) == g) ≡ true) (named es) = rw n (each_passes (λ p. (p % s.task_count) == g) (range_with_len 0 s.partitions)) in
    positions_alike_on rows (store rows s.source s.stream es) s.source s.stream (partitions_of s h)
    (all_weaker _ _ (λ p f. other p (not_listed_here s.task_count g h p es (all_named (λ q. ((q % s.task_count) == g) ≡ true) es of_g) e f)) (partitions_of s h) (each_passes (λ p. (p % s.task_count) == h) (range_with_len 0 s.partitions))) where
      other : (p : ℕ) → listed p es ≡ None → stored (store rows s.source s.stream es) s.source s.stream p ≡ stored rows s.source s.stream p
      other p e = rw (stored_here s.source s.stream p es rows d, e) refl
