-- Names of sequences stay distinct.
use Rattle.std.proofs.Common.{◌++◌, ◌∷◌, ◌≡◌, List, None, [], bytes_eq, false, map, subst, ℕ}
use Rattle.book_rows.specs.Sequences.{is_named, name_of, sequence_named}
use Rattle.book_rows.specs.declared.rows.SequenceRow.{SequenceRow}
use Rattle.laws_locks.proofs.Lists.{all_weaker, none_found, pairs_map, pairs_push}
use Rattle.tab_sequences.specs.Changes.{HaveDistinctNames, differ}

-- a change that leaves the names
pub distinct_map : (f : SequenceRow → SequenceRow) → ((u : SequenceRow) → name_of (f u) ≡ name_of u) → (us : List SequenceRow) → HaveDistinctNames us → HaveDistinctNames (map f us)
distinct_map f same us h = pairs_map differ differ f (λ u v e. two (name_of u) (name_of v) (name_of (f u)) (name_of (f v)) (same u) (same v) e) us h where
  two : (a b c d : List ℕ) → c ≡ a → d ≡ b → bytes_eq a b ≡ false → bytes_eq c d ≡ false
  two a b c d x y e = rw (x, y) e

pub distinct_added : (us : List SequenceRow) (u : SequenceRow) (name : List ℕ) → name ≡ name_of u → sequence_named name us ≡ None → HaveDistinctNames us → HaveDistinctNames (us ++ u ∷ [])
distinct_added us u name is new h =
    pairs_push differ us u h (all_weaker (λ v. is_named name v ≡ false) (λ v. differ v u) (λ v off. subst (λ (n : List ℕ). bytes_eq (name_of v) n ≡ false) is off) us (none_found (is_named name) us new))
