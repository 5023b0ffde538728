-- The sequence of a name is the only one of it.
use Rattle.std.proofs.Common.{◌∙◌, ◌∷◌, ◌≡◌, Bool, List, Some, [], ap, bytes_eq, cond, false, inl, inr, map, refl, sym, true, ℕ}
use Rattle.std.proofs.lemmas.Bool.{false≢true}
use Rattle.std.proofs.lemmas.Slice.Eq.{bytes_eq-Decides}
use Rattle.std.specs.Option.{option_map}
use Rattle.book_rows.specs.Lists.{In}
use Rattle.book_rows.specs.Sequences.{is_named, name_of, sequence_named}
use Rattle.book_rows.specs.declared.rows.SequenceRow.{SequenceRow}
use Rattle.laws_locks.proofs.Lists.{found_In, pair_of}
use Rattle.tab_sequences.specs.Changes.{HaveDistinctNames, differ}

pub map_alike : {X Y : Type 0} (f g : X → Y) (xs : List X) → ((x : X) → In x xs → f x ≡ g x) → map f xs ≡ map g xs
map_alike f g [] h = refl
map_alike f g (x ∷ xs) h = ap (λ y. y ∷ map f xs) (h x (inl refl)) ∙ ap (λ ys. g x ∷ ys) (map_alike f g xs (λ y i. h y (inr i)))

-- two sequences of one name are one
pub same_name : (us : List SequenceRow) (u w : SequenceRow) → HaveDistinctNames us → In u us → In w us → name_of w ≡ name_of u → w ≡ u
same_name us u w distinct i j same = elim (pair_of differ w u us distinct j i) [
  | inl is ↦ is
  | inr (inl apart) ↦ absurd (false≢true (sym apart ∙ (bytes_eq-Decides (name_of w) (name_of u)).1 same))
  | inr (inr apart) ↦ absurd (false≢true (sym apart ∙ (bytes_eq-Decides (name_of u) (name_of w)).1 (sym same)))
]

pub named_one : (name : List ℕ) (us : List SequenceRow) (u w : SequenceRow) → HaveDistinctNames us → sequence_named name us ≡ Some u → In w us → is_named name w ≡ true → w ≡ u
named_one name us u w distinct found i on =
    let there = found_In (is_named name) u us found in
    let own : name_of u ≡ name = (bytes_eq-Decides (name_of u) name).0 there.1 in
    let same : name_of w ≡ name = (bytes_eq-Decides (name_of w) name).0 on in
    same_name us u w distinct there.0 i (same ∙ sym own)

-- a change that leaves the names
pub named_after : (f : SequenceRow → SequenceRow) → ((u : SequenceRow) → name_of (f u) ≡ name_of u) → (name : List ℕ) (us : List SequenceRow) → sequence_named name (map f us) ≡ option_map f (sequence_named name us)
named_after f same name [] = refl
named_after f same name (u ∷ us) =
    by (is_named name (f u)) (is_named name u) (ap (λ (n : List ℕ). bytes_eq n name) (same u)) (named_after f same name us) where
      by : (a b : Bool) → a ≡ b → sequence_named name (map f us) ≡ option_map f (sequence_named name us) → cond a (Some (f u)) (sequence_named name (map f us)) ≡ option_map f (cond b (Some u) (sequence_named name us))
      by true true e rest = refl
      by true false e rest = absurd (false≢true (sym e))
      by false true e rest = absurd (false≢true e)
      by false false e rest = rest
