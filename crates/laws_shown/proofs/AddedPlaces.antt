-- Where no id is added twice, the place of the publication that adds a root is one, and it is the root's commit.
use Rattle.std.proofs.Common.{Bool, List, Some, [], ap, arith, cond, false, inl, inr, refl, suc, subst, sym, true, zero, ℕ, ◌+◌, ◌++◌, ◌∙◌, ◌∷◌, ◌≡◌}
use Rattle.std.proofs.lemmas.Bool.{false≢true}
use Rattle.seg_names.specs.Ids.{same_id}
use Rattle.seg_names.specs.declared.seg_id.SegId.{SegId}
use Rattle.book_rows.specs.Contents.{commit_of}
use Rattle.book_rows.specs.Ids.{is_listed}
use Rattle.book_rows.specs.Lists.{In, Pairs, at_place, place_from}
use Rattle.book_rows.specs.Shape.{all_adds}
use Rattle.book_rows.specs.declared.rows.Publication.{Publication}
use Rattle.laws_chunks.proofs.Members.{In-all, In-right}
use Rattle.laws_chunks.proofs.SoundChunks.{pairs_right}
use Rattle.laws_chunks.proofs.Spans.{same_id_itself}
use Rattle.laws_chunks.specs.Meaning.{HaveDistinctAdds}
use Rattle.laws_shown.proofs.Alike.{In-gathered}
use Rattle.laws_shown.proofs.Histories.{In-listed, listed_In, place_In}

-- members of the two halves of a list are in the relation
pairs_between : {X : Type 0} (R : X → X → Type 0) (x y : X) (xs ys : List X) → Pairs R (xs ++ ys) → In x xs → In y ys → R x y
pairs_between R x y [] ys h i j = absurd i
pairs_between R x y (z ∷ xs) ys h (inl e) j = subst (λ z. R z y) (sym e) (In-all (R z) y (xs ++ ys) (In-right y xs ys j) h.0)
pairs_between R x y (z ∷ xs) ys h (inr i) j = pairs_between R x y xs ys h.1 i j

-- no id is in the first publication and in a later one
not_later : (m : Publication) (ms : List Publication) (n : Publication) (a : SegId) (j : ℕ) → HaveDistinctAdds (m ∷ ms) → In a m.adds → at_place j ms ≡ Some n → In a n.adds → ⊥
not_later m ms n a j distinct i f k = false≢true (sym (pairs_between (λ a c. same_id a c ≡ false) a a m.adds (all_adds ms) distinct i (In-gathered (λ (m : Publication). m.adds) ms n a (place_In j ms n f) k)) ∙ same_id_itself a)

pub one_place : (pubs : List Publication) (a : SegId) (i j : ℕ) (m n : Publication) → HaveDistinctAdds pubs → at_place i pubs ≡ Some m → In a m.adds → at_place j pubs ≡ Some n → In a n.adds → i ≡ j
one_place [] a i j m n distinct e k f l = cc
one_place (x ∷ ms) a zero zero m n distinct e k f l = refl
one_place (x ∷ ms) a zero (suc j) m n distinct e k f l = absurd (not_later x ms n a j distinct (let same : x ≡ m = cc in subst (λ (m : Publication). In a m.adds) (sym same) k) f l)
one_place (x ∷ ms) a (suc i) zero m n distinct e k f l = absurd (not_later x ms m a i distinct (let same : x ≡ n = cc in subst (λ (m : Publication). In a m.adds) (sym same) l) e k)
one_place (x ∷ ms) a (suc i) (suc j) m n distinct e k f l = ap suc (one_place ms a i j m n (pairs_right (λ a c. same_id a c ≡ false) x.adds (all_adds ms) distinct) e k f l)

-- ---- the first place that passes

shift : (k i : ℕ) → (k + 1) + i ≡ k + suc i
shift k i = omega arith

no_shift : (k : ℕ) → k ≡ k + 0
no_shift k = omega arith

pub record IsFirstAt {X : Type 0} (k : ℕ) (p : X → Bool) (xs : List X) (j : ℕ) : Type 0 where
  pub place : ℕ
  pub element : X
  pub at : at_place place xs ≡ Some element
  pub passes : p element ≡ true
  pub number_is : j ≡ k + place

module _ {X : Type 0} (p : X → Bool) where
  found_at : (k : ℕ) (xs : List X) (j : ℕ) → place_from k p xs ≡ Some j → IsFirstAt k p xs j
  found_at k [] j e = cc
  found_at k (x ∷ xs) j e = go (p x) refl (found_at (k + 1) xs j) e where
    go : (b : Bool) → p x ≡ b → (place_from (k + 1) p xs ≡ Some j → IsFirstAt (k + 1) p xs j) → cond b (Some k) (place_from (k + 1) p xs) ≡ Some j → IsFirstAt k p (x ∷ xs) j
    go true on rest e = record { place = 0; element = x; at = refl; passes = on; number_is = (let same : k ≡ j = cc in sym same ∙ no_shift k) }
    go false off rest e = later (rest e) where
      later : IsFirstAt (k + 1) p xs j → IsFirstAt k p (x ∷ xs) j
      later w = record { place = suc w.place; element = w.element; at = w.at; passes = w.passes; number_is = w.number_is ∙ shift k w.place }

  some_found : (k i : ℕ) (xs : List X) (x : X) → at_place i xs ≡ Some x → p x ≡ true → (j : ℕ) × (place_from k p xs ≡ Some j)
  some_found k i [] x e on = cc
  some_found k i (y ∷ ys) x e on = go (p y) refl i e (λ i f. some_found (k + 1) i ys x f on) where
    go : (b : Bool) → p y ≡ b → (i : ℕ) → at_place i (y ∷ ys) ≡ Some x → ((i : ℕ) → at_place i ys ≡ Some x → (j : ℕ) × (place_from (k + 1) p ys ≡ Some j)) → (j : ℕ) × (cond b (Some k) (place_from (k + 1) p ys) ≡ Some j)
    go true here i e rest = (k, refl)
    go false off zero e rest = absurd (false≢true (sym off ∙ (let same : y ≡ x = cc in subst (λ z. p z ≡ true) (sym same) on)))
    go false off (suc i) e rest = rest i e

none_before : (k j : ℕ) → j ≡ 0 + k → j ≡ k
none_before k j e = omega (arith, e)

-- the commit of a root is the place of the publication that adds it
pub commit_is : (pubs : List Publication) (a : SegId) (i : ℕ) (m : Publication) → HaveDistinctAdds pubs → at_place i pubs ≡ Some m → In a m.adds → commit_of pubs a ≡ Some i
commit_is pubs a i m distinct e k = at_it (some_found (λ m. is_listed m.adds a) 0 i pubs m e (In-listed m.adds a k)) where
  at_it : (j : ℕ) × (commit_of pubs a ≡ Some j) → commit_of pubs a ≡ Some i
  at_it w =
      let f = found_at (λ m. is_listed m.adds a) 0 pubs w.0 w.1 in
      w.1 ∙ ap Some (none_before f.place w.0 f.number_is ∙ one_place pubs a f.place i f.element m distinct f.at (listed_In f.element.adds a f.passes) e k)
