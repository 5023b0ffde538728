-- Lists in id order that have the same ids are one list.
use Rattle.std.proofs.Common.{List, [], inl, inr, refl, subst, sym, true, ◌∷◌, ◌≡◌}
use Rattle.std.proofs.lemmas.Bool.{and_parts, false≢true}
use Rattle.std.specs.Ordering.{ordering_reverse}
use Rattle.std.specs.declared.cmp.Ordering.{Ordering}
use Rattle.seg_names.specs.Ids.{id_cmp}
use Rattle.seg_names.specs.declared.seg_id.SegId.{SegId}
use Rattle.book_rows.specs.Ids.{id_before, is_less}
use Rattle.book_rows.specs.Lists.{In, list_links}
use Rattle.laws_chunks.proofs.IdOrder.{id_total}
use Rattle.std.specs.declared.cmp.Ordering.TheVariants as Orderings

less_is : (o : Ordering) → is_less o ≡ true → o ≡ Orderings.Less
less_is Orderings.Less h = refl
less_is Orderings.Equal h = absurd (false≢true h)
less_is Orderings.Greater h = absurd (false≢true h)

less_true : (o : Ordering) → o ≡ Orderings.Less → is_less o ≡ true
less_true o e = rw e refl

pub before_before : (a b c : SegId) → id_before a b ≡ true → id_before b c ≡ true → id_before a c ≡ true
before_before a b c h k = less_true (id_cmp a c) (id_total.trans a b c (less_is (id_cmp a b) h) (less_is (id_cmp b c) k))

pub not_both_before : (a b : SegId) → id_before a b ≡ true → id_before b a ≡ true → ⊥
not_both_before a b h k = turned (id_cmp a b) (id_cmp b a) (less_is (id_cmp a b) h) (less_is (id_cmp b a) k) (id_total.antisymm a b) where
  turned : (o p : Ordering) → o ≡ Orderings.Less → p ≡ Orderings.Less → o ≡ ordering_reverse p → ⊥
  turned Orderings.Less Orderings.Less e f g = cc
  turned Orderings.Less Orderings.Equal e f g = cc
  turned Orderings.Less Orderings.Greater e f g = cc
  turned Orderings.Equal p e f g = cc
  turned Orderings.Greater p e f g = cc

-- the first stands before the others
pub first_before : (a : SegId) (ids : List SegId) → list_links id_before (a ∷ ids) ≡ true → (x : SegId) → In x ids → id_before a x ≡ true
first_before a [] links x i = absurd i
first_before a (b ∷ ids) links x (inl e) = subst (λ (y : SegId). id_before a y ≡ true) (sym e) (and_parts (id_before a b) (list_links id_before (b ∷ ids)) links).0
first_before a (b ∷ ids) links x (inr i) = let both = and_parts (id_before a b) (list_links id_before (b ∷ ids)) links in before_before a b x both.0 (first_before b ids both.1 x i)

rest_linked : (a : SegId) (ids : List SegId) → list_links id_before (a ∷ ids) ≡ true → list_links id_before ids ≡ true
rest_linked a [] links = refl
rest_linked a (b ∷ ids) links = (and_parts (id_before a b) (list_links id_before (b ∷ ids)) links).1

pub same_ordered : (xs ys : List SegId) → list_links id_before xs ≡ true → list_links id_before ys ≡ true → ((a : SegId) → In a xs → In a ys) → ((a : SegId) → In a ys → In a xs) → xs ≡ ys
same_ordered [] [] v w sub sup = refl
same_ordered [] (y ∷ ys) v w sub sup = absurd (sup y (inl refl))
same_ordered (x ∷ xs) [] v w sub sup = absurd (sub x (inl refl))
same_ordered (x ∷ xs) (y ∷ ys) v w sub sup = rw (first, same_ordered xs ys (rest_linked x xs v) (rest_linked y ys w) (λ a i. left a i (sub a (inr i))) (λ a i. right a i (sup a (inr i)))) refl where
  first : x ≡ y
  first = go (sub x (inl refl)) (sup y (inl refl)) where
    go : In x (y ∷ ys) → In y (x ∷ xs) → x ≡ y
    go (inl e) j = e
    go (inr i) (inl f) = sym f
    go (inr i) (inr j) = absurd (not_both_before x y (first_before x xs v y j) (first_before y ys w x i))

  left : (a : SegId) → In a xs → In a (y ∷ ys) → In a ys
  left a i (inr j) = j
  left a i (inl e) = absurd (not_both_before x a (first_before x xs v a i) (subst (λ (b : SegId). id_before b x ≡ true) (sym e) (subst (λ (b : SegId). id_before y b ≡ true) (sym first) (subst (λ (b : SegId). id_before y b ≡ true) e (subst (λ (b : SegId). id_before b a ≡ true) first (first_before x xs v a i))))))

  right : (a : SegId) → In a ys → In a (x ∷ xs) → In a xs
  right a i (inr j) = j
  right a i (inl e) = absurd (not_both_before y a (first_before y ys w a i) (subst (λ (b : SegId). id_before b y ≡ true) (sym e) (subst (λ (b : SegId). id_before x b ≡ true) first (subst (λ (b : SegId). id_before x b ≡ true) e (subst (λ (b : SegId). id_before b a ≡ true) (sym first) (first_before y ys w a i))))))
