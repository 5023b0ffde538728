-- The least row with an element that clashes with another, where a row may have several elements and rows need not ascend.
use Rattle.std.proofs.Common.{Bool, List, None, Some, [], ap, arith, cond, false, inl, inr, map, min, refl, subst, suc, sym, true, zero, ℕ, ◌++◌, ◌+◌, ◌<◌, ◌∙◌, ◌∷◌, ◌≡◌, ◌≤◌, ◌⊎◌}
use Rattle.std.proofs.lemmas.Bool.{cases_Bool, false≢true}
use Rattle.std.specs.List.{AllByRecursion}
use Rattle.seg_names.specs.Ids.{same_id}
use Rattle.seg_names.specs.declared.seg_id.SegId.{SegId}
use Rattle.book_rows.specs.Lists.{In, Pairs, at_place, gathered}
use Rattle.book_rows.specs.Shape.{AreDistinct, all_adds, all_empties, pending_ids}
use Rattle.book_rows.specs.declared.rows.Book.{Book}
use Rattle.book_rows.specs.declared.rows.PendingRow.{PendingRow}
use Rattle.book_rows.specs.declared.rows.Publication.{Publication}
use Rattle.laws_shown.proofs.Histories.{In-place, place_In}
use Rattle.laws_unsound.specs.Counts.{before_pendings, before_publications}
use Rattle.laws_unsound.specs.Named.{IsLeast, IsRowOfRowed, IsRuleRow, Names}
use Rattle.laws_unsound.specs.Rows.{Rowed, in_row, least_clashing, least_with, row_of_pair}
use Rattle.laws_unsound.specs.ShapeRows.{ids_in_rows, once_ids}
use Rattle.laws_unsound.proofs.Least.{in_min, lesser_names, lesser_none, named, names_so, none_lesser, unnamed}

module _ {X : Type 0} (clash : X → X → Bool) where
  abbrev items : List (Rowed X) → List X
  items xs = map (λ x. x.item) xs

  -- ---- no row is named exactly where no two clash

  pair_off : (t : Bool) (n : ℕ) → cond t (Some n) None ≡ None → t ≡ false
  pair_off true n e = absurd (cc)
  pair_off false n e = refl

  with_sound : (x : Rowed X) (ys : List (Rowed X)) → least_with clash x ys ≡ None → AllByRecursion (λ y. clash x.item y ≡ false) (items ys)
  with_sound x [] e = tt
  with_sound x (y ∷ ys) e = let w = lesser_none (row_of_pair clash x y) (least_with clash x ys) e in (pair_off (clash x.item y.item) (min x.row y.row) w.0, with_sound x ys w.1)

  with_complete : (x : Rowed X) (ys : List (Rowed X)) → AllByRecursion (λ y. clash x.item y ≡ false) (items ys) → least_with clash x ys ≡ None
  with_complete x [] a = refl
  with_complete x (y ∷ ys) a = none_lesser (row_of_pair clash x y) (least_with clash x ys) (let off : clash x.item y.item ≡ false = a.0 in rw off refl) (with_complete x ys a.1)

  pub rows_sound : (xs : List (Rowed X)) → least_clashing clash xs ≡ None → Pairs (λ x y. clash x y ≡ false) (items xs)
  rows_sound [] e = tt
  rows_sound (x ∷ xs) e = let w = lesser_none (least_with clash x xs) (least_clashing clash xs) e in (with_sound x xs w.0, rows_sound xs w.1)

  pub rows_complete : (xs : List (Rowed X)) → Pairs (λ x y. clash x y ≡ false) (items xs) → least_clashing clash xs ≡ None
  rows_complete [] a = refl
  rows_complete (x ∷ xs) a = none_lesser (least_with clash x xs) (least_clashing clash xs) (with_complete x xs a.0) (rows_complete xs a.1)

  -- ---- the row that is named is the least

  abbrev Clash : X → X → Type 0
  Clash x y = clash x y ≡ true

  -- the row of either of two elements
  abbrev IsRowOfTwo : Rowed X → Rowed X → ℕ → Type 0
  IsRowOfTwo x y n = Clash x.item y.item × ((n ≡ x.row) ⊎ (n ≡ y.row))

  -- of this element and one of the list
  record IsRowWith (x : Rowed X) (ys : List (Rowed X)) (n : ℕ) : Type 0 where
    other : Rowed X
    among : In other ys
    clash_is : Clash x.item other.item
    row_is : (n ≡ x.row) ⊎ (n ≡ other.row)

  least_of_two : (n m : ℕ) → IsLeast (λ k. (k ≡ n) ⊎ (k ≡ m)) (min n m)
  least_of_two n m = record { breaks = in_min n m (λ k. k ≡ n) (λ k. k ≡ m) refl refl; least = lower } where
    lower : (k : ℕ) → (k ≡ n) ⊎ (k ≡ m) → min n m ≤ k
    lower k (inl e) = omega arith
    lower k (inr e) = omega arith

  of_two : (x y : Rowed X) → Names (row_of_pair clash x y) (IsRowOfTwo x y)
  of_two x y = elim (cases_Bool (clash x.item y.item)) [
    | inl on ↦ rw on (named (min x.row y.row) (record {
      breaks = (on, (least_of_two x.row y.row).breaks);
      least = λ m w. (least_of_two x.row y.row).least m w.1;
    }))
    | inr off ↦ rw off (unnamed (λ n w. false≢true (sym off ∙ w.0)))
  ]

  with_here : (x y : Rowed X) (ys : List (Rowed X)) (n : ℕ) → IsRowOfTwo x y n ⊎ IsRowWith x ys n → IsRowWith x (y ∷ ys) n
  with_here x y ys n (inl w) = record { other = y; among = inl refl; clash_is = w.0; row_is = w.1 }
  with_here x y ys n (inr w) = record { other = w.other; among = inr w.among; clash_is = w.clash_is; row_is = w.row_is }

  with_parts : (x y : Rowed X) (ys : List (Rowed X)) (n : ℕ) → IsRowWith x (y ∷ ys) n → IsRowOfTwo x y n ⊎ IsRowWith x ys n
  with_parts x y ys n w = by w.among where
    by : (w.other ≡ y) ⊎ In w.other ys → IsRowOfTwo x y n ⊎ IsRowWith x ys n
    by (inl e) = inl (subst (λ (z : Rowed X). IsRowOfTwo x z n) e (w.clash_is, w.row_is))
    by (inr i) = inr (record { other = w.other; among = i; clash_is = w.clash_is; row_is = w.row_is })

  with_names : (x : Rowed X) (ys : List (Rowed X)) → Names (least_with clash x ys) (IsRowWith x ys)
  with_names x [] = unnamed (λ n w. absurd w.among)
  with_names x (y ∷ ys) = names_so (with_here x y ys) (with_parts x y ys) (lesser_names (row_of_pair clash x y) (least_with clash x ys) (of_two x y) (with_names x ys))

  rows_here : (x : Rowed X) (xs : List (Rowed X)) (n : ℕ) → IsRowWith x xs n ⊎ IsRowOfRowed Clash xs n → IsRowOfRowed Clash (x ∷ xs) n
  rows_here x xs n (inl w) = let p = In-place w.other xs w.among in record { first = 0; second = suc p.0; one = x; other = w.other; at_first = refl; at_second = p.1; in_order = omega arith; stand_so = w.clash_is; row_is = w.row_is }
  rows_here x xs n (inr w) = record { first = suc w.first; second = suc w.second; one = w.one; other = w.other; at_first = w.at_first; at_second = w.at_second; in_order = (let l : w.first < w.second = w.in_order in omega arith); stand_so = w.stand_so; row_is = w.row_is }

  rows_parts : (x : Rowed X) (xs : List (Rowed X)) (n : ℕ) → IsRowOfRowed Clash (x ∷ xs) n → IsRowWith x xs n ⊎ IsRowOfRowed Clash xs n
  rows_parts x xs n w = at w.first w.second w.at_first w.at_second w.in_order where
    at : (i j : ℕ) → at_place i (x ∷ xs) ≡ Some w.one → at_place j (x ∷ xs) ≡ Some w.other → i < j → IsRowWith x xs n ⊎ IsRowOfRowed Clash xs n
    at i zero e f l = absurd (omega arith)
    at zero (suc j) e f l = inl (subst (λ (z : Rowed X). IsRowWith z xs n) (let same : w.one ≡ x = cc in same) (record { other = w.other; among = place_In j xs w.other f; clash_is = w.stand_so; row_is = w.row_is }))
    at (suc i) (suc j) e f l = inr (record { first = i; second = j; one = w.one; other = w.other; at_first = e; at_second = f; in_order = omega arith; stand_so = w.stand_so; row_is = w.row_is })

  pub rows_names : (xs : List (Rowed X)) → Names (least_clashing clash xs) (IsRowOfRowed Clash xs)
  rows_names [] = unnamed (λ n w. absurd (place_In w.first [] w.one w.at_first))
  rows_names (x ∷ xs) = names_so (rows_here x xs) (rows_parts x xs) (lesser_names (least_with clash x xs) (least_clashing clash xs) (with_names x xs) (rows_names xs))

-- ---- the ids of pendings and publications

abbrev ids_of : List (Rowed SegId) → List SegId
ids_of xs = map (λ x. x.item) xs

ids-append : (xs ys : List (Rowed SegId)) → ids_of (xs ++ ys) ≡ ids_of xs ++ ids_of ys
ids-append [] ys = refl
ids-append (x ∷ xs) ys = ap (λ (zs : List SegId). x.item ∷ zs) (ids-append xs ys)

ids-in_row : (k : ℕ) (ids : List SegId) → ids_of (in_row k ids) ≡ ids
ids-in_row k [] = refl
ids-in_row k (a ∷ ids) = ap (λ (zs : List SegId). a ∷ zs) (ids-in_row k ids)

ids-in_rows : {X : Type 0} (k : ℕ) (ids : X → List SegId) (xs : List X) → ids_of (ids_in_rows k ids xs) ≡ gathered ids xs
ids-in_rows k ids [] = refl
ids-in_rows k ids (x ∷ xs) = ids-append (in_row k (ids x)) (ids_in_rows (k + 1) ids xs) ∙ ap (λ (zs : List SegId). zs ++ ids_of (ids_in_rows (k + 1) ids xs)) (ids-in_row k (ids x)) ∙ ap (λ (zs : List SegId). ids x ++ zs) (ids-in_rows (k + 1) ids xs)

gathered_ids : (ps : List PendingRow) → gathered (λ (p : PendingRow). p.id ∷ []) ps ≡ pending_ids ps
gathered_ids [] = refl
gathered_ids (p ∷ ps) = ap (λ (zs : List SegId). p.id ∷ zs) (gathered_ids ps)

module _ (b : Book) where
  abbrev of_pendings : List (Rowed SegId)
  of_pendings = ids_in_rows (before_pendings b) (λ (p : PendingRow). p.id ∷ []) b.pendings

  abbrev of_adds : List (Rowed SegId)
  of_adds = ids_in_rows (before_publications b) (λ (m : Publication). m.adds) b.publications

  abbrev of_empties : List (Rowed SegId)
  of_empties = ids_in_rows (before_publications b) (λ (m : Publication). m.empties) b.publications

  once_are : ids_of (once_ids b) ≡ pending_ids b.pendings ++ (all_adds b.publications ++ all_empties b.publications)
  once_are =
      ids-append of_pendings (of_adds ++ of_empties)
      ∙ ap (λ (zs : List SegId). zs ++ ids_of (of_adds ++ of_empties)) (ids-in_rows (before_pendings b) (λ (p : PendingRow). p.id ∷ []) b.pendings ∙ gathered_ids b.pendings)
      ∙ ap (λ (zs : List SegId). pending_ids b.pendings ++ zs) (
      ids-append of_adds of_empties
      ∙ ap (λ (zs : List SegId). zs ++ ids_of of_empties) (ids-in_rows (before_publications b) (λ (m : Publication). m.adds) b.publications)
      ∙ ap (λ (zs : List SegId). all_adds b.publications ++ zs) (ids-in_rows (before_publications b) (λ (m : Publication). m.empties) b.publications))

  pub once_row : IsRuleRow (least_clashing same_id (once_ids b)) (AreDistinct same_id (pending_ids b.pendings ++ (all_adds b.publications ++ all_empties b.publications))) (IsRowOfRowed (λ a c. same_id a c ≡ true) (once_ids b))
  once_row = record {
    where_holds = record {
      sound = λ e. subst (λ (ids : List SegId). AreDistinct same_id ids) once_are (rows_sound same_id (once_ids b) e);
      complete = λ h. rows_complete same_id (once_ids b) (subst (λ (ids : List SegId). AreDistinct same_id ids) (sym once_are) h);
    };
    names = rows_names same_id (once_ids b);
  }
