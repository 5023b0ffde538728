-- What is found on both sides is alike exactly where the same roots stay.
use Rattle.std.proofs.Common.{Bool, List, [], ap, cond, false, inl, inr, map, refl, subst, sym, true, ℕ, ℤ, ◌&&◌, ◌∙◌, ◌∷◌, ◌≡◌}
use Rattle.std.specs.Bool.{Decides}
use Rattle.std.specs.Cmp.{IsTotalOrder}
use Rattle.std.specs.Cmp.Lexicographic.{slice_cmp}
use Rattle.std.specs.List.{AllByRecursion}
use Rattle.std.specs.List.Sorted.{IsPermutation, IsSorted}
use Rattle.std.specs.Ordering.{eq_by_cmp, int_cmp, is_eq, is_gt, nat_cmp, on, ordering_then}
use Rattle.std.specs.declared.cmp.Ordering.{Ordering}
use Rattle.std.specs.declared.cmp.Ordering.TheVariants as Orderings
use Rattle.std.proofs.lemmas.Bool.{and_from, and_parts, false≢true}
use Rattle.std.proofs.lemmas.Cmp.{int_cmp_total, nat_list_cmp_total, on_total, then_total, tied_itself}
use Rattle.std.proofs.lemmas.Map.Lookups.{exact_bytes, exact_signed}
use Rattle.seg_names.specs.Ids.{id_cmp, same_id}
use Rattle.seg_names.specs.declared.seg_id.SegId.{SegId}
use Rattle.book_rows.specs.Ids.{put_by, put_id}
use Rattle.book_rows.specs.Lists.{In, Pairs, count}
use Rattle.laws_chunks.proofs.IdOrder.{id_total, in_order_In}
use Rattle.laws_chunks.proofs.Members.{both_true, count_alike}
use Rattle.laws_chunks.proofs.Spans.{same_id_from, same_id_means}
use Rattle.shown_rules.specs.Cuts.{same_cut, with_ends}
use Rattle.shown_rules.specs.Founds.{found_cmp, found_of}
use Rattle.shown_rules.specs.Stages.{AreInOrder, Stage, StayAlike, found, stays}
use Rattle.shown_rules.specs.declared.events.Found.{Found}
use Rattle.shown_rules.proofs.Ends.{cut_itself, cut_means, cuts_decide, ends_have, ends_kept}
use Rattle.shown_rules.proofs.Ordered.{alike_counts, counts_alike, sorted_pairs}
use Rattle.shown_rules.proofs.Running.{found_counts, of_cut, run_at, run_stays, stays_permuted}
use Rattle.shown_rules.proofs.Totals.{count_permuted, count_some, times, times_tell, total, total_same, total_times}
use lib.Pointwise.{pointwise}

-- ---- the order of what is found

pub found_total : IsTotalOrder found_cmp
found_total =
    then_total (on_total (λ (e : (List ℕ × ℤ) × SegId). e.0.0) nat_list_cmp_total)
    (then_total (on_total (λ (e : (List ℕ × ℤ) × SegId). e.0.1) int_cmp_total) (on_total (λ (e : (List ℕ × ℤ) × SegId). e.1) id_total))

then_equal : (o p : Ordering) → is_eq (ordering_then o p) ≡ true → (o ≡ Orderings.Equal) × (is_eq p ≡ true)
then_equal Orderings.Less p h = absurd (false≢true h)
then_equal Orderings.Equal p h = (refl, h)
then_equal Orderings.Greater p h = absurd (false≢true h)

is_equal : (o : Ordering) → is_eq o ≡ true → o ≡ Orderings.Equal
is_equal Orderings.Less h = absurd (false≢true h)
is_equal Orderings.Equal h = refl
is_equal Orderings.Greater h = absurd (false≢true h)

-- ids that are neither before nor after one another are one
id_is : (a b : SegId) → id_cmp a b ≡ Orderings.Equal → a ≡ b
id_is a b e = one (subst (λ (o : Ordering). In a (put_by o a b [] (put_id a []))) e (in_order_In a (a ∷ b ∷ []) (inl refl))) where
  one : In a (b ∷ []) → a ≡ b
  one (inl s) = s
  one (inr k) = absurd k

abbrev pub same_found : (List ℕ × ℤ) × SegId → (List ℕ × ℤ) × SegId → Bool
same_found e f = same_cut e.0 f.0 && same_id f.1 e.1

tied : (e f : (List ℕ × ℤ) × SegId) → eq_by_cmp found_cmp e f ≡ same_found e f
tied e f = both_true (eq_by_cmp found_cmp e f) (same_found e f) forth back where
  forth : eq_by_cmp found_cmp e f ≡ true → same_found e f ≡ true
  forth h =
      let one = then_equal (slice_cmp nat_cmp e.0.0 f.0.0) (ordering_then (int_cmp e.0.1 f.0.1) (id_cmp e.1 f.1)) h in
      let two = then_equal (int_cmp e.0.1 f.0.1) (id_cmp e.1 f.1) one.1 in
      let id : e.1 ≡ f.1 = id_is e.1 f.1 (is_equal (id_cmp e.1 f.1) two.1) in
      and_from (same_cut e.0 f.0) (same_id f.1 e.1) (cut (exact_bytes e.0.0 f.0.0 one.0) (exact_signed e.0.1 f.0.1 two.0)) (same_id_from f.1 e.1 (sym id)) where
        cut : e.0.0 ≡ f.0.0 → e.0.1 ≡ f.0.1 → same_cut e.0 f.0 ≡ true
        cut p q = subst (λ (d : List ℕ × ℤ). same_cut e.0 d ≡ true) (λ i. (p i, q i)) (cut_itself e.0)

  back : same_found e f ≡ true → eq_by_cmp found_cmp e f ≡ true
  back h =
      let both = and_parts (same_cut e.0 f.0) (same_id f.1 e.1) h in
      subst (λ (g : (List ℕ × ℤ) × SegId). eq_by_cmp found_cmp e g ≡ true) (pair (cut_means e.0 f.0 both.0) (sym (same_id_means f.1 e.1 both.1))) (ap is_eq (tied_itself found_total e)) where
        pair : e.0 ≡ f.0 → e.1 ≡ f.1 → e ≡ f
        pair p q = λ i. (p i, q i)

-- ---- counts of one found thing

module _ (d : List ℕ × ℤ) (b : SegId) where
  at_cut : (c : List ℕ × ℤ) (rest : List SegId) (on : Bool) → count (λ a. on && same_id a b) rest ≡ cond on (count (λ a. same_id a b) rest) 0
  at_cut c rest true = refl
  at_cut c rest false = none rest where
    none : (as' : List SegId) → count (λ (a : SegId). false) as' ≡ 0
    none [] = refl
    none (x ∷ as') = none as'

  -- as often as the root stays at each cut that is this one
  pub found_stays : (xs : List Stage) (cs : List (List ℕ × ℤ)) → AreInOrder xs → count (eq_by_cmp found_cmp (d, b)) (found cs xs) ≡ total (λ c. cond (same_cut d c) (stays xs c b) 0) cs
  found_stays xs cs order =
      count_alike (eq_by_cmp found_cmp (d, b)) (same_found (d, b)) (found cs xs) (λ f i. tied (d, b) f)
      ∙ (found_counts (same_found (d, b)) xs cs
      ∙ total_same (of_cut (same_found (d, b)) xs) (λ c. cond (same_cut d c) (stays xs c b) 0) cs
      (λ c i. at_cut c (run_at c xs) (same_cut d c) ∙ ap (λ (n : ℕ). cond (same_cut d c) n 0) (run_stays c b xs order)))

  -- where this cut is one of them
  pub stays_times : (xs : List Stage) (cs : List (List ℕ × ℤ)) → total (λ c. cond (same_cut d c) (stays xs c b) 0) cs ≡ times (count (same_cut d) cs) (stays xs d b)
  stays_times xs cs = total_same (λ c. cond (same_cut d c) (stays xs c b) 0) (λ c. cond (same_cut d c) (stays xs d b) 0) cs (λ c i. one c) ∙ total_times (same_cut d) (stays xs d b) cs where
    one : (c : List ℕ × ℤ) → cond (same_cut d c) (stays xs c b) 0 ≡ cond (same_cut d c) (stays xs d b) 0
    one c = by (same_cut d c) refl where
      by : (on : Bool) → same_cut d c ≡ on → cond on (stays xs c b) 0 ≡ cond on (stays xs d b) 0
      by true e = ap (λ (x : List ℕ × ℤ). stays xs x b) (sym (cut_means d c e))
      by false e = refl

-- ---- both sides

module _ (xs ys : List Stage) (cs : List (List ℕ × ℤ)) (by_xs : AreInOrder xs) (by_ys : AreInOrder ys) where
  abbrev pub AreFoundAlike : Type 0
  AreFoundAlike = (e : (List ℕ × ℤ) × SegId) → count (eq_by_cmp found_cmp e) (found cs xs) ≡ count (eq_by_cmp found_cmp e) (found cs ys)

  pub found_from : StayAlike xs ys → AreFoundAlike
  found_from alike e =
      found_stays e.0 e.1 xs cs by_xs
      ∙ (total_same (λ c. cond (same_cut e.0 c) (stays xs c e.1) 0) (λ c. cond (same_cut e.0 c) (stays ys c e.1) 0) cs (λ c i. ap (λ (n : ℕ). cond (same_cut e.0 c) n 0) (alike c e.1))
      ∙ sym (found_stays e.0 e.1 ys cs by_ys))

  pub stays_from : AreFoundAlike → (c : List ℕ × ℤ) (a : SegId) → In c cs → stays xs c a ≡ stays ys c a
  stays_from alike c a i =
      let some = count_some (same_cut c) c cs i (cut_itself c) in
      times_tell some.0 (stays xs c a) (stays ys c a) (ap (λ (n : ℕ). times n (stays xs c a)) (sym some.1) ∙ (level ∙ ap (λ (n : ℕ). times n (stays ys c a)) some.1)) where
        level : times (count (same_cut c) cs) (stays xs c a) ≡ times (count (same_cut c) cs) (stays ys c a)
        level = sym (found_stays c a xs cs by_xs ∙ stays_times c a xs cs) ∙ (alike (c, a) ∙ (found_stays c a ys cs by_ys ∙ stays_times c a ys cs))

-- ---- as lists

split : (o p : Ordering) → is_eq (ordering_then o p) ≡ (is_eq o && is_eq p)
split Orderings.Less p = refl
split Orderings.Equal p = refl
split Orderings.Greater p = refl

compared : (xs ys : List Found) → is_eq (slice_cmp (on found_of found_cmp) xs ys) ≡ pointwise (eq_by_cmp found_cmp) (map found_of xs) (map found_of ys)
compared [] [] = refl
compared [] (y ∷ ys) = refl
compared (x ∷ xs) [] = refl
compared (x ∷ xs) (y ∷ ys) = split (found_cmp (found_of x) (found_of y)) (slice_cmp (on found_of found_cmp) xs ys) ∙ ap (λ (b : Bool). is_eq (found_cmp (found_of x) (found_of y)) && b) (compared xs ys)

pairs_of : (xs : List Found) → Pairs (λ x y. is_gt (found_cmp (found_of x) (found_of y)) ≡ false) xs → Pairs (λ e f. is_gt (found_cmp e f) ≡ false) (map found_of xs)
pairs_of [] h = tt
pairs_of (x ∷ xs) h = (all_of xs h.0, pairs_of xs h.1) where
  all_of : (zs : List Found) → AllByRecursion (λ y. is_gt (found_cmp (found_of x) (found_of y)) ≡ false) zs → AllByRecursion (λ f. is_gt (found_cmp (found_of x) f) ≡ false) (map found_of zs)
  all_of [] a = tt
  all_of (z ∷ zs) a = (a.0, all_of zs a.1)

-- sorted lists of what is found on both sides compare equal exactly where the same roots stay
pub found_decides : (xs ys : List Stage) (cs : List (List ℕ × ℤ)) (one other : List Found) (alike : Bool) → AreInOrder xs → AreInOrder ys → cs ≡ with_ends (with_ends [] xs) ys
    → IsPermutation (found cs xs) (map found_of one) → IsPermutation (found cs ys) (map found_of other) → IsSorted (on found_of found_cmp) one → IsSorted (on found_of found_cmp) other
    → alike ≡ is_eq (slice_cmp (on found_of found_cmp) one other) → Decides alike (StayAlike xs ys)
found_decides xs ys cs one other alike by_xs by_ys ends moved_one moved_other up_one up_other is = (forth, back) where
  same : alike ≡ pointwise (eq_by_cmp found_cmp) (map found_of one) (map found_of other)
  same = is ∙ compared one other

  has_xs : (x : Stage) → In x xs → In (x.source, x.start) cs × In (x.source, x.end) cs
  has_xs x i = rw ends (let h = ends_have xs [] x i in (ends_kept ys (with_ends [] xs) (x.source, x.start) h.0, ends_kept ys (with_ends [] xs) (x.source, x.end) h.1))

  has_ys : (y : Stage) → In y ys → In (y.source, y.start) cs × In (y.source, y.end) cs
  has_ys y i = rw ends (ends_have ys (with_ends [] xs) y i)

  forth : alike ≡ true → StayAlike xs ys
  forth on = cuts_decide xs ys cs has_xs has_ys (stays_from xs ys cs by_xs by_ys
      (λ e. count_permuted (eq_by_cmp found_cmp e) (found cs xs) (map found_of one) moved_one
      ∙ (alike_counts found_total e (map found_of one) (map found_of other) (sym same ∙ on)
      ∙ sym (count_permuted (eq_by_cmp found_cmp e) (found cs ys) (map found_of other) moved_other))))

  back : StayAlike xs ys → alike ≡ true
  back stay = same ∙ counts_alike found_total (map found_of one) (map found_of other)
      (pairs_of one (sorted_pairs (on_total found_of found_total) one up_one)) (pairs_of other (sorted_pairs (on_total found_of found_total) other up_other))
      (λ e. sym (count_permuted (eq_by_cmp found_cmp e) (found cs xs) (map found_of one) moved_one)
      ∙ (found_from xs ys cs by_xs by_ys stay e
      ∙ count_permuted (eq_by_cmp found_cmp e) (found cs ys) (map found_of other) moved_other))

-- the same in another order
pub moved_decides : (xs xs' ys ys' : List Stage) (alike : Bool) → IsPermutation xs xs' → IsPermutation ys ys' → Decides alike (StayAlike xs' ys') → Decides alike (StayAlike xs ys)
moved_decides xs xs' ys ys' alike m n d = (
  λ on c a. stays_permuted xs xs' c a m ∙ (d.0 on c a ∙ sym (stays_permuted ys ys' c a n)),
  λ stay. d.1 (λ c a. sym (stays_permuted xs xs' c a m) ∙ (stay c a ∙ stays_permuted ys ys' c a n)),
)
