-- Laws of lists by cases: members, tests of each element, relations of pairs and counts, under map, filter and append.
use Rattle.std.proofs.Common.{◌≡◌, ◌≤◌, Bool, true, false, cond, List, [], ◌∷◌, ◌++◌, map, filter, refl, sym, ◌∙◌, inl, inr, ap, subst, ◌⊎◌, find, Some, None, Option, arith, length}
use Rattle.std.specs.Prelude.{option_map}
use Rattle.std.specs.List.{AllByRecursion, list_any, list_all}
use Rattle.std.proofs.lemmas.Bool.{and_parts, and_from, or_from, or_right, or_left, false≢true, cases_Bool}
use Rattle.book_rows.specs.Lists.{In, Pairs, count}

pub both_true : (a b : Bool) → (a ≡ true → b ≡ true) → (b ≡ true → a ≡ true) → a ≡ b
both_true true b f g = sym (f refl)
both_true false true f g = absurd (false≢true (g refl))
both_true false false f g = refl

module _ {X : Type 0} where
  -- ---- members

  pub In-all : (P : X → Type 0) (x : X) (xs : List X) → In x xs → AllByRecursion P xs → P x
  In-all P x [] i a = absurd i
  In-all P x (y ∷ ys) (inl e) a = subst P (sym e) a.0
  In-all P x (y ∷ ys) (inr i) a = In-all P x ys i a.1

  pub In-list_all : (p : X → Bool) (x : X) (xs : List X) → In x xs → list_all p xs ≡ true → p x ≡ true
  In-list_all p x [] i h = absurd i
  In-list_all p x (y ∷ ys) (inl e) h = rw e (and_parts _ _ h).0
  In-list_all p x (y ∷ ys) (inr i) h = In-list_all p x ys i (and_parts _ _ h).1

  pub any_from_In : (p : X → Bool) (x : X) (xs : List X) → In x xs → p x ≡ true → list_any p xs ≡ true
  any_from_In p x [] i e = absurd i
  any_from_In p x (y ∷ ys) (inl same) e = or_left (p y) _ (rw (← same) e)
  any_from_In p x (y ∷ ys) (inr i) e = or_right (p y) _ (any_from_In p x ys i e)

  -- where none passes, no member does
  pub none_In : (p : X → Bool) (x : X) (xs : List X) → In x xs → list_any p xs ≡ false → p x ≡ false
  none_In p x xs i e = elim (cases_Bool (p x)) [ inr off ↦ off | inl on ↦ absurd (false≢true (sym e ∙ any_from_In p x xs i on)) ]

  pub none_from_In : (p : X → Bool) (xs : List X) → ((x : X) → In x xs → p x ≡ false) → list_any p xs ≡ false
  none_from_In p [] h = refl
  none_from_In p (x ∷ xs) h = or_from _ _ (h x (inl refl)) (none_from_In p xs (λ y i. h y (inr i)))

  -- where one passes, a member does
  pub any_In : (p : X → Bool) (xs : List X) → list_any p xs ≡ true → (x : X) × In x xs × (p x ≡ true)
  any_In p [] h = absurd (false≢true h)
  any_In p (x ∷ xs) h = elim (cases_Bool (p x)) [
    | inl on ↦ (x, inl refl, on)
    | inr off ↦ (let w = any_In p xs (rw off at h) in (w.0, inr w.1, w.2))
  ]

  filter_split : (p : X → Bool) (x y : X) (ys : List X) (rest : In x (filter p ys) → In x ys × (p x ≡ true)) (b : Bool) → p y ≡ b → In x (cond b (y ∷ filter p ys) (filter p ys)) → In x (y ∷ ys) × (p x ≡ true)
  filter_split p x y ys rest true e (inl same) = (inl same, rw same e)
  filter_split p x y ys rest true e (inr i) = (inr (rest i).0, (rest i).1)
  filter_split p x y ys rest false e i = (inr (rest i).0, (rest i).1)

  pub In-filter : (p : X → Bool) (x : X) (xs : List X) → In x (filter p xs) → In x xs × (p x ≡ true)
  In-filter p x [] i = absurd i
  In-filter p x (y ∷ ys) i = filter_split p x y ys (In-filter p x ys) (p y) refl i

  into_split : (p : X → Bool) (x y : X) (ys : List X) (b : Bool) → p y ≡ b → (In x ys → In x (filter p ys)) → p x ≡ true → In x (y ∷ ys) → In x (cond b (y ∷ filter p ys) (filter p ys))
  into_split p x y ys true e rest h (inl same) = inl same
  into_split p x y ys true e rest h (inr i) = inr (rest i)
  into_split p x y ys false e rest h (inl same) = absurd (false≢true (sym e ∙ (rw (← same) h)))
  into_split p x y ys false e rest h (inr i) = rest i

  pub filter_In : (p : X → Bool) (x : X) (xs : List X) → In x xs → p x ≡ true → In x (filter p xs)
  filter_In p x [] i e = absurd i
  filter_In p x (y ∷ ys) i e = into_split p x y ys (p y) refl (λ j. filter_In p x ys j e) e i

  -- a filtered list is empty, or has an element that passes
  pub filter_cases : (p : X → Bool) (xs : List X) → (filter p xs ≡ []) ⊎ ((x : X) × In x xs × (p x ≡ true))
  filter_cases p xs = by (filter p xs) refl where
    by : (ys : List X) → filter p xs ≡ ys → (filter p xs ≡ []) ⊎ ((x : X) × In x xs × (p x ≡ true))
    by [] e = inl e
    by (y ∷ ys) e = let w = In-filter p y xs (subst (λ (zs : List X). In y zs) (sym e) (inl refl)) in inr (y, w.0, w.1)

  pub In-append : (x : X) (xs ys : List X) → In x (xs ++ ys) → In x xs ⊎ In x ys
  In-append x [] ys i = inr i
  In-append x (y ∷ xs) ys (inl e) = inl (inl e)
  In-append x (y ∷ xs) ys (inr i) = elim (In-append x xs ys i) [ inl j ↦ inl (inr j) | inr j ↦ inr j ]

  pub In-left : (x : X) (xs ys : List X) → In x xs → In x (xs ++ ys)
  In-left x [] ys i = absurd i
  In-left x (y ∷ xs) ys (inl e) = inl e
  In-left x (y ∷ xs) ys (inr i) = inr (In-left x xs ys i)

  pub In-right : (x : X) (xs ys : List X) → In x ys → In x (xs ++ ys)
  In-right x [] ys i = i
  In-right x (y ∷ xs) ys i = inr (In-right x xs ys i)

  pub In-map : {Y : Type 0} (f : Y → X) (x : X) (ys : List Y) → In x (map f ys) → (y : Y) × In y ys × (x ≡ f y)
  In-map f x [] i = absurd i
  In-map f x (y ∷ ys) (inl e) = (y, inl refl, e)
  In-map f x (y ∷ ys) (inr i) = let r = In-map f x ys i in (r.0, inr r.1, r.2)

  pub map_In : {Y : Type 0} (f : Y → X) (y : Y) (ys : List Y) → In y ys → In (f y) (map f ys)
  map_In f y [] i = absurd i
  map_In f y (z ∷ ys) (inl e) = inl (ap f e)
  map_In f y (z ∷ ys) (inr i) = inr (map_In f y ys i)

  -- ---- a fact of each element

  pub all_from_In : (P : X → Type 0) (xs : List X) → ((x : X) → In x xs → P x) → AllByRecursion P xs
  all_from_In P [] h = tt
  all_from_In P (x ∷ xs) h = (h x (inl refl), all_from_In P xs (λ y i. h y (inr i)))

  pub all_map : (P Q : X → Type 0) (f : X → X) → ((x : X) → P x → Q (f x)) → (xs : List X) → AllByRecursion P xs → AllByRecursion Q (map f xs)
  all_map P Q f h [] a = tt
  all_map P Q f h (x ∷ xs) a = (h x a.0, all_map P Q f h xs a.1)

  pub all_weaker : (P Q : X → Type 0) → ((x : X) → P x → Q x) → (xs : List X) → AllByRecursion P xs → AllByRecursion Q xs
  all_weaker P Q h [] a = tt
  all_weaker P Q h (x ∷ xs) a = (h x a.0, all_weaker P Q h xs a.1)

  pub all_filter : (P : X → Type 0) (p : X → Bool) (xs : List X) → AllByRecursion P xs → AllByRecursion P (filter p xs)
  all_filter P p [] a = tt
  all_filter P p (x ∷ xs) a =
      elim (p x) as (λ b. AllByRecursion P (cond b (x ∷ filter p xs) (filter p xs)))
      [ true ↦ (a.0, all_filter P p xs a.1) | false ↦ all_filter P p xs a.1 ]

  pub all_of_map : {Y : Type 0} (P : Y → Type 0) (f : X → Y) (xs : List X) → AllByRecursion (λ x. P (f x)) xs → AllByRecursion P (map f xs)
  all_of_map P f [] h = tt
  all_of_map P f (x ∷ xs) h = (h.0, all_of_map P f xs h.1)

  all_left : (P : X → Type 0) (xs ys : List X) → AllByRecursion P (xs ++ ys) → AllByRecursion P xs
  all_left P [] ys h = tt
  all_left P (x ∷ xs) ys h = (h.0, all_left P xs ys h.1)

  pub all_push : (P : X → Type 0) (xs : List X) (y : X) → AllByRecursion P xs → P y → AllByRecursion P (xs ++ y ∷ [])
  all_push P [] y a h = (h, tt)
  all_push P (x ∷ xs) y a h = (a.0, all_push P xs y a.1 h)

  -- ---- a test of each element

  pub all_pass : (p : X → Bool) (xs : List X) → ((x : X) → In x xs → p x ≡ true) → list_all p xs ≡ true
  all_pass p [] h = refl
  all_pass p (x ∷ xs) h = rw (h x (inl refl), all_pass p xs (λ y i. h y (inr i))) refl

  pub pass_map : (p q : X → Bool) (f : X → X) → ((x : X) → p x ≡ true → q (f x) ≡ true) → (xs : List X) → list_all p xs ≡ true → list_all q (map f xs) ≡ true
  pass_map p q f h [] a = refl
  pass_map p q f h (x ∷ xs) a = and_from _ _ (h x (and_parts (p x) _ a).0) (pass_map p q f h xs (and_parts (p x) _ a).1)

  pub pass_weaker : (p q : X → Bool) → ((x : X) → p x ≡ true → q x ≡ true) → (xs : List X) → list_all p xs ≡ true → list_all q xs ≡ true
  pass_weaker p q h [] a = refl
  pass_weaker p q h (x ∷ xs) a = and_from _ _ (h x (and_parts (p x) _ a).0) (pass_weaker p q h xs (and_parts (p x) _ a).1)

  pub pass_filter : (p q : X → Bool) (xs : List X) → list_all p xs ≡ true → list_all p (filter q xs) ≡ true
  pass_filter p q [] a = refl
  pass_filter p q (x ∷ xs) a =
      elim (q x) as (λ b. list_all p (cond b (x ∷ filter q xs) (filter q xs)) ≡ true)
      [ true ↦ and_from _ _ (and_parts (p x) _ a).0 (pass_filter p q xs (and_parts (p x) _ a).1) | false ↦ pass_filter p q xs (and_parts (p x) _ a).1 ]

  pub pass_push : (p : X → Bool) (xs : List X) (y : X) → list_all p xs ≡ true → p y ≡ true → list_all p (xs ++ y ∷ []) ≡ true
  pass_push p [] y a h = and_from _ _ h refl
  pass_push p (x ∷ xs) y a h = and_from _ _ (and_parts (p x) _ a).0 (pass_push p xs y (and_parts (p x) _ a).1 h)

  -- ---- a relation of each element and each later one

  pub pairs_map : (R S : X → X → Type 0) (f : X → X) → ((x y : X) → R x y → S (f x) (f y)) → (xs : List X) → Pairs R xs → Pairs S (map f xs)
  pairs_map R S f h [] a = tt
  pairs_map R S f h (x ∷ xs) a = (all_map (R x) (S (f x)) f (h x) xs a.0, pairs_map R S f h xs a.1)

  pub pairs_filter : (R : X → X → Type 0) (p : X → Bool) (xs : List X) → Pairs R xs → Pairs R (filter p xs)
  pairs_filter R p [] a = tt
  pairs_filter R p (x ∷ xs) a =
      elim (p x) as (λ b. Pairs R (cond b (x ∷ filter p xs) (filter p xs)))
      [ true ↦ (all_filter (R x) p xs a.0, pairs_filter R p xs a.1) | false ↦ pairs_filter R p xs a.1 ]

  pub pairs_push : (R : X → X → Type 0) (xs : List X) (y : X) → Pairs R xs → AllByRecursion (λ x. R x y) xs → Pairs R (xs ++ y ∷ [])
  pairs_push R [] y a h = (tt, tt)
  pairs_push R (x ∷ xs) y a h = (all_push (R x) xs y a.0 h.0, pairs_push R xs y a.1 h.1)

  pub pairs_append : (R : X → X → Type 0) (xs ys : List X) → Pairs R xs → Pairs R ys → ((x y : X) → In x xs → In y ys → R x y) → Pairs R (xs ++ ys)
  pairs_append R [] ys a b h = b
  pairs_append R (x ∷ xs) ys a b h = (
    all_from_In (R x) (xs ++ ys) (λ y i. elim (In-append y xs ys i) [ inl j ↦ In-all (R x) y xs j a.0 | inr j ↦ h x y (inl refl) j ]),
    pairs_append R xs ys a.1 b (λ z y i j. h z y (inr i) j),
  )

  -- what holds of a joined list holds of each part of it, and between them
  pub pairs_left : (R : X → X → Type 0) (xs ys : List X) → Pairs R (xs ++ ys) → Pairs R xs
  pairs_left R [] ys h = tt
  pairs_left R (x ∷ xs) ys h = (all_left (R x) xs ys h.0, pairs_left R xs ys h.1)

  pub pairs_right : (R : X → X → Type 0) (xs ys : List X) → Pairs R (xs ++ ys) → Pairs R ys
  pairs_right R [] ys h = h
  pairs_right R (x ∷ xs) ys h = pairs_right R xs ys h.1

  pub pairs_between : (R : X → X → Type 0) (xs ys : List X) (x y : X) → Pairs R (xs ++ ys) → In x xs → In y ys → R x y
  pairs_between R [] ys x y h i j = absurd i
  pairs_between R (z ∷ xs) ys x y h (inl e) j = subst (λ z. R z y) (sym e) (In-all (R z) y (xs ++ ys) (In-right y xs ys j) h.0)
  pairs_between R (z ∷ xs) ys x y h (inr i) j = pairs_between R xs ys x y h.1 i j

  -- two members are one, or in the relation one way
  pub pair_of : (R : X → X → Type 0) (x y : X) (xs : List X) → Pairs R xs → In x xs → In y xs → (x ≡ y) ⊎ (R x y ⊎ R y x)
  pair_of R x y [] h i j = absurd i
  pair_of R x y (z ∷ xs) h (inl a) (inl b) = inl (a ∙ sym b)
  pair_of R x y (z ∷ xs) h (inl a) (inr j) = inr (inl (rw a (In-all (R z) y xs j h.0)))
  pair_of R x y (z ∷ xs) h (inr i) (inl b) = inr (inr (rw b (In-all (R z) x xs i h.0)))
  pair_of R x y (z ∷ xs) h (inr i) (inr j) = pair_of R x y xs h.1 i j

  -- ---- look-ups

  -- where the look-up finds nothing, each fails
  pub none_found : (p : X → Bool) (xs : List X) → find p xs ≡ None → AllByRecursion (λ x. p x ≡ false) xs
  none_found p [] e = tt
  none_found p (x ∷ xs) e = elim (cases_Bool (p x)) [
    | inl on ↦ absurd (nothing x (rw on at e))
    | inr off ↦ (off, none_found p xs (rw off at e))
  ] where
    nothing : (x : X) → Some x ≡ None → ⊥
    nothing x e = cc

  pub found_In : (p : X → Bool) (x : X) (xs : List X) → find p xs ≡ Some x → In x xs × (p x ≡ true)
  found_In p x [] e = cc
  found_In p x (y ∷ ys) e = elim (cases_Bool (p y)) [
    | inl on ↦ (let same : y ≡ x = one y (rw on at e) in (inl (sym same), rw (← same) on))
    | inr off ↦ (let r = found_In p x ys (rw off at e) in (inr r.0, r.1))
  ] where
    one : (y : X) → Some y ≡ Some x → y ≡ x
    one y e = cc

  -- what is made of what was found is there only where something was found
  pub none_mapped : {Y : Type 0} (f : X → Y) (o : Option X) → option_map f o ≡ None → o ≡ None
  none_mapped f None h = refl
  none_mapped f (Some x) h = cc

  -- ---- counts and lengths

  pub count_none : (p : X → Bool) (xs : List X) → ((x : X) → In x xs → p x ≡ false) → count p xs ≡ 0
  count_none p [] h = refl
  count_none p (x ∷ xs) h = rw (h x (inl refl)) (count_none p xs (λ y i. h y (inr i)))

  pub filter_length : (p : X → Bool) (xs : List X) → length (filter p xs) ≤ length xs
  filter_length p [] = omega arith
  filter_length p (x ∷ xs) =
      elim (p x) as (λ b. length (cond b (x ∷ filter p xs) (filter p xs)) ≤ length (x ∷ xs))
      [ true ↦ omega (arith, filter_length p xs) | false ↦ omega (arith, filter_length p xs) ]
