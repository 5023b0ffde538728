-- The named rows are the least that break the rule, and none is named exactly where it holds: of a list, of pairs, and of several clauses.
use Rattle.std.proofs.Common.{Bool, List, None, Option, Some, [], arith, cond, false, inl, inr, min, not, refl, subst, suc, sym, true, zero, ℕ, ◌+◌, ◌<◌, ◌∙◌, ◌∷◌, ◌≡◌, ◌≤◌, ◌⊎◌}
use Rattle.std.proofs.lemmas.Bool.{cases_Bool, false≢true, not-false}
use Rattle.std.specs.List.{AllByRecursion, list_all, list_any}
use Rattle.book_rows.specs.Lists.{In, Pairs, at_place}
use Rattle.laws_chunks.proofs.Members.{In-all, all_from_In, all_pass, any_In, list_all_In, none_In, none_from_In}
use Rattle.laws_shown.proofs.Histories.{In-place, place_In}
use Rattle.laws_unsound.specs.Named.{FirstClashingIsLeast, FirstFailingIsLeast, IsBookRow, IsLeast, IsRowOf, IsRowOfPair, IsRuleRow, Names, NoneWhere}
use Rattle.laws_unsound.specs.Rows.{first_clashing, first_failing, first_passing, least, lesser, zero_unless}
use Rattle.laws_unsound.proofs.Deciding.{IsTestOf, on, refused, refutes, sure, unless}

-- ---- ways to say it

pub by_meaning : {o : Option ℕ} {P Q : Type 0} {A : ℕ → Type 0} → (P → Q) → (Q → P) → IsRuleRow o P A → IsRuleRow o Q A
by_meaning f g h = record { where_holds = record { sound = λ e. f (h.where_holds.sound e); complete = λ q. h.where_holds.complete (g q) }; names = h.names }

pub names_so : {o : Option ℕ} {A B : ℕ → Type 0} → ((n : ℕ) → A n → B n) → ((n : ℕ) → B n → A n) → Names o A → Names o B
names_so f g h = record {
  found = λ n e. (let w = h.found n e in record { breaks = f n w.breaks; least = λ m b. w.least m (g m b) });
  none = λ e n b. h.none e n (g n b);
}

pub breaking_so : {o : Option ℕ} {P : Type 0} {A B : ℕ → Type 0} → ((n : ℕ) → A n → B n) → ((n : ℕ) → B n → A n) → IsRuleRow o P A → IsRuleRow o P B
breaking_so f g h = record { where_holds = h.where_holds; names = names_so f g h.names }

pub some_is : {n m : ℕ} → Some n ≡ Some m → n ≡ m
some_is e = cc

-- a row that is named by itself
pub named : {A : ℕ → Type 0} (k : ℕ) → IsLeast A k → Names (Some k) A
named {A = A} k h = record { found = λ n e. subst (λ (m : ℕ). IsLeast A m) (some_is e) h; none = λ e. absurd (cc) }

pub unnamed : {A : ℕ → Type 0} → ((n : ℕ) → A n → ⊥) → Names None A
unnamed h = record { found = λ n e. absurd (cc); none = λ e. h }

-- ---- a test of the whole book

pub of_book : {t : Bool} {P : Type 0} → IsTestOf t P → IsRuleRow (zero_unless t) P (IsBookRow (P → ⊥))
of_book {t = t} {P = P} d = record { where_holds = record { sound = sound t (λ e. d.means e); complete = complete t (λ p. d.passes p) }; names = names t (λ e. d.means e) (λ e. refutes d e) } where
  sound : (s : Bool) → (s ≡ true → P) → zero_unless s ≡ None → P
  sound true f e = f refl
  sound false f e = absurd (cc)

  complete : (s : Bool) → (P → s ≡ true) → P → zero_unless s ≡ None
  complete s f p = rw (f p) refl

  names : (s : Bool) → (s ≡ true → P) → (s ≡ false → P → ⊥) → Names (zero_unless s) (IsBookRow (P → ⊥))
  names true f g = unnamed (λ n w. w.1 (f refl))
  names false f g = named 0 (record { breaks = (refl, g refl); least = λ m w. omega arith })

-- the same of a test
pub book_off : (t : Bool) → IsRuleRow (zero_unless t) (t ≡ true) (IsBookRow (t ≡ false))
book_off t = breaking_so (λ n w. (w.0, refused (on t) w.1)) (λ n w. (w.0, refutes (on t) w.1)) (of_book (on t))

-- and of one that the property fails
pub book_without : {t : Bool} {P : Type 0} → IsTestOf t P → IsRuleRow (zero_unless (not t)) (P → ⊥) (IsBookRow P)
book_without d = breaking_so (λ n w. (w.0, sure d w.1)) (λ n w. (w.0, λ f. f w.1)) (of_book (unless d))

-- ---- the first of a list

module _ {X : Type 0} {bad : X → Bool} {B : X → Type 0} (d : (x : X) → IsTestOf (bad x) (B x)) where
  row_here : (k : ℕ) (x : X) (xs : List X) → bad x ≡ true → IsLeast (IsRowOf k B (x ∷ xs)) k
  row_here k x xs on = record { breaks = record { place = 0; item = x; at = refl; has_it = (d x).means on; row_is = omega arith }; least = λ m w. let e : m ≡ k + w.place = w.row_is in omega arith }

  row_on : (k : ℕ) (x : X) (xs : List X) → bad x ≡ false → (n : ℕ) → IsRowOf k B (x ∷ xs) n → IsRowOf (k + 1) B xs n
  row_on k x xs off n w = at w.place w.at w.row_is where
    at : (i : ℕ) → at_place i (x ∷ xs) ≡ Some w.item → n ≡ k + i → IsRowOf (k + 1) B xs n
    at zero e r = absurd (refutes (d x) off (subst B (let same : w.item ≡ x = cc in same) w.has_it))
    at (suc i) e r = record { place = i; item = w.item; at = e; has_it = w.has_it; row_is = omega arith }

  row_back : (k : ℕ) (x : X) (xs : List X) (n : ℕ) → IsRowOf (k + 1) B xs n → IsRowOf k B (x ∷ xs) n
  row_back k x xs n w = record { place = suc w.place; item = w.item; at = w.at; has_it = w.has_it; row_is = let e : n ≡ (k + 1) + w.place = w.row_is in omega arith }

  row_names : (k : ℕ) (xs : List X) → Names (first_passing k bad xs) (IsRowOf k B xs)
  row_names k [] = unnamed (λ n w. absurd (place_In w.place [] w.item w.at))
  row_names k (x ∷ xs) = elim (cases_Bool (bad x)) [
    | inl on ↦ rw on (named k (row_here k x xs on))
    | inr off ↦ rw off (names_so (row_back k x xs) (row_on k x xs off) (row_names (k + 1) xs))
  ]

  row_sound : (k : ℕ) (xs : List X) → first_passing k bad xs ≡ None → (x : X) → In x xs → bad x ≡ false
  row_sound k [] e x i = absurd i
  row_sound k (y ∷ ys) e x i = at (bad y) refl e (λ f j. row_sound (k + 1) ys f x j) i where
    at : (t : Bool) → bad y ≡ t → cond t (Some k) (first_passing (k + 1) bad ys) ≡ None → (first_passing (k + 1) bad ys ≡ None → In x ys → bad x ≡ false) → In x (y ∷ ys) → bad x ≡ false
    at true is f rest j = absurd (cc)
    at false is f rest (inl same) = rw same is
    at false is f rest (inr j) = rest f j

  row_complete : (k : ℕ) (xs : List X) → ((x : X) → In x xs → bad x ≡ false) → first_passing k bad xs ≡ None
  row_complete k [] h = refl
  row_complete k (x ∷ xs) h = rw (h x (inl refl)) (row_complete (k + 1) xs (λ y i. h y (inr i)))

  -- the first element with the property
  pub first_with : (k : ℕ) (xs : List X) → IsRuleRow (first_passing k bad xs) ((x : X) → In x xs → B x → ⊥) (IsRowOf k B xs)
  first_with k xs = record {
    where_holds = record { sound = λ e x i. refutes (d x) (row_sound k xs e x i); complete = λ h. row_complete k xs (λ x i. refused (d x) (h x i)) };
    names = row_names k xs;
  }

-- the first element without the property
pub first_without : {X : Type 0} {test : X → Bool} {P : X → Type 0} → ((x : X) → IsTestOf (test x) (P x)) → (k : ℕ) (xs : List X) → IsRuleRow (first_failing k test xs) ((x : X) → In x xs → P x) (IsRowOf k (λ x. P x → ⊥) xs)
first_without {test = test} d k xs =
    let h = first_with (λ x. unless (d x)) k xs in
    record {
      where_holds = record {
        sound = λ e x i. (d x).means (not-false (test x) (refused (unless (d x)) (h.where_holds.sound e x i)));
        complete = λ f. h.where_holds.complete (λ x i g. g (f x i));
      };
      names = h.names;
    }

-- rows by an equal property
pub rows_so : {X : Type 0} {A B : X → Type 0} {k : ℕ} {xs : List X} → ((x : X) → A x → B x) → (n : ℕ) → IsRowOf k A xs n → IsRowOf k B xs n
rows_so f n w = record { place = w.place; item = w.item; at = w.at; has_it = f w.item w.has_it; row_is = w.row_is }

-- the first element with a property whose test is turned
pub first_where_not : {X : Type 0} {bad : X → Bool} {B : X → Type 0} → ((x : X) → IsTestOf (bad x) (B x)) → (k : ℕ) (xs : List X) → IsRuleRow (first_failing k (λ x. not (bad x)) xs) ((x : X) → In x xs → B x → ⊥) (IsRowOf k B xs)
first_where_not d k xs = breaking_so (rows_so (λ x f. sure (d x) f)) (rows_so (λ x h f. f h)) (first_without (λ x. unless (d x)) k xs)

-- the first element that fails a test
pub first_off : {X : Type 0} (test : X → Bool) (k : ℕ) (xs : List X) → IsRuleRow (first_failing k test xs) (list_all test xs ≡ true) (IsRowOf k (λ x. test x ≡ false) xs)
first_off test k xs = by_meaning (all_pass test xs) (λ h x i. list_all_In test x xs i h)
    (breaking_so (rows_so (λ x f. refused (on (test x)) f)) (rows_so (λ x e. refutes (on (test x)) e)) (first_without (λ x. on (test x)) k xs))

pub first_failing_is_least : {X : Type 0} → FirstFailingIsLeast X
first_failing_is_least k test xs = first_off test k xs

-- ---- the first of a pair

module _ {X : Type 0} {clash : X → X → Bool} {R : X → X → Type 0} (d : (x y : X) → IsTestOf (clash x y) (R x y)) where
  none_with : (x : X) (xs : List X) → list_any (clash x) xs ≡ false → AllByRecursion (λ y. R x y → ⊥) xs
  none_with x xs off = all_from_In (λ y. R x y → ⊥) xs (λ y i. refutes (d x y) (none_In (clash x) y xs i off))

  with_none : (x : X) (xs : List X) → AllByRecursion (λ y. R x y → ⊥) xs → list_any (clash x) xs ≡ false
  with_none x xs a = none_from_In (clash x) xs (λ y i. refused (d x y) (In-all (λ z. R x z → ⊥) y xs i a))

  clash_where : (k : ℕ) (xs : List X) → NoneWhere (first_clashing k clash xs) (Pairs (λ x y. R x y → ⊥) xs)
  clash_where k [] = record { sound = λ e. tt; complete = λ h. refl }
  clash_where k (x ∷ xs) = elim (cases_Bool (list_any (clash x) xs)) [
    | inl on ↦ rw on (record { sound = λ e. absurd (cc); complete = λ h. absurd (false≢true (sym (with_none x xs h.0) ∙ on)) })
    | inr off ↦ rw off (record { sound = λ e. (none_with x xs off, (clash_where (k + 1) xs).sound e); complete = λ h. (clash_where (k + 1) xs).complete h.1 })
  ]

  pair_here : (k : ℕ) (x : X) (xs : List X) → list_any (clash x) xs ≡ true → IsLeast (IsRowOfPair k R (x ∷ xs)) k
  pair_here k x xs on = record { breaks = found (any_In (clash x) xs on); least = lower } where
    found : (y : X) × In y xs × (clash x y ≡ true) → IsRowOfPair k R (x ∷ xs) k
    found w = let p = In-place w.0 xs w.1 in record { first = 0; second = suc p.0; one = x; other = w.0; at_first = refl; at_second = p.1; in_order = omega arith; stand_so = (d x w.0).means w.2; row_is = inl (omega arith) }

    lower : (m : ℕ) → IsRowOfPair k R (x ∷ xs) m → k ≤ m
    lower m w = elim w.row_is [ inl e ↦ omega arith | inr e ↦ omega arith ]

  pair_back : (k : ℕ) (x : X) (xs : List X) (n : ℕ) → IsRowOfPair (k + 1) R xs n → IsRowOfPair k R (x ∷ xs) n
  pair_back k x xs n w = record { first = suc w.first; second = suc w.second; one = w.one; other = w.other; at_first = w.at_first; at_second = w.at_second; in_order = later w.in_order; stand_so = w.stand_so; row_is = row w.row_is } where
    later : w.first < w.second → suc w.first < suc w.second
    later e = omega arith

    row : (n ≡ (k + 1) + w.first) ⊎ (n ≡ (k + 1) + w.second) → (n ≡ k + suc w.first) ⊎ (n ≡ k + suc w.second)
    row (inl e) = inl (omega arith)
    row (inr e) = inr (omega arith)

  pair_on : (k : ℕ) (x : X) (xs : List X) → list_any (clash x) xs ≡ false → (n : ℕ) → IsRowOfPair k R (x ∷ xs) n → IsRowOfPair (k + 1) R xs n
  pair_on k x xs off n w = at w.first w.second w.at_first w.at_second w.in_order w.row_is where
    at : (i j : ℕ) → at_place i (x ∷ xs) ≡ Some w.one → at_place j (x ∷ xs) ≡ Some w.other → i < j → (n ≡ k + i) ⊎ (n ≡ k + j) → IsRowOfPair (k + 1) R xs n
    at i zero e f b r = absurd (omega arith)
    at zero (suc j) e f b r = absurd (refutes (d x w.other) (none_In (clash x) w.other xs (place_In j xs w.other f) off) (subst (λ (z : X). R z w.other) (let same : w.one ≡ x = cc in same) w.stand_so))
    at (suc i) (suc j) e f b r = record { first = i; second = j; one = w.one; other = w.other; at_first = e; at_second = f; in_order = omega arith; stand_so = w.stand_so; row_is = row r } where
      row : (n ≡ k + suc i) ⊎ (n ≡ k + suc j) → (n ≡ (k + 1) + i) ⊎ (n ≡ (k + 1) + j)
      row (inl e) = inl (omega arith)
      row (inr e) = inr (omega arith)

  pair_names : (k : ℕ) (xs : List X) → Names (first_clashing k clash xs) (IsRowOfPair k R xs)
  pair_names k [] = unnamed (λ n w. absurd (place_In w.first [] w.one w.at_first))
  pair_names k (x ∷ xs) = elim (cases_Bool (list_any (clash x) xs)) [
    | inl on ↦ rw on (named k (pair_here k x xs on))
    | inr off ↦ rw off (names_so (pair_back k x xs) (pair_on k x xs off) (pair_names (k + 1) xs))
  ]

  -- the first of two that stand so
  pub first_of_two : (k : ℕ) (xs : List X) → IsRuleRow (first_clashing k clash xs) (Pairs (λ x y. R x y → ⊥) xs) (IsRowOfPair k R xs)
  first_of_two k xs = record { where_holds = clash_where k xs; names = pair_names k xs }

pub pair_rows_so : {X : Type 0} {R S : X → X → Type 0} {k : ℕ} {xs : List X} → ((x y : X) → R x y → S x y) → (n : ℕ) → IsRowOfPair k R xs n → IsRowOfPair k S xs n
pair_rows_so f n w = record { first = w.first; second = w.second; one = w.one; other = w.other; at_first = w.at_first; at_second = w.at_second; in_order = w.in_order; stand_so = f w.one w.other w.stand_so; row_is = w.row_is }

pub pairs_so : {X : Type 0} {R S : X → X → Type 0} → ((x y : X) → R x y → S x y) → (xs : List X) → Pairs R xs → Pairs S xs
pairs_so h [] a = tt
pairs_so {R = R} {S = S} h (x ∷ xs) a = (all_from_In (S x) xs (λ y i. h x y (In-all (R x) y xs i a.0)), pairs_so h xs a.1)

pub pairs_from : {X : Type 0} (R : X → X → Type 0) → ((x y : X) → R x y) → (xs : List X) → Pairs R xs
pairs_from R h [] = tt
pairs_from R h (x ∷ xs) = (all_from_In (R x) xs (λ y i. h x y), pairs_from R h xs)

pub pairs_In : {X : Type 0} (R : X → X → Type 0) (xs : List X) → ((x y : X) → In x xs → In y xs → R x y) → Pairs R xs
pairs_In R [] h = tt
pairs_In R (x ∷ xs) h = (all_from_In (R x) xs (λ y i. h x y (inl refl) (inr i)), pairs_In R xs (λ y z i j. h y z (inr i) (inr j)))

-- the first of two that clash
pub first_alike : {X : Type 0} (clash : X → X → Bool) (k : ℕ) (xs : List X) → IsRuleRow (first_clashing k clash xs) (Pairs (λ x y. clash x y ≡ false) xs) (IsRowOfPair k (λ x y. clash x y ≡ true) xs)
first_alike clash k xs = by_meaning (pairs_so (λ x y f. refused (on (clash x y)) f) xs) (pairs_so (λ x y e. refutes (on (clash x y)) e) xs) (first_of_two (λ x y. on (clash x y)) k xs)

pub first_clashing_is_least : {X : Type 0} → FirstClashingIsLeast X
first_clashing_is_least k clash xs = first_alike clash k xs

-- ---- several clauses

pub in_min : (n m : ℕ) (A B : ℕ → Type 0) → A n → B m → A (min n m) ⊎ B (min n m)
in_min n m A B a b = elim (cases_le n m) [
  | inl e ↦ inl (subst A (sym (min_first n m e)) a)
  | inr e ↦ inr (subst B (sym (min_second n m e)) b)
] where
  cases_le : (n m : ℕ) → (n ≤ m) ⊎ (m ≤ n)
  cases_le zero m = inl (omega arith)
  cases_le (suc n) zero = inr (omega arith)
  cases_le (suc n) (suc m) = elim (cases_le n m) [ inl e ↦ inl (omega arith) | inr e ↦ inr (omega arith) ]

  min_first : (n m : ℕ) → n ≤ m → min n m ≡ n
  min_first n m e = omega arith

  min_second : (n m : ℕ) → m ≤ n → min n m ≡ m
  min_second n m e = omega arith

pub lesser_names : (o p : Option ℕ) {A B : ℕ → Type 0} → Names o A → Names p B → Names (lesser o p) (λ n. A n ⊎ B n)
lesser_names None None {A = A} {B = B} h k = unnamed neither where
  neither : (n : ℕ) → A n ⊎ B n → ⊥
  neither n (inl a) = h.none refl n a
  neither n (inr b) = k.none refl n b
lesser_names None (Some m) {A = A} {B = B} h k = named m (record { breaks = inr (k.found m refl).breaks; least = lower }) where
  lower : (n : ℕ) → A n ⊎ B n → m ≤ n
  lower n (inl a) = absurd (h.none refl n a)
  lower n (inr b) = (k.found m refl).least n b
lesser_names (Some n) None {A = A} {B = B} h k = named n (record { breaks = inl (h.found n refl).breaks; least = lower }) where
  lower : (m : ℕ) → A m ⊎ B m → n ≤ m
  lower m (inl a) = (h.found n refl).least m a
  lower m (inr b) = absurd (k.none refl m b)
lesser_names (Some n) (Some m) {A = A} {B = B} h k = named (min n m) (record { breaks = in_min n m A B (h.found n refl).breaks (k.found m refl).breaks; least = lower }) where
  lower : (i : ℕ) → A i ⊎ B i → min n m ≤ i
  lower i (inl a) = let e : n ≤ i = (h.found n refl).least i a in omega arith
  lower i (inr b) = let e : m ≤ i = (k.found m refl).least i b in omega arith

pub lesser_none : (o p : Option ℕ) → lesser o p ≡ None → (o ≡ None) × (p ≡ None)
lesser_none None p e = (refl, e)
lesser_none (Some n) None e = absurd (cc)
lesser_none (Some n) (Some m) e = absurd (cc)

pub none_lesser : (o p : Option ℕ) → o ≡ None → p ≡ None → lesser o p ≡ None
none_lesser o p e f = rw (e, f) refl

-- the clauses of a rule, taken together
pub record AreRuleRows (os : List (Option ℕ)) (P : Type 0) (A : ℕ → Type 0) : Type 0 where
  pub least_is : IsRuleRow (least os) P A

pub together : {os : List (Option ℕ)} {P Q : Type 0} {A : ℕ → Type 0} → (P → Q) → (Q → P) → AreRuleRows os P A → IsRuleRow (least os) Q A
together f g h = by_meaning f g h.least_is

pub more : {o : Option ℕ} {os : List (Option ℕ)} {P Q : Type 0} {A B : ℕ → Type 0} → IsRuleRow o P A → AreRuleRows os Q B → AreRuleRows (o ∷ os) (P × Q) (λ n. A n ⊎ B n)
more {o = o} {os = os} h k = let l = k.least_is in record {
  least_is = record {
    where_holds = record {
      sound = λ e. (let w = lesser_none o (least os) e in (h.where_holds.sound w.0, l.where_holds.sound w.1));
      complete = λ w. none_lesser o (least os) (h.where_holds.complete w.0) (l.where_holds.complete w.1);
    };
    names = lesser_names o (least os) h.names l.names;
  };
}

pub last : {o : Option ℕ} {P : Type 0} {A : ℕ → Type 0} → IsRuleRow o P A → AreRuleRows (o ∷ []) P A
last {o = o} {P = P} {A = A} h = record { least_is = subst (λ (p : Option ℕ). IsRuleRow p P A) (alone o) h } where
  alone : (p : Option ℕ) → p ≡ lesser p None
  alone None = refl
  alone (Some n) = refl
