-- The count of a root among the publications is 1 where they put it and none took it away, and else 0.
use Rattle.std.proofs.Common.{Bool, List, [], ap, arith, cond, false, inl, inr, nat_le, nat_lt, not, refl, subst, sym, true, ℕ, ℤ, ◌&&◌, ◌+◌, ◌++◌, ◌<◌, ◌==◌, ◌||◌, ◌∙◌, ◌∷◌, ◌≡◌, ◌≤◌}
use Rattle.std.proofs.lemmas.Bool.{and_from, and_parts, cases_Bool}
use Rattle.std.proofs.lemmas.Bool.Decides.{Decides-eqb, nat_tests}
use Rattle.std.specs.List.{list_any}
use Rattle.std.specs.Prelude.{bytes_eq}
use Rattle.iv_span.specs.Extent.{has}
use Rattle.seg_names.specs.Ids.{same_id}
use Rattle.seg_names.specs.declared.seg_id.SegId.{SegId}
use Rattle.book_rows.specs.Contents.{alive, alive_from, is_put_from, takes}
use Rattle.book_rows.specs.Ids.{is_listed}
use Rattle.book_rows.specs.Lists.{In, Pairs, count}
use Rattle.book_rows.specs.Rules.{upgraded}
use Rattle.book_rows.specs.Shape.{all_adds, all_empties, pending_ids}
use Rattle.book_rows.specs.Visible.{is_visible, stands_for}
use Rattle.book_rows.specs.declared.rows.Publication.{Publication}
use Rattle.laws_chunks.specs.Meaning.{CarriedAreAdded, CountIsOne, CountMeansPut, IsCarried, ShownIsContents, SoundShowsContents}
use Rattle.laws_chunks.proofs.Members.{In-all, count-append, count_none}
use Rattle.laws_chunks.proofs.SoundChunks.{pairs_left, pairs_right}
use Rattle.laws_chunks.proofs.Spans.{same_id_from, same_id_means, same_id_swap}

-- ---- counts that aren't none

pub count_pos : {X : Type 0} (p : X → Bool) (xs : List X) → 0 < count p xs → (x : X) × In x xs × (p x ≡ true)
count_pos p [] h = absurd (omega arith)
count_pos p (x ∷ xs) h = elim (cases_Bool (p x)) [
  | inl on ↦ (x, inl refl, on)
  | inr off ↦ (let w = count_pos p xs (rw off at h) in (w.0, inr w.1, w.2))
]

pub count_some : {X : Type 0} (p : X → Bool) (x : X) (xs : List X) → In x xs → p x ≡ true → 0 < count p xs
count_some p x [] i e = absurd i
count_some p x (y ∷ xs) (inl same) e = rw (← same, e) (omega arith)
count_some p x (y ∷ xs) (inr i) e = at (p y) (count p xs) (count_some p x xs i e) where
  at : (b : Bool) (n : ℕ) → 0 < n → 0 < cond b (1 + n) n
  at true n h = omega arith
  at false n h = h

-- one passes where there is some
some_any : {X : Type 0} (p : X → Bool) (xs : List X) → nat_lt 0 (count p xs) ≡ list_any p xs
some_any p [] = refl
some_any p (x ∷ xs) = step (p x) (count p xs) (list_any p xs) (some_any p xs) where
  step : (b : Bool) (n : ℕ) (l : Bool) → nat_lt 0 n ≡ l → nat_lt 0 (cond b (1 + n) n) ≡ (b || l)
  step true n l h = grind (arith, nat_tests)
  step false n l h = h

is_some : (n : ℕ) → 0 < n → nat_lt 0 n ≡ true
is_some n h = grind (arith, nat_tests)

some_is : (n : ℕ) → nat_lt 0 n ≡ true → 0 < n
some_is n h = grind (arith, nat_tests)

pub none_first : (n : ℕ) → 0 + n ≡ n
none_first n = omega arith

-- ---- the publications

module _ (pass : ℕ → Bool) (source : List ℕ) (t : ℤ) (root : SegId) where
  put_step : (a n s h l p : Bool) (c rest : ℕ) → nat_lt 0 c ≡ l → nat_lt 0 rest ≡ p → nat_lt 0 (cond (a && not n) (cond (s && h) c 0) 0 + rest) ≡ (((a && ((s && h) && l)) && not n) || p)
  put_step true false true true l p c rest e f = rw (← e, ← f) (sum c rest) where
    sum : (c rest : ℕ) → nat_lt 0 (c + rest) ≡ (((true && ((true && true) && nat_lt 0 c)) && not false) || nat_lt 0 rest)
    sum c rest = grind (arith, nat_tests)
  put_step true false true false l p c rest e f = ap (nat_lt 0) (none_first rest) ∙ f
  put_step true false false h l p c rest e f = ap (nat_lt 0) (none_first rest) ∙ f
  put_step true true true true l p c rest e f = ap (nat_lt 0) (none_first rest) ∙ f ∙ drop l p where
    drop : (l p : Bool) → p ≡ ((l && false) || p)
    drop true p = refl
    drop false p = refl
  put_step true true true false l p c rest e f = ap (nat_lt 0) (none_first rest) ∙ f
  put_step true true false h l p c rest e f = ap (nat_lt 0) (none_first rest) ∙ f
  put_step false n s h l p c rest e f = ap (nat_lt 0) (none_first rest) ∙ f

  -- some count where one puts it
  counted : (k : ℕ) (ms : List Publication) → nat_lt 0 (alive_from k pass ms source t root) ≡ is_put_from k pass ms source t root
  counted k [] = refl
  counted k (m ∷ ms) = put_step (pass k) (list_any (λ n. takes source t n k) ms) (bytes_eq m.source source) (has root.span t) (is_listed m.adds root) (is_put_from (k + 1) pass ms source t root)
      (count (λ a. same_id a root) m.adds) (alive_from (k + 1) pass ms source t root) (some_any (λ a. same_id a root) m.adds) (counted (k + 1) ms)

  -- it is at most how often the root is added at all
  at_most : (k : ℕ) (ms : List Publication) → alive_from k pass ms source t root ≤ count (λ a. same_id a root) (all_adds ms)
  at_most k [] = omega arith
  at_most k (m ∷ ms) = rw (count-append (λ a. same_id a root) m.adds (all_adds ms)) (sum (pass k && not (list_any (λ n. takes source t n k) ms)) (bytes_eq m.source source && has root.span t) (count (λ a. same_id a root) m.adds) (alive_from (k + 1) pass ms source t root) (count (λ a. same_id a root) (all_adds ms)) (at_most (k + 1) ms)) where
    sum : (a b : Bool) (n x y : ℕ) → x ≤ y → cond a (cond b n 0) 0 + x ≤ n + y
    sum true true n x y h = omega arith
    sum true false n x y h = omega arith
    sum false b n x y h = omega arith

pub once : (root : SegId) (ids : List SegId) → Pairs (λ a b. same_id a b ≡ false) ids → count (λ a. same_id a root) ids ≤ 1
once root [] h = omega arith
once root (a ∷ ids) h = elim (cases_Bool (same_id a root)) [
  | inl on ↦ rw (on, count_none (λ b. same_id b root) ids (λ b i. subst (λ (x : SegId). same_id b x ≡ false) (same_id_means a root on) (same_id_swap a b (In-all (λ b. same_id a b ≡ false) b ids i h.0)))) (omega arith)
  | inr off ↦ rw off (once root ids h.1)
]

pub count_means_put : CountMeansPut
count_means_put pass pubs source t root =
    (λ h. sym (counted pass source t root 0 pubs) ∙ is_some (alive pass pubs source t root) h, λ h. some_is (alive pass pubs source t root) (counted pass source t root 0 pubs ∙ h))

pub count_is_one : CountIsOne
count_is_one pass pubs source t root distinct =
    let low : alive pass pubs source t root ≤ count (λ a. same_id a root) (all_adds pubs) = at_most pass source t root 0 pubs in
    let one : count (λ a. same_id a root) (all_adds pubs) ≤ 1 = once root (all_adds pubs) distinct in
    exactly (alive pass pubs source t root) (is_put_from 0 pass pubs source t root) (counted pass source t root 0 pubs) (omega (arith, low, one)) where
      exactly : (n : ℕ) (b : Bool) → nat_lt 0 n ≡ b → n ≤ 1 → n ≡ cond b 1 0
      exactly n true h k = (let some : 0 < n = some_is n h in omega (arith, some, k))
      exactly n false h k = none n h where
        none : (n : ℕ) → nat_lt 0 n ≡ false → n ≡ 0
        none n h = grind (arith, nat_tests)

-- ---- what is shown

pub shown_is_contents : ShownIsContents
shown_is_contents rows pubs distinct shows source t root = record {
  contained = λ r. (count_means_put (λ k. true) pubs source t root).0 (subst (λ n. 0 < n) (shows source t root) (count_some (λ x. is_visible rows source t x && stands_for root t x) r.0 rows r.1 (and_from _ _ r.2 r.3)));
  once = λ h. shows source t root ∙ count_is_one (λ k. true) pubs source t root distinct ∙ rw h refl;
  never = λ h. shows source t root ∙ count_is_one (λ k. true) pubs source t root distinct ∙ rw h refl;
}

pub sound_shows_contents : SoundShowsContents
sound_shows_contents b sound = shown_is_contents b.segments b.publications
    (pairs_left (λ a c. same_id a c ≡ false) (all_adds b.publications) (all_empties b.publications) (pairs_right (λ a c. same_id a c ≡ false) (pending_ids b.pendings) (all_adds b.publications ++ all_empties b.publications) sound.shape.keys.once))
    sound.shown_contents

-- ---- upgrade rows

pub carried_are_added : CarriedAreAdded
carried_are_added qs cs us pubs carries q t root v kind at uncovered = record { added = added; carried = carried } where
  same : upgraded us q.number t root ≡ alive (λ k. nat_le q.since k) pubs q.source t root
  same = carries q t root v kind at uncovered

  added : IsCarried us q.number t root → is_put_from 0 (λ k. nat_le q.since k) pubs q.source t root ≡ true
  added u = (count_means_put (λ k. nat_le q.since k) pubs q.source t root).0 (subst (λ n. 0 < n) same
      (count_some (λ u. (u.posse == q.number) && (has root.span t && same_id u.root root)) u.0 us u.1 (and_from _ _ ((Decides-eqb u.0.posse q.number).1 u.2) (and_from _ _ u.3 (same_id_from u.0.root root u.4)))))

  carried : is_put_from 0 (λ k. nat_le q.since k) pubs q.source t root ≡ true → IsCarried us q.number t root
  carried h =
      let w = count_pos (λ u. (u.posse == q.number) && (has root.span t && same_id u.root root)) us (subst (λ n. 0 < n) (sym same) ((count_means_put (λ k. nat_le q.since k) pubs q.source t root).1 h)) in
      let one = and_parts (w.0.posse == q.number) (has root.span t && same_id w.0.root root) w.2 in
      let two = and_parts (has root.span t) (same_id w.0.root root) one.1 in
      (w.0, w.1, (Decides-eqb w.0.posse q.number).0 one.0, two.0, same_id_means w.0.root root two.1)
