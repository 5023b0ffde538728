-- What the publications put and did not take away: the test, the words, the count, and what is shown.
use Rattle.std.proofs.Common.{◌++◌, Bool, List, Some, [], ap, arith, cond, false, inl, inr, not, refl, suc, subst, sym, true, zero, ℕ, ℤ, ◌&&◌, ◌+◌, ◌<◌, ◌∙◌, ◌∷◌, ◌≡◌, ◌≤◌}
use Rattle.std.proofs.lemmas.Bool.{and_from, and_parts, cases_Bool, false≢true, or_left, or_right}
use Rattle.std.proofs.lemmas.Slice.Eq.{bytes_eq-Decides}
use Rattle.std.specs.List.{list_any}
use Rattle.std.specs.Prelude.{bytes_eq}
use Rattle.iv_span.specs.Extent.{has}
use Rattle.seg_names.specs.Ids.{same_id}
use Rattle.seg_names.specs.declared.seg_id.SegId.{SegId}
use Rattle.book_rows.specs.Contents.{adds_at, alive, in_contents, is_put_from, takes}
use Rattle.book_rows.specs.Ids.{is_listed}
use Rattle.book_rows.specs.Lists.{In, at_place}
use Rattle.book_rows.specs.Shape.{all_adds, all_empties, pending_ids}
use Rattle.book_rows.specs.Sound.{Sound}
use Rattle.book_rows.specs.Visible.{is_visible, shown, stands_for}
use Rattle.book_rows.specs.declared.rows.Book.{Book}
use Rattle.book_rows.specs.declared.rows.Publication.{Publication}
use Rattle.laws_chunks.specs.Meaning.{HaveDistinctAdds, IsAsContained, IsShown}
use Rattle.laws_chunks.proofs.Meanings.{count_is_one, count_pos, sound_shows_contents}
use Rattle.laws_chunks.proofs.Members.{any_In, any_from_In, none_In}
use Rattle.laws_chunks.proofs.SoundChunks.{pairs_left, pairs_right}
use Rattle.laws_chunks.proofs.Spans.{same_id_from, same_id_means}
use Rattle.laws_shown.specs.History.{ContentsAreCounted, ContentsArePut, IsPut, SoundContentsAreCounted, SoundShowsWhatWasPut}

-- ---- places

module _ {X : Type 0} where
  pub place_In : (i : ℕ) (xs : List X) (x : X) → at_place i xs ≡ Some x → In x xs
  place_In i [] x e = cc
  place_In zero (y ∷ ys) x e = inl (let same : y ≡ x = cc in sym same)
  place_In (suc i) (y ∷ ys) x e = inr (place_In i ys x e)

  pub In-place : (x : X) (xs : List X) → In x xs → (i : ℕ) × (at_place i xs ≡ Some x)
  In-place x [] i = absurd i
  In-place x (y ∷ ys) (inl e) = (0, ap Some (sym e))
  In-place x (y ∷ ys) (inr j) = let w = In-place x ys j in (suc w.0, w.1)

pub listed_In : (ids : List SegId) (a : SegId) → is_listed ids a ≡ true → In a ids
listed_In ids a h = let w = any_In (λ b. same_id b a) ids h in subst (λ (x : SegId). In x ids) (same_id_means w.0 a w.2) w.1

pub In-listed : (ids : List SegId) (a : SegId) → In a ids → is_listed ids a ≡ true
In-listed ids a i = any_from_In (λ b. same_id b a) a ids i (same_id_from a a refl)

-- ---- the test and the words, at places that pass

pub record IsPutAt (k : ℕ) (pass : ℕ → Bool) (ms : List Publication) (source : List ℕ) (t : ℤ) (root : SegId) : Type 0 where
  pub place : ℕ
  pub publication : Publication
  pub at : at_place place ms ≡ Some publication
  pub passes : pass (k + place) ≡ true
  pub adds : adds_at source t root publication ≡ true
  pub kept : (later : ℕ) (m : Publication) → place < later → at_place later ms ≡ Some m → takes source t m (k + place) ≡ false

no_shift : (k : ℕ) → k + 0 ≡ k
no_shift k = omega arith

shift : (k i : ℕ) → (k + 1) + i ≡ k + suc i
shift k i = omega arith

module _ (pass : ℕ → Bool) (source : List ℕ) (t : ℤ) (root : SegId) where
  put_first : (k : ℕ) (m : Publication) (ms : List Publication) → (pass k && adds_at source t root m && not (list_any (λ n. takes source t n k) ms)) ≡ true → IsPutAt k pass (m ∷ ms) source t root
  put_first k m ms h =
      let one = and_parts (pass k && adds_at source t root m) (not (list_any (λ n. takes source t n k) ms)) h in
      let two = and_parts (pass k) (adds_at source t root m) one.0 in
      record {
        place = 0;
        publication = m;
        at = refl;
        passes = subst (λ (j : ℕ). pass j ≡ true) (sym (no_shift k)) two.0;
        adds = two.1;
        kept = λ later n lt e. subst (λ (j : ℕ). takes source t n j ≡ false) (sym (no_shift k)) (after later n lt e (off (list_any (λ n. takes source t n k) ms) one.1));
      } where
        off : (b : Bool) → not b ≡ true → b ≡ false
        off true e = sym e
        off false e = refl

        after : (later : ℕ) (n : Publication) → 0 < later → at_place later (m ∷ ms) ≡ Some n → list_any (λ n. takes source t n k) ms ≡ false → takes source t n k ≡ false
        after zero n lt e none = absurd (omega arith)
        after (suc later) n lt e none = none_In (λ n. takes source t n k) n ms (place_In later ms n e) none

  pub put_means : (k : ℕ) (ms : List Publication) → is_put_from k pass ms source t root ≡ true → IsPutAt k pass ms source t root
  put_means k [] h = absurd (false≢true h)
  put_means k (m ∷ ms) h = elim (cases_Bool (pass k && adds_at source t root m && not (list_any (λ n. takes source t n k) ms))) [
    | inl on ↦ put_first k m ms on
    | inr off ↦ put_later (put_means (k + 1) ms (rw off at h))
  ] where
    put_later : IsPutAt (k + 1) pass ms source t root → IsPutAt k pass (m ∷ ms) source t root
    put_later w = record {
      place = suc w.place;
      publication = w.publication;
      at = w.at;
      passes = subst (λ (j : ℕ). pass j ≡ true) (shift k w.place) w.passes;
      adds = w.adds;
      kept = λ later n lt e. subst (λ (j : ℕ). takes source t n j ≡ false) (shift k w.place) (after later n lt e);
    } where
      after : (later : ℕ) (n : Publication) → suc w.place < later → at_place later (m ∷ ms) ≡ Some n → takes source t n ((k + 1) + w.place) ≡ false
      after zero n lt e = absurd (omega arith)
      after (suc later) n lt e = w.kept later n (omega (arith, lt)) e

  pub put_from : (k i : ℕ) (ms : List Publication) (m : Publication) → at_place i ms ≡ Some m → pass (k + i) ≡ true → adds_at source t root m ≡ true
      → ((later : ℕ) (n : Publication) → i < later → at_place later ms ≡ Some n → takes source t n (k + i) ≡ false) → is_put_from k pass ms source t root ≡ true
  put_from k i [] m e p a kept = cc
  put_from k zero (x ∷ ms) m e p a kept = or_left (pass k && adds_at source t root x && not (list_any (λ n. takes source t n k) ms)) (is_put_from (k + 1) pass ms source t root)
      (and_from _ _ (and_from _ _ (subst (λ (j : ℕ). pass j ≡ true) (no_shift k) p) (subst (λ (m : Publication). adds_at source t root m ≡ true) (let same : x ≡ m = cc in sym same) a)) (ap not none)) where
        none : list_any (λ n. takes source t n k) ms ≡ false
        none = elim (cases_Bool (list_any (λ n. takes source t n k) ms)) [
          | inr off ↦ off
          | inl on ↦
              let w = any_In (λ n. takes source t n k) ms on in
              let at = In-place w.0 ms w.1 in
              absurd (false≢true (sym (subst (λ (j : ℕ). takes source t w.0 j ≡ false) (no_shift k) (kept (suc at.0) w.0 (omega arith) at.1)) ∙ w.2))
        ]
  put_from k (suc i) (x ∷ ms) m e p a kept = or_right (pass k && adds_at source t root x && not (list_any (λ n. takes source t n k) ms)) (is_put_from (k + 1) pass ms source t root)
      (put_from (k + 1) i ms m e (subst (λ (j : ℕ). pass j ≡ true) (sym (shift k i)) p) a (λ later n lt f. subst (λ (j : ℕ). takes source t n j ≡ false) (sym (shift k i)) (kept (suc later) n (omega (arith, lt)) f)))

pub adds_parts : (source : List ℕ) (t : ℤ) (root : SegId) (m : Publication) → adds_at source t root m ≡ true → (m.source ≡ source) × (has root.span t ≡ true) × In root m.adds
adds_parts source t root m h =
    let one = and_parts (bytes_eq m.source source && has root.span t) (is_listed m.adds root) h in
    let two = and_parts (bytes_eq m.source source) (has root.span t) one.0 in
    ((bytes_eq-Decides m.source source).0 two.0, two.1, listed_In m.adds root one.1)

adds_from : (source : List ℕ) (t : ℤ) (root : SegId) (m : Publication) → m.source ≡ source → has root.span t ≡ true → In root m.adds → adds_at source t root m ≡ true
adds_from source t root m e h i = and_from _ _ (and_from _ _ ((bytes_eq-Decides m.source source).1 e) h) (In-listed m.adds root i)

none_before : (i : ℕ) → 0 + i ≡ i
none_before i = omega arith

-- the same with a test that the place passes
pub record PutThat (pass : ℕ → Bool) (pubs : List Publication) (source : List ℕ) (t : ℤ) (root : SegId) : Type 0 where
  pub put : IsPut pubs source t root
  pub passes : pass put.place ≡ true

pub put_that_means : (pass : ℕ → Bool) (pubs : List Publication) (source : List ℕ) (t : ℤ) (root : SegId) → is_put_from 0 pass pubs source t root ≡ true → PutThat pass pubs source t root
put_that_means pass pubs source t root h = words (put_means pass source t root 0 pubs h) where
  words : IsPutAt 0 pass pubs source t root → PutThat pass pubs source t root
  words w =
      let a = adds_parts source t root w.publication w.adds in
      record {
        put = record {
          place = w.place;
          publication = w.publication;
          at = w.at;
          source_is = a.0;
          in_span = a.1;
          added = a.2;
          kept = λ later m lt e. subst (λ (j : ℕ). takes source t m j ≡ false) (none_before w.place) (w.kept later m lt e);
        };
        passes = subst (λ (j : ℕ). pass j ≡ true) (none_before w.place) w.passes;
      }

pub put_that : (pass : ℕ → Bool) (pubs : List Publication) (source : List ℕ) (t : ℤ) (root : SegId) (w : IsPut pubs source t root) → pass w.place ≡ true → is_put_from 0 pass pubs source t root ≡ true
put_that pass pubs source t root w passes = put_from pass source t root 0 w.place pubs w.publication w.at (subst (λ (j : ℕ). pass j ≡ true) (sym (none_before w.place)) passes) (adds_from source t root w.publication w.source_is w.in_span w.added)
    (λ later m lt e. subst (λ (j : ℕ). takes source t m j ≡ false) (sym (none_before w.place)) (w.kept later m lt e))

pub contents_are_put : ContentsArePut
contents_are_put pubs source t root = (λ h. (put_that_means (λ k. true) pubs source t root h).put, λ w. put_that (λ k. true) pubs source t root w refl)

-- ---- the count

pub contents_are_counted : ContentsAreCounted
contents_are_counted pubs distinct source t root =
    let w = is_once (in_contents pubs source t root) (alive (λ k. true) pubs source t root) (count_is_one (λ k. true) pubs source t root distinct) in
    record { counted = w.0; at_most = w.1 } where
      is_once : (b : Bool) (n : ℕ) → n ≡ cond b 1 0 → ((b ≡ true → n ≡ 1) × (n ≡ 1 → b ≡ true)) × (n ≤ 1)
      is_once true n e = ((λ h. e, λ h. refl), omega (arith, e))
      is_once false n e = ((λ h. absurd (false≢true h), λ h. absurd (omega (arith, e, h))), omega (arith, e))

-- no id is added twice
pub distinct_adds : (b : Book) → Sound b → HaveDistinctAdds b.publications
distinct_adds b sound =
    pairs_left (λ a c. same_id a c ≡ false) (all_adds b.publications) (all_empties b.publications)
    (pairs_right (λ a c. same_id a c ≡ false) (pending_ids b.pendings) (all_adds b.publications ++ all_empties b.publications) sound.shape.keys.once)

pub sound_contents_are_counted : SoundContentsAreCounted
sound_contents_are_counted b sound = contents_are_counted b.publications (distinct_adds b sound)

-- ---- what is shown

pub sound_shows_what_was_put : SoundShowsWhatWasPut
sound_shows_what_was_put b sound source t root = record {
  put = λ w. (contents_are_put b.publications source t root).0 (as_contained.contained w);
  shown_there = λ w. there (as_contained.once ((contents_are_put b.publications source t root).1 w));
  once = elim (cases_Bool (in_contents b.publications source t root)) [ inl on ↦ one (as_contained.once on) | inr off ↦ none (as_contained.never off) ];
} where
  as_contained : IsAsContained b.segments b.publications source t root
  as_contained = sound_shows_contents b sound source t root

  there : shown b.segments source t root ≡ 1 → IsShown b.segments source t root
  there e =
      let w = count_pos (λ r. is_visible b.segments source t r && stands_for root t r) b.segments (subst (λ (n : ℕ). 0 < n) (sym e) (omega arith)) in
      let both = and_parts (is_visible b.segments source t w.0) (stands_for root t w.0) w.2 in
      (w.0, w.1, both.0, both.1)

  one : shown b.segments source t root ≡ 1 → shown b.segments source t root ≤ 1
  one e = omega (arith, e)

  none : shown b.segments source t root ≡ 0 → shown b.segments source t root ≤ 1
  none e = omega (arith, e)
