-- The rules don't read in which order a publication adds its ids.
use Rattle.std.proofs.Common.{Bool, List, [], ap, arith, int_lt, cond, false, filter, inl, inr, length, length-append, map, nat_le, refl, subst, sym, true, ℕ, ℤ, ◌&&◌, ◌+◌, ◌++◌, ◌||◌, ◌∙◌, ◌∷◌, ◌≡◌}
use Rattle.std.proofs.lemmas.Bool.{cases_Bool, false≢true}
use Rattle.std.specs.List.{AllByRecursion}
use Rattle.iv_span.specs.Extent.{Extent, overlap}
use Rattle.seg_names.specs.Ids.{same_extent, same_id}
use Rattle.seg_names.specs.declared.seg_id.SegId.{SegId}
use Rattle.book_rows.specs.Contents.{alive}
use Rattle.book_rows.specs.Ids.{is_of_span}
use Rattle.book_rows.specs.Lists.{In, Pairs, count, gathered}
use Rattle.book_rows.specs.Over.{Target}
use Rattle.book_rows.specs.Spans.{is_span_of}
use Rattle.book_rows.specs.declared.rows.Book.{Book}
use Rattle.book_rows.specs.declared.rows.Publication.{Publication}
use Rattle.laws_chunks.specs.ChunksSound.{AreChunksSound}
use Rattle.laws_chunks.specs.Growing.{building}
use Rattle.laws_chunks.specs.Inserts.{AreDisjoint, ArePlaced}
use Rattle.laws_chunks.proofs.Alive.{alive_push}
use Rattle.laws_chunks.proofs.AppendedRoots.{upgrades_more}
use Rattle.laws_chunks.proofs.Members.{In-append, In-filter, both_true, count-append, count-filter, count_alike, count_none}
use Rattle.laws_chunks.proofs.OnceAdded.{added_alike, once_alike}
use Rattle.laws_chunks.proofs.Spans.{overlap_self, same_extent_from, same_extent_means}

-- ---- members and counts of joined lists

pub gathered_In : {X Y : Type 0} (f : X → List Y) (xs : List X) (y : Y) → In y (gathered f xs) → (x : X) × In x xs × In y (f x)
gathered_In f [] y i = absurd i
gathered_In f (x ∷ xs) y i = elim (In-append y (f x) (gathered f xs) i) [
  | inl j ↦ (x, inl refl, j)
  | inr j ↦ (let w = gathered_In f xs y j in (w.0, inr w.1, w.2))
]

-- the ids of the spans are ids
pub of_spans : (xs : List Target) (ids : List SegId) (a : SegId) → In a (gathered (λ x. filter (is_of_span x.span) ids) xs) → In a ids
of_spans xs ids a i = let w = gathered_In (λ (x : Target). filter (is_of_span x.span) ids) xs a i in (In-filter (is_of_span w.0.span) a ids w.2).0

-- those that pass one of two tests that never pass both
count_either : {X : Type 0} (q r p : X → Bool) (xs : List X) → ((x : X) → q x ≡ true → r x ≡ false) → count (λ x. q x && p x) xs + count (λ x. r x && p x) xs ≡ count (λ x. (q x || r x) && p x) xs
count_either q r p [] h = refl
count_either q r p (x ∷ xs) h = step (q x) (r x) (p x) (h x) (count (λ x. q x && p x) xs) (count (λ x. r x && p x) xs) (count (λ x. (q x || r x) && p x) xs) (count_either q r p xs h) where
  step : (a b c : Bool) → (a ≡ true → b ≡ false) → (m n k : ℕ) → m + n ≡ k → cond (a && c) (1 + m) m + cond (b && c) (1 + n) n ≡ cond ((a || b) && c) (1 + k) k
  step true true c f m n k e = absurd (false≢true (sym (f refl)))
  step true false true f m n k e = omega (arith, e)
  step true false false f m n k e = e
  step false true true f m n k e = omega (arith, e)
  step false true false f m n k e = e
  step false false c f m n k e = e

same_extent_both : (a b : Extent) → same_extent a b ≡ same_extent b a
same_extent_both a b = both_true (same_extent a b) (same_extent b a) (λ on. same_extent_from b a (sym (same_extent_means a b on))) (λ on. same_extent_from a b (sym (same_extent_means b a on)))

-- an id of one span is of no other
of_one : (x : Target) (xs : List Target) (a : SegId) → AllByRecursion (λ (y : Target). same_extent x.span y.span ≡ false) xs → is_of_span x.span a ≡ true → is_span_of (map (λ (x : Target). x.span) xs) a.span ≡ false
of_one x [] a d on = refl
of_one x (y ∷ xs) a d on = rw (ap (λ (e : Extent). same_extent y.span e) (same_extent_means a.span x.span on) ∙ same_extent_both y.span x.span ∙ d.0, of_one x xs a d.1 on) refl

-- the ids span by span are as many as those whose span is one of the spans
count_spans : (p : SegId → Bool) (xs : List Target) (ids : List SegId) → Pairs (λ (x y : Target). same_extent x.span y.span ≡ false) xs
    → count p (gathered (λ x. filter (is_of_span x.span) ids) xs) ≡ count (λ a. is_span_of (map (λ (x : Target). x.span) xs) a.span && p a) ids
count_spans p [] ids d = sym (count_none (λ (a : SegId). false) ids (λ a i. refl))
count_spans p (x ∷ xs) ids d =
    count-append p (filter (is_of_span x.span) ids) (gathered (λ (x : Target). filter (is_of_span x.span) ids) xs)
    ∙ rw (count-filter p (is_of_span x.span) ids, count_spans p xs ids d.1)
    (count_either (is_of_span x.span) (λ a. is_span_of (map (λ (x : Target). x.span) xs) a.span) p ids (λ a on. of_one x xs a d.0 on)
    ∙ count_alike (λ a. (is_of_span x.span a || is_span_of (map (λ (x : Target). x.span) xs) a.span) && p a) (λ a. is_span_of (map (λ (x : Target). x.span) (x ∷ xs)) a.span && p a) ids (λ a i. rw (same_extent_both x.span a.span) refl))

all_of : {X : Type 0} (P Q : X → Type 0) (xs : List X) → ((x : X) → P x → Q x) → AllByRecursion P xs → AllByRecursion Q xs
all_of P Q [] f h = tt
all_of P Q (x ∷ xs) f h = (f x h.0, all_of P Q xs f h.1)

-- spans that don't overlap and aren't empty differ
pub spans_differ : (xs : List Target) → AreDisjoint xs → ((x : Target) → In x xs → int_lt x.span.start x.span.end ≡ true) → Pairs (λ (x y : Target). same_extent x.span y.span ≡ false) xs
spans_differ [] d proper = tt
spans_differ (x ∷ xs) d proper = (
  all_of (λ (y : Target). overlap x.span y.span ≡ false) (λ (y : Target). same_extent x.span y.span ≡ false) xs (λ y off. elim (cases_Bool (same_extent x.span y.span)) [
    | inr apart ↦ apart
    | inl same ↦ absurd (false≢true (sym off ∙ subst (λ (e : Extent). overlap x.span e ≡ true) (same_extent_means x.span y.span same) (overlap_self x.span (proper x (inl refl)))))
  ]) d.0,
  spans_differ xs d.1 (λ y i. proper y (inr i)),
)

-- where each id is of one of the spans, those span by span are as many as all
pub count_placed : (xs : List Target) (ids : List SegId) (root : SegId) → Pairs (λ (x y : Target). same_extent x.span y.span ≡ false) xs → ArePlaced xs ids
    → count (λ a. same_id a root) (gathered (λ x. filter (is_of_span x.span) ids) xs) ≡ count (λ a. same_id a root) ids
count_placed xs ids root d placed =
    count_spans (λ a. same_id a root) xs ids d
    ∙ count_alike (λ a. is_span_of (map (λ (x : Target). x.span) xs) a.span && same_id a root) (λ a. same_id a root) ids (λ a i. rw (placed a i) refl)

-- ---- the same ids, in another order

pub same_adds_keep : (ms : List Publication) (m : Publication) (adds empties : List SegId) (b : Book) → ((a : SegId) → In a m.adds → In a adds) → ((root : SegId) → count (λ a. same_id a root) m.adds ≡ count (λ a. same_id a root) adds)
    → ((root : SegId) → count (λ a. same_id a root) m.empties ≡ count (λ a. same_id a root) empties)
    → AreChunksSound (building ms m b) → AreChunksSound (building ms (record m { adds = adds; empties = empties }) b)
same_adds_keep ms m adds empties b more counts cleans h =
    let as_long : 0 + length (ms ++ record m { adds = adds; empties = empties } ∷ []) ≡ 0 + length (ms ++ m ∷ []) = simp length-append refl in
    record {
      shape = record {
        numbers = h.shape.numbers;
        below = h.shape.below;
        versions = h.shape.versions;
        append_zero = h.shape.append_zero;
        upto = h.shape.upto;
        one_version = h.shape.one_version;
        sinces = λ q i. (let was = h.shape.sinces q i in omega (arith, was, as_long));
        last_low = h.shape.last_low;
        chunk_upto = h.shape.chunk_upto;
        chunk_rows = h.shape.chunk_rows;
        chunk_spans = h.shape.chunk_spans;
        root_spans = h.shape.root_spans;
        upgrade_spans = h.shape.upgrade_spans;
        once = once_alike ms m (record m { adds = adds; empties = empties }) counts cleans b.pendings h.shape.once;
        added = added_alike ms m (record m { adds = adds; empties = empties }) counts cleans b.chunks h.shape.added;
        rows = h.shape.rows;
        parts = h.shape.parts;
      };
      compatible_locks = h.compatible_locks;
      one_span = h.one_span;
      below_locks = h.below_locks;
      rooted = h.rooted;
      upgrades = upgrades_more b.posses b.upgrades ms m (record m { adds = adds; empties = empties }) more h.upgrades;
      cores = h.cores;
      copies = h.copies;
      carried = λ q t root v kind at uncovered. h.carried q t root v kind at uncovered ∙ alike (λ k. nat_le q.since k) q.source t root;
      shown_contents = λ source t root. h.shown_contents source t root ∙ alike (λ k. true) source t root;
    } where
      alike : (pass : ℕ → Bool) (source : List ℕ) (t : ℤ) (root : SegId) → alive pass (ms ++ m ∷ []) source t root ≡ alive pass (ms ++ record m { adds = adds; empties = empties } ∷ []) source t root
      alike pass source t root =
          alive_push source t root 0 pass ms m
          ∙ rw (counts root) (sym (alive_push source t root 0 pass ms (record m { adds = adds; empties = empties })))
