-- What is visible after rows come or are dropped.
use Rattle.std.proofs.Common.{Bool, List, [], ap, arith, false, inl, inr, int_le, int_lt, map, not, refl, subst, sym, true, ℕ, ℤ, ◌&&◌, ◌++◌, ◌||◌, ◌∙◌, ◌∷◌, ◌≡◌}
use Rattle.std.proofs.lemmas.Bool.{and_from, and_parts, cases_Bool, false≢true, or_right}
use Rattle.std.proofs.lemmas.List.Folds.{list_all-append}
use Rattle.std.proofs.lemmas.Slice.Eq.{bytes_eq-Decides}
use Rattle.std.specs.List.{list_all}
use Rattle.std.specs.Prelude.{bytes_eq}
use Rattle.iv_span.specs.Extent.{Extent, covers, has, overlap}
use Rattle.seg_names.specs.declared.seg_id.SegId.{SegId}
use Rattle.book_rows.specs.Contents.{alive}
use Rattle.book_rows.specs.Lists.{In, count}
use Rattle.book_rows.specs.Live.{IsOf}
use Rattle.book_rows.specs.Rewrite.{unused}
use Rattle.book_rows.specs.Rules.{ShowsContents}
use Rattle.book_rows.specs.Visible.{is_used_at, is_visible, shown, stands_for, tops}
use Rattle.book_rows.specs.declared.rows.PosseRow.{PosseRow}
use Rattle.book_rows.specs.declared.rows.Publication.{Publication}
use Rattle.book_rows.specs.declared.rows.SegmentRow.{SegmentRow}
use Rattle.laws_chunks.proofs.Members.{In-append, In-map, In-right, all_pass, count-append, count_alike, count_map, count_none, list_all_In}
use Rattle.laws_chunks.proofs.Spans.{has_wider, le_itself, le_not_lt, lt_is_le, meet}
use Rattle.laws_chunks.specs.Dropping.{IsFree}

-- an id of the source whose span has the instant
pub record IsAt (q : List ℕ) (t : ℤ) (a : SegId) : Type 0 where
  pub source_is : a.source ≡ q
  pub at : has a.span t ≡ true

pub used_is : (q : List ℕ) (t : ℤ) (r : SegmentRow) → is_used_at q t r ≡ true → (r.used ≡ true) × IsAt q t r.id
used_is q t r h =
    let one = and_parts _ _ h in
    let two = and_parts _ _ one.0 in
    (two.0, record { source_is = (bytes_eq-Decides _ _).0 two.1; at = one.1 })

pub is_used : (q : List ℕ) (t : ℤ) (r : SegmentRow) → r.used ≡ true → IsAt q t r.id → is_used_at q t r ≡ true
is_used q t r u h = and_from _ _ (and_from _ _ u ((bytes_eq-Decides _ _).1 h.source_is)) h.at

then_is : (b c : Bool) → b ≡ true → (not b || c) ≡ true → c ≡ true
then_is true c e h = h
then_is false c e h = absurd (false≢true e)

-- the highest is at least as high as each that is used there
pub top_at : (q : List ℕ) (t : ℤ) (rows : List SegmentRow) (r n : SegmentRow) → tops rows q t r ≡ true → In n rows → is_used_at q t n ≡ true → int_le n.id.version r.id.version ≡ true
top_at q t rows r n top i on = then_is (is_used_at q t n) (int_le n.id.version r.id.version) on (list_all_In (λ x. not (is_used_at q t x) || int_le x.id.version r.id.version) n rows i top)

pub tops_from : (q : List ℕ) (t : ℤ) (rows : List SegmentRow) (r : SegmentRow) → ((n : SegmentRow) → In n rows → is_used_at q t n ≡ true → int_le n.id.version r.id.version ≡ true) → tops rows q t r ≡ true
tops_from q t rows r f = all_pass (λ x. not (is_used_at q t x) || int_le x.id.version r.id.version) rows
    (λ n i. elim (cases_Bool (is_used_at q t n)) [ inl on ↦ or_right _ _ (f n i on) | inr off ↦ rw off refl ])

pub tops-append : (q : List ℕ) (t : ℤ) (rows new : List SegmentRow) (r : SegmentRow) → tops (rows ++ new) q t r ≡ (tops rows q t r && tops new q t r)
tops-append q t rows new r = list_all-append (λ x. not (is_used_at q t x) || int_le x.id.version r.id.version) rows new

-- where the new rows aren't, what is shown stays
pub shown_kept : (q : List ℕ) (t : ℤ) (rows new : List SegmentRow) (root : SegId) → ((n : SegmentRow) → In n new → is_used_at q t n ≡ false) → shown (rows ++ new) q t root ≡ shown rows q t root
shown_kept q t rows new root h =
    count-append (λ r. is_visible (rows ++ new) q t r && stands_for root t r) rows new
    ∙ rw (
      count_none (λ r. is_visible (rows ++ new) q t r && stands_for root t r) new (λ n i. rw (h n i) refl),
      count_alike (λ r. is_visible (rows ++ new) q t r && stands_for root t r) (λ r. is_visible rows q t r && stands_for root t r) rows
          (λ r i. rw (tops-append q t rows new r, tops_from q t new r (λ n j on. absurd (false≢true (sym (h n j) ∙ on)))) (drop_true (is_used_at q t r) (tops rows q t r) (stands_for root t r))),
    )
    (omega arith) where
      drop_true : (a b c : Bool) → ((a && (b && true)) && c) ≡ ((a && b) && c)
      drop_true a b c = grind arith

-- where rows of one new chunk come, above all that is used there, they alone are seen
module _ (q : List ℕ) (s : Extent) (v : ℤ) (rows news : List SegmentRow) (first : SegmentRow) (there : In first news)
    (of : (n : SegmentRow) → In n news → (n.used ≡ true) × IsOf q s v n.id)
    (low : (r : SegmentRow) → In r rows → r.used ≡ true → r.id.source ≡ q → overlap r.id.span s ≡ true → int_lt r.id.version v ≡ true) where
  new_used : (t : ℤ) → has s t ≡ true → (n : SegmentRow) → In n news → is_used_at q t n ≡ true
  new_used t e n i = let f = of n i in is_used q t n f.0 (record { source_is = f.1.source_is; at = rw f.1.span_is e })

  is_low : (t : ℤ) → has s t ≡ true → (r : SegmentRow) → In r rows → is_used_at q t r ≡ true → int_lt r.id.version v ≡ true
  is_low t e r i on = let u = used_is q t r on in low r i u.0 u.1.source_is (meet r.id.span s t u.1.at e)

  hidden : (t : ℤ) → has s t ≡ true → (r : SegmentRow) → In r rows → is_visible (rows ++ news) q t r ≡ false
  hidden t e r i = elim (cases_Bool (is_visible (rows ++ news) q t r)) [
    | inr off ↦ off
    | inl on ↦
        let both = and_parts (is_used_at q t r) (tops (rows ++ news) q t r) on in
        absurd (le_not_lt first.id.version r.id.version (top_at q t (rows ++ news) r first both.1 (In-right first rows news there) (new_used t e first there)) (rw (of first there).1.version_is (is_low t e r i both.0)))
  ]

  seen : (t : ℤ) → has s t ≡ true → (n : SegmentRow) → In n news → is_visible (rows ++ news) q t n ≡ true
  seen t e n i = and_from _ _ (new_used t e n i) (tops_from q t (rows ++ news) n (λ r j on. elim (In-append r rows news j) [
    | inl old ↦ rw (of n i).1.version_is (lt_is_le r.id.version v (is_low t e r old on))
    | inr new ↦ rw ((of n i).1.version_is, (of r new).1.version_is) (le_itself v)
  ]))

  pub shown_new : (t : ℤ) (root : SegId) → has s t ≡ true → shown (rows ++ news) q t root ≡ count (stands_for root t) news
  shown_new t root e =
      count-append (λ r. is_visible (rows ++ news) q t r && stands_for root t r) rows news
      ∙ rw (
        count_none (λ r. is_visible (rows ++ news) q t r && stands_for root t r) rows (λ r i. rw (hidden t e r i) refl),
        count_alike (λ r. is_visible (rows ++ news) q t r && stands_for root t r) (stands_for root t) news (λ n i. rw (seen t e n i) refl),
      ) (omega arith)

  pub not_used_off : (p : List ℕ) (t : ℤ) → (bytes_eq q p && has s t) ≡ false → (n : SegmentRow) → In n news → is_used_at p t n ≡ false
  not_used_off p t e n i = rw ((of n i).1.source_is, (of n i).1.span_is) (off n.used (bytes_eq q p) (has s t) e) where
    off : (a b c : Bool) → (b && c) ≡ false → ((a && b) && c) ≡ false
    off a b c h = grind arith

  -- so what is shown is as the publications say, where they agree
  pub shows_laid : (before after : List Publication) → ShowsContents rows before
      → ((p : List ℕ) (t : ℤ) (root : SegId) → (bytes_eq q p && has s t) ≡ false → alive (λ k. true) after p t root ≡ alive (λ k. true) before p t root)
      → ((t : ℤ) (root : SegId) → has s t ≡ true → count (stands_for root t) news ≡ alive (λ k. true) after q t root)
      → ShowsContents (rows ++ news) after
  shows_laid before after shows outside inside p t root = elim (cases_Bool (bytes_eq q p && has s t)) [
    | inr off ↦ shown_kept p t rows news root (not_used_off p t off) ∙ shows p t root ∙ sym (outside p t root off)
    | inl on ↦
        let both = and_parts (bytes_eq q p) (has s t) on in
        subst (λ (p : List ℕ). shown (rows ++ news) p t root ≡ alive (λ k. true) after p t root) ((bytes_eq-Decides q p).0 both.0) (shown_new t root both.1 ∙ inside t root both.1)
  ]

-- ---- rows are dropped

all_map_alike : {X : Type 0} (p p' : X → Bool) (f : X → X) (xs : List X) → ((x : X) → In x xs → p (f x) ≡ p' x) → list_all p (map f xs) ≡ list_all p' xs
all_map_alike p p' f [] h = refl
all_map_alike p p' f (x ∷ xs) h = rw (h x (inl refl), all_map_alike p p' f xs (λ y i. h y (inr i))) refl

module _ (qs : List PosseRow) (source : List ℕ) (s : Extent) (rows : List SegmentRow) (free : IsFree qs rows source s) where
  -- off the span each row is used as before
  used_off : (q : List ℕ) (t : ℤ) → (bytes_eq source q && has s t) ≡ false → (r : SegmentRow) → is_used_at q t (unused source s r) ≡ is_used_at q t r
  used_off q t off r = elim (cases_Bool (bytes_eq r.id.source source && covers s r.id.span)) [
    | inr no_drop ↦ rw no_drop (ap (λ (b : Bool). (b && bytes_eq r.id.source q) && has r.id.span t) (and_true r.used))
    | inl drop ↦ rw drop (gone r.used (bytes_eq r.id.source q) (has r.id.span t) (nowhere drop))
  ] where
    and_true : (b : Bool) → (b && true) ≡ b
    and_true true = refl
    and_true false = refl

    gone : (a b c : Bool) → (b && c) ≡ false → (((a && false) && b) && c) ≡ ((a && b) && c)
    gone a b c h = grind arith

    nowhere : (bytes_eq r.id.source source && covers s r.id.span) ≡ true → (bytes_eq r.id.source q && has r.id.span t) ≡ false
    nowhere drop = elim (cases_Bool (bytes_eq r.id.source q && has r.id.span t)) [
      | inr away ↦ away
      | inl here ↦
          let d = and_parts (bytes_eq r.id.source source) (covers s r.id.span) drop in
          let y = and_parts (bytes_eq r.id.source q) (has r.id.span t) here in
          absurd (false≢true (sym off ∙ and_from _ _ ((bytes_eq-Decides source q).1 (sym ((bytes_eq-Decides r.id.source source).0 d.0) ∙ (bytes_eq-Decides r.id.source q).0 y.0)) (has_wider s r.id.span t d.1 y.1)))
    ]

  shown_off : (q : List ℕ) (t : ℤ) (root : SegId) → (bytes_eq source q && has s t) ≡ false → shown (map (unused source s) rows) q t root ≡ shown rows q t root
  shown_off q t root off =
      count_map (λ r. is_visible (map (unused source s) rows) q t r && stands_for root t r) (unused source s) rows
      ∙ count_alike (λ r. is_visible (map (unused source s) rows) q t (unused source s r) && stands_for root t r) (λ r. is_visible rows q t r && stands_for root t r) rows
      (λ r i. rw (
        used_off q t off r,
        all_map_alike (λ x. not (is_used_at q t x) || int_le x.id.version r.id.version) (λ x. not (is_used_at q t x) || int_le x.id.version r.id.version) (unused source s) rows
            (λ x j. ap (λ (b : Bool). not b || int_le x.id.version r.id.version) (used_off q t off x)),
      ) refl)

  -- within the span none is left
  unused_in : (t : ℤ) → has s t ≡ true → (r : SegmentRow) → In r rows → is_used_at source t (unused source s r) ≡ false
  unused_in t e r i = elim (cases_Bool (is_used_at source t (unused source s r))) [
    | inr off ↦ off
    | inl on ↦
        let u = used_is source t (unused source s r) on in
        let was = and_parts r.used (not (bytes_eq r.id.source source && covers s r.id.span)) u.0 in
        let drop : (bytes_eq r.id.source source && covers s r.id.span) ≡ true = and_from _ _ ((bytes_eq-Decides r.id.source source).1 u.1.source_is) (free.uncut r i was.0 u.1.source_is (meet r.id.span s t u.1.at e)) in
        absurd (false≢true (rw drop at was.1))
  ]

  shown_in : (t : ℤ) (root : SegId) → has s t ≡ true → shown (map (unused source s) rows) source t root ≡ 0
  shown_in t root e = count_none (λ r. is_visible (map (unused source s) rows) source t r && stands_for root t r) (map (unused source s) rows)
      (λ r i. let w = In-map (unused source s) r rows i in rw (w.2, unused_in t e w.0 w.1) refl)

  pub shows_dropped : (before after : List Publication) → ShowsContents rows before
      → ((p : List ℕ) (t : ℤ) (root : SegId) → (bytes_eq source p && has s t) ≡ false → alive (λ k. true) after p t root ≡ alive (λ k. true) before p t root)
      → ((t : ℤ) (root : SegId) → has s t ≡ true → alive (λ k. true) after source t root ≡ 0)
      → ShowsContents (map (unused source s) rows) after
  shows_dropped before after shows outside inside p t root = elim (cases_Bool (bytes_eq source p && has s t)) [
    | inr off ↦ shown_off p t root off ∙ shows p t root ∙ sym (outside p t root off)
    | inl on ↦
        let both = and_parts (bytes_eq source p) (has s t) on in
        subst (λ (p : List ℕ). shown (map (unused source s) rows) p t root ≡ alive (λ k. true) after p t root) ((bytes_eq-Decides source p).0 both.0) (shown_in t root both.1 ∙ sym (inside t root both.1))
  ]
