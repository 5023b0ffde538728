-- Of a sound book the printed timeline and contents say what the publications put there and did not take away.
use Rattle.std.proofs.Common.{Bool, List, [], arith, cond, false, filter, inl, inr, map, not, subst, sym, true, ℕ, ℤ, ◌&&◌, ◌+◌, ◌<◌, ◌∙◌, ◌∷◌, ◌≡◌, ◌≤◌}
use Rattle.std.proofs.lemmas.Bool.{and_from, and_parts, false≢true}
use Rattle.iv_span.specs.Extent.{has}
use Rattle.seg_names.specs.Ids.{same_id}
use Rattle.seg_names.specs.declared.seg_id.SegId.{SegId}
use Rattle.book_rows.specs.Lists.{In, Pairs, count}
use Rattle.book_rows.specs.Shape.{pending_ids, segment_ids}
use Rattle.book_rows.specs.Shown.{contents_of, ids_shown, roots_at, timeline_of}
use Rattle.book_rows.specs.Sound.{Sound}
use Rattle.book_rows.specs.Visible.{is_visible, stands_for, visible}
use Rattle.book_rows.specs.declared.replies.ContentsPart.{ContentsPart}
use Rattle.book_rows.specs.declared.replies.TimelinePart.{TimelinePart}
use Rattle.book_rows.specs.declared.rows.Book.{Book}
use Rattle.book_rows.specs.declared.rows.SegmentRow.{SegmentRow}
use Rattle.laws_chunks.specs.Meaning.{IsShown}
use Rattle.laws_chunks.proofs.IdOrder.{in_order_In}
use Rattle.laws_chunks.proofs.LockFacts.{pair_of}
use Rattle.laws_chunks.proofs.Meanings.{count_some}
use Rattle.laws_chunks.proofs.Members.{In-filter, In-map, any_In, filter_In, map_In}
use Rattle.laws_chunks.proofs.SoundChunks.{pairs_left, pairs_unmapped}
use Rattle.laws_chunks.proofs.Spans.{same_id_from, same_id_means}
use Rattle.laws_shown.specs.History.{IsShownAsPut}
use Rattle.laws_shown.specs.Printed.{DoesShow, SoundContentsAreWhatWasPut, SoundTimelineIsWhatWasPut}
use Rattle.laws_shown.proofs.Histories.{sound_shows_what_was_put}
use Rattle.laws_shown.proofs.InOrder.{in_order_back}
use Rattle.laws_shown.proofs.Printing.{contents_are_of_each_instant, one_contents_part, one_timeline_part, root_of_visible, timeline_is_of_each_instant}

-- ---- rows that stand for a root, among the visible ones

module _ (rows : List SegmentRow) (source : List ℕ) (t : ℤ) where
  -- a root of the list is that of a visible row that stands for it
  pub roots_shown : (root : SegId) → In root (roots_at (visible rows source t) t) → IsShown rows source t root
  roots_shown root i =
      let w = root_of_visible rows source t root i in
      let f = In-filter (is_visible rows source t) w.0 rows w.1 in
      (w.0, f.0, f.1, stands w.0 w.2 w.3) where
        stands : (r : SegmentRow) → root ≡ r.root → (not r.tombstone && has r.root.span t) ≡ true → stands_for root t r ≡ true
        stands r e h =
            let both = and_parts (not r.tombstone) (has r.root.span t) h in
            and_from (not r.tombstone) (has root.span t && same_id r.root root) both.0 (and_from (has root.span t) (same_id r.root root) (subst (λ (a : SegId). has a.span t ≡ true) (sym e) both.1) (same_id_from r.root root (sym e)))

  pub stands_parts : (root : SegId) (r : SegmentRow) → stands_for root t r ≡ true → (not r.tombstone ≡ true) × (has root.span t ≡ true) × (r.root ≡ root)
  stands_parts root r h =
      let one = and_parts (not r.tombstone) (has root.span t && same_id r.root root) h in
      let two = and_parts (has root.span t) (same_id r.root root) one.1 in
      (one.0, two.0, same_id_means r.root root two.1)

  -- and the other way
  pub shown_roots : (root : SegId) → IsShown rows source t root → In root (roots_at (visible rows source t) t)
  shown_roots root w =
      let s = stands_parts root w.0 w.3 in
      in_order_In root (map (λ (r : SegmentRow). r.root) (filter (λ r. not r.tombstone && has r.root.span t) (visible rows source t)))
      (subst (λ (a : SegId). In a (map (λ (r : SegmentRow). r.root) (filter (λ r. not r.tombstone && has r.root.span t) (visible rows source t)))) s.2
      (map_In (λ (r : SegmentRow). r.root) w.0 (filter (λ r. not r.tombstone && has r.root.span t) (visible rows source t))
      (filter_In (λ r. not r.tombstone && has r.root.span t) w.0 (visible rows source t) (filter_In (is_visible rows source t) w.0 rows w.1 w.2)
      (and_from (not w.0.tombstone) (has w.0.root.span t) s.0 (subst (λ (a : SegId). has a.span t ≡ true) (sym s.2) s.1)))))

  -- an id that is shown is that of a visible row, no tombstone
  id_of_visible : (a : SegId) → In a (ids_shown (visible rows source t)) → (r : SegmentRow) × In r (visible rows source t) × (a ≡ r.id) × (not r.tombstone ≡ true)
  id_of_visible a i =
      let w = In-map (λ (r : SegmentRow). r.id) a (filter (λ r. not r.tombstone) (visible rows source t)) (in_order_back a (map (λ (r : SegmentRow). r.id) (filter (λ r. not r.tombstone) (visible rows source t))) i) in
      let f = In-filter (λ r. not r.tombstone) w.0 (visible rows source t) w.1 in
      (w.0, f.0, w.2, f.1)

  visible_id : (r : SegmentRow) → In r rows → is_visible rows source t r ≡ true → not r.tombstone ≡ true → In r.id (ids_shown (visible rows source t))
  visible_id r i on h = in_order_In r.id (map (λ (r : SegmentRow). r.id) (filter (λ r. not r.tombstone) (visible rows source t)))
      (map_In (λ (r : SegmentRow). r.id) r (filter (λ r. not r.tombstone) (visible rows source t)) (filter_In (λ r. not r.tombstone) r (visible rows source t) (filter_In (is_visible rows source t) r rows i on) h))

-- ---- the laws

two : (b : Bool) (n : ℕ) → b ≡ true → 0 < n → cond b (1 + n) n ≤ 1 → ⊥
two true n e low h = omega arith
two false n e low h = false≢true e

-- two that pass, where at most one does, are one
counted_once : {X : Type 0} (p : X → Bool) (xs : List X) (x y : X) → count p xs ≤ 1 → In x xs → In y xs → p x ≡ true → p y ≡ true → x ≡ y
counted_once p [] x y h i j on too = absurd i
counted_once p (z ∷ xs) x y h (inl e) (inl f) on too = e ∙ sym f
counted_once {X = X} p (z ∷ xs) x y h (inl e) (inr j) on too = absurd (two (p z) (count p xs) (subst (λ (z : X). p z ≡ true) e on) (count_some p y xs j too) h)
counted_once {X = X} p (z ∷ xs) x y h (inr i) (inl f) on too = absurd (two (p z) (count p xs) (subst (λ (z : X). p z ≡ true) f too) (count_some p x xs i on) h)
counted_once p (z ∷ xs) x y h (inr i) (inr j) on too = counted_once p xs x y (fewer (p z) (count p xs) h) i j on too where
  fewer : (b : Bool) (n : ℕ) → cond b (1 + n) n ≤ 1 → n ≤ 1
  fewer true n h = omega arith
  fewer false n h = h

-- segments of one id are one
one_row : (b : Book) → Sound b → (r q : SegmentRow) → In r b.segments → In q b.segments → r.id ≡ q.id → r ≡ q
one_row b sound r q i j e = elim (pair_of (λ (r q : SegmentRow). same_id r.id q.id ≡ false) r q b.segments distinct i j) [
  | inl same ↦ same
  | inr (inl off) ↦ absurd (false≢true (sym off ∙ same_id_from r.id q.id e))
  | inr (inr off) ↦ absurd (false≢true (sym off ∙ same_id_from q.id r.id (sym e)))
] where
  distinct : Pairs (λ (r q : SegmentRow). same_id r.id q.id ≡ false) b.segments
  distinct = pairs_unmapped (λ a c. same_id a c ≡ false) (λ (r : SegmentRow). r.id) b.segments (pairs_left (λ a c. same_id a c ≡ false) (segment_ids b.segments) (pending_ids b.pendings) sound.shape.keys.ids)

pub sound_contents_are_what_was_put : SoundContentsAreWhatWasPut
sound_contents_are_what_was_put b sound source t root = record {
  put = λ p i h among. as_put.put (roots_shown b.segments source t root (subst (λ (as' : List SegId). In root as') (of_part p i h) among));
  printed = λ w. printed_at (as_put.shown_there w);
  once = λ p q i j h k x y. one_contents_part b.segments source t p q i j h k;
} where
  as_put : IsShownAsPut b source t root
  as_put = sound_shows_what_was_put b sound source t root

  of_part : (p : ContentsPart) → In p (contents_of b.segments source) → has p.span t ≡ true → p.roots ≡ roots_at (visible b.segments source t) t
  of_part p i h = (contents_are_of_each_instant b.segments source).parts p t i h

  printed_at : IsShown b.segments source t root → (p : ContentsPart) × In p (contents_of b.segments source) × (has p.span t ≡ true) × In root p.roots
  printed_at w =
      let among = shown_roots b.segments source t root w in
      let p = any_In (λ p. has p.span t) (contents_of b.segments source) (((contents_are_of_each_instant b.segments source).covers t).1 (root, among)) in
      (p.0, p.1, p.2, subst (λ (as' : List SegId). In root as') (sym (of_part p.0 p.1 p.2)) among)

pub sound_timeline_is_what_was_put : SoundTimelineIsWhatWasPut
sound_timeline_is_what_was_put b sound source t root = record {
  put = λ p i h w. as_put.put (shown_by p i h w);
  printed = λ w. printed_at (as_put.shown_there w);
  once = λ p q i j h k x y. (one_timeline_part b.segments source t p q i j h k, one_shown p q i j h k x y);
} where
  as_put : IsShownAsPut b source t root
  as_put = sound_shows_what_was_put b sound source t root

  ids_of : (p : TimelinePart) → In p (timeline_of b.segments source) → has p.span t ≡ true → p.ids ≡ ids_shown (visible b.segments source t)
  ids_of p i h = ((timeline_is_of_each_instant b.segments source).parts p t i h).ids_are

  -- a row that a part names, and that stands for the root, is visible
  row_shown : (p : TimelinePart) → In p (timeline_of b.segments source) → has p.span t ≡ true → (w : DoesShow b.segments p t root) → (is_visible b.segments source t w.0 ≡ true) × (stands_for root t w.0 ≡ true)
  row_shown p i h w = of_row (id_of_visible b.segments source t w.0.id (subst (λ (as' : List SegId). In w.0.id as') (ids_of p i h) w.2)) where
    stands : not w.0.tombstone ≡ true → stands_for root t w.0 ≡ true
    stands off = and_from (not w.0.tombstone) (has root.span t && same_id w.0.root root) off (and_from (has root.span t) (same_id w.0.root root) w.4 (same_id_from w.0.root root w.3))

    of_row : (q : SegmentRow) × In q (visible b.segments source t) × (w.0.id ≡ q.id) × (not q.tombstone ≡ true) → (is_visible b.segments source t w.0 ≡ true) × (stands_for root t w.0 ≡ true)
    of_row v =
        let f = In-filter (is_visible b.segments source t) v.0 b.segments v.1 in
        let same : v.0 ≡ w.0 = one_row b sound v.0 w.0 f.0 w.1 (sym v.2) in
        (subst (λ (r : SegmentRow). is_visible b.segments source t r ≡ true) same f.1, stands (subst (λ (r : SegmentRow). not r.tombstone ≡ true) same v.3))

  shown_by : (p : TimelinePart) → In p (timeline_of b.segments source) → has p.span t ≡ true → DoesShow b.segments p t root → IsShown b.segments source t root
  shown_by p i h w = let s = row_shown p i h w in (w.0, w.1, s.0, s.1)

  one_shown : (p q : TimelinePart) → In p (timeline_of b.segments source) → In q (timeline_of b.segments source) → has p.span t ≡ true → has q.span t ≡ true → (x : DoesShow b.segments p t root) (y : DoesShow b.segments q t root) → x.0 ≡ y.0
  one_shown p q i j h k x y =
      let s = row_shown p i h x in
      let u = row_shown q j k y in
      counted_once (λ r. is_visible b.segments source t r && stands_for root t r) b.segments x.0 y.0 as_put.once x.1 y.1 (and_from (is_visible b.segments source t x.0) (stands_for root t x.0) s.0 s.1) (and_from (is_visible b.segments source t y.0) (stands_for root t y.0) u.0 u.1)

  printed_at : IsShown b.segments source t root → (p : TimelinePart) × In p (timeline_of b.segments source) × (has p.span t ≡ true) × DoesShow b.segments p t root
  printed_at w =
      let s = stands_parts b.segments source t root w.0 w.3 in
      let p = any_In (λ p. has p.span t) (timeline_of b.segments source) (((timeline_is_of_each_instant b.segments source).covers t).1 (w.0, filter_In (is_visible b.segments source t) w.0 b.segments w.1 w.2)) in
      (p.0, p.1, p.2, (w.0, w.1, subst (λ (as' : List SegId). In w.0.id as') (sym (ids_of p.0 p.1 p.2)) (visible_id b.segments source t w.0 w.1 w.2 s.0), s.2, s.1))
