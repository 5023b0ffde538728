-- The rules keep where the used segments are the same, in whatever order.
use Rattle.std.proofs.Common.{Bool, List, [], arith, inl, inr, refl, true, ℕ, ℤ, ◌&&◌, ◌++◌, ◌+◌, ◌∙◌, ◌∷◌, ◌≡◌, ◌⊎◌}
use Rattle.std.proofs.lemmas.Bool.{and_parts}
use Rattle.seg_names.specs.declared.seg_id.SegId.{SegId}
use Rattle.book_rows.specs.Lists.{In, count, gathered}
use Rattle.book_rows.specs.Live.{IsLive, IsWhole}
use Rattle.book_rows.specs.Visible.{is_used_at, is_visible, shown, stands_for, tops}
use Rattle.book_rows.specs.declared.rows.ChunkRow.{ChunkRow}
use Rattle.book_rows.specs.declared.rows.SegmentRow.{SegmentRow}
use Rattle.laws_chunks.proofs.Members.{In-append, In-filter, In-left, In-right, both_true, count-append, count_alike, count_kept, filter_In}
use Rattle.laws_chunks.proofs.VisibleRows.{top_at, tops_from, used_is}
use Rattle.laws_chunks.specs.ChunksSound.{HasChunkShape}
use Rattle.laws_chunks.specs.RowOrder.{HasSameUsed, RemovedAreUnused, SameUsedKeeps}

pub same_used_keeps : SameUsedKeeps
same_used_keeps rows b u h =
    let s : HasChunkShape b = h.shape in
    record {
      shape = record {
        numbers = s.numbers;
        below = s.below;
        versions = s.versions;
        append_zero = s.append_zero;
        upto = s.upto;
        one_version = s.one_version;
        sinces = s.sinces;
        last_low = s.last_low;
        chunk_upto = s.chunk_upto;
        chunk_rows = λ a l. s.chunk_rows a (live a l);
        chunk_spans = s.chunk_spans;
        root_spans = s.root_spans;
        upgrade_spans = s.upgrade_spans;
        once = s.once;
        added = s.added;
        rows = s.rows;
        parts = s.parts;
      };
      compatible_locks = h.compatible_locks;
      one_span = λ x y l k. h.one_span x y (live x l) (live y k);
      below_locks = λ x q l. h.below_locks x q (live x l);
      rooted = h.rooted;
      upgrades = h.upgrades;
      cores = record {
        live = λ c a i l k. whole c (h.cores.live c a i (live a l) k);
        owned = λ c q i o. whole c (h.cores.owned c q i o);
        zero_version = h.cores.zero_version;
        shared = h.cores.shared;
        replace = h.cores.replace;
        within = h.cores.within;
      };
      copies = record {
        cores = λ x y d l k. h.copies.cores x y d (live x l) (live y k);
        contains = λ r y i root l. h.copies.contains r y i root (live y l);
        copies = λ r y i root l. h.copies.copies r y i root (live y l);
      };
      carried = h.carried;
      shown_contents = λ q t root. as_shown q t root ∙ h.shown_contents q t root;
    } where
      live : (a : SegId) → IsLive rows b.pendings a → IsLive b.segments b.pendings a
      live a (inl r) = inl (r.0, u.back r.0 r.1 r.2, r.2, r.3)
      live a (inr p) = inr p

      whole : (c : ChunkRow) → IsWhole b.segments c → IsWhole rows c
      whole c w i lt = let x = w i lt in (x.0, u.forth x.0 x.1 x.2, x.2, x.3, x.4)

      same_tops : (q : List ℕ) (t : ℤ) (r : SegmentRow) → tops rows q t r ≡ tops b.segments q t r
      same_tops q t r = both_true (tops rows q t r) (tops b.segments q t r)
          (λ on. tops_from q t b.segments r (λ n i used. top_at q t rows r n on (u.forth n i (used_is q t n used).0) used))
          (λ on. tops_from q t rows r (λ n i used. top_at q t b.segments r n on (u.back n i (used_is q t n used).0) used))

      as_shown : (q : List ℕ) (t : ℤ) (root : SegId) → shown rows q t root ≡ shown b.segments q t root
      as_shown q t root =
          u.counts (λ r. is_visible rows q t r && stands_for root t r) (λ r on. (used_is q t r (and_parts (is_used_at q t r) (tops rows q t r) (and_parts (is_visible rows q t r) (stands_for root t r) on).0).0).0)
          ∙ count_alike (λ r. is_visible rows q t r && stands_for root t r) (λ r. is_visible b.segments q t r && stands_for root t r) b.segments (λ r i. rw (same_tops q t r) refl)

pub removed_are_unused : RemovedAreUnused
removed_are_unused keep rows h = record {
  forth = λ r i used. filter_In keep r rows i (h r used);
  back = λ r i used. (In-filter keep r rows i).0;
  counts = λ p f. count_kept p keep rows (λ r i on. h r (f r on));
}

-- ---- another order

module _ {X : Type 0} (own copies : X → List SegmentRow) where
  to_order : (xs : List X) (r : SegmentRow) → In r (gathered (λ x. own x ++ copies x) xs) → In r (gathered own xs) ⊎ In r (gathered copies xs)
  to_order [] r i = absurd i
  to_order (x ∷ xs) r i = elim (In-append r (own x ++ copies x) (gathered (λ x. own x ++ copies x) xs) i) [
    | inl j ↦ elim (In-append r (own x) (copies x) j) [
      | inl o ↦ inl (In-left r (own x) (gathered own xs) o)
      | inr c ↦ inr (In-left r (copies x) (gathered copies xs) c)
    ]
    | inr j ↦ elim (to_order xs r j) [
      | inl o ↦ inl (In-right r (own x) (gathered own xs) o)
      | inr c ↦ inr (In-right r (copies x) (gathered copies xs) c)
    ]
  ]

  own_to : (xs : List X) (r : SegmentRow) → In r (gathered own xs) → In r (gathered (λ x. own x ++ copies x) xs)
  own_to [] r i = absurd i
  own_to (x ∷ xs) r i = elim (In-append r (own x) (gathered own xs) i) [
    | inl o ↦ In-left r (own x ++ copies x) (gathered (λ x. own x ++ copies x) xs) (In-left r (own x) (copies x) o)
    | inr o ↦ In-right r (own x ++ copies x) (gathered (λ x. own x ++ copies x) xs) (own_to xs r o)
  ]

  copies_to : (xs : List X) (r : SegmentRow) → In r (gathered copies xs) → In r (gathered (λ x. own x ++ copies x) xs)
  copies_to [] r i = absurd i
  copies_to (x ∷ xs) r i = elim (In-append r (copies x) (gathered copies xs) i) [
    | inl c ↦ In-left r (own x ++ copies x) (gathered (λ x. own x ++ copies x) xs) (In-right r (own x) (copies x) c)
    | inr c ↦ In-right r (own x ++ copies x) (gathered (λ x. own x ++ copies x) xs) (copies_to xs r c)
  ]

  count_order : (p : SegmentRow → Bool) (xs : List X) → count p (gathered (λ x. own x ++ copies x) xs) ≡ count p (gathered own xs) + count p (gathered copies xs)
  count_order p [] = refl
  count_order p (x ∷ xs) =
      rw (count-append p (own x ++ copies x) (gathered (λ x. own x ++ copies x) xs), count-append p (own x) (copies x), count-append p (own x) (gathered own xs), count-append p (copies x) (gathered copies xs), count_order p xs)
      (omega arith)

  module _ (rows : List SegmentRow) (xs : List X) where
    forth : (r : SegmentRow) → In r (rows ++ gathered (λ x. own x ++ copies x) xs) → r.used ≡ true → In r ((rows ++ gathered own xs) ++ gathered copies xs)
    forth r i u = elim (In-append r rows (gathered (λ x. own x ++ copies x) xs) i) [
      | inl o ↦ In-left r (rows ++ gathered own xs) (gathered copies xs) (In-left r rows (gathered own xs) o)
      | inr n ↦ elim (to_order xs r n) [
        | inl o ↦ In-left r (rows ++ gathered own xs) (gathered copies xs) (In-right r rows (gathered own xs) o)
        | inr c ↦ In-right r (rows ++ gathered own xs) (gathered copies xs) c
      ]
    ]

    back : (r : SegmentRow) → In r ((rows ++ gathered own xs) ++ gathered copies xs) → r.used ≡ true → In r (rows ++ gathered (λ x. own x ++ copies x) xs)
    back r i u = elim (In-append r (rows ++ gathered own xs) (gathered copies xs) i) [
      | inl j ↦ elim (In-append r rows (gathered own xs) j) [
        | inl o ↦ In-left r rows (gathered (λ x. own x ++ copies x) xs) o
        | inr o ↦ In-right r rows (gathered (λ x. own x ++ copies x) xs) (own_to xs r o)
      ]
      | inr c ↦ In-right r rows (gathered (λ x. own x ++ copies x) xs) (copies_to xs r c)
    ]

    counts : (p : SegmentRow → Bool) → count p ((rows ++ gathered own xs) ++ gathered copies xs) ≡ count p (rows ++ gathered (λ x. own x ++ copies x) xs)
    counts p =
        rw (count-append p (rows ++ gathered own xs) (gathered copies xs), count-append p rows (gathered own xs), count-append p rows (gathered (λ x. own x ++ copies x) xs), count_order p xs)
        (omega arith)

-- both lists of each element, one element after another, or the first list of each and then the second of each
pub orders_have_same_used : (X : Type 0) (own copies : X → List SegmentRow) (rows : List SegmentRow) (xs : List X) → HasSameUsed (rows ++ gathered (λ x. own x ++ copies x) xs) ((rows ++ gathered own xs) ++ gathered copies xs)
orders_have_same_used X own copies rows xs = record { forth = forth own copies rows xs; back = back own copies rows xs; counts = λ p f. counts own copies rows xs p }
