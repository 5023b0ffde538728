-- One span of a replacement keeps the rules.
use Rattle.std.proofs.Common.{List, [], ap, arith, false, filter, inl, inr, int_lt, length, not, refl, subst, sym, true, ℕ, ℤ, ◌&&◌, ◌++◌, ◌+◌, ◌<◌, ◌∙◌, ◌∷◌, ◌≡◌, ◌≤◌}
use Rattle.std.proofs.lemmas.Bool.{and_from, and_parts, cases_Bool}
use Rattle.std.proofs.lemmas.Bool.Decides.{Decides-int_eq}
use Rattle.std.proofs.lemmas.Slice.Eq.{bytes_eq-Decides}
use Rattle.std.specs.Ordering.{int_eq}
use Rattle.std.specs.Prelude.{bytes_eq}
use Rattle.iv_span.specs.Extent.{covers, has, overlap}
use Rattle.seg_names.specs.Ids.{same_id}
use Rattle.seg_names.specs.declared.seg_id.SegId.{SegId}
use Rattle.book_rows.specs.Lists.{In, Pairs}
use Rattle.book_rows.specs.Live.{IsIn, is_covered}
use Rattle.book_rows.specs.Ids.{is_of_span}
use Rattle.book_rows.specs.Rewrite.{is_copied, is_taken_up, own_rows, pending_copy, upgrade_copy}
use Rattle.book_rows.specs.Rules.{AreUpgrades, ShowsContents}
use Rattle.book_rows.specs.declared.rows.Book.{Book}
use Rattle.book_rows.specs.declared.rows.ChunkRow.{ChunkRow}
use Rattle.book_rows.specs.declared.rows.PendingRow.{PendingRow}
use Rattle.book_rows.specs.declared.rows.PosseRow.{PosseRow}
use Rattle.book_rows.specs.declared.rows.Publication.{Publication}
use Rattle.book_rows.specs.declared.rows.SegmentRow.{SegmentRow}
use Rattle.book_rows.specs.declared.rows.UpgradeRow.{UpgradeRow}
use Rattle.laws_chunks.proofs.ChangeFacts.{HasCopy, IsNewCopy}
use Rattle.laws_chunks.proofs.AppendedRoots.{upgrades_more}
use Rattle.laws_chunks.proofs.CarriedUpgrades.{replace_carries}
use Rattle.laws_chunks.proofs.CoveredShown.{shows_replace}
use Rattle.laws_chunks.proofs.CoveringSpans.{above_pub, adds_kept, first_row, laid_keeps, of_pub}
use Rattle.laws_chunks.proofs.LaidRows.{upgrade_copies}
use Rattle.laws_chunks.proofs.Members.{In-filter, any_In, count-filter, both_true, count_alike}
use Rattle.laws_chunks.proofs.NumberedRows.{count_numbered, length_numbered, numbered_In, numbered_all, numbered_pairs}
use Rattle.laws_chunks.proofs.Spans.{count_one, covers_self, meet, one_pending, overlap_both, same_id_from, same_id_means}
use Rattle.laws_chunks.proofs.OnceAdded.{distinct_ids}
use Rattle.laws_chunks.specs.ChunksSound.{AreChunksSound, HaveDistinctIds}
use Rattle.laws_chunks.specs.Covering.{IsReplace, ReplaceKeeps, span_copies, span_grown, span_replaced, upgrades_left}
use Rattle.laws_chunks.specs.Growing.{building}

module _ (k : ℕ) (ms : List Publication) (m : Publication) (p : PosseRow) (d : ChunkRow) (ids tombs : List SegId) (b : Book) (g : IsReplace b m p d k ids tombs) (h : AreChunksSound (building ms m b)) where
  distinct : HaveDistinctIds b.pendings
  distinct = distinct_ids b.pendings (ms ++ m ∷ []) h.shape.once

  -- the part from which the copies of pendings are numbered
  abbrev from : ℕ
  from = d.core + length (filter (is_taken_up p.number d.span) b.upgrades)

  copy_of : (x : PendingRow) → In x (span_copies b p d k).pendings → IsNewCopy b.pendings d.source d.span d.version x
  copy_of x i =
      let w = numbered_In (pending_copy d.source d.span d.version) from (filter (is_copied d.source d.span) b.pendings) x i in
      let was = In-filter (is_copied d.source d.span) w.item b.pendings w.among in
      let both = and_parts (same_id w.item.id w.item.root && bytes_eq w.item.id.source d.source) (covers d.span w.item.id.span) was.1 in
      let root = and_parts (same_id w.item.id w.item.root) (bytes_eq w.item.id.source d.source) both.0 in
      let is_root : w.item.id ≡ w.item.root = same_id_means w.item.id w.item.root root.0 in
      let proper : int_lt w.item.id.span.start w.item.id.span.end ≡ true = subst (λ (a : SegId). int_lt a.span.start a.span.end ≡ true) (sym is_root) (h.shape.root_spans w.item was.0) in
      subst (IsNewCopy b.pendings d.source d.span d.version) (sym w.is) (record {
        is_of = record { source_is = refl; span_is = refl; version_is = refl };
        root = w.item;
        among = was.0;
        is_root = is_root;
        root_is = sym is_root;
        source_is = (bytes_eq-Decides w.item.id.source d.source).0 root.1;
        within = both.1;
        meets = overlap_both w.item.id.span d.span w.item.id.span (covers_self w.item.id.span) both.1 proper;
        posse_is = refl;
        sequence_is = refl;
        previous_is = refl;
      })

  has_copy : (r : PendingRow) → In r b.pendings → r.id ≡ r.root → r.id.source ≡ d.source → overlap r.id.span d.span ≡ true → HasCopy (span_copies b p d k).pendings d.span r
  has_copy r i root source o =
      let within : covers d.span r.id.span ≡ true = g.roots_within r i root source o in
      record {
        within = within;
        one =
            count_numbered (λ x. same_id x.root r.id) (λ y. same_id y.root r.id) (pending_copy d.source d.span d.version) (λ j y. refl) from (filter (is_copied d.source d.span) b.pendings)
            ∙ count-filter (λ y. same_id y.root r.id) (is_copied d.source d.span) b.pendings
            ∙ count_alike (λ y. is_copied d.source d.span y && same_id y.root r.id) (λ y. same_id y.id r.id) b.pendings
            (λ y j. both_true (is_copied d.source d.span y && same_id y.root r.id) (same_id y.id r.id) (to y) (back within y j))
            ∙ count_one b.pendings r distinct i;
      } where
        -- a copied pending of the root is the root
        to : (y : PendingRow) → (is_copied d.source d.span y && same_id y.root r.id) ≡ true → same_id y.id r.id ≡ true
        to y on =
            let one = and_parts (is_copied d.source d.span y) (same_id y.root r.id) on in
            let two = and_parts (same_id y.id y.root && bytes_eq y.id.source d.source) (covers d.span y.id.span) one.0 in
            let three = and_parts (same_id y.id y.root) (bytes_eq y.id.source d.source) two.0 in
            same_id_from y.id r.id (same_id_means y.id y.root three.0 ∙ same_id_means y.root r.id one.1)

        back : covers d.span r.id.span ≡ true → (y : PendingRow) → In y b.pendings → same_id y.id r.id ≡ true → (is_copied d.source d.span y && same_id y.root r.id) ≡ true
        back within y j on = subst (λ (y : PendingRow). (is_copied d.source d.span y && same_id y.root r.id) ≡ true) (sym (one_pending b.pendings y r distinct j i (same_id_means y.id r.id on)))
            (and_from (is_copied d.source d.span r) (same_id r.root r.id)
            (and_from (same_id r.id r.root && bytes_eq r.id.source d.source) (covers d.span r.id.span) (and_from (same_id r.id r.root) (bytes_eq r.id.source d.source) (same_id_from r.id r.root root) ((bytes_eq-Decides r.id.source d.source).1 source)) within)
            (same_id_from r.root r.id (sym root)))

  ids_apart : Pairs (λ x y. same_id x.id y.id ≡ false) (span_copies b p d k).pendings
  ids_apart = numbered_pairs (λ x y. same_id x.id y.id ≡ false) (pending_copy d.source d.span d.version) (λ i j x y lt. elim (cases_Bool (same_id (pending_copy d.source d.span d.version i x).id (pending_copy d.source d.span d.version j y).id)) [
    | inr off ↦ off
    | inl on ↦ absurd (differ i j lt (ap (λ (a : SegId). a.part) (same_id_means (pending_copy d.source d.span d.version i x).id (pending_copy d.source d.span d.version j y).id on)))
  ]) from (filter (is_copied d.source d.span) b.pendings) where
    differ : (i j : ℕ) → i < j → i ≡ j → ⊥
    differ i j lt e = omega arith

  parts_low : (x : PendingRow) → In x (span_copies b p d k).pendings → x.id.part < d.next
  parts_low x i =
      let w = numbered_In (pending_copy d.source d.span d.version) from (filter (is_copied d.source d.span) b.pendings) x i in
      let part : x.id.part ≡ w.place = ap (λ (x : PendingRow). x.id.part) w.is in
      let high = w.high in
      let next = g.next_is in
      let taken : length (span_copies b p d k).segments ≡ length (filter (is_taken_up p.number d.span) b.upgrades) = length_numbered (upgrade_copy d.source d.span d.version k) d.core (filter (is_taken_up p.number d.span) b.upgrades) in
      let copied : length (span_copies b p d k).pendings ≡ length (filter (is_copied d.source d.span) b.pendings) = length_numbered (pending_copy d.source d.span d.version) from (filter (is_copied d.source d.span) b.pendings) in
      omega (arith, part, high, next, taken, copied)

  parts_high : (x : PendingRow) → In x (span_copies b p d k).pendings → d.core ≤ x.id.part
  parts_high x i =
      let w = numbered_In (pending_copy d.source d.span d.version) from (filter (is_copied d.source d.span) b.pendings) x i in
      let part : x.id.part ≡ w.place = ap (λ (x : PendingRow). x.id.part) w.is in
      let low = w.low in
      omega (arith, part, low)

  left : (u : UpgradeRow) → In u (upgrades_left p.number d.span b.upgrades) → In u b.upgrades
  left u i = (In-filter (λ u. not (is_taken_up p.number d.span u)) u b.upgrades i).0

  left_upgrades : AreUpgrades b.posses (upgrades_left p.number d.span b.upgrades) (ms ++ span_grown d.span p.since ids tombs m ∷ [])
  left_upgrades u i = upgrades_more b.posses b.upgrades ms m (span_grown d.span p.since ids tombs m) (adds_kept ms m b p d k ids tombs g.span h (inr g.kind_is) p.since) h.upgrades u (left u i)

  uncovered : (t : ℤ) → has d.span t ≡ true → is_covered b.chunks p t ≡ false
  uncovered t e = elim (cases_Bool (is_covered b.chunks p t)) [
    | inr off ↦ off
    | inl on ↦
        let w = any_In (λ c. bytes_eq c.source p.source && int_eq c.version p.version && has c.span t) b.chunks on in
        let one = and_parts (bytes_eq w.0.source p.source && int_eq w.0.version p.version) (has w.0.span t) w.2 in
        let two = and_parts (bytes_eq w.0.source p.source) (int_eq w.0.version p.version) one.0 in
        absurd (g.span.free (record { chunk = w.0; among = w.1; source_is = (bytes_eq-Decides w.0.source p.source).0 two.0; version_is = (Decides-int_eq w.0.version p.version).0 two.1; meets = meet w.0.span d.span t one.1 e }))
  ]

  shown_replaced : ShowsContents (b.segments ++ (own_rows k ids tombs d.span ++ upgrade_copies d k p.number b.upgrades)) (ms ++ span_grown d.span p.since ids tombs m ∷ [])
  shown_replaced =
      let first = first_row ms m b p d k ids tombs g.span h (inr g.kind_is) in
      shows_replace ms m d.span d.version p.since k (filter (is_of_span d.span) ids) (filter (is_of_span d.span) tombs)
      (λ a i. of_pub ms m b p d k ids tombs g.span h (inr g.kind_is) a (g.span.ids_of a i))
      (λ a i. of_pub ms m b p d k ids tombs g.span h (inr g.kind_is) a (g.span.tombs_of a i))
      g.span.apart d (g.span.source_is ∙ g.span.from) refl refl b.posses b.chunks b.upgrades p g.span.is_valid g.kind_is g.span.from refl g.span.within uncovered g.upgrades_within
      b.segments b.pendings first.0 first.1 g.is_replace (above_pub ms m b p d k ids tombs g.span h (inr g.kind_is)) h.carried h.shown_contents

  extra_in : (x : SegmentRow) → In x (upgrade_copies d k p.number b.upgrades) → IsIn d x.id
  extra_in x i = numbered_all (λ (x : SegmentRow). IsIn d x.id) (upgrade_copy d.source d.span d.version k) (λ i u. record { source_is = refl; span_is = refl; version_is = refl }) d.core (filter (is_taken_up p.number d.span) b.upgrades) x i

  after_replace : AreChunksSound (span_replaced ms m p d k ids tombs b)
  after_replace = laid_keeps ms m b p d k ids tombs g.span h (inr g.kind_is) (upgrade_copies d k p.number b.upgrades) (span_copies b p d k).pendings extra_in copy_of has_copy ids_apart parts_low parts_high
      (upgrades_left p.number d.span b.upgrades) p.since (λ u i. h.shape.upgrade_spans u (left u i)) left_upgrades
      (replace_carries ms m d.span p.since (filter (is_of_span d.span) ids) (filter (is_of_span d.span) tombs) (λ a i. (g.span.ids_of a i).span_is) b.posses b.chunks b.upgrades d h.carried h.compatible_locks h.shape.numbers p g.span.is_valid g.kind_is g.span.from g.span.within g.span.source_is g.span.version_is refl)
      shown_replaced

pub replace_keeps : ReplaceKeeps
replace_keeps k ms m p d ids tombs b g h = after_replace k ms m p d ids tombs b g h
