-- What a replacement has to read, and that with its upgrade rows this splits the contents.
use Rattle.std.proofs.Common.{Bool, None, Option, Some, arith, cond, false, filter, inl, inr, map, nat_le, nat_lt, not, subst, sym, true, ℕ, ℤ, ◌&&◌, ◌<◌, ◌∙◌, ◌≡◌, ◌≤◌}
use Rattle.std.proofs.lemmas.Bool.{and_from, and_parts, cases_Bool, false≢true}
use Rattle.std.proofs.lemmas.Bool.Decides.{nat_tests}
use Rattle.iv_span.specs.Extent.{has}
use Rattle.seg_names.specs.Ids.{same_id}
use Rattle.seg_names.specs.declared.seg_id.SegId.{SegId}
use Rattle.book_rows.specs.Carried.{is_before, is_carried, is_seen_within, to_replace}
use Rattle.book_rows.specs.Contents.{alive, commit_of, is_put_from}
use Rattle.book_rows.specs.Lists.{In}
use Rattle.book_rows.specs.Sound.{Sound}
use Rattle.book_rows.specs.Visible.{stands_for}
use Rattle.book_rows.specs.declared.rows.Book.{Book}
use Rattle.book_rows.specs.declared.rows.PosseRow.{PosseRow}
use Rattle.book_rows.specs.declared.rows.SegmentRow.{SegmentRow}
use Rattle.laws_chunks.specs.Meaning.{IsAsAdded, IsCarried, IsShown}
use Rattle.laws_chunks.proofs.IdOrder.{in_order_In}
use Rattle.laws_chunks.proofs.Meanings.{carried_are_added, count_is_one}
use Rattle.laws_chunks.proofs.Members.{In-filter, In-map, filter_In, map_In}
use Rattle.laws_chunks.proofs.Spans.{same_id_from}
use Rattle.laws_shown.specs.Carrying.{IsToRead, ReadsInOrder, SoundReadsWhatWasThere, SoundSplitsContents}
use Rattle.laws_shown.specs.History.{IsPut}
use Rattle.laws_shown.specs.Tests.{IsSeen}
use Rattle.laws_shown.proofs.AddedPlaces.{commit_is, one_place}
use Rattle.laws_shown.proofs.Histories.{PutThat, distinct_adds, put_that, put_that_means, sound_shows_what_was_put}
use Rattle.laws_shown.proofs.InOrder.{in_order_back, in_order_links}
use Rattle.laws_shown.proofs.PrintedHistory.{stands_parts}
use Rattle.laws_shown.proofs.Testing.{seen_is_decided}

-- ---- what is read

is_before_from : (o : Option ℕ) (k since : ℕ) → o ≡ Some k → k < since → is_before o since ≡ true
is_before_from None k since e h = cc
is_before_from (Some j) k since e h = (let same : j ≡ k = cc in rw same (less k since h)) where
  less : (k since : ℕ) → k < since → nat_lt k since ≡ true
  less k since h = grind (arith, nat_tests)

is_before_means : (o : Option ℕ) (k since : ℕ) → o ≡ Some k → is_before o since ≡ true → k < since
is_before_means None k since e h = cc
is_before_means (Some j) k since e h = (let same : j ≡ k = cc in less k since (subst (λ (j : ℕ). nat_lt j since ≡ true) same h)) where
  less : (k since : ℕ) → nat_lt k since ≡ true → k < since
  less k since h = grind (arith, nat_tests)

module _ (b : Book) (sound : Sound b) (q : PosseRow) where
  -- a row that is carried stands for a root to read
  row_read : (root : SegId) (r : SegmentRow) → In r b.segments → is_carried b.segments b.publications q r ≡ true → root ≡ r.root → IsToRead b.publications q root
  row_read root r i h e =
      let one = and_parts (not r.tombstone && is_seen_within b.segments q.source q.span r) (is_before (commit_of b.publications r.root) q.since) h in
      let two = and_parts (not r.tombstone) (is_seen_within b.segments q.source q.span r) one.0 in
      read_at two.0 ((seen_is_decided b.segments q.source q.span r i).0 two.1) one.1 where
        stands : (t : ℤ) → not r.tombstone ≡ true → has r.root.span t ≡ true → stands_for root t r ≡ true
        stands t off h = and_from (not r.tombstone) (has root.span t && same_id r.root root) off (and_from (has root.span t) (same_id r.root root) (subst (λ (a : SegId). has a.span t ≡ true) (sym e) h) (same_id_from r.root root (sym e)))

        read_by : (t : ℤ) → has q.span t ≡ true → IsPut b.publications q.source t root → is_before (commit_of b.publications r.root) q.since ≡ true → IsToRead b.publications q root
        read_by t at w before = record {
          instant = t;
          in_span = at;
          put = w;
          before = is_before_means (commit_of b.publications root) w.place q.since (commit_is b.publications root w.place w.publication (distinct_adds b sound) w.at w.added) (subst (λ (a : SegId). is_before (commit_of b.publications a) q.since ≡ true) (sym e) before);
        }

        read_at : not r.tombstone ≡ true → IsSeen b.segments q.source q.span r → is_before (commit_of b.publications r.root) q.since ≡ true → IsToRead b.publications q root
        read_at off w before = read_by w.0 w.1 ((sound_shows_what_was_put b sound q.source w.0 root).put (r, i, w.2, stands w.0 off w.3)) before

  each_is_read : (root : SegId) → In root (to_replace b.segments b.publications q) → IsToRead b.publications q root
  each_is_read root i =
      let w = In-map (λ (r : SegmentRow). r.root) root (filter (is_carried b.segments b.publications q) b.segments) (in_order_back root (map (λ (r : SegmentRow). r.root) (filter (is_carried b.segments b.publications q) b.segments)) i) in
      let f = In-filter (is_carried b.segments b.publications q) w.0 b.segments w.1 in
      row_read root w.0 f.0 f.1 w.2

  read_is_there : (root : SegId) → IsToRead b.publications q root → In root (to_replace b.segments b.publications q)
  read_is_there root w = listed ((sound_shows_what_was_put b sound q.source w.instant root).shown_there w.put) where
    listed : IsShown b.segments q.source w.instant root → In root (to_replace b.segments b.publications q)
    listed r =
        let s = stands_parts b.segments q.source w.instant root r.0 r.3 in
        let seen = (seen_is_decided b.segments q.source q.span r.0 r.1).1 (w.instant, w.in_span, r.2, subst (λ (a : SegId). has a.span w.instant ≡ true) (sym s.2) s.1) in
        let before = is_before_from (commit_of b.publications root) w.put.place q.since (commit_is b.publications root w.put.place w.put.publication (distinct_adds b sound) w.put.at w.put.added) w.before in
        in_order_In root (map (λ (r : SegmentRow). r.root) (filter (is_carried b.segments b.publications q) b.segments))
        (subst (λ (a : SegId). In a (map (λ (r : SegmentRow). r.root) (filter (is_carried b.segments b.publications q) b.segments))) s.2
        (map_In (λ (r : SegmentRow). r.root) r.0 (filter (is_carried b.segments b.publications q) b.segments)
        (filter_In (is_carried b.segments b.publications q) r.0 b.segments r.1
        (and_from (not r.0.tombstone && is_seen_within b.segments q.source q.span r.0) (is_before (commit_of b.publications r.0.root) q.since)
        (and_from (not r.0.tombstone) (is_seen_within b.segments q.source q.span r.0) s.0 seen)
        (subst (λ (a : SegId). is_before (commit_of b.publications a) q.since ≡ true) (sym s.2) before)))))

pub sound_reads_what_was_there : SoundReadsWhatWasThere
sound_reads_what_was_there b sound q = record { each_is = each_is_read b sound q; has_each = read_is_there b sound q }

-- ---- in order

pub reads_in_order : ReadsInOrder
reads_in_order rows pubs q = in_order_links (map (λ (r : SegmentRow). r.root) (filter (is_carried rows pubs q) rows))

-- ---- what is read and what is carried

at_least : (k since : ℕ) → nat_lt k since ≡ false → nat_le since k ≡ true
at_least k since h = grind (arith, nat_tests)

less_is : (k since : ℕ) → nat_lt k since ≡ true → k < since
less_is k since h = grind (arith, nat_tests)

not_both : (k since : ℕ) → k < since → nat_le since k ≡ true → ⊥
not_both k since h e = false≢true (sym (off k since h) ∙ e) where
  off : (k since : ℕ) → k < since → nat_le since k ≡ false
  off k since h = grind (arith, nat_tests)

pub sound_splits_contents : SoundSplitsContents
sound_splits_contents b sound q valid kind t at uncovered root = record {
  none_lost = λ w. elim (cases_Bool (nat_lt w.place q.since)) [
    | inl low ↦ inl (read_is_there b sound q root (record { instant = t; in_span = at; put = w; before = less_is w.place q.since low }))
    | inr high ↦ inr (as_added.carried (put_that (λ k. nat_le q.since k) b.publications q.source t root w (at_least w.place q.since high)))
  ];
  none_twice = λ i w. twice (each_is_read b sound q root i) (since_put w);
  carried_is_there = λ w. (since_put w).put;
  carried_once = subst (λ (n : ℕ). n ≤ 1) (sym (sound.carried q t root valid kind at uncovered)) counted;
} where
  as_added : IsAsAdded b.upgrades b.publications q t root
  as_added = carried_are_added b.posses b.chunks b.upgrades b.publications sound.carried q t root valid kind at uncovered

  since_put : IsCarried b.upgrades q.number t root → PutThat (λ k. nat_le q.since k) b.publications q.source t root
  since_put w = put_that_means (λ k. nat_le q.since k) b.publications q.source t root (as_added.added w)

  twice : IsToRead b.publications q root → PutThat (λ k. nat_le q.since k) b.publications q.source t root → ⊥
  twice r w = not_both r.put.place q.since r.before
      (subst (λ (k : ℕ). nat_le q.since k ≡ true) (one_place b.publications root w.put.place r.put.place w.put.publication r.put.publication (distinct_adds b sound) w.put.at w.put.added r.put.at r.put.added) w.passes)

  counted : alive (λ k. nat_le q.since k) b.publications q.source t root ≤ 1
  counted = low (is_put_from 0 (λ k. nat_le q.since k) b.publications q.source t root) (alive (λ k. nat_le q.since k) b.publications q.source t root) (count_is_one (λ k. nat_le q.since k) b.publications q.source t root (distinct_adds b sound)) where
    low : (c : Bool) (n : ℕ) → n ≡ cond c 1 0 → n ≤ 1
    low true n e = omega (arith, e)
    low false n e = omega (arith, e)
