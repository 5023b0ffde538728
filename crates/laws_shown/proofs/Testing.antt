-- The finite tests decide the rules which speak of every instant.
use Rattle.std.proofs.Common.{Bool, List, ap, arith, false, inl, inr, map, nat_le, not, refl, suc, subst, sym, true, zero, ℕ, ℤ, ◌&&◌, ◌<◌, ◌==◌, ◌||◌, ◌∙◌, ◌≡◌}
use Rattle.std.proofs.lemmas.Bool.{and_from, and_parts, cases_Bool, false≢true, or_left, or_right}
use Rattle.std.proofs.lemmas.Bool.Decides.{Decides-eqb}
use Rattle.std.specs.List.{list_all}
use Rattle.std.specs.Ordering.{int_eq}
use Rattle.std.specs.Prelude.{bytes_eq}
use Rattle.iv_span.specs.Extent.{has}
use Rattle.seg_names.specs.Ids.{same_id}
use Rattle.seg_names.specs.declared.seg_id.SegId.{SegId}
use Rattle.book_rows.specs.Carried.{is_seen_within}
use Rattle.book_rows.specs.Contents.{alive}
use Rattle.book_rows.specs.Kinds.{same_kind}
use Rattle.book_rows.specs.Lists.{In, gathered}
use Rattle.book_rows.specs.Live.{IsValid, is_covered}
use Rattle.book_rows.specs.Publications.{spans_of}
use Rattle.book_rows.specs.Rules.{CarriesUpgrades, upgraded}
use Rattle.book_rows.specs.Shape.{all_adds}
use Rattle.book_rows.specs.Shown.{row_spans, used_rows}
use Rattle.book_rows.specs.Visible.{is_used_at, is_visible, shown, stands_for, tops}
use Rattle.book_rows.specs.declared.kinds.LockKind.{LockKind}
use Rattle.book_rows.specs.declared.rows.ChunkRow.{ChunkRow}
use Rattle.book_rows.specs.declared.rows.PosseRow.{PosseRow}
use Rattle.book_rows.specs.declared.rows.Publication.{Publication}
use Rattle.book_rows.specs.declared.rows.SegmentRow.{SegmentRow}
use Rattle.book_rows.specs.declared.rows.UpgradeRow.{UpgradeRow}
use Rattle.laws_chunks.proofs.Meanings.{count_means_put, count_pos}
use Rattle.laws_chunks.proofs.Members.{In-left, In-right, all_pass, count_alike, list_all_In, map_In}
use Rattle.laws_chunks.proofs.Spans.{same_id_means}
use Rattle.laws_chunks.proofs.VisibleRows.{used_is}
use Rattle.laws_shown.specs.Ends.{AreAlike, DependsWithin, ends_within}
use Rattle.laws_shown.specs.Tests.{CarriesIsDecided, IsSeen, SeenIsDecided, ShowsIsDecided, carries_upgrades, is_carried_as_added, is_replacing_lock, is_shown_as_put, lock_turning_spans, root_is_carried, root_is_shown, roots_of, shows_contents, sources_of, turning_spans, upgrade_roots}
use Rattle.laws_shown.proofs.Alike.{In-gathered, alive_same, any_alike, root_span_alike, shown_alike, source_alike, used_alike, visible_alike}
use Rattle.laws_shown.proofs.EndsDeciding.{ends_decide}
use Rattle.laws_shown.proofs.Histories.{IsPutAt, adds_parts, place_In, put_means}
use Rattle.book_rows.specs.declared.kinds.LockKind.TheVariants as LockKinds

-- numbers that are equal where one of them isn't 0 are equal
equal_where_some : (n m : ℕ) → (0 < n → n ≡ m) → (0 < m → n ≡ m) → n ≡ m
equal_where_some zero zero f g = refl
equal_where_some (suc n) m f g = f (omega arith)
equal_where_some zero (suc m) f g = g (omega arith)

-- a root that is counted is one that a publication of the source adds, whose span has the instant
counted_is_added : (pass : ℕ → Bool) (pubs : List Publication) (source : List ℕ) (t : ℤ) (root : SegId) → 0 < alive pass pubs source t root
    → (m : Publication) × In m pubs × (m.source ≡ source) × (has root.span t ≡ true) × In root m.adds
counted_is_added pass pubs source t root some = added (put_means pass source t root 0 pubs ((count_means_put pass pubs source t root).0 some)) where
  added : IsPutAt 0 pass pubs source t root → (m : Publication) × In m pubs × (m.source ≡ source) × (has root.span t ≡ true) × In root m.adds
  added w =
      let a = adds_parts source t root w.publication w.adds in
      (w.publication, place_In w.place pubs w.publication w.at, a.0, a.1, a.2)

in_all_adds : (pubs : List Publication) (m : Publication) (a : SegId) → In m pubs → In a m.adds → In a (all_adds pubs)
in_all_adds pubs m a i j = In-gathered (λ (m : Publication). m.adds) pubs m a i j

-- ---- what is shown

module _ (rows : List SegmentRow) (pubs : List Publication) where
  shown_depends : (source : List ℕ) (root : SegId) → DependsWithin root.span (turning_spans rows pubs) (is_shown_as_put rows pubs source root)
  shown_depends source root t u ht hu alike =
      ap (λ (n : ℕ). n == alive (λ k. true) pubs source t root)
      (shown_alike rows source t u (used_alike source rows t u (λ s i. alike s (In-left s (map (λ (r : SegmentRow). r.id.span) rows) (gathered spans_of pubs) i))) root (ht ∙ sym hu))
      ∙ ap (λ (n : ℕ). shown rows source u root == n)
      (alive_same (λ k. true) source t u root (ht ∙ sym hu) 0 pubs (λ s i. alike s (In-right s (map (λ (r : SegmentRow). r.id.span) rows) (gathered spans_of pubs) i)))

  at_known : shows_contents rows pubs ≡ true → (source : List ℕ) (t : ℤ) (root : SegId) → In source (sources_of rows pubs) → In root (roots_of rows pubs) → has root.span t ≡ true → shown rows source t root ≡ alive (λ k. true) pubs source t root
  at_known all source t root i j h =
      let of_source = list_all_In (λ source. list_all (root_is_shown rows pubs source) (roots_of rows pubs)) source (sources_of rows pubs) i all in
      let of_root = list_all_In (root_is_shown rows pubs source) root (roots_of rows pubs) j of_source in
      (Decides-eqb (shown rows source t root) (alive (λ k. true) pubs source t root)).0 ((ends_decide root.span (turning_spans rows pubs) (is_shown_as_put rows pubs source root) (shown_depends source root)).throughout.0 of_root t h)

  where_shown : shows_contents rows pubs ≡ true → (source : List ℕ) (t : ℤ) (root : SegId) → 0 < shown rows source t root → shown rows source t root ≡ alive (λ k. true) pubs source t root
  where_shown all source t root some =
      let w = count_pos (λ r. is_visible rows source t r && stands_for root t r) rows some in
      let both = and_parts (is_visible rows source t w.0) (stands_for root t w.0) w.2 in
      let used = used_is source t w.0 (and_parts (is_used_at source t w.0) (tops rows source t w.0) both.0).0 in
      let stands = and_parts (not w.0.tombstone) (has root.span t && same_id w.0.root root) both.1 in
      let root_there = and_parts (has root.span t) (same_id w.0.root root) stands.1 in
      at_known all source t root
      (In-left source (map (λ (r : SegmentRow). r.id.source) rows) (map (λ (m : Publication). m.source) pubs) (subst (λ (q : List ℕ). In q (map (λ (r : SegmentRow). r.id.source) rows)) used.1.source_is (map_In (λ (r : SegmentRow). r.id.source) w.0 rows w.1)))
      (In-left root (map (λ (r : SegmentRow). r.root) rows) (all_adds pubs) (subst (λ (a : SegId). In a (map (λ (r : SegmentRow). r.root) rows)) (same_id_means w.0.root root root_there.1) (map_In (λ (r : SegmentRow). r.root) w.0 rows w.1)))
      root_there.0

  where_put : shows_contents rows pubs ≡ true → (source : List ℕ) (t : ℤ) (root : SegId) → 0 < alive (λ k. true) pubs source t root → shown rows source t root ≡ alive (λ k. true) pubs source t root
  where_put all source t root some =
      let w = counted_is_added (λ k. true) pubs source t root some in
      at_known all source t root
      (In-right source (map (λ (r : SegmentRow). r.id.source) rows) (map (λ (m : Publication). m.source) pubs) (subst (λ (q : List ℕ). In q (map (λ (m : Publication). m.source) pubs)) w.2 (map_In (λ (m : Publication). m.source) w.0 pubs w.1)))
      (In-right root (map (λ (r : SegmentRow). r.root) rows) (all_adds pubs) (in_all_adds pubs w.0 root w.1 w.4))
      w.3

pub shows_is_decided : ShowsIsDecided
shows_is_decided rows pubs = (
  λ all source t root. equal_where_some (shown rows source t root) (alive (λ k. true) pubs source t root) (where_shown rows pubs all source t root) (where_put rows pubs all source t root),
  λ shows. all_pass (λ source. list_all (root_is_shown rows pubs source) (roots_of rows pubs)) (sources_of rows pubs)
      (λ source i. all_pass (root_is_shown rows pubs source) (roots_of rows pubs)
      (λ root j. all_pass (is_shown_as_put rows pubs source root) (ends_within root.span (turning_spans rows pubs))
      (λ t k. (Decides-eqb (shown rows source t root) (alive (λ k. true) pubs source t root)).1 (shows source t root)))),
)

-- ---- what a replacement has to carry

pub replaces : (k : LockKind) → same_kind k LockKinds.Replace ≡ true → k ≡ LockKinds.Replace
replaces LockKinds.Exclusive h = absurd (false≢true h)
replaces LockKinds.Shared h = absurd (false≢true h)
replaces LockKinds.Append h = absurd (false≢true h)
replaces LockKinds.Replace h = refl

pub is_on : (b : Bool) → not b ≡ true → b ≡ false
is_on true h = absurd (false≢true h)
is_on false h = refl

or_on : (a b : Bool) → (a || b) ≡ true → a ≡ false → b ≡ true
or_on true b h e = absurd (false≢true (sym e))
or_on false b h e = h

module _ (qs : List PosseRow) (cs : List ChunkRow) (us : List UpgradeRow) (pubs : List Publication) where
  covered_alike : (q : PosseRow) (t u : ℤ) → AreAlike (map (λ c. c.span) cs) t u → is_covered cs q t ≡ is_covered cs q u
  covered_alike q t u alike = any_alike (λ c. bytes_eq c.source q.source && int_eq c.version q.version && has c.span t) (λ c. bytes_eq c.source q.source && int_eq c.version q.version && has c.span u) cs
      (λ c i. ap (λ (b : Bool). (bytes_eq c.source q.source && int_eq c.version q.version) && b) (alike c.span (map_In (λ (c : ChunkRow). c.span) c cs i)))

  upgraded_alike : (number : ℕ) (root : SegId) (t u : ℤ) → has root.span t ≡ has root.span u → upgraded us number t root ≡ upgraded us number u root
  upgraded_alike number root t u same = count_alike (λ x. (x.posse == number) && (has root.span t && same_id x.root root)) (λ x. (x.posse == number) && (has root.span u && same_id x.root root)) us
      (λ x i. ap (λ (b : Bool). (x.posse == number) && (b && same_id x.root root)) same)

  carried_depends : (q : PosseRow) (root : SegId) → DependsWithin q.span (lock_turning_spans cs pubs root) (is_carried_as_added cs us pubs q root)
  carried_depends q root t u ht hu alike =
      ap (λ (b : Bool). b || (upgraded us q.number t root == alive (λ k. nat_le q.since k) pubs q.source t root)) (covered_alike q t u (λ s i. alike s (inr (In-left s (map (λ (c : ChunkRow). c.span) cs) (gathered spans_of pubs) i))))
      ∙ ap (λ (n : ℕ). is_covered cs q u || (n == alive (λ k. nat_le q.since k) pubs q.source t root)) (upgraded_alike q.number root t u (alike root.span (inl refl)))
      ∙ ap (λ (n : ℕ). is_covered cs q u || (upgraded us q.number u root == n))
      (alive_same (λ k. nat_le q.since k) q.source t u root (alike root.span (inl refl)) 0 pubs (λ s i. alike s (inr (In-right s (map (λ (c : ChunkRow). c.span) cs) (gathered spans_of pubs) i))))

  at_lock : carries_upgrades qs cs us pubs ≡ true → (q : PosseRow) (t : ℤ) (root : SegId) → IsValid qs q → q.lock_kind ≡ LockKinds.Replace → has q.span t ≡ true → is_covered cs q t ≡ false → In root (upgrade_roots us pubs)
      → upgraded us q.number t root ≡ alive (λ k. nat_le q.since k) pubs q.source t root
  at_lock all q t root v kind h uncovered i =
      let of_lock = or_on (not (is_replacing_lock q)) (list_all (root_is_carried cs us pubs q) (upgrade_roots us pubs)) (list_all_In (λ q. not (is_replacing_lock q) || list_all (root_is_carried cs us pubs q) (upgrade_roots us pubs)) q qs v.among all) (ap not replacing) in
      let of_root = list_all_In (root_is_carried cs us pubs q) root (upgrade_roots us pubs) i of_lock in
      let here = (ends_decide q.span (lock_turning_spans cs pubs root) (is_carried_as_added cs us pubs q root) (carried_depends q root)).throughout.0 of_root t h in
      (Decides-eqb (upgraded us q.number t root) (alive (λ k. nat_le q.since k) pubs q.source t root)).0 (or_on (is_covered cs q t) (upgraded us q.number t root == alive (λ k. nat_le q.since k) pubs q.source t root) here uncovered) where
        replacing : is_replacing_lock q ≡ true
        replacing = and_from (not q.revoked) (same_kind q.lock_kind LockKinds.Replace) (ap not v.valid) (rw kind refl)

  where_upgraded : carries_upgrades qs cs us pubs ≡ true → (q : PosseRow) (t : ℤ) (root : SegId) → IsValid qs q → q.lock_kind ≡ LockKinds.Replace → has q.span t ≡ true → is_covered cs q t ≡ false → 0 < upgraded us q.number t root
      → upgraded us q.number t root ≡ alive (λ k. nat_le q.since k) pubs q.source t root
  where_upgraded all q t root v kind h uncovered some =
      let w = count_pos (λ x. (x.posse == q.number) && (has root.span t && same_id x.root root)) us some in
      let root_is = (and_parts (has root.span t) (same_id w.0.root root) (and_parts (w.0.posse == q.number) (has root.span t && same_id w.0.root root) w.2).1).1 in
      at_lock all q t root v kind h uncovered
      (In-left root (map (λ (x : UpgradeRow). x.root) us) (all_adds pubs) (subst (λ (a : SegId). In a (map (λ (x : UpgradeRow). x.root) us)) (same_id_means w.0.root root root_is) (map_In (λ (x : UpgradeRow). x.root) w.0 us w.1)))

  where_added : carries_upgrades qs cs us pubs ≡ true → (q : PosseRow) (t : ℤ) (root : SegId) → IsValid qs q → q.lock_kind ≡ LockKinds.Replace → has q.span t ≡ true → is_covered cs q t ≡ false → 0 < alive (λ k. nat_le q.since k) pubs q.source t root
      → upgraded us q.number t root ≡ alive (λ k. nat_le q.since k) pubs q.source t root
  where_added all q t root v kind h uncovered some =
      let w = counted_is_added (λ k. nat_le q.since k) pubs q.source t root some in
      at_lock all q t root v kind h uncovered (In-right root (map (λ (x : UpgradeRow). x.root) us) (all_adds pubs) (in_all_adds pubs w.0 root w.1 w.4))

  carried_passes : CarriesUpgrades qs cs us pubs → (q : PosseRow) → In q qs → is_replacing_lock q ≡ true → (root : SegId) (t : ℤ) → has q.span t ≡ true → is_carried_as_added cs us pubs q root t ≡ true
  carried_passes carries q i on root t h = elim (cases_Bool (is_covered cs q t)) [
    | inl covered ↦ or_left (is_covered cs q t) (upgraded us q.number t root == alive (λ k. nat_le q.since k) pubs q.source t root) covered
    | inr off ↦ or_right (is_covered cs q t) (upgraded us q.number t root == alive (λ k. nat_le q.since k) pubs q.source t root)
        ((Decides-eqb (upgraded us q.number t root) (alive (λ k. nat_le q.since k) pubs q.source t root)).1 (carries q t root (record { among = i; valid = is_on q.revoked both.0 }) (replaces q.lock_kind both.1) h off))
  ] where
    both : (not q.revoked ≡ true) × (same_kind q.lock_kind LockKinds.Replace ≡ true)
    both = and_parts (not q.revoked) (same_kind q.lock_kind LockKinds.Replace) on

pub carries_is_decided : CarriesIsDecided
carries_is_decided qs cs us pubs = (
  λ all q t root v kind h uncovered. equal_where_some (upgraded us q.number t root) (alive (λ k. nat_le q.since k) pubs q.source t root) (where_upgraded qs cs us pubs all q t root v kind h uncovered) (where_added qs cs us pubs all q t root v kind h uncovered),
  λ carries. all_pass (λ q. not (is_replacing_lock q) || list_all (root_is_carried cs us pubs q) (upgrade_roots us pubs)) qs (λ q i. elim (cases_Bool (is_replacing_lock q)) [
    | inr off ↦ or_left (not (is_replacing_lock q)) (list_all (root_is_carried cs us pubs q) (upgrade_roots us pubs)) (ap not off)
    | inl on ↦ or_right (not (is_replacing_lock q)) (list_all (root_is_carried cs us pubs q) (upgrade_roots us pubs)) (all_pass (root_is_carried cs us pubs q) (upgrade_roots us pubs) (λ root j. (ends_decide q.span (lock_turning_spans cs pubs root) (is_carried_as_added cs us pubs q root) (carried_depends qs cs us pubs q root)).throughout.1 (carried_passes qs cs us pubs carries q i on root)))
  ]),
)

-- ---- what a replacement has to read

pub seen_is_decided : SeenIsDecided
seen_is_decided rows source span r i = (λ h. seen (decided.0 h), λ w. decided.1 (w.0, w.1, and_from (is_visible rows source w.0 r) (has r.root.span w.0) w.2 w.3)) where
  unseen : (t u : ℤ) → (r.used && bytes_eq r.id.source source) ≡ false → (is_visible rows source t r && has r.root.span t) ≡ (is_visible rows source u r && has r.root.span u)
  unseen t u off = rw (off) refl

  depends : DependsWithin span (row_spans (used_rows rows source)) (λ t. is_visible rows source t r && has r.root.span t)
  depends t u ht hu alike = elim (cases_Bool (r.used && bytes_eq r.id.source source)) [
    | inr off ↦ unseen t u off
    | inl on ↦ ap (λ (b : Bool). b && has r.root.span t) (visible_alike rows source t u (source_alike rows source t u alike) r i) ∙ ap (λ (b : Bool). is_visible rows source u r && b) (root_span_alike rows source t u alike r i on)
  ]

  decided : (is_seen_within rows source span r ≡ true → (t : ℤ) × (has span t ≡ true) × ((is_visible rows source t r && has r.root.span t) ≡ true)) × ((t : ℤ) × (has span t ≡ true) × ((is_visible rows source t r && has r.root.span t) ≡ true) → is_seen_within rows source span r ≡ true)
  decided = (ends_decide span (row_spans (used_rows rows source)) (λ t. is_visible rows source t r && has r.root.span t) depends).somewhere

  seen : (t : ℤ) × (has span t ≡ true) × ((is_visible rows source t r && has r.root.span t) ≡ true) → IsSeen rows source span r
  seen w = let both = and_parts (is_visible rows source w.0 r) (has r.root.span w.0) w.2 in (w.0, w.1, both.0, both.1)
