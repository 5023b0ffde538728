-- What is shown after an insert or a replacement of one span.
use Rattle.std.proofs.Common.{Bool, List, [], arith, cond, false, filter, inl, inr, length, map, nat_le, nat_lt, not, refl, subst, sym, true, ℕ, ℤ, ◌&&◌, ◌++◌, ◌+◌, ◌==◌, ◌∙◌, ◌∷◌, ◌≡◌}
use Rattle.std.proofs.Math.Bool.{or-false}
use Rattle.std.proofs.lemmas.Bool.{and_parts, and_right, cases_Bool, or_right}
use Rattle.std.proofs.lemmas.Bool.Decides.{Decides-eqb, nat_tests}
use Rattle.std.proofs.lemmas.List.Folds.{list_any-append}
use Rattle.std.proofs.lemmas.Slice.Eq.{bytes_eq-Decides}
use Rattle.std.specs.List.{list_any}
use Rattle.std.specs.Prelude.{bytes_eq}
use Rattle.iv_span.specs.Extent.{Extent, covers, has, overlap}
use Rattle.seg_names.specs.Ids.{same_id}
use Rattle.seg_names.specs.declared.seg_id.SegId.{SegId}
use Rattle.book_rows.specs.Contents.{alive, alive_from, takes, takes_by}
use Rattle.book_rows.specs.Lists.{In, count}
use Rattle.book_rows.specs.Live.{IsOf, IsValid, is_covered}
use Rattle.book_rows.specs.Rewrite.{is_taken_up, own_row, tomb_row, upgrade_copy}
use Rattle.book_rows.specs.Rules.{CarriesUpgrades, ShowsContents, upgraded}
use Rattle.book_rows.specs.Visible.{stands_for}
use Rattle.book_rows.specs.declared.kinds.PubKind.{PubKind}
use Rattle.book_rows.specs.declared.rows.ChunkRow.{ChunkRow}
use Rattle.book_rows.specs.declared.rows.PendingRow.{PendingRow}
use Rattle.book_rows.specs.declared.rows.PosseRow.{PosseRow}
use Rattle.book_rows.specs.declared.rows.Publication.{Publication}
use Rattle.book_rows.specs.declared.rows.SegmentRow.{SegmentRow}
use Rattle.book_rows.specs.declared.rows.SpanSince.{SpanSince}
use Rattle.book_rows.specs.declared.rows.UpgradeRow.{UpgradeRow}
use Rattle.laws_chunks.proofs.ChangeFacts.{IsAbove}
use Rattle.laws_chunks.proofs.Alive.{alive_alike, alive_none, alive_push}
use Rattle.laws_chunks.proofs.GrownPublications.{alive_off, no_span, puts_new, puts_none}
use Rattle.laws_chunks.proofs.LaidRows.{laid_rows, upgrade_copies}
use Rattle.laws_chunks.proofs.Members.{In-append, In-left, In-map, count-append, count-filter, count_alike, count_map, count_none, none_from_In}
use Rattle.laws_chunks.proofs.NumberedRows.{count_numbered, numbered_all}
use Rattle.laws_chunks.proofs.Spans.{has_wider, meet, same_id_means}
use Rattle.laws_chunks.proofs.VisibleRows.{shows_laid}
use Rattle.laws_chunks.specs.Growing.{IsApart, grown}
use Rattle.book_rows.specs.declared.kinds.LockKind.TheVariants as LockKinds
use Rattle.book_rows.specs.declared.kinds.PubKind.TheVariants as PubKinds

-- ---- the rows of the new chunk

pub count_own : (k : ℕ) (ids tombs : List SegId) (t : ℤ) (root : SegId) → count (stands_for root t) (laid_rows k ids tombs) ≡ cond (has root.span t) (count (λ a. same_id a root) ids) 0
count_own k ids tombs t root =
    count-append (stands_for root t) (map (own_row k) ids) (map (tomb_row k) tombs)
    ∙ rw (
      count_map (stands_for root t) (tomb_row k) tombs,
      count_none (λ (a : SegId). stands_for root t (tomb_row k a)) tombs (λ a i. refl),
      count_map (stands_for root t) (own_row k) ids,
    )
    (elim (cases_Bool (has root.span t)) [
      | inl on ↦ rw on (omega arith)
      | inr off ↦ rw (off, count_none (λ (a : SegId). false) ids (λ a i. refl)) refl
    ])

not_below : (j n : ℕ) → not (nat_lt j n) ≡ nat_le n j
not_below j n = grind (arith, nat_tests)

-- spans that don't have the instant take nothing there
takes_none : (kind : PubKind) (spans : List SpanSince) (t : ℤ) (j : ℕ) → ((x : SpanSince) → In x spans → has x.span t ≡ false) → takes_by kind spans t j ≡ false
takes_none PubKinds.Append spans t j h = refl
takes_none PubKinds.Over spans t j h = none_from_In (λ s. has s.span t) spans h
takes_none PubKinds.Replace spans t j h = none_from_In (λ s. has s.span t && nat_lt j s.since) spans (λ x i. rw (h x i) refl)
takes_none PubKinds.Drop spans t j h = none_from_In (λ s. has s.span t) spans h
takes_none PubKinds.Reset spans t j h = refl

takes_over : (kind : PubKind) (spans : List SpanSince) (x : SpanSince) (t : ℤ) (j : ℕ) → kind ≡ PubKinds.Over → has x.span t ≡ true → takes_by kind (spans ++ x ∷ []) t j ≡ true
takes_over kind spans x t j is on = rw (is, list_any-append (λ s. has s.span t) spans (x ∷ []), on) (or_right (list_any (λ s. has s.span t) spans) true refl)

takes_since : (kind : PubKind) (spans : List SpanSince) (x : SpanSince) (t : ℤ) (j : ℕ) → kind ≡ PubKinds.Replace → has x.span t ≡ true → ((x : SpanSince) → In x spans → has x.span t ≡ false) → takes_by kind (spans ++ x ∷ []) t j ≡ nat_lt j x.since
takes_since kind spans x t j is on h = rw (is, list_any-append (λ s. has s.span t && nat_lt j s.since) spans (x ∷ []), none_from_In (λ s. has s.span t && nat_lt j s.since) spans (λ x i. rw (h x i) refl), on) (or-false (nat_lt j x.since))

-- ---- one span of an insert or a replacement

module _ (ms : List Publication) (m : Publication) (s : Extent) (v : ℤ) (since k : ℕ) (ids tombs : List SegId)
    (of : (a : SegId) → In a ids → IsOf m.source s v a) (of_tombs : (a : SegId) → In a tombs → IsOf m.source s v a) (apart : IsApart s m) where
  spans_of : (a : SegId) → In a ids → a.span ≡ s
  spans_of a i = (of a i).span_is

  after : Publication
  after = grown ids (record { span = s; since = since } ∷ []) tombs m

  own_of : (n : SegmentRow) → In n (laid_rows k ids tombs) → (n.used ≡ true) × IsOf m.source s v n.id
  own_of n i = elim (In-append n (map (own_row k) ids) (map (tomb_row k) tombs) i) [
    | inl j ↦ let w = In-map (own_row k) n ids j in subst (λ (n : SegmentRow). (n.used ≡ true) × IsOf m.source s v n.id) (sym w.2) (refl, of w.0 w.1)
    | inr j ↦ let w = In-map (tomb_row k) n tombs j in subst (λ (n : SegmentRow). (n.used ≡ true) × IsOf m.source s v n.id) (sym w.2) (refl, of_tombs w.0 w.1)
  ]

  -- an insert takes all away within the span
  over_inside : m.kind ≡ PubKinds.Over → (t : ℤ) (root : SegId) → has s t ≡ true → count (stands_for root t) (laid_rows k ids tombs) ≡ alive (λ j. true) (ms ++ grown ids (record { span = s; since = since } ∷ []) tombs m ∷ []) m.source t root
  over_inside over t root e =
      count_own k ids tombs t root
      ∙ sym (alive_push m.source t root 0 (λ j. true) ms (grown ids (record { span = s; since = since } ∷ []) tombs m)
      ∙ rw (
        alive_none m.source t root 0 (λ j. not (takes m.source t (grown ids (record { span = s; since = since } ∷ []) tombs m) j)) ms
            (λ j lt. rw ((bytes_eq-Decides m.source m.source).1 refl, takes_over m.kind m.spans (record { span = s; since = since }) t j over e) refl),
        puts_new (λ j. true) ms m s since ids tombs spans_of t e apart root,
      ) (omega arith))

  pub shows_insert : (rows : List SegmentRow) (ps : List PendingRow) (first : SegmentRow) → In first (laid_rows k ids tombs) → m.kind ≡ PubKinds.Over → IsAbove rows ps m.source s v → ShowsContents rows (ms ++ m ∷ [])
      → ShowsContents (rows ++ laid_rows k ids tombs) (ms ++ grown ids (record { span = s; since = since } ∷ []) tombs m ∷ [])
  shows_insert rows ps first there over above shows =
      shows_laid m.source s v rows (laid_rows k ids tombs) first there own_of
      (λ r i u source o. above r.id (inl (r, i, u, refl)) source o)
      (ms ++ m ∷ []) (ms ++ grown ids (record { span = s; since = since } ∷ []) tombs m ∷ []) shows
      (λ p t root off. alive_off (λ j. true) ms m s since ids tombs spans_of p t root off)
      (over_inside over)

  -- ---- a replacement

  module _ (d : ChunkRow) (source_is : d.source ≡ m.source) (span_is : d.span ≡ s) (version_is : d.version ≡ v) (qs : List PosseRow) (cs : List ChunkRow) (us : List UpgradeRow) (q : PosseRow) (valid : IsValid qs q) (kind : q.lock_kind ≡ LockKinds.Replace)
      (from : q.source ≡ m.source) (was : q.since ≡ since) (within : covers q.span s ≡ true)
      (free : (t : ℤ) → has s t ≡ true → is_covered cs q t ≡ false)
      (whole : (u : UpgradeRow) → In u us → u.posse ≡ q.number → overlap u.root.span s ≡ true → covers s u.root.span ≡ true) where
    -- each upgrade root at an instant of the span has one copy
    copies_shown : (t : ℤ) (root : SegId) → has s t ≡ true → count (stands_for root t) (upgrade_copies d k q.number us) ≡ upgraded us q.number t root
    copies_shown t root e =
        count_numbered (stands_for root t) (λ u. has root.span t && same_id u.root root) (upgrade_copy d.source d.span d.version k) (λ i u. refl) d.core (filter (is_taken_up q.number d.span) us)
        ∙ count-filter (λ u. has root.span t && same_id u.root root) (is_taken_up q.number d.span) us
        ∙ count_alike (λ u. is_taken_up q.number d.span u && (has root.span t && same_id u.root root)) (λ u. (u.posse == q.number) && (has root.span t && same_id u.root root)) us
        (λ u i. implied (u.posse == q.number) (covers d.span u.root.span) (has root.span t && same_id u.root root)
        (λ posse stands.
        let root_at = and_parts (has root.span t) (same_id u.root root) stands in
        let here : has u.root.span t ≡ true = rw (same_id_means u.root root root_at.1) root_at.0 in
        rw span_is (whole u i ((Decides-eqb _ _).0 posse) (meet u.root.span s t here e)))) where
          implied : (a b c : Bool) → (a ≡ true → c ≡ true → b ≡ true) → ((a && b) && c) ≡ (a && c)
          implied true true c f = refl
          implied true false true f = f refl refl
          implied true false false f = refl
          implied false b c f = refl

    replace_inside : m.kind ≡ PubKinds.Replace → CarriesUpgrades qs cs us (ms ++ m ∷ []) → (t : ℤ) (root : SegId) → has s t ≡ true
        → count (stands_for root t) (laid_rows k ids tombs ++ upgrade_copies d k q.number us) ≡ alive (λ j. true) (ms ++ grown ids (record { span = s; since = since } ∷ []) tombs m ∷ []) m.source t root
    replace_inside replaces carries t root e =
        count-append (stands_for root t) (laid_rows k ids tombs) (upgrade_copies d k q.number us)
        ∙ rw (count_own k ids tombs t root, copies_shown t root e, carried)
        (omega (arith, parts)) where
          none : (x : SpanSince) → In x m.spans → has x.span t ≡ false
          none x i = no_span (λ j. true) ms m s since ids tombs spans_of t e apart x i

          -- by what was carried, the upgrade roots are what stays
          carried : upgraded us q.number t root ≡ alive_from 0 (λ j. nat_le since j) ms m.source t root
          carried =
              carries q t root valid kind (has_wider q.span s t within e) (free t e)
              ∙ rw (
                from,
                was,
                alive_push m.source t root 0 (λ j. nat_le since j) ms m,
                alive_alike m.source t root 0 (λ j. nat_le since j && not (takes m.source t m j)) (λ j. nat_le since j)
                    (λ j. rw (takes_none m.kind m.spans t j none, and_right (bytes_eq m.source m.source) false refl) (and_one (nat_le since j))) ms,
                puts_none (λ j. true) ms m s since ids tombs spans_of t e apart root,
              )
              (either (nat_le since (0 + length ms)) (alive_from 0 (λ j. nat_le since j) ms m.source t root)) where
                and_one : (b : Bool) → (b && true) ≡ b
                and_one true = refl
                and_one false = refl

                either : (b : Bool) (n : ℕ) → n + cond b 0 0 ≡ n
                either true n = omega arith
                either false n = omega arith

          parts : alive (λ j. true) (ms ++ grown ids (record { span = s; since = since } ∷ []) tombs m ∷ []) m.source t root ≡ alive_from 0 (λ j. nat_le since j) ms m.source t root + cond (has root.span t) (count (λ a. same_id a root) ids) 0
          parts =
              alive_push m.source t root 0 (λ j. true) ms (grown ids (record { span = s; since = since } ∷ []) tombs m)
              ∙ rw (
                alive_alike m.source t root 0 (λ j. not (takes m.source t (grown ids (record { span = s; since = since } ∷ []) tombs m) j)) (λ j. nat_le since j)
                    (λ j. rw ((bytes_eq-Decides m.source m.source).1 refl, takes_since m.kind m.spans (record { span = s; since = since }) t j replaces e none) (not_below j since)) ms,
                puts_new (λ j. true) ms m s since ids tombs spans_of t e apart root,
              ) refl

    news_of : (n : SegmentRow) → In n (laid_rows k ids tombs ++ upgrade_copies d k q.number us) → (n.used ≡ true) × IsOf m.source s v n.id
    news_of n i = elim (In-append n (laid_rows k ids tombs) (upgrade_copies d k q.number us) i) [
      | inl j ↦ own_of n j
      | inr j ↦ numbered_all (λ (n : SegmentRow). (n.used ≡ true) × IsOf m.source s v n.id) (upgrade_copy d.source d.span d.version k) (λ i u. (refl, record { source_is = source_is; span_is = span_is; version_is = version_is })) d.core (filter (is_taken_up q.number d.span) us) n j
    ]

    pub shows_replace : (rows : List SegmentRow) (ps : List PendingRow) (first : SegmentRow) → In first (laid_rows k ids tombs) → m.kind ≡ PubKinds.Replace → IsAbove rows ps m.source s v → CarriesUpgrades qs cs us (ms ++ m ∷ []) → ShowsContents rows (ms ++ m ∷ [])
        → ShowsContents (rows ++ (laid_rows k ids tombs ++ upgrade_copies d k q.number us)) (ms ++ grown ids (record { span = s; since = since } ∷ []) tombs m ∷ [])
    shows_replace rows ps first there replaces above carries shows =
        shows_laid m.source s v rows (laid_rows k ids tombs ++ upgrade_copies d k q.number us) first (In-left first (laid_rows k ids tombs) _ there) news_of
        (λ r i u source o. above r.id (inl (r, i, u, refl)) source o)
        (ms ++ m ∷ []) (ms ++ grown ids (record { span = s; since = since } ∷ []) tombs m ∷ []) shows
        (λ p t root off. alive_off (λ j. true) ms m s since ids tombs spans_of p t root off)
        (replace_inside replaces carries)
