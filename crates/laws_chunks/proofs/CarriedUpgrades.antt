-- What upgrade rows carry after a span is covered or dropped, and what a drop shows.
use Rattle.std.proofs.Common.{Bool, List, [], ap, arith, cond, false, inl, inr, length, map, nat_le, not, refl, sym, true, ℕ, ℤ, ◌&&◌, ◌++◌, ◌+◌, ◌==◌, ◌||◌, ◌∙◌, ◌∷◌, ◌≡◌}
use Rattle.std.proofs.lemmas.Bool.{and_from, and_parts, and_right, cases_Bool, false≢true}
use Rattle.std.proofs.lemmas.Bool.Decides.{Decides-eqb, Decides-int_eq}
use Rattle.std.proofs.lemmas.List.Folds.{list_any-append}
use Rattle.std.proofs.lemmas.Slice.Eq.{bytes_eq-Decides}
use Rattle.std.specs.Ordering.{int_eq}
use Rattle.std.specs.Prelude.{bytes_eq}
use Rattle.iv_span.specs.Extent.{Extent, covers, has}
use Rattle.seg_names.specs.Ids.{same_id}
use Rattle.seg_names.specs.declared.seg_id.SegId.{SegId}
use Rattle.book_rows.specs.Contents.{alive, puts, takes}
use Rattle.book_rows.specs.Lists.{In}
use Rattle.book_rows.specs.Live.{IsValid, is_covered}
use Rattle.book_rows.specs.Locks.{HasDistinctNumbers}
use Rattle.book_rows.specs.Publications.{drop_publication}
use Rattle.book_rows.specs.Rewrite.{is_taken_up, unused}
use Rattle.book_rows.specs.Rules.{AreCompatible, CarriesUpgrades, ShowsContents, upgraded}
use Rattle.book_rows.specs.declared.rows.ChunkRow.{ChunkRow}
use Rattle.book_rows.specs.declared.rows.PosseRow.{PosseRow}
use Rattle.book_rows.specs.declared.rows.Publication.{Publication}
use Rattle.book_rows.specs.declared.rows.SegmentRow.{SegmentRow}
use Rattle.book_rows.specs.declared.rows.UpgradeRow.{UpgradeRow}
use Rattle.laws_chunks.proofs.Alive.{alive_alike, alive_none, alive_push}
use Rattle.laws_chunks.proofs.GrownPublications.{alive_off}
use Rattle.laws_chunks.proofs.LockFacts.{beside_exclusive, beside_replace, one_number}
use Rattle.laws_chunks.proofs.Members.{In-right, any_from_In, count_kept}
use Rattle.laws_chunks.proofs.Spans.{has_wider, meet, same_id_means}
use Rattle.laws_chunks.proofs.VisibleRows.{shows_dropped}
use Rattle.laws_chunks.specs.Covering.{upgrades_left}
use Rattle.laws_chunks.specs.Dropping.{IsFree}
use Rattle.laws_chunks.specs.Growing.{grown}
use Rattle.book_rows.specs.declared.kinds.LockKind.TheVariants as LockKinds

left_off : (a b : Bool) → (a || b) ≡ false → a ≡ false
left_off a b e = grind arith

covered_before : (cs : List ChunkRow) (d : ChunkRow) (q : PosseRow) (t : ℤ) → is_covered (cs ++ d ∷ []) q t ≡ false → is_covered cs q t ≡ false
covered_before cs d q t off = left_off _ _ (sym (list_any-append (λ c. bytes_eq c.source q.source && int_eq c.version q.version && has c.span t) cs (d ∷ [])) ∙ off)

pub covered_by : (cs : List ChunkRow) (d : ChunkRow) (q : PosseRow) (t : ℤ) → In d cs → d.source ≡ q.source → d.version ≡ q.version → has d.span t ≡ true → is_covered cs q t ≡ true
covered_by cs d q t i a b e = any_from_In (λ c. bytes_eq c.source q.source && int_eq c.version q.version && has c.span t) d cs i (and_from _ _ (and_from _ _ ((bytes_eq-Decides d.source q.source).1 a) ((Decides-int_eq d.version q.version).1 b)) e)

-- ---- one span more, with its chunk

module _ (ms : List Publication) (m : Publication) (s : Extent) (since : ℕ) (ids tombs : List SegId) (of : (a : SegId) → In a ids → a.span ≡ s)
    (qs : List PosseRow) (cs : List ChunkRow) (us : List UpgradeRow) (d : ChunkRow) (carries : CarriesUpgrades qs cs us (ms ++ m ∷ [])) where
  laid_carries : (after : List UpgradeRow)
      → ((q : PosseRow) (t : ℤ) → IsValid qs q → q.lock_kind ≡ LockKinds.Replace → q.source ≡ m.source → has q.span t ≡ true → has s t ≡ true → is_covered (cs ++ d ∷ []) q t ≡ true)
      → ((q : PosseRow) (t : ℤ) (root : SegId) → IsValid qs q → q.lock_kind ≡ LockKinds.Replace → (bytes_eq m.source q.source && has s t) ≡ false → upgraded after q.number t root ≡ upgraded us q.number t root)
      → CarriesUpgrades qs (cs ++ d ∷ []) after (ms ++ grown ids (record { span = s; since = since } ∷ []) tombs m ∷ [])
  laid_carries after covered same q t root v kind at uncovered = elim (cases_Bool (bytes_eq m.source q.source && has s t)) [
    | inl on ↦
        let both = and_parts (bytes_eq m.source q.source) (has s t) on in
        absurd (false≢true (sym uncovered ∙ covered q t v kind (sym ((bytes_eq-Decides m.source q.source).0 both.0)) at both.1))
    | inr off ↦ same q t root v kind off ∙ carries q t root v kind at (covered_before cs d q t uncovered) ∙ sym (alive_off (λ k. nat_le q.since k) ms m s since ids tombs of q.source t root off)
  ]

  -- an insert: no replacing lock has an instant of an exclusive one
  pub insert_carries : AreCompatible qs → (p : PosseRow) → IsValid qs p → p.lock_kind ≡ LockKinds.Exclusive → p.source ≡ m.source → covers p.span s ≡ true
      → CarriesUpgrades qs (cs ++ d ∷ []) us (ms ++ grown ids (record { span = s; since = since } ∷ []) tombs m ∷ [])
  insert_carries sound p valid exclusive from within = laid_carries us
      (λ q t v kind source at e. absurd (apart q kind (beside_exclusive qs sound q p v valid exclusive (source ∙ sym from) (meet q.span p.span t at (has_wider p.span s t within e)))))
      (λ q t root v kind off. refl) where
        apart : (q : PosseRow) → q.lock_kind ≡ LockKinds.Replace → q ≡ p → ⊥
        apart q kind e = let same : q.lock_kind ≡ LockKinds.Exclusive = ap (λ (x : PosseRow). x.lock_kind) e ∙ exclusive in cc

  -- a replacement: its lock covers the span from now on, and only its upgrade rows there go
  pub replace_carries : AreCompatible qs → HasDistinctNumbers qs → (p : PosseRow) → IsValid qs p → p.lock_kind ≡ LockKinds.Replace → p.source ≡ m.source → covers p.span s ≡ true → d.source ≡ p.source → d.version ≡ p.version → d.span ≡ s
      → CarriesUpgrades qs (cs ++ d ∷ []) (upgrades_left p.number s us) (ms ++ grown ids (record { span = s; since = since } ∷ []) tombs m ∷ [])
  replace_carries sound distinct p valid replaces from within ds dv de = laid_carries (upgrades_left p.number s us) covered same where
    covered : (q : PosseRow) (t : ℤ) → IsValid qs q → q.lock_kind ≡ LockKinds.Replace → q.source ≡ m.source → has q.span t ≡ true → has s t ≡ true → is_covered (cs ++ d ∷ []) q t ≡ true
    covered q t v kind source at e = elim (beside_replace qs sound q p v valid replaces (source ∙ sym from) (meet q.span p.span t at (has_wider p.span s t within e))) [
      | inl same ↦ covered_by (cs ++ d ∷ []) d q t (In-right d cs (d ∷ []) (inl refl)) (ds ∙ ap (λ (x : PosseRow). x.source) (sym same)) (dv ∙ ap (λ (x : PosseRow). x.version) (sym same)) (rw de e)
      | inr other ↦ absurd (differ q kind other.0)
    ] where
      differ : (q : PosseRow) → q.lock_kind ≡ LockKinds.Replace → q.lock_kind ≡ LockKinds.Append → ⊥
      differ q a b = cc

    same : (q : PosseRow) (t : ℤ) (root : SegId) → IsValid qs q → q.lock_kind ≡ LockKinds.Replace → (bytes_eq m.source q.source && has s t) ≡ false → upgraded (upgrades_left p.number s us) q.number t root ≡ upgraded us q.number t root
    same q t root v kind off = count_kept (λ u. (u.posse == q.number) && (has root.span t && same_id u.root root)) (λ u. not (is_taken_up p.number s u)) us
        (λ u i on.
        let posse = and_parts (u.posse == q.number) (has root.span t && same_id u.root root) on in
        let at = and_parts (has root.span t) (same_id u.root root) posse.1 in
        elim (cases_Bool (is_taken_up p.number s u)) [
          | inr stays ↦ rw stays refl
          | inl goes ↦
              let taken = and_parts (u.posse == p.number) (covers s u.root.span) goes in
              let one : q ≡ p = one_number qs q p distinct v.among valid.among (sym ((Decides-eqb u.posse q.number).0 posse.0) ∙ (Decides-eqb u.posse p.number).0 taken.0) in
              absurd (false≢true (sym off ∙ and_from _ _ ((bytes_eq-Decides m.source q.source).1 (sym (ap (λ (x : PosseRow). x.source) one ∙ from))) (has_wider s u.root.span t taken.1 (rw (same_id_means u.root root at.1) at.0))))
        ])

-- ---- a drop

module _ (pass : ℕ → Bool) (ms : List Publication) (source : List ℕ) (s : Extent) where
  nothing_put : (p : List ℕ) (t : ℤ) (root : SegId) → cond (pass (0 + length ms)) (puts p t root (drop_publication source s)) 0 ≡ 0
  nothing_put p t root = either (pass (0 + length ms)) (bytes_eq source p && has root.span t) where
    either : (a b : Bool) → cond a (cond b 0 0) 0 ≡ (let n : ℕ = 0 in n)
    either true true = refl
    either true false = refl
    either false b = refl

  or_none : (b : Bool) → (b || false) ≡ b
  or_none true = refl
  or_none false = refl

  and_one : (b : Bool) → (b && true) ≡ b
  and_one true = refl
  and_one false = refl

  pub drop_off : (p : List ℕ) (t : ℤ) (root : SegId) → (bytes_eq source p && has s t) ≡ false → alive pass (ms ++ drop_publication source s ∷ []) p t root ≡ alive pass ms p t root
  drop_off p t root off =
      alive_push p t root 0 pass ms (drop_publication source s)
      ∙ rw (
        alive_alike p t root 0 (λ j. pass j && not (takes p t (drop_publication source s) j)) pass (λ j. rw (or_none (has s t), off) (and_one (pass j))) ms,
        nothing_put p t root,
      ) (omega arith)

  pub drop_in : (t : ℤ) (root : SegId) → has s t ≡ true → alive pass (ms ++ drop_publication source s ∷ []) source t root ≡ 0
  drop_in t root e =
      alive_push source t root 0 pass ms (drop_publication source s)
      ∙ rw (
        alive_none source t root 0 (λ j. pass j && not (takes source t (drop_publication source s) j)) ms (λ j lt. rw ((bytes_eq-Decides source source).1 refl, e) (and_right (pass j) false refl)),
        nothing_put source t root,
      ) refl

pub shows_drop : (qs : List PosseRow) (source : List ℕ) (s : Extent) (rows : List SegmentRow) (ms : List Publication) → IsFree qs rows source s → ShowsContents rows ms → ShowsContents (map (unused source s) rows) (ms ++ drop_publication source s ∷ [])
shows_drop qs source s rows ms free shows = shows_dropped qs source s rows free ms (ms ++ drop_publication source s ∷ []) shows
    (λ p t root off. drop_off (λ k. true) ms source s p t root off)
    (λ t root e. drop_in (λ k. true) ms source s t root e)

pub drop_carries : (qs : List PosseRow) (source : List ℕ) (s : Extent) (rows : List SegmentRow) (cs : List ChunkRow) (us : List UpgradeRow) (ms : List Publication) → IsFree qs rows source s → CarriesUpgrades qs cs us ms → CarriesUpgrades qs cs us (ms ++ drop_publication source s ∷ [])
drop_carries qs source s rows cs us ms free carries q t root v kind at uncovered = elim (cases_Bool (bytes_eq source q.source && has s t)) [
  | inr off ↦ carries q t root v kind at uncovered ∙ sym (drop_off (λ k. nat_le q.since k) ms source s q.source t root off)
  | inl on ↦
      let both = and_parts (bytes_eq source q.source) (has s t) on in
      absurd (false≢true (sym (free.unlocked q v (sym ((bytes_eq-Decides source q.source).0 both.0))) ∙ meet q.span s t at both.1))
]
