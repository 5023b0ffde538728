-- What an append of one root with its copies shows, and which upgrade row it brings.
use Rattle.std.proofs.Common.{Bool, List, [], ap, arith, cond, false, inl, inr, int_le, int_lt, length, nat_le, pos, refl, subst, sym, true, ℕ, ℤ, ◌&&◌, ◌++◌, ◌+◌, ◌==◌, ◌∙◌, ◌∷◌, ◌≡◌, ◌≤◌, ◌⊎◌}
use Rattle.std.proofs.lemmas.Bool.{and_from, and_parts, cases_Bool, false≢true}
use Rattle.std.proofs.lemmas.Bool.Decides.{Decides-eqb, nat_tests}
use Rattle.std.proofs.lemmas.Slice.Eq.{bytes_eq-Decides}
use Rattle.std.specs.Prelude.{bytes_eq}
use Rattle.iv_span.specs.Extent.{covers, has}
use Rattle.seg_names.specs.Ids.{same_id}
use Rattle.seg_names.specs.declared.seg_id.SegId.{SegId}
use Rattle.book_rows.specs.Append.{as_row, rows_of_root}
use Rattle.book_rows.specs.Contents.{alive}
use Rattle.book_rows.specs.Ids.{same_chunk}
use Rattle.book_rows.specs.Lists.{In, count}
use Rattle.book_rows.specs.Live.{IsLive, IsValid, is_covered}
use Rattle.book_rows.specs.Locks.{HasDistinctNumbers}
use Rattle.book_rows.specs.Rules.{AreBelowLocks, AreCompatible, AreRooted, AreUpgrades, CarriesUpgrades, HasPosse, HaveCopies, HaveCores, HaveOneSpan, IsUpgrade, ShowsContents, upgraded}
use Rattle.book_rows.specs.Visible.{is_used_at, is_visible, shown, stands_for, tops}
use Rattle.book_rows.specs.declared.rows.ChunkRow.{ChunkRow}
use Rattle.book_rows.specs.declared.rows.PendingRow.{PendingRow}
use Rattle.book_rows.specs.declared.rows.PosseRow.{PosseRow}
use Rattle.book_rows.specs.declared.rows.Publication.{Publication}
use Rattle.book_rows.specs.declared.rows.SegmentRow.{SegmentRow}
use Rattle.book_rows.specs.declared.rows.UpgradeRow.{UpgradeRow}
use Rattle.laws_chunks.proofs.AppendedRoots.{added_last, upgrades_more}
use Rattle.laws_chunks.proofs.CarriedUpgrades.{covered_by}
use Rattle.laws_chunks.proofs.GrownPublications.{alive_appended}
use Rattle.laws_chunks.proofs.LockFacts.{beside_replace, contains_root, one_number}
use Rattle.laws_chunks.proofs.Members.{In-append, In-left, In-right, both_true, count-append, count_alike, count_none}
use Rattle.laws_chunks.proofs.RootRows.{count_rows, row_from}
use Rattle.laws_chunks.proofs.Spans.{count_one, covers_trans, has_wider, le_cases, le_itself, le_le, le_not_lt, lt_is_le, meet, not_lt_le, one_pending, same_chunk_from, same_chunk_means, same_id_from, same_id_means}
use Rattle.laws_chunks.proofs.VisibleRows.{IsAt, is_used, top_at, tops-append, tops_from, used_is}
use Rattle.laws_chunks.specs.Appending.{AreNewUpgrades, IsReplacing}
use Rattle.laws_chunks.specs.ChunksSound.{HaveDistinctIds, HaveLiveChunks}
use Rattle.laws_chunks.specs.Growing.{appended}
use Rattle.book_rows.specs.declared.kinds.LockKind.TheVariants as LockKinds

-- a row of the greatest version among those used at the instant
pub record HasTop (q : List ℕ) (t : ℤ) (rows : List SegmentRow) : Type 0 where
  pub top : SegmentRow
  pub among : In top rows
  pub used : is_used_at q t top ≡ true
  pub highest : (u : SegmentRow) → In u rows → is_used_at q t u ≡ true → int_le u.id.version top.id.version ≡ true

pub top_of : (q : List ℕ) (t : ℤ) (rows : List SegmentRow) → ((u : SegmentRow) → In u rows → is_used_at q t u ≡ false) ⊎ HasTop q t rows
top_of q t [] = inl (λ u i. absurd i)
top_of q t (r ∷ rows) = go (is_used_at q t r) refl (top_of q t rows) where
  go : (b : Bool) → is_used_at q t r ≡ b → ((u : SegmentRow) → In u rows → is_used_at q t u ≡ false) ⊎ HasTop q t rows → ((u : SegmentRow) → In u (r ∷ rows) → is_used_at q t u ≡ false) ⊎ HasTop q t (r ∷ rows)
  go false e (inl none) = inl (λ u i. at u i) where
    at : (u : SegmentRow) → In u (r ∷ rows) → is_used_at q t u ≡ false
    at u (inl same) = rw same e
    at u (inr i) = none u i
  go false e (inr h) = inr (record { top = h.top; among = inr h.among; used = h.used; highest = at }) where
    at : (u : SegmentRow) → In u (r ∷ rows) → is_used_at q t u ≡ true → int_le u.id.version h.top.id.version ≡ true
    at u (inl same) on = absurd (false≢true (sym e ∙ (rw same at on)))
    at u (inr i) on = h.highest u i on
  go true e (inl none) = inr (record { top = r; among = inl refl; used = e; highest = at }) where
    at : (u : SegmentRow) → In u (r ∷ rows) → is_used_at q t u ≡ true → int_le u.id.version r.id.version ≡ true
    at u (inl same) on = rw same (le_itself r.id.version)
    at u (inr i) on = absurd (false≢true (sym (none u i) ∙ on))
  go true e (inr h) = elim (cases_Bool (int_lt h.top.id.version r.id.version)) [
    | inl higher ↦ inr (record { top = r; among = inl refl; used = e; highest = over higher })
    | inr lower ↦ inr (record { top = h.top; among = inr h.among; used = h.used; highest = under lower })
  ] where
    over : int_lt h.top.id.version r.id.version ≡ true → (u : SegmentRow) → In u (r ∷ rows) → is_used_at q t u ≡ true → int_le u.id.version r.id.version ≡ true
    over higher u (inl same) on = rw same (le_itself r.id.version)
    over higher u (inr i) on = le_le u.id.version h.top.id.version r.id.version (h.highest u i on) (lt_is_le h.top.id.version r.id.version higher)

    under : int_lt h.top.id.version r.id.version ≡ false → (u : SegmentRow) → In u (r ∷ rows) → is_used_at q t u ≡ true → int_le u.id.version h.top.id.version ≡ true
    under lower u (inl same) on = rw same (not_lt_le h.top.id.version r.id.version lower)
    under lower u (inr i) on = h.highest u i on

module _ (k : ℕ) (qs : List PosseRow) (cs : List ChunkRow) (rows : List SegmentRow) (ps : List PendingRow)
    (chunks : HaveLiveChunks cs rows ps) (cores : HaveCores qs cs rows ps) (copies : HaveCopies cs rows ps) (one_span : HaveOneSpan rows ps) (rooted : AreRooted qs ps) (distinct : HaveDistinctIds ps) (numbers : HasDistinctNumbers qs) where
  module _ (q : List ℕ) (t : ℤ) where
    -- where a live id is above another at the instant, a used row of its version is there
    version_there : (a b : SegId) → IsLive rows ps a → IsLive rows ps b → IsAt q t a → IsAt q t b → int_lt a.version b.version ≡ true → (u : SegmentRow) × In u rows × (is_used_at q t u ≡ true) × (u.id.version ≡ b.version)
    version_there a b la lb ha hb lt =
        let d = chunks b lb in
        let core = copies.cores a b d.0 la lb (record { source_is = ha.source_is ∙ sym hb.source_is; overlap_is = meet a.span b.span t ha.at hb.at }) lt d.1 d.2 in
        let w = cores.live d.0 b d.1 lb d.2 0 core in
        (w.0, w.1, is_used q t w.0 w.2 (record { source_is = w.3.source_is ∙ sym d.2.source_is ∙ hb.source_is; at = rw (w.3.span_is ∙ sym d.2.span_is) hb.at }), w.3.version_is ∙ sym d.2.version_is)

    live_row : (u : SegmentRow) → In u rows → is_used_at q t u ≡ true → IsLive rows ps u.id
    live_row u i on = inl (u, i, (used_is q t u on).0, refl)

    live_pending : (p : PendingRow) → In p ps → IsLive rows ps p.id
    live_pending p i = inr (p, i, refl)

    -- a row that comes is a pending's
    from_pending : (P : SegmentRow → Type 0) (r : SegId) → ((p : PendingRow) → In p ps → same_id p.root r ≡ true → P (as_row k p)) → (n : SegmentRow) → In n (rows_of_root k r ps) → P n
    from_pending P r f n i =
        let w = row_from k r ps n i in subst P (sym w.3) (f w.0 w.1 w.2)

    -- a row of before is visible as before
    visible_kept : (r : SegId) (u : SegmentRow) → In u rows → is_visible (rows ++ rows_of_root k r ps) q t u ≡ is_visible rows q t u
    visible_kept r u i = rw (tops-append q t rows (rows_of_root k r ps) u) (implied (is_used_at q t u) (tops rows q t u) (tops (rows_of_root k r ps) q t u)
        (λ on top. tops_from q t (rows_of_root k r ps) u (from_pending _ r (λ p ip same pon. elim (cases_Bool (int_lt u.id.version p.id.version)) [
          | inr off ↦ not_lt_le u.id.version p.id.version off
          | inl lt ↦
              let w = version_there u.id p.id (live_row u i on) (live_pending p ip) (used_is q t u on).1 (used_is q t (as_row k p) pon).1 lt in
              absurd (le_not_lt w.0.id.version u.id.version (top_at q t rows u w.0 top w.1 w.2) (rw w.3 lt))
        ])))) where
          implied : (a b c : Bool) → (a ≡ true → b ≡ true → c ≡ true) → (a && (b && c)) ≡ (a && b)
          implied true true c f = f refl refl
          implied true false c f = refl
          implied false b c f = refl

    -- a new row that no used row of before is above is visible
    visible_new : (r : SegId) (p : PendingRow) → In p ps → IsAt q t p.id → ((w : SegmentRow) → In w rows → is_used_at q t w ≡ true → int_le w.id.version p.id.version ≡ true) → is_visible (rows ++ rows_of_root k r ps) q t (as_row k p) ≡ true
    visible_new r p ip here upto = and_from _ _ (is_used q t (as_row k p) refl here) (tops_from q t (rows ++ rows_of_root k r ps) (as_row k p)
        (λ n i on. elim (In-append n rows (rows_of_root k r ps) i) [
          | inl old ↦ upto n old on
          | inr new ↦ from_pending (λ n. is_used_at q t n ≡ true → int_le n.id.version p.id.version ≡ true) r (λ x ix same xon. elim (cases_Bool (int_lt p.id.version x.id.version)) [
            | inr off ↦ not_lt_le p.id.version x.id.version off
            | inl lt ↦
                let w = version_there p.id x.id (live_pending p ip) (live_pending x ix) here (used_is q t (as_row k x) xon).1 lt in
                absurd (le_not_lt w.0.id.version p.id.version (upto w.0 w.1 w.2) (rw w.3 lt))
          ]) n new on
        ]))

    visible_is : (r : SegId) (p : PendingRow) → is_visible (rows ++ rows_of_root k r ps) q t (as_row k p) ≡ true → IsAt q t p.id × ((w : SegmentRow) → In w rows → is_used_at q t w ≡ true → int_le w.id.version p.id.version ≡ true)
    visible_is r p on =
        let both = and_parts (is_used_at q t (as_row k p)) (tops (rows ++ rows_of_root k r ps) q t (as_row k p)) on in
        ((used_is q t (as_row k p) both.0).1, λ w i won. top_at q t (rows ++ rows_of_root k r ps) (as_row k p) w both.1 (In-left w rows _ i) won)

    -- where no used row is above the root, the root alone is seen
    one_low : (r : PendingRow) → In r ps → r.id ≡ r.root → IsAt q t r.id → ((w : SegmentRow) → In w rows → is_used_at q t w ≡ true → int_le w.id.version r.id.version ≡ true)
        → count (λ p. same_id p.root r.id && is_visible (rows ++ rows_of_root k r.id ps) q t (as_row k p)) ps ≡ 1
    one_low r ir root here upto =
        count_alike (λ p. same_id p.root r.id && is_visible (rows ++ rows_of_root k r.id ps) q t (as_row k p)) (λ p. same_id p.id r.id) ps
        (λ p ip. both_true (same_id p.root r.id && is_visible (rows ++ rows_of_root k r.id ps) q t (as_row k p)) (same_id p.id r.id)
        (λ on.
        let both = and_parts (same_id p.root r.id) (is_visible (rows ++ rows_of_root k r.id ps) q t (as_row k p)) on in
        let to : p.root ≡ r.id = same_id_means p.root r.id both.0 in
        elim ((rooted p ip).kind_is) [
          | inl itself ↦ same_id_from p.id r.id (itself ∙ to)
          | inr copy ↦
              let lt : int_lt r.id.version p.id.version ≡ true = rw (← to) copy.above in
              let w = version_there r.id p.id (live_pending r ir) (live_pending p ip) here (visible_is r.id p both.1).0 lt in
              absurd (le_not_lt w.0.id.version r.id.version (upto w.0 w.1 w.2) (rw w.3 lt))
        ])
        (λ on.
        let one : p ≡ r = one_pending ps p r distinct ip ir (same_id_means p.id r.id on) in
        subst (λ (p : PendingRow). (same_id p.root r.id && is_visible (rows ++ rows_of_root k r.id ps) q t (as_row k p)) ≡ true) (sym one)
        (and_from _ _ (same_id_from r.root r.id (sym root)) (visible_new r.id r ir here upto))))
        ∙ count_one ps r distinct ir

    -- where one is, exactly the root's copy in the chunk on top is seen
    one_high : (r : PendingRow) → In r ps → r.id ≡ r.root → IsAt q t r.id → (h : HasTop q t rows) → int_lt r.id.version h.top.id.version ≡ true
        → count (λ p. same_id p.root r.id && is_visible (rows ++ rows_of_root k r.id ps) q t (as_row k p)) ps ≡ 1
    one_high r ir root here h lt =
        let top_at' = (used_is q t h.top h.used).1 in
        let lh = live_row h.top h.among h.used in
        count_alike (λ p. same_id p.root r.id && is_visible (rows ++ rows_of_root k r.id ps) q t (as_row k p)) (λ x. same_chunk x.id h.top.id && same_id x.root r.id) ps
        (λ p ip. both_true (same_id p.root r.id && is_visible (rows ++ rows_of_root k r.id ps) q t (as_row k p)) (same_chunk p.id h.top.id && same_id p.root r.id)
        (λ on.
        let both = and_parts (same_id p.root r.id) (is_visible (rows ++ rows_of_root k r.id ps) q t (as_row k p)) on in
        let seen = visible_is r.id p both.1 in
        let version : h.top.id.version ≡ p.id.version = elim (le_cases h.top.id.version p.id.version (seen.1 h.top h.among h.used)) [
          | inl same ↦ same
          | inr over ↦
              let w = version_there h.top.id p.id lh (live_pending p ip) top_at' seen.0 over in
              absurd (le_not_lt w.0.id.version h.top.id.version (h.highest w.0 w.1 w.2) (rw w.3 over))
        ] in
        let span : p.id.span ≡ h.top.id.span = one_span p.id h.top.id (live_pending p ip) lh (record { source_is = seen.0.source_is ∙ sym top_at'.source_is; overlap_is = meet p.id.span h.top.id.span t seen.0.at top_at'.at }) (sym version) in
        and_from _ _ (same_chunk_from p.id h.top.id (record { source_is = seen.0.source_is ∙ sym top_at'.source_is; span_is = span; version_is = sym version })) both.0)
        (λ on.
        let both = and_parts (same_chunk p.id h.top.id) (same_id p.root r.id) on in
        let is = same_chunk_means p.id h.top.id both.0 in
        and_from _ _ both.1 (visible_new r.id p ip (record { source_is = is.source_is ∙ top_at'.source_is; at = rw is.span_is top_at'.at }) (λ w i won. rw is.version_is (h.highest w i won)))))
        ∙ copies.copies r h.top.id ir root lh (record { source_is = here.source_is ∙ sym top_at'.source_is; overlap_is = meet r.id.span h.top.id.span t here.at top_at'.at }) lt

    one_seen : (r : PendingRow) → In r ps → r.id ≡ r.root → IsAt q t r.id → count (λ p. same_id p.root r.id && is_visible (rows ++ rows_of_root k r.id ps) q t (as_row k p)) ps ≡ 1
    one_seen r ir root here = elim (top_of q t rows) [
      | inl none ↦ one_low r ir root here (λ w i on. absurd (false≢true (sym (none w i) ∙ on)))
      | inr h ↦ elim (cases_Bool (int_lt r.id.version h.top.id.version)) [
        | inl lt ↦ one_high r ir root here h lt
        | inr off ↦ one_low r ir root here (λ w i on. le_le w.id.version h.top.id.version r.id.version (h.highest w i on) (not_lt_le r.id.version h.top.id.version off))
      ]
    ]

    -- a pending is of its root's source
    source_of : (p : PendingRow) → In p ps → p.id.source ≡ p.root.source
    source_of p ip =
        let a = rooted p ip in
        let b = rooted a.has_root.root a.has_root.among in
        let one : b.has_posse.posse ≡ a.has_posse.posse = one_number qs b.has_posse.posse a.has_posse.posse numbers b.has_posse.is_valid.among a.has_posse.is_valid.among (b.has_posse.number_is ∙ a.has_root.posse_is ∙ sym a.has_posse.number_is) in
        sym a.has_posse.source_is ∙ ap (λ (x : PosseRow). x.source) (sym one) ∙ b.has_posse.source_is ∙ ap (λ (x : SegId). x.source) a.has_root.root_is

    pub shown_append : (r : PendingRow) → In r ps → r.id ≡ r.root → (root : SegId)
        → shown (rows ++ rows_of_root k r.id ps) q t root ≡ shown rows q t root + cond ((bytes_eq r.id.source q && has root.span t) && same_id r.id root) 1 0
    shown_append r ir is_root root =
        count-append (λ n. is_visible (rows ++ rows_of_root k r.id ps) q t n && stands_for root t n) rows (rows_of_root k r.id ps)
        ∙ rw (
          count_alike (λ n. is_visible (rows ++ rows_of_root k r.id ps) q t n && stands_for root t n) (λ n. is_visible rows q t n && stands_for root t n) rows (λ u i. rw (visible_kept r.id u i) refl),
          gains,
        ) refl where
          gains : count (λ n. is_visible (rows ++ rows_of_root k r.id ps) q t n && stands_for root t n) (rows_of_root k r.id ps) ≡ cond ((bytes_eq r.id.source q && has root.span t) && same_id r.id root) 1 0
          gains = elim (cases_Bool ((bytes_eq r.id.source q && has root.span t) && same_id r.id root)) [
            | inl on ↦
                let two = and_parts (bytes_eq r.id.source q && has root.span t) (same_id r.id root) on in
                let one = and_parts (bytes_eq r.id.source q) (has root.span t) two.0 in
                let is : r.id ≡ root = same_id_means r.id root two.1 in
                let here : IsAt q t r.id = record { source_is = (bytes_eq-Decides r.id.source q).0 one.0; at = rw is one.1 } in
                rw on
                (count_alike (λ n. is_visible (rows ++ rows_of_root k r.id ps) q t n && stands_for root t n) (λ n. is_visible (rows ++ rows_of_root k r.id ps) q t n) (rows_of_root k r.id ps)
                (from_pending _ r.id (λ p ip same. rw (one.1, same_id_from p.root root (same_id_means p.root r.id same ∙ is)) (and_one (is_visible (rows ++ rows_of_root k r.id ps) q t (as_row k p)))))
                ∙ count_rows k r.id ps (λ n. is_visible (rows ++ rows_of_root k r.id ps) q t n)
                ∙ one_seen r ir is_root here)
            | inr off ↦ rw off (count_none (λ n. is_visible (rows ++ rows_of_root k r.id ps) q t n && stands_for root t n) (rows_of_root k r.id ps)
                (from_pending _ r.id (λ p ip same. elim (cases_Bool (is_visible (rows ++ rows_of_root k r.id ps) q t (as_row k p) && stands_for root t (as_row k p))) [
                  | inr unseen ↦ unseen
                  | inl seen ↦
                      let two = and_parts (is_visible (rows ++ rows_of_root k r.id ps) q t (as_row k p)) (has root.span t && same_id p.root root) seen in
                      let stands = and_parts (has root.span t) (same_id p.root root) two.1 in
                      let to : p.root ≡ r.id = same_id_means p.root r.id same in
                      let source : r.id.source ≡ q = ap (λ (x : SegId). x.source) (sym to) ∙ sym (source_of p ip) ∙ (visible_is r.id p two.0).0.source_is in
                      absurd (false≢true (sym off ∙ and_from _ _ (and_from _ _ ((bytes_eq-Decides r.id.source q).1 source) stands.0) (same_id_from r.id root (sym to ∙ same_id_means p.root root stands.1))))
                ])))
          ] where
            and_one : (b : Bool) → (b && true) ≡ b
            and_one true = refl
            and_one false = refl

  -- an append of a root keeps that what is shown is the contents
  pub shows_append : (ms : List Publication) (m : Publication) (r : PendingRow) → In r ps → r.id ≡ r.root → m.source ≡ r.id.source → ShowsContents rows (ms ++ m ∷ []) → ShowsContents (rows ++ rows_of_root k r.id ps) (ms ++ appended r.id m ∷ [])
  shows_append ms m r ir is_root from shows q t root =
      shown_append q t r ir is_root root
      ∙ rw (shows q t root)
      (ap (λ (a : List ℕ). alive (λ j. true) (ms ++ m ∷ []) q t root + cond ((bytes_eq a q && has root.span t) && same_id r.id root) 1 0) (sym from)
      ∙ sym (alive_appended (λ j. true) ms m r.id q t root refl))

-- ---- the upgrade row of an appended root

at_or_above : (a b : ℕ) → a ≤ b → nat_le a b ≡ true
at_or_above a b le = grind (arith, nat_tests)

module _ (qs : List PosseRow) (cs : List ChunkRow) (rows : List SegmentRow) (ps : List PendingRow) (us new : List UpgradeRow) (ms : List Publication) (m : Publication) (r : PendingRow)
    (ir : In r ps) (is_root : r.id ≡ r.root) (from : m.source ≡ r.id.source) (made : AreNewUpgrades qs cs r.id new)
    (since : (q : PosseRow) → IsValid qs q → q.since ≤ 0 + length ms) where
  pub append_upgrades : AreUpgrades qs us (ms ++ m ∷ []) → AreUpgrades qs (us ++ new) (ms ++ appended r.id m ∷ [])
  append_upgrades h u i = elim (In-append u us new i) [
    | inl j ↦ upgrades_more qs us ms m (appended r.id m) (λ a k. In-left a m.adds (r.id ∷ []) k) h u j
    | inr j ↦ brought made j
  ] where
    brought : AreNewUpgrades qs cs r.id new → In u new → IsUpgrade qs (ms ++ appended r.id m ∷ []) u
    brought (inr h) j = absurd (rw h.new_is at j)
    brought (inl h) j = one (rw h.new_is at j) where
      one : In u (record { posse = h.posse.number; root = r.id } ∷ []) → IsUpgrade qs (ms ++ appended r.id m ∷ []) u
      one (inl e) = subst (IsUpgrade qs (ms ++ appended r.id m ∷ [])) (sym e) (record {
        posse = h.posse;
        is_valid = h.replacing.is_valid;
        number_is = refl;
        kind_is = h.replacing.kind_is;
        covers_root = h.replacing.covers_root;
        added = added_last h.posse.since 0 ms (appended r.id m) r.id (since h.posse h.replacing.is_valid) (In-right r.id m.adds (r.id ∷ []) (inl refl));
      })
      one (inr k) = absurd k

  module _ (sound : AreCompatible qs) (numbers : HasDistinctNumbers qs) (one_span : HaveOneSpan rows ps) (below : AreBelowLocks qs rows ps) (rooted : AreRooted qs ps) (cores : HaveCores qs cs rows ps) (copies : HaveCopies cs rows ps)
      (high : (q : PosseRow) → IsValid qs q → q.lock_kind ≡ LockKinds.Replace → int_lt (pos 0) q.version ≡ true) where
    differ : (q : PosseRow) → q.lock_kind ≡ LockKinds.Replace → q.lock_kind ≡ LockKinds.Append → ⊥
    differ q a b = cc

    -- a replacing lock at an instant of the root contains it
    replaces : (q : PosseRow) (t : ℤ) → IsValid qs q → q.lock_kind ≡ LockKinds.Replace → q.source ≡ r.id.source → has q.span t ≡ true → has r.id.span t ≡ true → IsReplacing qs r.id q
    replaces q t v kind source at here = record { is_valid = v; kind_is = kind; source_is = source; covers_root = contained } where
      over : (p : HasPosse qs r) → covers p.posse.span r.id.span ≡ true
      over p = subst (λ (x : SegId). covers p.posse.span x.span ≡ true) (sym is_root) p.covers_root

      contained_by : (p : HasPosse qs r) → covers q.span r.id.span ≡ true
      contained_by p = elim (beside_replace qs sound p.posse q p.is_valid v kind (p.source_is ∙ sym source) (meet p.posse.span q.span t (has_wider p.posse.span r.id.span t (over p) here) at)) [
        | inl same ↦ subst (λ (x : PosseRow). covers x.span r.id.span ≡ true) same (over p)
        | inr within ↦ covers_trans q.span p.posse.span r.id.span within.1 (over p)
      ]

      contained : covers q.span r.id.span ≡ true
      contained = contained_by (rooted r ir).has_posse

    -- two replacing locks that contain the root are one
    one_replacing : (p q : PosseRow) (t : ℤ) → IsReplacing qs r.id p → IsReplacing qs r.id q → has r.id.span t ≡ true → p ≡ q
    one_replacing p q t hp hq here = elim (beside_replace qs sound p q hp.is_valid hq.is_valid hq.kind_is (hp.source_is ∙ sym hq.source_is) (meet p.span q.span t (has_wider p.span r.id.span t hp.covers_root here) (has_wider q.span r.id.span t hq.covers_root here))) [
      | inl same ↦ same
      | inr other ↦ absurd (differ p hp.kind_is other.0)
    ]

    gained : (q : PosseRow) (t : ℤ) (root : SegId) → IsValid qs q → q.lock_kind ≡ LockKinds.Replace → has q.span t ≡ true → is_covered cs q t ≡ false → (bytes_eq m.source q.source ≡ true) → has root.span t ≡ true → r.id ≡ root → AreNewUpgrades qs cs r.id new → upgraded new q.number t root ≡ 1
    gained q t root v kind at uncovered source here is (inl h) =
        let into : has r.id.span t ≡ true = rw is here in
        let rep : IsReplacing qs r.id q = replaces q t v kind (sym ((bytes_eq-Decides m.source q.source).0 source) ∙ from) at into in
        let one : h.posse ≡ q = one_replacing h.posse q t h.replacing rep into in
        rw h.new_is (rw ((Decides-eqb h.posse.number q.number).1 (ap (λ (x : PosseRow). x.number) one), here, same_id_from r.id root is) refl)
    gained q t root v kind at uncovered source here is (inr h) =
        let into : has r.id.span t ≡ true = rw is here in
        let from_q : q.source ≡ r.id.source = sym ((bytes_eq-Decides m.source q.source).0 source) ∙ from in
        let rep : IsReplacing qs r.id q = replaces q t v kind from_q at into in
        let e = h.taken q rep in
        let over : covers e.chunk.span r.id.span ≡ true = contains_root qs cs rows ps one_span below cores copies q r e.chunk v kind (high q v kind) ir is_root (sym from_q) e.among e.source_is e.version_is e.meets in
        absurd (false≢true (sym uncovered ∙ covered_by cs e.chunk q t e.among e.source_is e.version_is (has_wider e.chunk.span r.id.span t over into)))

    lost : (q : PosseRow) (t : ℤ) (root : SegId) → IsValid qs q → ((bytes_eq m.source q.source && has root.span t) && same_id r.id root) ≡ false → AreNewUpgrades qs cs r.id new → upgraded new q.number t root ≡ 0
    lost q t root v off (inr h) = rw h.new_is refl
    lost q t root v off (inl h) = rw h.new_is (elim (cases_Bool ((h.posse.number == q.number) && (has root.span t && same_id r.id root))) [
      | inr none ↦ rw none refl
      | inl on ↦
          let one = and_parts (h.posse.number == q.number) (has root.span t && same_id r.id root) on in
          let two = and_parts (has root.span t) (same_id r.id root) one.1 in
          let same : h.posse ≡ q = one_number qs h.posse q numbers h.replacing.is_valid.among v.among ((Decides-eqb h.posse.number q.number).0 one.0) in
          absurd (false≢true (sym off ∙ and_from _ _ (and_from _ _ ((bytes_eq-Decides m.source q.source).1 (from ∙ sym h.replacing.source_is ∙ ap (λ (x : PosseRow). x.source) same)) two.0) two.1))
    ])

    pub append_carries : CarriesUpgrades qs cs us (ms ++ m ∷ []) → CarriesUpgrades qs cs (us ++ new) (ms ++ appended r.id m ∷ [])
    append_carries carries q t root v kind at uncovered =
        count-append (λ u. (u.posse == q.number) && (has root.span t && same_id u.root root)) us new
        ∙ rw (carries q t root v kind at uncovered, brings)
        (sym (alive_appended (λ k. nat_le q.since k) ms m r.id q.source t root (at_or_above q.since (0 + length ms) (since q v)))) where
          brings : upgraded new q.number t root ≡ cond ((bytes_eq m.source q.source && has root.span t) && same_id r.id root) 1 0
          brings = elim (cases_Bool ((bytes_eq m.source q.source && has root.span t) && same_id r.id root)) [
            | inr off ↦ rw off (lost q t root v off made)
            | inl on ↦
                let two = and_parts (bytes_eq m.source q.source && has root.span t) (same_id r.id root) on in
                let one = and_parts (bytes_eq m.source q.source) (has root.span t) two.0 in
                rw on (gained q t root v kind at uncovered one.0 one.1 (same_id_means r.id root two.1) made)
          ]
