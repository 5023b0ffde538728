-- What the rules on chunks keep where one root with its copies is appended.
use Rattle.std.proofs.Common.{List, [], ap, arith, inl, inr, length, not, refl, sym, ℕ, ◌&&◌, ◌++◌, ◌+◌, ◌∙◌, ◌∷◌, ◌≡◌, ◌≤◌}
use Rattle.std.proofs.lemmas.Bool.{and_parts, cases_Bool}
use Rattle.seg_names.specs.Ids.{same_id}
use Rattle.seg_names.specs.declared.seg_id.SegId.{SegId}
use Rattle.book_rows.specs.Append.{as_row, rows_of_root, without_root}
use Rattle.book_rows.specs.Ids.{same_chunk}
use Rattle.book_rows.specs.Lists.{In}
use Rattle.book_rows.specs.Live.{IsLive, IsWhole}
use Rattle.book_rows.specs.Rules.{AreBelowLocks, AreRooted, AreUpgrades, HaveCopies, HaveCores, HaveOneSpan, IsAddedSince}
use Rattle.book_rows.specs.declared.rows.ChunkRow.{ChunkRow}
use Rattle.book_rows.specs.declared.rows.PendingRow.{PendingRow}
use Rattle.book_rows.specs.declared.rows.PosseRow.{PosseRow}
use Rattle.book_rows.specs.declared.rows.Publication.{Publication}
use Rattle.book_rows.specs.declared.rows.SegmentRow.{SegmentRow}
use Rattle.book_rows.specs.declared.rows.UpgradeRow.{UpgradeRow}
use Rattle.laws_chunks.proofs.LostLocks.{not_false}
use Rattle.laws_chunks.proofs.Members.{In-append, In-filter, In-left, In-right, count_kept, filter_In}
use Rattle.laws_chunks.proofs.RootRows.{row_from, row_of}
use Rattle.laws_chunks.proofs.Spans.{same_id_means}
use Rattle.laws_chunks.specs.ChunksSound.{HaveLiveChunks}

module _ (k : ℕ) (r : SegId) (rows : List SegmentRow) (ps : List PendingRow) where
  -- no chunk becomes live
  pub live_back : (a : SegId) → IsLive (rows ++ rows_of_root k r ps) (without_root r ps) a → IsLive rows ps a
  live_back a (inl u) = elim (In-append u.0 rows (rows_of_root k r ps) u.1) [
    | inl i ↦ inl (u.0, i, u.2, u.3)
    | inr i ↦ (let w = row_from k r ps u.0 i in inr (w.0, w.1, ap (λ (x : SegmentRow). x.id) (sym w.3) ∙ u.3))
  ]
  live_back a (inr p) = inr (p.0, (In-filter (λ p. not (same_id p.root r)) p.0 ps p.1).0, p.2)

  -- and none ceases to be
  pub live_forth : (a : SegId) → IsLive rows ps a → IsLive (rows ++ rows_of_root k r ps) (without_root r ps) a
  live_forth a (inl u) = inl (u.0, In-left u.0 rows _ u.1, u.2, u.3)
  live_forth a (inr p) = elim (cases_Bool (same_id p.0.root r)) [
    | inl on ↦ inl (as_row k p.0, In-right (as_row k p.0) rows (rows_of_root k r ps) (row_of k r ps p.0 p.1 on), refl, p.2)
    | inr off ↦ inr (p.0, filter_In (λ p. not (same_id p.root r)) p.0 ps p.1 (not_false _ off), p.2)
  ]

  pub append_chunks : (cs : List ChunkRow) → HaveLiveChunks cs rows ps → HaveLiveChunks cs (rows ++ rows_of_root k r ps) (without_root r ps)
  append_chunks cs h a la = h a (live_back a la)

  pub append_one_span : HaveOneSpan rows ps → HaveOneSpan (rows ++ rows_of_root k r ps) (without_root r ps)
  append_one_span h a b la lb m e = h a b (live_back a la) (live_back b lb) m e

  pub append_below_locks : (qs : List PosseRow) → AreBelowLocks qs rows ps → AreBelowLocks qs (rows ++ rows_of_root k r ps) (without_root r ps)
  append_below_locks qs h a q la v g e o = h a q (live_back a la) v g e o

  pub append_rooted : (qs : List PosseRow) → AreRooted qs ps → AreRooted qs (without_root r ps)
  append_rooted qs h p i =
      let was = In-filter (λ p. not (same_id p.root r)) p ps i in
      let old = h p was.0 in
      let root = old.has_root in
      record {
        has_root = record {
          root = root.root;
          among = filter_In (λ p. not (same_id p.root r)) root.root ps root.among (rw (sym root.is_root ∙ root.root_is) was.1);
          is_root = root.is_root;
          root_is = root.root_is;
          posse_is = root.posse_is;
          sequence_is = root.sequence_is;
          previous_is = root.previous_is;
        };
        has_posse = old.has_posse;
        kind_is = old.kind_is;
      }

  more : (c : ChunkRow) → IsWhole rows c → IsWhole (rows ++ rows_of_root k r ps) c
  more c w i lt = let x = w i lt in (x.0, In-left x.0 rows _ x.1, x.2, x.3, x.4)

  pub append_cores : (qs : List PosseRow) (cs : List ChunkRow) → HaveCores qs cs rows ps → HaveCores qs cs (rows ++ rows_of_root k r ps) (without_root r ps)
  append_cores qs cs h = record {
    live = λ c a i l e. more c (h.live c a i (live_back a l) e);
    owned = λ c q i o. more c (h.owned c q i o);
    zero_version = h.zero_version;
    shared = h.shared;
    replace = h.replace;
    within = h.within;
  }

  pub append_copies : (cs : List ChunkRow) → HaveCopies cs rows ps → HaveCopies cs (rows ++ rows_of_root k r ps) (without_root r ps)
  append_copies cs h = record {
    cores = λ a b d la lb m lt i e. h.cores a b d (live_back a la) (live_back b lb) m lt i e;
    contains = λ p b i root lb m lt. h.contains p b (In-filter _ p ps i).0 root (live_back b lb) m lt;
    copies = λ p b i root lb m lt.
        let was = In-filter (λ p. not (same_id p.root r)) p ps i in
        count_kept (λ x. same_chunk x.id b && same_id x.root p.id) (λ p. not (same_id p.root r)) ps
        (λ x ix on. let to : x.root ≡ p.root = same_id_means x.root p.id (and_parts _ _ on).1 ∙ root in rw to was.1)
        ∙ h.copies p b was.0 root (live_back b lb) m lt;
  }

-- ---- ids that were added stay added

pub added_push : (since k : ℕ) (ms : List Publication) (m : Publication) (a : SegId) → IsAddedSince since k ms a → IsAddedSince since k (ms ++ m ∷ []) a
added_push since k [] m a h = absurd h
added_push since k (n ∷ ms) m a (inl h) = inl h
added_push since k (n ∷ ms) m a (inr h) = inr (added_push since (k + 1) ms m a h)

-- where the last publication adds more
pub added_more : (since k : ℕ) (ms : List Publication) (m n : Publication) (a : SegId) → (In a m.adds → In a n.adds) → IsAddedSince since k (ms ++ m ∷ []) a → IsAddedSince since k (ms ++ n ∷ []) a
added_more since k [] m n a f (inl h) = inl (h.0, f h.1)
added_more since k [] m n a f (inr h) = absurd h
added_more since k (x ∷ ms) m n a f (inl h) = inl h
added_more since k (x ∷ ms) m n a f (inr h) = inr (added_more since (k + 1) ms m n a f h)

pub added_last : (since k : ℕ) (ms : List Publication) (m : Publication) (a : SegId) → since ≤ k + length ms → In a m.adds → IsAddedSince since k (ms ++ m ∷ []) a
added_last since k [] m a le i = inl (omega arith, i)
added_last since k (n ∷ ms) m a le i = inr (added_last since (k + 1) ms m a (omega arith) i)

-- what was added since stays so: the rows of before keep to the rule
pub upgrades_more : (qs : List PosseRow) (us : List UpgradeRow) (ms : List Publication) (m n : Publication) → ((a : SegId) → In a m.adds → In a n.adds) → AreUpgrades qs us (ms ++ m ∷ []) → AreUpgrades qs us (ms ++ n ∷ [])
upgrades_more qs us ms m n f h u i =
    let up = h u i in
    record {
      posse = up.posse;
      is_valid = up.is_valid;
      number_is = up.number_is;
      kind_is = up.kind_is;
      covers_root = up.covers_root;
      added = added_more up.posse.since 0 ms m n u.root (f u.root) up.added;
    }

pub upgrades_pushed : (qs : List PosseRow) (us : List UpgradeRow) (ms : List Publication) (m : Publication) → AreUpgrades qs us ms → AreUpgrades qs us (ms ++ m ∷ [])
upgrades_pushed qs us ms m h u i =
    let up = h u i in
    record {
      posse = up.posse;
      is_valid = up.is_valid;
      number_is = up.number_is;
      kind_is = up.kind_is;
      covers_root = up.covers_root;
      added = added_push up.posse.since 0 ms m u.root up.added;
    }
