-- What is kept where lock rows are revoked or end, with their pendings and upgrade rows.
use Rattle.std.proofs.Common.{Bool, List, ap, false, inl, inr, nat_le, not, refl, subst, sym, ℕ, ◌&&◌, ◌==◌, ◌∙◌, ◌≡◌}
pub use Rattle.std.proofs.lemmas.Bool.{not-true as not_true, not_from_false as not_false}
use Rattle.std.proofs.lemmas.Bool.{and_parts}
use Rattle.std.proofs.lemmas.Bool.Decides.{Decides-eqb}
use Rattle.iv_span.specs.Extent.{has}
use Rattle.seg_names.specs.Ids.{same_id}
use Rattle.seg_names.specs.declared.seg_id.SegId.{SegId}
use Rattle.book_rows.specs.Contents.{alive}
use Rattle.book_rows.specs.Ids.{same_chunk}
use Rattle.book_rows.specs.Live.{IsLive, IsOwner}
use Rattle.book_rows.specs.Locks.{stripped, stripped_upgrades}
use Rattle.book_rows.specs.Rules.{AreBelowLocks, AreRooted, AreUpgrades, CarriesUpgrades, HaveCopies, HaveCores, HaveOneSpan, IsRooted, upgraded}
use Rattle.book_rows.specs.declared.rows.ChunkRow.{ChunkRow}
use Rattle.book_rows.specs.declared.rows.PendingRow.{PendingRow}
use Rattle.book_rows.specs.declared.rows.PosseRow.{PosseRow}
use Rattle.book_rows.specs.declared.rows.Publication.{Publication}
use Rattle.book_rows.specs.declared.rows.SegmentRow.{SegmentRow}
use Rattle.book_rows.specs.declared.rows.UpgradeRow.{UpgradeRow}
use Rattle.laws_chunks.proofs.ChangeFacts.{DoesLose, IsSameLock, IsStillValid}
use Rattle.laws_chunks.proofs.Members.{In-filter, count_kept, filter_In}
use Rattle.laws_chunks.proofs.Spans.{one_pending, same_id_means}
use Rattle.laws_chunks.specs.ChunksSound.{HaveDistinctIds}

module _ (gone : ℕ → Bool) (qs after : List PosseRow) (lose : DoesLose gone qs after) where
  fewer : (rows : List SegmentRow) (ps : List PendingRow) (a : SegId) → IsLive rows (stripped gone ps) a → IsLive rows ps a
  fewer rows ps a (inl u) = inl u
  fewer rows ps a (inr p) = inr (p.0, (In-filter _ p.0 ps p.1).0, p.2)

  pub strip_one_span : (rows : List SegmentRow) (ps : List PendingRow) → HaveOneSpan rows ps → HaveOneSpan rows (stripped gone ps)
  strip_one_span rows ps h a b la lb m e = h a b (fewer rows ps a la) (fewer rows ps b lb) m e

  pub strip_below_locks : (rows : List SegmentRow) (ps : List PendingRow) → AreBelowLocks qs rows ps → AreBelowLocks after rows (stripped gone ps)
  strip_below_locks rows ps h a q la v g e o =
      let was = lose.back q v in
      rw (← was.same.version_is) (h a was.row (fewer rows ps a la) was.is_valid (rw was.same.kind_is g) (e ∙ sym was.same.source_is) (rw was.same.span_is o))

  -- a pending that stays has its root and its lock row
  stay_rooted : (ps : List PendingRow) (p : PendingRow) → gone p.posse ≡ false → IsRooted qs ps p → IsRooted after (stripped gone ps) p
  stay_rooted ps p kept h =
      let now = lose.forth h.has_posse.posse h.has_posse.is_valid (rw h.has_posse.number_is kept) in
      record {
        has_root = record {
          root = h.has_root.root;
          among = filter_In (λ p. not (gone p.posse)) h.has_root.root ps h.has_root.among (rw (h.has_root.posse_is, kept) refl);
          is_root = h.has_root.is_root;
          root_is = h.has_root.root_is;
          posse_is = h.has_root.posse_is;
          sequence_is = h.has_root.sequence_is;
          previous_is = h.has_root.previous_is;
        };
        has_posse = record {
          posse = now.row;
          is_valid = now.is_valid;
          number_is = now.same.number_is ∙ h.has_posse.number_is;
          source_is = now.same.source_is ∙ h.has_posse.source_is;
          covers_root = rw now.same.span_is h.has_posse.covers_root;
        };
        kind_is = h.kind_is;
      }

  pub strip_rooted : (ps : List PendingRow) → AreRooted qs ps → AreRooted after (stripped gone ps)
  strip_rooted ps h p i =
      let was = In-filter (λ p. not (gone p.posse)) p ps i in
      stay_rooted ps p (not_true _ was.1) (h p was.0)

  pub strip_upgrades : (us : List UpgradeRow) (pubs : List Publication) → AreUpgrades qs us pubs → AreUpgrades after (stripped_upgrades gone us) pubs
  strip_upgrades us pubs h u i =
      let was = In-filter (λ u. not (gone u.posse)) u us i in
      let up = h u was.0 in
      let now = lose.forth up.posse up.is_valid (rw (up.number_is, not_true _ was.1) refl) in
      record {
        posse = now.row;
        is_valid = now.is_valid;
        number_is = now.same.number_is ∙ up.number_is;
        kind_is = now.same.kind_is ∙ up.kind_is;
        covers_root = rw now.same.span_is up.covers_root;
        added = rw now.same.since_is up.added;
      }

  owner_was : (c : ChunkRow) (q : PosseRow) (o : IsOwner after c q) → IsOwner qs c (lose.back q o.is_valid).row
  owner_was c q o =
      let was = lose.back q o.is_valid in
      record { is_valid = was.is_valid; source_is = o.source_is ∙ sym was.same.source_is; version_is = o.version_is ∙ sym was.same.version_is }

  pub strip_cores : (cs : List ChunkRow) (rows : List SegmentRow) (ps : List PendingRow) → HaveCores qs cs rows ps → HaveCores after cs rows (stripped gone ps)
  strip_cores cs rows ps h = record {
    live = λ c a i l k. h.live c a i (fewer rows ps a l) k;
    owned = λ c q i o. h.owned c _ i (owner_was c q o);
    zero_version = h.zero_version;
    shared = λ c q i o k. h.shared c _ i (owner_was c q o) ((lose.back q o.is_valid).same.kind_is ∙ k);
    replace = λ c q i o k. h.replace c _ i (owner_was c q o) ((lose.back q o.is_valid).same.kind_is ∙ k);
    within = λ c q i o p. rw (← (lose.back q o.is_valid).same.span_is) (h.within c _ i (owner_was c q o) p);
  }

  -- the pendings of one root are of one lock row, so they stay or go together
  pub strip_copies : (cs : List ChunkRow) (rows : List SegmentRow) (ps : List PendingRow) → HaveDistinctIds ps → AreRooted qs ps → HaveCopies cs rows ps → HaveCopies cs rows (stripped gone ps)
  strip_copies cs rows ps distinct rooted h = record {
    cores = λ a b d la lb m lt i k. h.cores a b d (fewer rows ps a la) (fewer rows ps b lb) m lt i k;
    contains = λ r b i root lb m lt. h.contains r b (In-filter _ r ps i).0 root (fewer rows ps b lb) m lt;
    copies = λ r b i root lb m lt.
        let was = In-filter (λ p. not (gone p.posse)) r ps i in
        count_kept (λ x. same_chunk x.id b && same_id x.root r.id) (λ p. not (gone p.posse)) ps
        (λ x ix on.
        let to : x.root ≡ r.id = same_id_means x.root r.id (and_parts _ _ on).1 in
        let of = (rooted x ix).has_root in
        let one : of.root ≡ r = one_pending ps of.root r distinct of.among was.0 (of.root_is ∙ to) in
        let posse : x.posse ≡ r.posse = sym of.posse_is ∙ ap (λ (p : PendingRow). p.posse) one in
        rw posse was.1)
        ∙ h.copies r b was.0 root (fewer rows ps b lb) m lt;
  }

  pub strip_carries : (cs : List ChunkRow) (us : List UpgradeRow) (pubs : List Publication) → CarriesUpgrades qs cs us pubs → CarriesUpgrades after cs (stripped_upgrades gone us) pubs
  strip_carries cs us pubs h q t root v kind at uncovered = carried (lose.back q v) where
    carried : IsStillValid gone qs q → upgraded (stripped_upgrades gone us) q.number t root ≡ alive (λ k. nat_le q.since k) pubs q.source t root
    carried was =
        count_kept (λ u. (u.posse == q.number) && (has root.span t && same_id u.root root)) (λ u. not (gone u.posse)) us
        (λ u i on. let same : u.posse ≡ q.number = (Decides-eqb _ _).0 (and_parts _ _ on).0 in rw (same, was.kept) refl)
        ∙ moved was.row was.same (h was.row t root was.is_valid (was.same.kind_is ∙ kind) (rw was.same.span_is at) (rw (was.same.source_is, was.same.version_is) uncovered)) where
          moved : (p : PosseRow) → IsSameLock p q → upgraded us p.number t root ≡ alive (λ k. nat_le p.since k) pubs p.source t root → upgraded us q.number t root ≡ alive (λ k. nat_le q.since k) pubs q.source t root
          moved p same e = subst (λ n. upgraded us n t root ≡ alive (λ k. nat_le q.since k) pubs q.source t root) same.number_is (subst (λ s. upgraded us p.number t root ≡ alive (λ k. nat_le s k) pubs q.source t root) same.since_is (subst (λ s. upgraded us p.number t root ≡ alive (λ k. nat_le p.since k) pubs s t root) same.source_is e))
