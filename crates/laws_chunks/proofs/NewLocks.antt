-- What is kept where a lock row is granted.
use Rattle.std.proofs.Common.{List, [], arith, inl, inr, length, nat_le, pos, refl, subst, sym, ℤ, ◌&&◌, ◌++◌, ◌==◌, ◌∙◌, ◌∷◌, ◌≡◌, ◌⊎◌}
use Rattle.std.proofs.lemmas.Bool.{false≢true}
use Rattle.iv_span.specs.Extent.{has}
use Rattle.seg_names.specs.Ids.{same_id}
use Rattle.book_rows.specs.Contents.{alive}
use Rattle.book_rows.specs.Lists.{In}
use Rattle.book_rows.specs.Live.{IsOwner, IsValid, IsWhole}
use Rattle.book_rows.specs.Rules.{AreBelowLocks, AreRooted, AreUpgrades, CarriesUpgrades, HaveCores, upgraded}
use Rattle.book_rows.specs.declared.rows.ChunkRow.{ChunkRow}
use Rattle.book_rows.specs.declared.rows.PendingRow.{PendingRow}
use Rattle.book_rows.specs.declared.rows.PosseRow.{PosseRow}
use Rattle.book_rows.specs.declared.rows.Publication.{Publication}
use Rattle.book_rows.specs.declared.rows.SegmentRow.{SegmentRow}
use Rattle.book_rows.specs.declared.rows.UpgradeRow.{UpgradeRow}
use Rattle.laws_chunks.proofs.ChangeFacts.{HasNewNumber, HasNewVersion}
use Rattle.laws_chunks.proofs.Alive.{alive_none, beyond}
use Rattle.laws_chunks.proofs.Members.{In-append, In-left, count_none}
use Rattle.laws_chunks.proofs.Spans.{le_not_lt, lt_is_le, lt_not_self, lt_trans_le}
use Rattle.laws_chunks.specs.ChunksSound.{AreUpTo, HaveLiveChunks}
use Rattle.book_rows.specs.declared.kinds.LockKind.TheVariants as LockKinds

module _ (qs : List PosseRow) (new : PosseRow) where
  old_or_new : (q : PosseRow) → IsValid (qs ++ new ∷ []) q → IsValid qs q ⊎ (q ≡ new)
  old_or_new q v = elim (In-append q qs (new ∷ []) v.among) [
    | inl i ↦ inl (record { among = i; valid = v.valid })
    | inr (inl e) ↦ inr e
    | inr (inr i) ↦ absurd i
  ]

  still_valid : (q : PosseRow) → IsValid qs q → IsValid (qs ++ new ∷ []) q
  still_valid q v = record { among = In-left q qs (new ∷ []) v.among; valid = v.valid }

  pub grant_rooted : (ps : List PendingRow) → AreRooted qs ps → AreRooted (qs ++ new ∷ []) ps
  grant_rooted ps h p i =
      let r = h p i in
      record {
        has_root = r.has_root;
        has_posse = record {
          posse = r.has_posse.posse;
          is_valid = still_valid _ r.has_posse.is_valid;
          number_is = r.has_posse.number_is;
          source_is = r.has_posse.source_is;
          covers_root = r.has_posse.covers_root;
        };
        kind_is = r.kind_is;
      }

  pub grant_upgrades : (us : List UpgradeRow) (pubs : List Publication) → AreUpgrades qs us pubs → AreUpgrades (qs ++ new ∷ []) us pubs
  grant_upgrades us pubs h u i =
      let up = h u i in
      record {
        posse = up.posse;
        is_valid = still_valid _ up.is_valid;
        number_is = up.number_is;
        kind_is = up.kind_is;
        covers_root = up.covers_root;
        added = up.added;
      }

  -- no chunk is as high as a new lock that guards
  pub grant_below_locks : (last : ℤ) (cs : List ChunkRow) (rows : List SegmentRow) (ps : List PendingRow) → HasNewVersion last new → AreUpTo last cs → HaveLiveChunks cs rows ps → AreBelowLocks qs rows ps → AreBelowLocks (qs ++ new ∷ []) rows ps
  grant_below_locks last cs rows ps fresh upto chunks h a q la v g e o =
      elim (old_or_new q v) [
        | inl was ↦ h a q la was g e o
        | inr is ↦ elim fresh [
          | inl off ↦ absurd (false≢true (rw (is, off.0) at g))
          | inr above ↦
              let c = chunks a la in
              rw (is, c.2.version_is) (lt_is_le c.0.version new.version (lt_trans_le c.0.version last new.version (upto c.0 c.1) above))
        ]
      ]

  pub grant_cores : (last : ℤ) (cs : List ChunkRow) (rows : List SegmentRow) (ps : List PendingRow) → HasNewVersion last new → AreUpTo last cs → HaveCores qs cs rows ps → HaveCores (qs ++ new ∷ []) cs rows ps
  grant_cores last cs rows ps fresh upto h = record {
    live = h.live;
    owned = λ c q i o. elim (owner c q i o) [ inl was ↦ h.owned c q i was | inr e ↦ nothing c (h.zero_version c i e.1) ];
    zero_version = h.zero_version;
    shared = λ c q i o k. elim (owner c q i o) [ inl was ↦ h.shared c q i was k | inr e ↦ h.zero_version c i e.1 ];
    replace = λ c q i o k. elim (owner c q i o) [ inl was ↦ h.replace c q i was k | inr e ↦ absurd (other q k e.0) ];
    within = λ c q i o p. elim (owner c q i o) [ inl was ↦ h.within c q i was p | inr e ↦ absurd (lt_not_self _ _ (sym e.1) p) ];
  } where
    nothing : (c : ChunkRow) → c.core ≡ 0 → IsWhole rows c
    nothing c e i lt = absurd (omega arith)

    other : (q : PosseRow) → q.lock_kind ≡ LockKinds.Replace → q.lock_kind ≡ LockKinds.Append → ⊥
    other q a b = cc

    -- a chunk of the new row's version has version 0
    owner : (c : ChunkRow) (q : PosseRow) → In c cs → IsOwner (qs ++ new ∷ []) c q → IsOwner qs c q ⊎ ((q.lock_kind ≡ LockKinds.Append) × (c.version ≡ pos 0))
    owner c q i o = elim (old_or_new q o.is_valid) [
      | inl was ↦ inl (record { is_valid = was; source_is = o.source_is; version_is = o.version_is })
      | inr is ↦ elim fresh [
        | inl off ↦ inr (rw is off.0, o.version_is ∙ (rw is off.1))
        | inr above ↦ absurd (le_not_lt c.version last (upto c i) (rw (o.version_is, is) above))
      ]
    ]

  pub grant_carries : (cs : List ChunkRow) (us : List UpgradeRow) (pubs : List Publication) → HasNewNumber qs new → new.since ≡ length pubs → AreUpgrades qs us pubs → CarriesUpgrades qs cs us pubs → CarriesUpgrades (qs ++ new ∷ []) cs us pubs
  grant_carries cs us pubs fresh since ups h q t root v kind at uncovered = elim (old_or_new q v) [
    | inl was ↦ h q t root was kind at uncovered
    | inr is ↦ subst (λ (q : PosseRow). upgraded us q.number t root ≡ alive (λ k. nat_le q.since k) pubs q.source t root) (sym is)
        (count_none (λ u. (u.posse == new.number) && (has root.span t && same_id u.root root)) us
        (λ u i. let up = ups u i in rw (← up.number_is, fresh up.posse up.is_valid) refl)
        ∙ sym (alive_none new.source t root 0 (λ k. nat_le new.since k) pubs (λ j lt. rw since (beyond (length pubs) j (omega arith)))))
  ]
