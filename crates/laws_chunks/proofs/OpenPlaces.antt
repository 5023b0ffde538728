-- What is kept where a chunk row without ids comes, and where a root pending comes.
use Rattle.std.proofs.Common.{Bool, List, [], ap, arith, false, inl, inr, int_lt, map, pos, refl, subst, sym, true, ℕ, ℤ, ◌&&◌, ◌++◌, ◌<◌, ◌||◌, ◌∙◌, ◌∷◌, ◌≡◌, ◌⊎◌}
use Rattle.std.proofs.lemmas.Bool.{and_right}
use Rattle.std.proofs.lemmas.List.Folds.{list_any-append}
use Rattle.std.specs.Ordering.{int_eq}
use Rattle.std.specs.Prelude.{bytes_eq}
use Rattle.iv_span.specs.Extent.{Extent, covers, has}
use Rattle.seg_names.specs.Ids.{same_id}
use Rattle.seg_names.specs.declared.seg_id.SegId.{SegId}
use Rattle.book_rows.specs.Allocation.{bumped}
use Rattle.book_rows.specs.Ids.{same_chunk}
use Rattle.book_rows.specs.Lists.{In, count}
use Rattle.book_rows.specs.Live.{DoMeet, IsIn, IsLive, IsOwner, IsSameChunk, IsWhole, is_covered}
use Rattle.book_rows.specs.Rules.{AreBelowLocks, AreRooted, CarriesUpgrades, HasPosse, HaveCopies, HaveCores, HaveOneSpan, IsRooted}
use Rattle.book_rows.specs.declared.rows.ChunkRow.{ChunkRow}
use Rattle.book_rows.specs.declared.rows.PendingRow.{PendingRow}
use Rattle.book_rows.specs.declared.rows.PosseRow.{PosseRow}
use Rattle.book_rows.specs.declared.rows.Publication.{Publication}
use Rattle.book_rows.specs.declared.rows.SegmentRow.{SegmentRow}
use Rattle.book_rows.specs.declared.rows.UpgradeRow.{UpgradeRow}
use Rattle.laws_chunks.proofs.ChangeFacts.{IsNewChunk}
use Rattle.laws_chunks.proofs.Members.{In-append, In-left, In-map, In-right, count-append, map_In}
use Rattle.laws_chunks.proofs.Spans.{by_chunk, in_one, lt_not_lt, lt_not_self, meets_right, meets_swap}
use Rattle.laws_chunks.specs.ChunksSound.{HaveLiveChunks}
use Rattle.laws_chunks.specs.Openings.{IsOpen}
use Rattle.book_rows.specs.declared.kinds.LockKind.TheVariants as LockKinds

-- ---- a chunk row

module _ (qs : List PosseRow) (cs : List ChunkRow) (rows : List SegmentRow) (ps : List PendingRow) (n : ChunkRow) (h : IsNewChunk qs cs n) where
  row_or_new : (c : ChunkRow) → In c (cs ++ n ∷ []) → In c cs ⊎ (c ≡ n)
  row_or_new c i = elim (In-append c cs (n ∷ []) i) [
    | inl j ↦ inl j
    | inr (inl e) ↦ inr e
    | inr (inr j) ↦ absurd j
  ]

  pub chunk_chunks : HaveLiveChunks cs rows ps → HaveLiveChunks (cs ++ n ∷ []) rows ps
  chunk_chunks chunks a la = let c = chunks a la in (c.0, In-left c.0 cs (n ∷ []) c.1, c.2)

  empty : (c : ChunkRow) → c ≡ n → c.core ≡ 0
  empty c e = ap (λ (c : ChunkRow). c.core) e ∙ h.core_is

  no_part : (c : ChunkRow) → c.core ≡ 0 → IsWhole rows c
  no_part c e i lt = absurd (omega arith)

  owns_new : (c : ChunkRow) (q : PosseRow) → c ≡ n → IsOwner qs c q → IsOwner qs n q
  owns_new c q e o = subst (λ (c : ChunkRow). IsOwner qs c q) e o

  pub chunk_cores : HaveCores qs cs rows ps → HaveCores qs (cs ++ n ∷ []) rows ps
  chunk_cores cores = record {
    live = λ c a i l k. elim (row_or_new c i) [ inl j ↦ cores.live c a j l k | inr e ↦ no_part c (empty c e) ];
    owned = λ c q i o. elim (row_or_new c i) [ inl j ↦ cores.owned c q j o | inr e ↦ no_part c (empty c e) ];
    zero_version = λ c i z. elim (row_or_new c i) [ inl j ↦ cores.zero_version c j z | inr e ↦ empty c e ];
    shared = λ c q i o k. elim (row_or_new c i) [ inl j ↦ cores.shared c q j o k | inr e ↦ empty c e ];
    replace = λ c q i o k. elim (row_or_new c i) [ inl j ↦ cores.replace c q j o k | inr e ↦ absurd (h.not_replacing q (owns_new c q e o) k) ];
    within = λ c q i o p. elim (row_or_new c i) [ inl j ↦ cores.within c q j o p | inr e ↦ subst (λ (c : ChunkRow). covers q.span c.span ≡ true) (sym e) (h.within q (owns_new c q e o) (subst (λ (c : ChunkRow). int_lt (pos 0) c.version ≡ true) e p)) ];
  }

  pub chunk_copies : HaveLiveChunks cs rows ps → HaveCopies cs rows ps → HaveCopies (cs ++ n ∷ []) rows ps
  chunk_copies chunks copies = record {
    cores = λ a b d la lb m lt i k. elim (row_or_new d i) [
      | inl j ↦ copies.cores a b d la lb m lt j k
      | inr e ↦ let c = chunks b lb in absurd (h.is_new c.0 b c.1 c.2 (subst (λ (d : ChunkRow). IsIn d b) e k))
    ];
    contains = copies.contains;
    copies = copies.copies;
  }

  pub chunk_carries : (us : List UpgradeRow) (pubs : List Publication) → CarriesUpgrades qs cs us pubs → CarriesUpgrades qs (cs ++ n ∷ []) us pubs
  chunk_carries us pubs carries q t root v kind at uncovered = carries q t root v kind at (left_off _ _ (sym (list_any-append (λ c. bytes_eq c.source q.source && int_eq c.version q.version && has c.span t) cs (n ∷ [])) ∙ uncovered)) where
    left_off : (a b : Bool) → (a || b) ≡ false → a ≡ false
    left_off a b e = grind arith

-- ---- a root pending

module _ (qs : List PosseRow) (cs : List ChunkRow) (rows : List SegmentRow) (ps : List PendingRow) (n : PendingRow) (h : IsOpen qs cs rows ps n.id) where
  live_or_new : (a : SegId) → IsLive rows (ps ++ n ∷ []) a → IsLive rows ps a ⊎ (a ≡ n.id)
  live_or_new a (inl u) = inl (inl u)
  live_or_new a (inr p) = elim (In-append p.0 ps (n ∷ []) p.1) [
    | inl i ↦ inl (inr (p.0, i, p.2))
    | inr (inl e) ↦ inr (sym p.2 ∙ ap (λ (p : PendingRow). p.id) e)
    | inr (inr i) ↦ absurd i
  ]

  pub open_chunks : HaveLiveChunks cs rows ps → HaveLiveChunks cs rows (ps ++ n ∷ [])
  open_chunks chunks a la = elim (live_or_new a la) [
    | inl l ↦ chunks a l
    | inr e ↦ (h.chunk, h.among, rw e h.is_in)
  ]

  -- a live chunk of the version that meets it is its chunk
  one_chunk : (b : SegId) → IsLive rows ps b → DoMeet b n.id → b.version ≡ n.id.version → b.span ≡ n.id.span
  one_chunk b l m e = elim (h.above b l m) [ inl same ↦ same.span_is | inr lt ↦ absurd (lt_not_self _ _ e lt) ]

  pub open_one_span : HaveOneSpan rows ps → HaveOneSpan rows (ps ++ n ∷ [])
  open_one_span one a b la lb m e = elim (live_or_new a la) [
    | inl oa ↦ elim (live_or_new b lb) [
      | inl ob ↦ one a b oa ob m e
      | inr nb ↦ one_chunk a oa (subst (λ (b : SegId). DoMeet a b) nb m) (e ∙ ap (λ (x : SegId). x.version) nb) ∙ ap (λ (x : SegId). x.span) (sym nb)
    ]
    | inr na ↦ elim (live_or_new b lb) [
      | inl ob ↦ ap (λ (x : SegId). x.span) na ∙ sym (one_chunk b ob (meets_swap n.id b (subst (λ (a : SegId). DoMeet a b) na m)) (sym e ∙ ap (λ (x : SegId). x.version) na))
      | inr nb ↦ ap (λ (x : SegId). x.span) (na ∙ sym nb)
    ]
  ]

  pub open_below_locks : AreBelowLocks qs rows ps → AreBelowLocks qs rows (ps ++ n ∷ [])
  open_below_locks below a q la v g e o = elim (live_or_new a la) [
    | inl oa ↦ below a q oa v g e o
    | inr na ↦ rw na (h.below_locks q v g (rw (← na) e) (rw (← na) o))
  ]

  pub open_rooted : n.id ≡ n.root → HasPosse qs n → AreRooted qs ps → AreRooted qs (ps ++ n ∷ [])
  open_rooted root posse rooted p i = elim (In-append p ps (n ∷ []) i) [
    | inl j ↦ older p (rooted p j)
    | inr (inl e) ↦ subst (IsRooted qs (ps ++ n ∷ [])) (sym e) (record {
      has_root = record { root = n; among = In-right n ps (n ∷ []) (inl refl); is_root = root; root_is = root; posse_is = refl; sequence_is = refl; previous_is = refl };
      has_posse = posse;
      kind_is = inl root;
    })
    | inr (inr j) ↦ absurd j
  ] where
    older : (p : PendingRow) → IsRooted qs ps p → IsRooted qs (ps ++ n ∷ []) p
    older p r = record {
      has_root = record {
        root = r.has_root.root;
        among = In-left r.has_root.root ps (n ∷ []) r.has_root.among;
        is_root = r.has_root.is_root;
        root_is = r.has_root.root_is;
        posse_is = r.has_root.posse_is;
        sequence_is = r.has_root.sequence_is;
        previous_is = r.has_root.previous_is;
      };
      has_posse = r.has_posse;
      kind_is = r.kind_is;
    }

  pub open_cores : HaveCores qs cs rows ps → HaveCores qs cs rows (ps ++ n ∷ [])
  open_cores cores = record {
    live = λ c a i l k. elim (live_or_new a l) [ inl o ↦ cores.live c a i o k | inr e ↦ h.whole c i (subst (λ (a : SegId). IsIn c a) e k) ];
    owned = cores.owned;
    zero_version = cores.zero_version;
    shared = cores.shared;
    replace = cores.replace;
    within = cores.within;
  }

  -- nothing is above the new pending's chunk
  none_over : (b : SegId) → IsLive rows ps b → DoMeet n.id b → int_lt n.id.version b.version ≡ true → ⊥
  none_over b l m lt = elim (h.above b l (meets_swap n.id b m)) [
    | inl same ↦ lt_not_self _ _ (sym same.version_is) lt
    | inr low ↦ lt_not_lt n.id.version b.version lt low
  ]

  -- where a live chunk is below it, a used row is in its chunk
  under : (a : SegId) → IsLive rows ps a → DoMeet a n.id → int_lt a.version n.id.version ≡ true → (u : SegmentRow) × In u rows × (u.used ≡ true) × IsSameChunk u.id n.id
  under a l m lt = elim (h.alone h.chunk h.among h.is_in) [
    | inl core ↦ let w = h.whole h.chunk h.among h.is_in 0 core in (w.0, w.1, w.2, in_one h.chunk w.0.id n.id w.3 h.is_in)
    | inr lone ↦ absurd (lt_not_self _ _ (lone a l m).version_is lt)
  ]

  -- what holds of an upper chunk that was live holds of the new pending's
  from_under : (F : List ℕ → Extent → ℤ → Type 0) (a : SegId) → IsLive rows ps a → DoMeet a n.id → int_lt a.version n.id.version ≡ true
      → ((b : SegId) → IsLive rows ps b → DoMeet a b → int_lt a.version b.version ≡ true → F b.source b.span b.version) → F n.id.source n.id.span n.id.version
  from_under F a l m lt g =
      let u = under a l m lt in
      by_chunk F u.0.id n.id u.3 (g u.0.id (inl (u.0, u.1, u.2, refl)) (meets_right a n.id u.0.id m u.3) (rw u.3.version_is lt))

  pub open_copies : n.id ≡ n.root → ((p : PendingRow) → In p ps → same_id n.id p.id ≡ false) → HaveCopies cs rows ps → HaveCopies cs rows (ps ++ n ∷ [])
  open_copies root fresh copies = record { cores = cores; contains = contains; copies = one } where
    same_not : (a b : SegId) → a ≡ n.id → b ≡ n.id → int_lt a.version b.version ≡ true → ⊥
    same_not a b e f lt = lt_not_self _ _ (ap (λ (x : SegId). x.version) (e ∙ sym f)) lt

    cores : (a b : SegId) (d : ChunkRow) → IsLive rows (ps ++ n ∷ []) a → IsLive rows (ps ++ n ∷ []) b → DoMeet a b → int_lt a.version b.version ≡ true → In d cs → IsIn d b → 0 < d.core
    cores a b d la lb m lt i k = elim (live_or_new a la) [
      | inl oa ↦ elim (live_or_new b lb) [
        | inl ob ↦ copies.cores a b d oa ob m lt i k
        | inr nb ↦ elim (h.alone d i (subst (λ (b : SegId). IsIn d b) nb k)) [
          | inl core ↦ core
          | inr lone ↦ absurd (lt_not_self _ _ ((lone a oa (subst (λ (b : SegId). DoMeet a b) nb m)).version_is ∙ ap (λ (x : SegId). x.version) (sym nb)) lt)
        ]
      ]
      | inr na ↦ elim (live_or_new b lb) [
        | inl ob ↦ absurd (none_over b ob (subst (λ (a : SegId). DoMeet a b) na m) (subst (λ (a : SegId). int_lt a.version b.version ≡ true) na lt))
        | inr nb ↦ absurd (same_not a b na nb lt)
      ]
    ]

    -- for an old root and what is above it
    of_old : (F : List ℕ → Extent → ℤ → Type 0) (a b : SegId) → IsLive rows ps a → IsLive rows (ps ++ n ∷ []) b → DoMeet a b → int_lt a.version b.version ≡ true
        → ((b : SegId) → IsLive rows ps b → DoMeet a b → int_lt a.version b.version ≡ true → F b.source b.span b.version) → F b.source b.span b.version
    of_old F a b la lb m lt g = elim (live_or_new b lb) [
      | inl ob ↦ g b ob m lt
      | inr nb ↦ subst (λ (b : SegId). F b.source b.span b.version) (sym nb) (from_under F a la (subst (λ (b : SegId). DoMeet a b) nb m) (subst (λ (b : SegId). int_lt a.version b.version ≡ true) nb lt) g)
    ]

    of_new : (a b : SegId) → a ≡ n.id → IsLive rows (ps ++ n ∷ []) b → DoMeet a b → int_lt a.version b.version ≡ true → ⊥
    of_new a b na lb m lt = elim (live_or_new b lb) [
      | inl ob ↦ none_over b ob (subst (λ (a : SegId). DoMeet a b) na m) (subst (λ (a : SegId). int_lt a.version b.version ≡ true) na lt)
      | inr nb ↦ same_not a b na nb lt
    ]

    contains : (r : PendingRow) (b : SegId) → In r (ps ++ n ∷ []) → r.id ≡ r.root → IsLive rows (ps ++ n ∷ []) b → DoMeet r.id b → int_lt r.id.version b.version ≡ true → covers b.span r.id.span ≡ true
    contains r b i is_root lb m lt = elim (In-append r ps (n ∷ []) i) [
      | inl j ↦ of_old (λ q s v. covers s r.id.span ≡ true) r.id b (inr (r, j, refl)) lb m lt (λ b l m lt. copies.contains r b j is_root l m lt)
      | inr (inl e) ↦ absurd (of_new r.id b (ap (λ (p : PendingRow). p.id) e) lb m lt)
      | inr (inr j) ↦ absurd j
    ]

    one : (r : PendingRow) (b : SegId) → In r (ps ++ n ∷ []) → r.id ≡ r.root → IsLive rows (ps ++ n ∷ []) b → DoMeet r.id b → int_lt r.id.version b.version ≡ true → count (λ x. same_chunk x.id b && same_id x.root r.id) (ps ++ n ∷ []) ≡ 1
    one r b i is_root lb m lt = elim (In-append r ps (n ∷ []) i) [
      | inl j ↦
          let other : same_id n.root r.id ≡ false = rw (← root) (fresh r j) in
          count-append (λ x. same_chunk x.id b && same_id x.root r.id) ps (n ∷ [])
          ∙ rw (of_old (λ q s v. count (λ x. same_chunk x.id (record { source = q; span = s; version = v; part = 0 }) && same_id x.root r.id) ps ≡ 1) r.id b (inr (r, j, refl)) lb m lt (λ b l m lt. copies.copies r b j is_root l m lt), other, and_right (same_chunk n.id b) false refl) refl
      | inr (inl e) ↦ absurd (of_new r.id b (ap (λ (p : PendingRow). p.id) e) lb m lt)
      | inr (inr j) ↦ absurd j
    ]

-- ---- the next part of a chunk row moves

module _ (a : SegId) (cs : List ChunkRow) where
  bump_all : (P : ChunkRow → Type 0) → ((c : ChunkRow) → In c cs → P (bumped a c)) → (c : ChunkRow) → In c (map (bumped a) cs) → P c
  bump_all P f c i = let w = In-map (bumped a) c cs i in subst P (sym w.2) (f w.0 w.1)

  pub bump_chunks : (rows : List SegmentRow) (ps : List PendingRow) → HaveLiveChunks cs rows ps → HaveLiveChunks (map (bumped a) cs) rows ps
  bump_chunks rows ps chunks x l = let c = chunks x l in (bumped a c.0, map_In (bumped a) c.0 cs c.1, c.2)

  pub bump_cores : (qs : List PosseRow) (rows : List SegmentRow) (ps : List PendingRow) → HaveCores qs cs rows ps → HaveCores qs (map (bumped a) cs) rows ps
  bump_cores qs rows ps h = record {
    live = λ c x i. bump_all (λ c. IsLive rows ps x → IsIn c x → IsWhole rows c) (λ c j. h.live c x j) c i;
    owned = λ c q i. bump_all (λ c. IsOwner qs c q → IsWhole rows c) (λ c j. h.owned c q j) c i;
    zero_version = λ c i. bump_all (λ c. c.version ≡ pos 0 → c.core ≡ 0) (λ c j. h.zero_version c j) c i;
    shared = λ c q i. bump_all (λ c. IsOwner qs c q → q.lock_kind ≡ LockKinds.Shared → c.core ≡ 0) (λ c j. h.shared c q j) c i;
    replace = λ c q i. bump_all (λ c. IsOwner qs c q → q.lock_kind ≡ LockKinds.Replace → 0 < c.core) (λ c j. h.replace c q j) c i;
    within = λ c q i. bump_all (λ c. IsOwner qs c q → int_lt (pos 0) c.version ≡ true → covers q.span c.span ≡ true) (λ c j. h.within c q j) c i;
  }

  pub bump_copies : (rows : List SegmentRow) (ps : List PendingRow) → HaveCopies cs rows ps → HaveCopies (map (bumped a) cs) rows ps
  bump_copies rows ps h = record {
    cores = λ x y d lx ly m lt i. bump_all (λ d. IsIn d y → 0 < d.core) (λ d j. h.cores x y d lx ly m lt j) d i;
    contains = h.contains;
    copies = h.copies;
  }

any_bumped : (a : SegId) (q : PosseRow) (t : ℤ) (cs : List ChunkRow) → is_covered (map (bumped a) cs) q t ≡ is_covered cs q t
any_bumped a q t [] = refl
any_bumped a q t (c ∷ cs) = rw (any_bumped a q t cs) refl

pub bump_carries : (a : SegId) (qs : List PosseRow) (cs : List ChunkRow) (us : List UpgradeRow) (pubs : List Publication) → CarriesUpgrades qs cs us pubs → CarriesUpgrades qs (map (bumped a) cs) us pubs
bump_carries a qs cs us pubs h q t root v kind at uncovered = h q t root v kind at (sym (any_bumped a q t cs) ∙ uncovered)
