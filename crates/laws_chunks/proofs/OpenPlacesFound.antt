-- A place for a root pending is open, and stays so over revocations, joins and a grant.
use Rattle.std.proofs.Common.{[], ap, arith, inl, inr, int_le, int_lt, pos, refl, subst, sym, true, ℕ, ◌<◌, ◌∙◌, ◌∷◌, ◌≡◌, ◌⊎◌}
use Rattle.std.proofs.lemmas.Bool.{cases_Bool, cases_lt, false≢true}
use Rattle.iv_span.specs.Extent.{Extent, covers, has, overlap}
use Rattle.seg_names.specs.declared.seg_id.SegId.{SegId}
use Rattle.book_rows.specs.Kinds.{guards}
use Rattle.book_rows.specs.Lists.{In, stands_in}
use Rattle.book_rows.specs.Live.{DoMeet, IsIn, IsLive, IsSameChunk, IsValid, IsWhole}
use Rattle.book_rows.specs.Locks.{stripped}
use Rattle.book_rows.specs.Rules.{IsRooted}
use Rattle.book_rows.specs.declared.kinds.LockKind.{LockKind}
use Rattle.book_rows.specs.declared.rows.ChunkRow.{ChunkRow}
use Rattle.book_rows.specs.declared.rows.PosseRow.{PosseRow}
use Rattle.book_rows.specs.declared.rows.SegmentRow.{SegmentRow}
use Rattle.laws_chunks.proofs.LockFacts.{beside_exclusive, beside_replace, one_number}
use Rattle.laws_chunks.proofs.LosingLocks.{joined_loses, revoked_loses, stripped_in}
use Rattle.laws_chunks.proofs.Members.{In-append}
use Rattle.laws_chunks.proofs.Spans.{covers_self, has_wider, in_moved, le_cases, le_from, lt_is_le, lt_trans_le, meets_swap, not_lt_le, overlap_both, overlap_wider, swapped}
use Rattle.laws_chunks.specs.Places.{BucketIsOpen, GrantStaysOpen, JoinStaysOpen, PendingPlaceIsOpen, RevokeStaysOpen, RowPlaceIsOpen}
use Rattle.book_rows.specs.declared.kinds.LockKind.TheVariants as LockKinds

-- a core, or none
core_cases : (n : ℕ) → (n ≡ 0) ⊎ (0 < n)
core_cases n = elim (cases_lt 0 n) [ inl lt ↦ inr lt | inr le ↦ inl (omega arith) ]

meets_chunk : (x a u : SegId) → IsSameChunk a u → DoMeet x a → DoMeet x u
meets_chunk x a u s m = record { source_is = m.source_is ∙ s.source_is; overlap_is = subst (λ (e : Extent). overlap x.span e ≡ true) s.span_is m.overlap_is }

-- ---- the chunk of a row that nothing cuts

pub row_place : RowPlaceIsOpen
row_place b u a h un same = record { chunk = c.0; among = c.1; is_in = in_moved c.0 a u.id c.2 same; above = above; below_locks = below; whole = λ e i k. h.cores.live e u.id i live (in_moved e u.id a k (swapped a u.id same)); alone = alone } where
  live : IsLive b.segments b.pendings u.id
  live = inl (u, un.among, un.used, refl)

  c : (c : ChunkRow) × In c b.chunks × IsIn c u.id
  c = h.shape.chunk_rows u.id (inl (u, un.among, un.used, refl))

  above_u : (x : SegId) → IsLive b.segments b.pendings x → DoMeet x u.id → IsSameChunk x u.id ⊎ (int_lt x.version u.id.version ≡ true)
  above_u x l m = elim (cases_Bool (int_lt u.id.version x.version)) [
    | inl over ↦
        let e = h.shape.chunk_rows x l in
        let core = h.copies.cores u.id x e.0 (inl (u, un.among, un.used, refl)) l (meets_swap x u.id m) over e.1 e.2 in
        let w = h.cores.live e.0 x e.1 l e.2 0 core in
        absurd (false≢true (sym (un.uncut w.0 w.1 w.2 (w.3.source_is ∙ sym e.2.source_is ∙ m.source_is) (subst (λ (s : Extent). overlap s u.id.span ≡ true) (e.2.span_is ∙ sym w.3.span_is) m.overlap_is)) ∙ (rw (w.3.version_is ∙ sym e.2.version_is) over)))
    | inr off ↦ elim (le_cases x.version u.id.version (not_lt_le u.id.version x.version off)) [
      | inr lower ↦ inr lower
      | inl even ↦ inl (record { source_is = m.source_is; span_is = h.one_span x u.id l (inl (u, un.among, un.used, refl)) m even; version_is = even })
    ]
  ]

  above : (x : SegId) → IsLive b.segments b.pendings x → DoMeet x a → IsSameChunk x a ⊎ (int_lt x.version a.version ≡ true)
  above x l m = elim (above_u x l (meets_chunk x a u.id same m)) [
    | inl s ↦ inl (record { source_is = s.source_is ∙ sym same.source_is; span_is = s.span_is ∙ sym same.span_is; version_is = s.version_is ∙ sym same.version_is })
    | inr lt ↦ inr (rw same.version_is lt)
  ]

  below : (q : PosseRow) → IsValid b.posses q → guards q.lock_kind ≡ true → a.source ≡ q.source → overlap a.span q.span ≡ true → int_le a.version q.version ≡ true
  below q v g e o = rw same.version_is (h.below_locks u.id q (inl (u, un.among, un.used, refl)) v g (sym same.source_is ∙ e) (subst (λ (s : Extent). overlap s q.span ≡ true) same.span_is o))

  alone : (e : ChunkRow) → In e b.chunks → IsIn e a → (0 < e.core) ⊎ ((x : SegId) → IsLive b.segments b.pendings x → DoMeet x a → IsSameChunk x a)
  alone e i k = elim (core_cases e.core) [
    | inr core ↦ inl core
    | inl none ↦ inr (λ x l m. elim (above x l m) [
      | inl s ↦ s
      | inr lt ↦
          let core = h.copies.cores x u.id e l (inl (u, un.among, un.used, refl)) (meets_chunk x a u.id same m) (rw (← same.version_is) lt) i (in_moved e u.id a k (swapped a u.id same)) in
          absurd (omega (arith, none, core))
    ])
  ]

-- ---- the chunk of a pending where no row is

pub pending_place : PendingPlaceIsOpen
pending_place b p t a h bare same = record { chunk = c.0; among = c.1; is_in = in_moved c.0 a p.id c.2 same; above = λ x l m. inl (only x l m); below_locks = below; whole = λ e i k. h.cores.live e p.id i live (in_moved e p.id a k (swapped a p.id same)); alone = λ e i k. inr only } where
  live : IsLive b.segments b.pendings p.id
  live = inr (p, bare.among, refl)

  c : (c : ChunkRow) × In c b.chunks × IsIn c p.id
  c = h.shape.chunk_rows p.id (inr (p, bare.among, refl))

  -- a used row at the instant
  no_row : (w : SegmentRow) → In w b.segments → w.used ≡ true → w.id.source ≡ p.id.source → has w.id.span t ≡ true → ⊥
  no_row w i u e at = false≢true (sym (bare.none w i u e) ∙ at)

  -- the pending's chunk has no core
  no_core : (c : (c : ChunkRow) × In c b.chunks × IsIn c p.id) → 0 < c.0.core → ⊥
  no_core c core =
      let w = h.cores.live c.0 p.id c.1 (inr (p, bare.among, refl)) c.2 0 core in
      no_row w.0 w.1 w.2 (w.3.source_is ∙ sym c.2.source_is) (rw (w.3.span_is ∙ sym c.2.span_is) bare.at)

  -- so no live chunk that it meets is below it
  none_below : (x : SegId) → IsLive b.segments b.pendings x → DoMeet x p.id → int_lt x.version p.id.version ≡ true → ⊥
  none_below x l m lt = let c = h.shape.chunk_rows p.id (inr (p, bare.among, refl)) in no_core c (h.copies.cores x p.id c.0 l (inr (p, bare.among, refl)) m lt c.1 c.2)

  none_above : (x : SegId) → IsLive b.segments b.pendings x → DoMeet p.id x → int_lt p.id.version x.version ≡ true → ⊥
  none_above x l m lt =
      let r = h.rooted p bare.among in
      elim r.kind_is [
        | inl root ↦
            let e = h.shape.chunk_rows x l in
            let core = h.copies.cores p.id x e.0 (inr (p, bare.among, refl)) l m lt e.1 e.2 in
            let w = h.cores.live e.0 x e.1 l e.2 0 core in
            let over : covers x.span p.id.span ≡ true = h.copies.contains p x bare.among root l m lt in
            no_row w.0 w.1 w.2 (w.3.source_is ∙ sym e.2.source_is ∙ sym m.source_is) (rw (w.3.span_is ∙ sym e.2.span_is) (has_wider x.span p.id.span t over bare.at))
        | inr copy ↦
            let root = r.has_root in
            let from = h.rooted root.root root.among in
            let lower : int_lt root.root.id.version p.id.version ≡ true = rw root.root_is copy.above in
            let proper : int_lt root.root.id.span.start root.root.id.span.end ≡ true = subst (λ (a : SegId). int_lt a.span.start a.span.end ≡ true) (sym root.is_root) (h.shape.root_spans root.root root.among) in
            let into : covers p.id.span root.root.id.span ≡ true = subst (λ (a : SegId). covers p.id.span a.span ≡ true) (sym root.root_is) copy.covers_root in
            none_below root.root.id (inr (root.root, root.among, refl))
            (record { source_is = source_of from r; overlap_is = overlap_both root.root.id.span p.id.span root.root.id.span (covers_self root.root.id.span) into proper }) lower
      ] where
        source_of : IsRooted b.posses b.pendings (h.rooted p bare.among).has_root.root → IsRooted b.posses b.pendings p → (h.rooted p bare.among).has_root.root.id.source ≡ p.id.source
        source_of from r =
            let one = one_number b.posses from.has_posse.posse r.has_posse.posse h.shape.numbers from.has_posse.is_valid.among r.has_posse.is_valid.among (from.has_posse.number_is ∙ (h.rooted p bare.among).has_root.posse_is ∙ sym r.has_posse.number_is) in
            sym from.has_posse.source_is ∙ ap (λ (x : PosseRow). x.source) one ∙ r.has_posse.source_is

  only : (x : SegId) → IsLive b.segments b.pendings x → DoMeet x a → IsSameChunk x a
  only x l m =
      let n : DoMeet x p.id = meets_chunk x a p.id same m in
      elim (cases_Bool (int_lt p.id.version x.version)) [
        | inl over ↦ absurd (none_above x l (meets_swap x p.id n) over)
        | inr off ↦ elim (le_cases x.version p.id.version (not_lt_le p.id.version x.version off)) [
          | inr lower ↦ absurd (none_below x l n lower)
          | inl even ↦ record { source_is = m.source_is; span_is = h.one_span x p.id l (inr (p, bare.among, refl)) n even ∙ sym same.span_is; version_is = even ∙ sym same.version_is }
        ]
      ]

  below : (q : PosseRow) → IsValid b.posses q → guards q.lock_kind ≡ true → a.source ≡ q.source → overlap a.span q.span ≡ true → int_le a.version q.version ≡ true
  below q v g e o = rw same.version_is (h.below_locks p.id q (inr (p, bare.among, refl)) v g (sym same.source_is ∙ e) (subst (λ (s : Extent). overlap s q.span ≡ true) same.span_is o))

-- ---- a bucket of a lock's version

guard_kinds : (k : LockKind) → guards k ≡ true → (k ≡ LockKinds.Exclusive) ⊎ (k ≡ LockKinds.Replace)
guard_kinds LockKinds.Exclusive g = inl refl
guard_kinds LockKinds.Replace g = inr refl
guard_kinds LockKinds.Append g = absurd (false≢true g)
guard_kinds LockKinds.Shared g = absurd (false≢true g)

pub bucket_place : BucketIsOpen
bucket_place b a h k = record {
  chunk = k.chunk;
  among = k.among;
  is_in = k.is_in;
  above = λ x l m. absurd (nothing x l m);
  below_locks = below;
  whole = whole;
  alone = λ e i n. inr (λ x l m. absurd (nothing x l m));
} where
  nothing : (x : SegId) → IsLive b.segments b.pendings x → DoMeet x a → ⊥
  nothing x l m = false≢true (sym (k.empty x l m.source_is) ∙ m.overlap_is)

  whole : (c : ChunkRow) → In c b.chunks → IsIn c a → IsWhole b.segments c
  whole c i n = h.cores.owned c k.lock i (record { is_valid = k.is_valid; source_is = sym n.source_is ∙ k.source_is; version_is = sym n.version_is ∙ k.version_is })

  below : (q : PosseRow) → IsValid b.posses q → guards q.lock_kind ≡ true → a.source ≡ q.source → overlap a.span q.span ≡ true → int_le a.version q.version ≡ true
  below q v g e o =
      let over : overlap k.lock.span q.span ≡ true = overlap_wider k.lock.span a.span q.span k.within o in
      let source : k.lock.source ≡ q.source = sym k.source_is ∙ e in
      elim (guard_kinds q.lock_kind g) [
        | inl x ↦ le_from a.version q.version (k.version_is ∙ ap (λ (x : PosseRow). x.version) (beside_exclusive b.posses h.compatible_locks k.lock q k.is_valid v x source over))
        | inr r ↦ elim (beside_replace b.posses h.compatible_locks k.lock q k.is_valid v r source over) [
          | inl one ↦ le_from a.version q.version (k.version_is ∙ ap (λ (x : PosseRow). x.version) one)
          | inr append ↦ rw (k.version_is, h.shape.append_zero k.lock k.is_valid.among append.0) (elim (h.shape.versions q v.among) [ inl z ↦ le_from (pos 0) q.version (sym z.1) | inr on ↦ lt_is_le (pos 0) q.version on ])
        ]
      ]

-- ---- an open place stays open

pub revoke_open : RevokeStaysOpen
revoke_open ns b a o = record {
  chunk = o.chunk;
  among = o.among;
  is_in = o.is_in;
  above = λ x l m. o.above x (strip_live x l) m;
  below_locks = λ q v g e r. (let was = (revoked_loses ns b.posses).back q v in
      subst (λ v. int_le a.version v ≡ true) was.same.version_is (o.below_locks was.row was.is_valid (rw was.same.kind_is g) (e ∙ sym was.same.source_is) (subst (λ (s : Extent). overlap a.span s ≡ true) (sym was.same.span_is) r)));
  whole = o.whole;
  alone = λ c i k. elim (o.alone c i k) [ inl core ↦ inl core | inr lone ↦ inr (λ x l m. lone x (strip_live x l) m) ];
} where
  strip_live : (a : SegId) → IsLive b.segments (stripped (stands_in ns) b.pendings) a → IsLive b.segments b.pendings a
  strip_live a (inl u) = inl u
  strip_live a (inr p) = inr (p.0, stripped_in (stands_in ns) b.pendings p.0 p.1, p.2)

pub grant_open : GrantStaysOpen
grant_open q last b a g h o = record {
  chunk = o.chunk;
  among = o.among;
  is_in = o.is_in;
  above = o.above;
  below_locks = λ p v k e r. elim (In-append p b.posses (q ∷ []) v.among) [
    | inl i ↦ o.below_locks p (record { among = i; valid = v.valid }) k e r
    | inr (inl is) ↦ elim g.version_is [
      | inl append ↦ absurd (false≢true (rw (is, append.0) at k))
      | inr new ↦ subst (λ (p : PosseRow). int_le a.version p.version ≡ true) (sym is)
          (rw o.is_in.version_is (lt_is_le o.chunk.version q.version (lt_trans_le o.chunk.version b.last q.version (h.shape.chunk_upto o.chunk o.among) new.0)))
    ]
    | inr (inr i) ↦ absurd i
  ];
  whole = o.whole;
  alone = o.alone;
}

pub join_open : JoinStaysOpen
join_open ns task b a o = record {
  chunk = o.chunk;
  among = o.among;
  is_in = o.is_in;
  above = o.above;
  below_locks = λ q v g e r. (let was = (joined_loses ns task b.posses).back q v in
      subst (λ v. int_le a.version v ≡ true) was.same.version_is (o.below_locks was.row was.is_valid (rw was.same.kind_is g) (e ∙ sym was.same.source_is) (subst (λ (s : Extent). overlap a.span s ≡ true) (sym was.same.span_is) r)));
  whole = o.whole;
  alone = o.alone;
}
