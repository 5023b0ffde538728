-- A chunk row, and a root pending at an open place, keep the rules.
use Rattle.std.proofs.Common.{Bool, [], ap, arith, cond, false, inl, inr, int_le, int_lt, map, pos, refl, subst, sym, true, ℕ, ◌++◌, ◌+◌, ◌<◌, ◌∙◌, ◌∷◌, ◌≡◌}
use Rattle.std.proofs.lemmas.Bool.{cases_Bool}
use Rattle.iv_span.specs.Extent.{Extent, covers}
use Rattle.seg_names.specs.Ids.{same_id}
use Rattle.seg_names.specs.declared.seg_id.SegId.{SegId}
use Rattle.book_rows.specs.Allocation.{bumped, is_of_chunk}
use Rattle.book_rows.specs.Lists.{In}
use Rattle.book_rows.specs.Live.{IsIn, IsOwner}
use Rattle.book_rows.specs.Shape.{same_chunk_row}
use Rattle.book_rows.specs.declared.rows.ChunkRow.{ChunkRow}
use Rattle.book_rows.specs.declared.rows.PendingRow.{PendingRow}
use Rattle.book_rows.specs.declared.rows.PosseRow.{PosseRow}
use Rattle.laws_chunks.proofs.ChangeFacts.{IsNewChunk}
use Rattle.laws_chunks.proofs.ChunkRows.{rows_push}
use Rattle.laws_chunks.proofs.Members.{In-append, In-left, In-map, map_In, pairs_map}
use Rattle.laws_chunks.proofs.OnceAdded.{once_joined}
use Rattle.laws_chunks.proofs.OpenPlaces.{bump_carries, bump_chunks, bump_copies, bump_cores, chunk_carries, chunk_chunks, chunk_copies, chunk_cores, open_below_locks, open_chunks, open_copies, open_cores, open_one_span, open_rooted}
use Rattle.laws_chunks.proofs.Spans.{lt_not_self, same_chunk_from, same_id_means, same_id_swap}
use Rattle.laws_chunks.specs.ChunksSound.{HasChunkShape, all_ids}
use Rattle.laws_chunks.specs.Openings.{AllotmentKeeps, ChunkKeeps, HasMaker}
use Rattle.book_rows.specs.declared.kinds.LockKind.TheVariants as LockKinds

-- ---- a chunk row comes

pub chunk_keeps : ChunkKeeps
chunk_keeps c b n h =
    let sh : HasChunkShape b = h.shape in
    record {
      shape = record {
        numbers = sh.numbers;
        below = sh.below;
        versions = sh.versions;
        append_zero = sh.append_zero;
        upto = sh.upto;
        one_version = sh.one_version;
        sinces = sh.sinces;
        last_low = sh.last_low;
        chunk_upto = λ e i. elim (In-append e b.chunks (c ∷ []) i) [
          | inl j ↦ sh.chunk_upto e j
          | inr (inl is) ↦ subst (λ (e : ChunkRow). int_le e.version b.last ≡ true) (sym is) upto
          | inr (inr j) ↦ absurd j
        ];
        chunk_rows = chunk_chunks b.posses b.chunks b.segments b.pendings c new sh.chunk_rows;
        chunk_spans = λ e i. elim (In-append e b.chunks (c ∷ []) i) [
          | inl j ↦ sh.chunk_spans e j
          | inr (inl is) ↦ subst (λ (e : ChunkRow). int_lt e.span.start e.span.end ≡ true) (sym is) n.proper
          | inr (inr j) ↦ absurd j
        ];
        root_spans = sh.root_spans;
        upgrade_spans = sh.upgrade_spans;
        once = sh.once;
        added = λ a i. (let w = sh.added a i in record { chunk = w.chunk; among = In-left w.chunk b.chunks (c ∷ []) w.among; is_in = w.is_in; below = w.below });
        rows = rows_push b.chunks c sh.rows n.is_new;
        parts = λ p e i j k. elim (In-append e b.chunks (c ∷ []) j) [
          | inl o ↦ sh.parts p e i o k
          | inr (inl is) ↦ (let was = sh.chunk_rows p.id (inr (p, i, refl)) in absurd (n.is_new was.0 p.id was.1 was.2 (subst (λ (e : ChunkRow). IsIn e p.id) is k)))
          | inr (inr o) ↦ absurd o
        ];
      };
      compatible_locks = h.compatible_locks;
      one_span = h.one_span;
      below_locks = h.below_locks;
      rooted = h.rooted;
      upgrades = h.upgrades;
      cores = chunk_cores b.posses b.chunks b.segments b.pendings c new h.cores;
      copies = chunk_copies b.posses b.chunks b.segments b.pendings c new sh.chunk_rows h.copies;
      carried = chunk_carries b.posses b.chunks b.segments b.pendings c new b.upgrades b.publications h.carried;
      shown_contents = h.shown_contents;
    } where
      upto : int_le c.version b.last ≡ true
      upto = elim n.maker [
        | inl none ↦ rw none h.shape.last_low
        | inr mk ↦ rw mk.version_is (h.shape.upto mk.lock mk.is_valid.among)
      ]

      -- the lock of the chunk's version
      maker_is : (q : PosseRow) → IsOwner b.posses c q → (mk : HasMaker b.posses c) → mk.lock ≡ q
      maker_is q o mk = h.shape.one_version mk.lock q mk.is_valid.among o.is_valid.among mk.high (sym mk.version_is ∙ o.version_is)

      differ : (q : PosseRow) → q.lock_kind ≡ LockKinds.Replace → q.lock_kind ≡ LockKinds.Append → ⊥
      differ q a e = cc

      new : IsNewChunk b.posses b.chunks c
      new = record {
        core_is = n.core_is;
        is_new = n.is_new;
        not_replacing = λ q o kind. elim n.maker [
          | inl none ↦ elim (h.shape.versions q o.is_valid.among) [
            | inl off ↦ differ q kind off.0
            | inr high ↦ lt_not_self (pos 0) q.version (sym none ∙ o.version_is) high
          ]
          | inr mk ↦ mk.kind_is (ap (λ (x : PosseRow). x.lock_kind) (maker_is q o mk) ∙ kind)
        ];
        within = λ q o high. elim n.maker [
          | inl none ↦ absurd (lt_not_self (pos 0) c.version (sym none) high)
          | inr mk ↦ subst (λ (q : PosseRow). covers q.span c.span ≡ true) (maker_is q o mk) mk.within
        ];
      }

-- ---- a root pending comes

pub more : (a x : ℕ) (bit : Bool) → a < x → a < x + cond bit 1 0
more a x true lt = omega arith
more a x false lt = omega arith

pub allotment_keeps : AllotmentKeeps
allotment_keeps n b g h =
    let sh : HasChunkShape b = h.shape in
    record {
      shape = record {
        numbers = sh.numbers;
        below = sh.below;
        versions = sh.versions;
        append_zero = sh.append_zero;
        upto = sh.upto;
        one_version = sh.one_version;
        sinces = sh.sinces;
        last_low = sh.last_low;
        chunk_upto = bumped_all (λ c. int_le c.version b.last ≡ true) sh.chunk_upto;
        chunk_rows = bump_chunks n.id b.chunks b.segments (b.pendings ++ n ∷ []) (open_chunks b.posses b.chunks b.segments b.pendings n g.is_open sh.chunk_rows);
        chunk_spans = bumped_all (λ c. int_lt c.span.start c.span.end ≡ true) sh.chunk_spans;
        root_spans = λ p i. elim (In-append p b.pendings (n ∷ []) i) [
          | inl j ↦ sh.root_spans p j
          | inr (inl is) ↦ subst (λ (p : PendingRow). int_lt p.root.span.start p.root.span.end ≡ true) (sym is) proper
          | inr (inr j) ↦ absurd j
        ];
        upgrade_spans = sh.upgrade_spans;
        once = once_joined n b.pendings b.publications (λ p i. same_id_swap n.id p.id (fresh p i)) never_added sh.once;
        added = λ a i. (let w = sh.added a i in record {
          chunk = bumped n.id w.chunk;
          among = map_In (bumped n.id) w.chunk b.chunks w.among;
          is_in = record { source_is = w.is_in.source_is; span_is = w.is_in.span_is; version_is = w.is_in.version_is };
          below = more a.part w.chunk.next (is_of_chunk w.chunk n.id) w.below;
        });
        rows = pairs_map (λ c d. same_chunk_row c d ≡ false) (λ c d. same_chunk_row c d ≡ false) (bumped n.id) (λ c d e. e) b.chunks sh.rows;
        parts = λ p c i j. bumped_all (λ c. IsIn c p.id → p.id.part < c.next) (λ c j k. part p c i j k) c j;
      };
      compatible_locks = h.compatible_locks;
      one_span = open_one_span b.posses b.chunks b.segments b.pendings n g.is_open h.one_span;
      below_locks = open_below_locks b.posses b.chunks b.segments b.pendings n g.is_open h.below_locks;
      rooted = open_rooted b.posses b.chunks b.segments b.pendings n g.is_open g.is_root g.has_posse h.rooted;
      upgrades = h.upgrades;
      cores = bump_cores n.id b.chunks b.posses b.segments (b.pendings ++ n ∷ []) (open_cores b.posses b.chunks b.segments b.pendings n g.is_open h.cores);
      copies = bump_copies n.id b.chunks b.segments (b.pendings ++ n ∷ []) (open_copies b.posses b.chunks b.segments b.pendings n g.is_open g.is_root fresh h.copies);
      carried = bump_carries n.id b.posses b.chunks b.upgrades b.publications h.carried;
      shown_contents = h.shown_contents;
    } where
      bumped_all : (P : ChunkRow → Type 0) → ((c : ChunkRow) → In c b.chunks → P (bumped n.id c)) → (c : ChunkRow) → In c (map (bumped n.id) b.chunks) → P c
      bumped_all P f c i = let w = In-map (bumped n.id) c b.chunks i in subst P (sym w.2) (f w.0 w.1)

      -- the new id is no pending's
      fresh : (p : PendingRow) → In p b.pendings → same_id n.id p.id ≡ false
      fresh p i = elim (cases_Bool (same_id n.id p.id)) [
        | inr off ↦ off
        | inl on ↦
            let c = g.is_open.chunk in
            let is : n.id ≡ p.id = same_id_means n.id p.id on in
            let low : p.id.part < g.is_open.chunk.next = h.shape.parts p g.is_open.chunk i g.is_open.among (subst (λ (a : SegId). IsIn g.is_open.chunk a) is g.is_open.is_in) in
            let next : n.id.part ≡ g.is_open.chunk.next = g.part_is g.is_open.chunk g.is_open.among g.is_open.is_in in
            let part : n.id.part ≡ p.id.part = ap (λ (a : SegId). a.part) is in
            absurd (omega (arith, low, next, part))
      ]

      -- and none that was added
      never_added : (x : SegId) → In x (all_ids b.publications) → same_id x n.id ≡ false
      never_added x i = elim (cases_Bool (same_id x n.id)) [
        | inr off ↦ off
        | inl on ↦
            let w = h.shape.added x i in
            let is : x ≡ n.id = same_id_means x n.id on in
            let low = w.below in
            let next : n.id.part ≡ w.chunk.next = g.part_is w.chunk w.among (subst (λ (a : SegId). IsIn w.chunk a) is w.is_in) in
            let part : x.part ≡ n.id.part = ap (λ (a : SegId). a.part) is in
            absurd (omega (arith, low, next, part))
      ]

      proper : int_lt n.root.span.start n.root.span.end ≡ true
      proper = subst (λ (a : SegId). int_lt a.span.start a.span.end ≡ true) g.is_root (subst (λ (s : Extent). int_lt s.start s.end ≡ true) (sym g.is_open.is_in.span_is) (h.shape.chunk_spans g.is_open.chunk g.is_open.among))

      part : (p : PendingRow) (c : ChunkRow) → In p (b.pendings ++ n ∷ []) → In c b.chunks → IsIn c p.id → p.id.part < (bumped n.id c).next
      part p c i j k = elim (In-append p b.pendings (n ∷ []) i) [
        | inl o ↦ more p.id.part c.next (is_of_chunk c n.id) (h.shape.parts p c o j k)
        | inr (inl is) ↦ subst (λ (p : PendingRow). p.id.part < (bumped n.id c).next) (sym is) (newest (subst (λ (p : PendingRow). IsIn c p.id) is k))
        | inr (inr o) ↦ absurd o
      ] where
        newest : IsIn c n.id → n.id.part < (bumped n.id c).next
        newest k = let e : n.id.part ≡ c.next = g.part_is c j k in
            rw (same_chunk_from n.id (record { source = c.source; span = c.span; version = c.version; part = 0 }) k) (omega (arith, e))
