-- Appending one root with its copies keeps the rules.
use Rattle.std.proofs.Common.{List, [], ap, arith, inl, inr, int_lt, length, length-append, not, pos, refl, subst, sym, true, ◌++◌, ◌+◌, ◌∷◌, ◌≡◌}
use Rattle.seg_names.specs.Ids.{same_id}
use Rattle.seg_names.specs.declared.seg_id.SegId.{SegId}
use Rattle.book_rows.specs.Append.{without_root}
use Rattle.book_rows.specs.Lists.{In}
use Rattle.book_rows.specs.Live.{IsValid}
use Rattle.book_rows.specs.Shape.{HasChunk}
use Rattle.book_rows.specs.declared.rows.PendingRow.{PendingRow}
use Rattle.book_rows.specs.declared.rows.PosseRow.{PosseRow}
use Rattle.book_rows.specs.declared.rows.UpgradeRow.{UpgradeRow}
use Rattle.laws_chunks.proofs.AppendedRoots.{append_below_locks, append_chunks, append_copies, append_cores, append_one_span, append_rooted}
use Rattle.laws_chunks.proofs.AppendedShown.{append_carries, append_upgrades, shows_append}
use Rattle.laws_chunks.proofs.Members.{In-append, In-filter}
use Rattle.laws_chunks.proofs.OnceAdded.{added_appended, distinct_ids, once_appended}
use Rattle.laws_chunks.specs.Appending.{AppendKeeps}
use Rattle.laws_chunks.specs.ChunksSound.{HasChunkShape, HaveDistinctIds}
use Rattle.laws_chunks.specs.Growing.{appended, building}
use Rattle.book_rows.specs.declared.kinds.LockKind.TheVariants as LockKinds

pub append_keeps : AppendKeeps
append_keeps k ms m r new b g h =
    let sh : HasChunkShape (building ms m b) = h.shape in
    let as_long : 0 + length (ms ++ appended r.id m ∷ []) ≡ 0 + length (ms ++ m ∷ []) = simp length-append refl in
    record {
      shape = record {
        numbers = sh.numbers;
        below = sh.below;
        versions = sh.versions;
        append_zero = sh.append_zero;
        upto = sh.upto;
        one_version = sh.one_version;
        sinces = λ q i. let was = sh.sinces q i in omega (arith, was, as_long);
        last_low = sh.last_low;
        chunk_upto = sh.chunk_upto;
        chunk_rows = append_chunks k r.id b.segments b.pendings b.chunks sh.chunk_rows;
        chunk_spans = sh.chunk_spans;
        root_spans = λ p i. sh.root_spans p (left p i);
        upgrade_spans = λ u i. elim (In-append u b.upgrades new i) [
          | inl old ↦ sh.upgrade_spans u old
          | inr n ↦ subst (λ (a : SegId). int_lt a.span.start a.span.end ≡ true) (sym (root_is u n)) proper
        ];
        once = once_appended ms m r b.pendings g.among g.is_root distinct sh.once;
        added = added_appended b.chunks ms m r.id new_chunk sh.added;
        rows = sh.rows;
        parts = λ p c i j e. sh.parts p c (left p i) j e;
      };
      compatible_locks = h.compatible_locks;
      one_span = append_one_span k r.id b.segments b.pendings h.one_span;
      below_locks = append_below_locks k r.id b.segments b.pendings b.posses h.below_locks;
      rooted = append_rooted k r.id b.segments b.pendings b.posses h.rooted;
      upgrades = append_upgrades b.posses b.chunks b.segments b.pendings b.upgrades new ms m r g.among g.is_root g.source_is g.made g.sinces h.upgrades;
      cores = append_cores k r.id b.segments b.pendings b.posses b.chunks h.cores;
      copies = append_copies k r.id b.segments b.pendings b.chunks h.copies;
      carried = append_carries b.posses b.chunks b.segments b.pendings b.upgrades new ms m r g.among g.is_root g.source_is g.made g.sinces h.compatible_locks sh.numbers h.one_span h.below_locks h.rooted h.cores h.copies high h.carried;
      shown_contents = shows_append k b.posses b.chunks b.segments b.pendings sh.chunk_rows h.cores h.copies h.one_span h.rooted distinct sh.numbers ms m r g.among g.is_root g.source_is h.shown_contents;
    } where
      left : (p : PendingRow) → In p (without_root r.id b.pendings) → In p b.pendings
      left p i = (In-filter (λ p. not (same_id p.root r.id)) p b.pendings i).0

      differ : (q : PosseRow) → q.lock_kind ≡ LockKinds.Replace → q.lock_kind ≡ LockKinds.Append → ⊥
      differ q a e = cc

      distinct : HaveDistinctIds b.pendings
      distinct = distinct_ids b.pendings (ms ++ m ∷ []) h.shape.once

      -- the root has its chunk
      new_chunk : HasChunk b.chunks r.id
      new_chunk = let c = h.shape.chunk_rows r.id (inr (r, g.among, refl)) in record { chunk = c.0; among = c.1; is_in = c.2; below = h.shape.parts r c.0 g.among c.1 c.2 }

      -- a new upgrade row is the root's
      root_is : (u : UpgradeRow) → In u new → u.root ≡ r.id
      root_is u i = elim g.made [
        | inl made ↦ elim (subst (λ (us : List UpgradeRow). In u us) made.new_is i) [ inl is ↦ ap (λ (u : UpgradeRow). u.root) is | inr none ↦ absurd none ]
        | inr made ↦ absurd (subst (λ (us : List UpgradeRow). In u us) made.new_is i)
      ]

      proper : int_lt r.id.span.start r.id.span.end ≡ true
      proper = subst (λ (a : SegId). int_lt a.span.start a.span.end ≡ true) (sym g.is_root) (h.shape.root_spans r g.among)

      high : (q : PosseRow) → IsValid b.posses q → q.lock_kind ≡ LockKinds.Replace → int_lt (pos 0) q.version ≡ true
      high q v kind = elim (h.shape.versions q v.among) [ inl off ↦ absurd (differ q kind off.0) | inr on ↦ on ]
