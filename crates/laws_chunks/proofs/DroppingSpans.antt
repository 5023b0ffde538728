-- Dropping a span keeps the rules.
use Rattle.std.proofs.Common.{[], arith, inl, inr, int_le, length, length-append, pos, refl, sym, true, ◌++◌, ◌+◌, ◌∷◌, ◌≡◌}
use Rattle.book_rows.specs.Live.{IsValid}
use Rattle.book_rows.specs.Publications.{drop_publication}
use Rattle.book_rows.specs.declared.rows.PosseRow.{PosseRow}
use Rattle.laws_chunks.proofs.AppendedRoots.{upgrades_pushed}
use Rattle.laws_chunks.proofs.CarriedUpgrades.{drop_carries, shows_drop}
use Rattle.laws_chunks.proofs.DroppedRows.{drop_below_locks, drop_chunks, drop_copies, drop_cores, drop_one_span}
use Rattle.laws_chunks.proofs.OnceAdded.{added_pushed, once_pushed}
use Rattle.laws_chunks.proofs.Spans.{le_from, lt_is_le}
use Rattle.laws_chunks.specs.ChunksSound.{HasChunkShape}
use Rattle.laws_chunks.specs.Dropping.{DropKeeps}

pub drop_keeps : DropKeeps
drop_keeps source s b free h =
    let sh : HasChunkShape b = h.shape in
    let longer : 0 + length (b.publications ++ drop_publication source s ∷ []) ≡ (0 + length b.publications) + 1 = simp length-append (omega arith) in
    record {
      shape = record {
        numbers = sh.numbers;
        below = sh.below;
        versions = sh.versions;
        append_zero = sh.append_zero;
        upto = sh.upto;
        one_version = sh.one_version;
        sinces = λ q i. let was = sh.sinces q i in omega (arith, was, longer);
        last_low = sh.last_low;
        chunk_upto = sh.chunk_upto;
        chunk_rows = drop_chunks source s b.segments b.chunks b.pendings sh.chunk_rows;
        chunk_spans = sh.chunk_spans;
        root_spans = sh.root_spans;
        upgrade_spans = sh.upgrade_spans;
        once = once_pushed b.pendings b.publications (drop_publication source s) refl refl sh.once;
        added = added_pushed b.chunks b.publications (drop_publication source s) refl refl sh.added;
        rows = sh.rows;
        parts = sh.parts;
      };
      compatible_locks = h.compatible_locks;
      one_span = drop_one_span source s b.segments b.pendings h.one_span;
      below_locks = drop_below_locks source s b.segments b.posses b.pendings h.below_locks;
      rooted = h.rooted;
      upgrades = upgrades_pushed b.posses b.upgrades b.publications (drop_publication source s) h.upgrades;
      cores = drop_cores source s b.segments b.posses b.chunks b.pendings free (record { chunks = sh.chunk_spans; roots = sh.root_spans; locks = low }) h.rooted h.cores;
      copies = drop_copies source s b.segments b.chunks b.pendings h.copies;
      carried = drop_carries b.posses source s b.segments b.chunks b.upgrades b.publications free h.carried;
      shown_contents = shows_drop b.posses source s b.segments b.publications free h.shown_contents;
    } where
      low : (q : PosseRow) → IsValid b.posses q → int_le (pos 0) q.version ≡ true
      low q v = elim (h.shape.versions q v.among) [ inl zero_is ↦ le_from (pos 0) q.version (sym zero_is.1) | inr high ↦ lt_is_le (pos 0) q.version high ]
