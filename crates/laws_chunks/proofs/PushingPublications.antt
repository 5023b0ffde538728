-- A publication without ids and spans keeps the rules.
use Rattle.std.proofs.Common.{[], arith, length, length-append, nat_le, sym, true, ◌++◌, ◌+◌, ◌∙◌, ◌∷◌, ◌≡◌}
use Rattle.laws_chunks.proofs.AppendedRoots.{upgrades_pushed}
use Rattle.laws_chunks.proofs.GrownPublications.{alive_pushed}
use Rattle.laws_chunks.proofs.OnceAdded.{added_pushed, once_pushed}
use Rattle.laws_chunks.specs.ChunksSound.{HasChunkShape}
use Rattle.laws_chunks.specs.Growing.{PushKeeps}

pub push_keeps : PushKeeps
push_keeps m b none clean free h =
    let sh : HasChunkShape b = h.shape in
    let longer : 0 + length (b.publications ++ m ∷ []) ≡ (0 + length b.publications) + 1 = simp length-append (omega arith) in
    record {
      shape = record {
        numbers = sh.numbers;
        below = sh.below;
        versions = sh.versions;
        append_zero = sh.append_zero;
        upto = sh.upto;
        one_version = sh.one_version;
        sinces = λ q i. let was = sh.sinces q i in omega (arith, was, longer);
        last_low = sh.last_low;
        chunk_upto = sh.chunk_upto;
        chunk_rows = sh.chunk_rows;
        chunk_spans = sh.chunk_spans;
        root_spans = sh.root_spans;
        upgrade_spans = sh.upgrade_spans;
        once = once_pushed b.pendings b.publications m none clean sh.once;
        added = added_pushed b.chunks b.publications m none clean sh.added;
        rows = sh.rows;
        parts = sh.parts;
      };
      compatible_locks = h.compatible_locks;
      one_span = h.one_span;
      below_locks = h.below_locks;
      rooted = h.rooted;
      upgrades = upgrades_pushed b.posses b.upgrades b.publications m h.upgrades;
      cores = h.cores;
      copies = h.copies;
      carried = λ q t root v kind at uncovered. h.carried q t root v kind at uncovered ∙ sym (alive_pushed (λ k. nat_le q.since k) b.publications m none free q.source t root);
      shown_contents = λ q t root. h.shown_contents q t root ∙ sym (alive_pushed (λ k. true) b.publications m none free q t root);
    }
