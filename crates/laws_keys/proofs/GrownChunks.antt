-- Chunk rows after an allocation: those of before, some with one part more.
use Rattle.std.proofs.Common.{Bool, List, None, Option, Some, [], arith, cond, false, true, ℕ, ◌+◌, ◌++◌, ◌<◌, ◌∷◌}
use Rattle.seg_names.specs.declared.seg_id.SegId.{SegId}
use Rattle.book_rows.specs.Allocation.{allotted_chunks, bumped, chunk_of, is_of_chunk, new_chunk, with_chunk}
use Rattle.book_rows.specs.Lists.{In}
use Rattle.book_rows.specs.Shape.{HasChunk}
use Rattle.book_rows.specs.declared.rows.ChunkRow.{ChunkRow}
use Rattle.laws_chunks.proofs.Members.{In-left, map_In}

still_in : (a : SegId) (o : Option ChunkRow) (cs : List ChunkRow) (c : ChunkRow) → In c cs → In c (with_chunk a o cs)
still_in a (Some d) cs c i = i
still_in a None cs c i = In-left c cs (new_chunk a ∷ []) i

pub bumped_in : (a : SegId) (cs : List ChunkRow) (c : ChunkRow) → In c cs → In (bumped a c) (allotted_chunks a cs)
bumped_in a cs c i = map_In (bumped a) c (with_chunk a (chunk_of a cs) cs) (still_in a (chunk_of a cs) cs c i)

pub allotted_has : (a : SegId) (cs : List ChunkRow) (x : SegId) → HasChunk cs x → HasChunk (allotted_chunks a cs) x
allotted_has a cs x h = record {
  chunk = bumped a h.chunk;
  among = bumped_in a cs h.chunk h.among;
  is_in = record { source_is = h.is_in.source_is; span_is = h.is_in.span_is; version_is = h.is_in.version_is };
  below = more x.part h.chunk.next (is_of_chunk h.chunk a) h.below;
} where
  more : (m n : ℕ) (b : Bool) → m < n → m < n + cond b 1 0
  more m n true lt = omega arith
  more m n false lt = omega arith

pub more_has : (cs news : List ChunkRow) (x : SegId) → HasChunk cs x → HasChunk (cs ++ news) x
more_has cs news x h = record { chunk = h.chunk; among = In-left h.chunk cs news h.among; is_in = h.is_in; below = h.below }
