-- Lists of parts, each with the span of its chunk, and what is put behind them.
use Rattle.std.specs.Prelude.{◌∷◌, List, [], cond, int_lt, ℤ}
use Rattle.std.specs.Int.{int_max, int_min}
use Rattle.iv_span.specs.Extent.{Extent}
use Rattle.book_rows.specs.Lists.{gathered}
use Rattle.book_rows.specs.Shown.{ChunkPart, agree}
use Rattle.book_rows.specs.declared.replies.TimelinePart.{TimelinePart}
use Rattle.laws_parts.specs.Parts.{put_last}

abbrev pub with_chunk : TimelinePart → Extent → ChunkPart
with_chunk p chunk = record { span = p.span; chunk = chunk; version = p.version; ids = p.ids }

-- each part with the span of its chunk
abbrev pub with_chunks : List TimelinePart → List Extent → List ChunkPart
with_chunks [] cs = []
with_chunks (p ∷ ps) [] = []
with_chunks (p ∷ ps) (c ∷ cs) = with_chunk p c ∷ with_chunks ps cs

-- ---- parts put behind others

abbrev pub joined : ChunkPart → ChunkPart → ChunkPart
joined p q = record p { span = record { start = p.span.start; end = q.span.end } }

-- the part behind the others, or joined to the last one
abbrev pub put_part : List ChunkPart → ChunkPart → List ChunkPart
put_part ps q = put_last agree joined ps q

abbrev pub put_parts : List ChunkPart → List ChunkPart → List ChunkPart
put_parts ps [] = ps
put_parts ps (q ∷ qs) = put_parts (put_part ps q) qs

-- ---- what lies between two instants

abbrev pub part_between : ℤ → ℤ → ChunkPart → List ChunkPart
part_between from to p = cond (int_lt (int_max p.span.start from) (int_min p.span.end to)) (record p { span = record { start = int_max p.span.start from; end = int_min p.span.end to } } ∷ []) []

abbrev pub parts_between : ℤ → ℤ → List ChunkPart → List ChunkPart
parts_between from to ps = gathered (part_between from to) ps
