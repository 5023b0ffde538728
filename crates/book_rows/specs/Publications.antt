-- Publications: when a publish repeats one, and what each adds to the list. A commit number is a place in the list, from 0.
use Rattle.std.specs.Prelude.{◌&&◌, ◌++◌, ◌+◌, ◌==◌, ◌∷◌, Bool, List, None, Option, Some, [], bytes_eq, cond, false, map, true, ℕ}
use Rattle.iv_span.specs.Extent.{Extent}
use Rattle.seg_names.specs.declared.seg_id.SegId.{SegId}
use Rattle.book_rows.specs.Ids.{same_ids}
use Rattle.book_rows.specs.Kinds.{same_pub_kind}
use Rattle.book_rows.specs.Lists.{is_empty, or_else}
use Rattle.book_rows.specs.Names.{no_group}
use Rattle.book_rows.specs.Offsets.{advanced, compared, point_of}
use Rattle.book_rows.specs.Sequences.{passes, published}
use Rattle.book_rows.specs.Spans.{same_spans}
use Rattle.book_rows.specs.declared.kinds.PubKind.{PubKind}
use Rattle.book_rows.specs.declared.replies.Refusal.{Refusal}
use Rattle.book_rows.specs.declared.rows.Book.{Book}
use Rattle.book_rows.specs.declared.rows.Offset.{Offset}
use Rattle.book_rows.specs.declared.rows.Publication.{Publication}
use Rattle.book_rows.specs.declared.rows.Range.{Range}
use Rattle.book_rows.specs.declared.rows.Ranges.{Ranges}
use Rattle.book_rows.specs.declared.rows.SpanSince.{SpanSince}
use Rattle.book_rows.specs.declared.rows.TaskRow.{TaskRow}
use Rattle.book_rows.specs.declared.kinds.PubKind.TheVariants as PubKinds
use Rattle.book_rows.specs.declared.replies.Refusal.TheVariants as Refusals

abbrev pub same_range : Range → Range → Bool
same_range a b = (a.partition == b.partition) && (a.start == b.start) && (a.end == b.end)

abbrev pub same_parts : List Range → List Range → Bool
same_parts [] [] = true
same_parts (a ∷ as') (b ∷ bs) = same_range a b && same_parts as' bs
same_parts _ _ = false

abbrev pub same_ranges : Option Ranges → Option Ranges → Bool
same_ranges None None = true
same_ranges (Some a) (Some b) = bytes_eq a.stream b.stream && same_parts a.parts b.parts
same_ranges _ _ = false

abbrev pub spans_of : Publication → List Extent
spans_of m = map (λ s. s.span) m.spans

-- of the same kind, group and source, with the same ids, tombstones, spans and ranges
abbrev pub is_like : Publication → Publication → Bool
is_like like m =
    same_pub_kind m.kind like.kind && bytes_eq m.group like.group && bytes_eq m.source like.source
    && same_ids m.adds like.adds && same_ids m.empties like.empties && same_spans (spans_of m) (spans_of like) && same_ranges m.ranges like.ranges

abbrev pub is_of_same_stream : Option Ranges → Option Ranges → Bool
is_of_same_stream (Some a) (Some b) = bytes_eq a.stream b.stream
is_of_same_stream _ _ = false

-- a reset of the stream, where the publish has neither ids nor tombstones: no repeat reaches over it
abbrev pub forgets : Publication → Publication → Bool
forgets like m =
    is_empty like.adds && is_empty like.empties && same_pub_kind m.kind PubKinds.Reset && bytes_eq m.source like.source && is_of_same_stream m.ranges like.ranges

abbrev pub repeat_from : ℕ → Option ℕ → Publication → List Publication → Option ℕ
repeat_from k found like [] = found
repeat_from k found like (m ∷ ms) =
    repeat_from (k + 1) (cond (forgets like m) None (or_else found (cond (is_like like m) (Some k) None))) like ms

-- the first publication that this one would repeat
abbrev pub repeat_of : Publication → List Publication → Option ℕ
repeat_of like ms = repeat_from 0 None like ms

-- ---- the rows

abbrev pub without_since : List Extent → List SpanSince
without_since spans = map (λ s. record { span = s; since = 0 }) spans

-- what a task publishes: ids, with `insert` and `replace` those that fill the spans, each span by ids or by a tombstone
pub record Publish : Type 0 where
  pub spans : List Extent
  pub ids : List SegId
  pub tombstones : List SegId
  pub ranges : Option Ranges

-- with `append`, which names neither spans nor tombstones
abbrev pub appending : List SegId → Option Ranges → Publish
appending ids ranges = record { spans = []; ids = ids; tombstones = []; ranges = ranges }

-- with `insert` and `replace`
abbrev pub in_spans : List Extent → List SegId → List SegId → Option Ranges → Publish
in_spans spans ids tombstones ranges = record { spans = spans; ids = ids; tombstones = tombstones; ranges = ranges }

abbrev pub publication_of : PubKind → TaskRow → List SpanSince → Publish → Publication
publication_of kind t spans p = record { kind = kind; group = t.group; source = t.source; spans = spans; adds = p.ids; empties = p.tombstones; ranges = p.ranges }

abbrev pub drop_publication : List ℕ → Extent → Publication
drop_publication source span = record { kind = PubKinds.Drop; group = no_group; source = source; spans = record { span = span; since = 0 } ∷ []; adds = []; empties = []; ranges = None }

abbrev pub reset_publication : List ℕ → List ℕ → List Offset → Publication
reset_publication source stream offsets = record {
  kind = PubKinds.Reset;
  group = no_group;
  source = source;
  spans = [];
  adds = [];
  empties = [];
  ranges = Some (record { stream = stream; parts = map point_of offsets });
}

-- ---- what every publish of a task changes

-- why the ranges of a publish are refused: it isn't the turn of the task's sequence, or they don't go on from the stored offsets
abbrev pub ranges_fault : Book → TaskRow → Option Ranges → Option Refusal
ranges_fault b t ranges =
    or_else (cond (passes b.supervisors b.sequences t.source t.group ranges) None (Some (Refusals.RangeNotAssigned t.source))) (compared b.offsets t.source ranges)

-- the publication is added, the ends of its ranges are stored, and the task's sequence is published
abbrev pub committed : TaskRow → Publication → Book → Book
committed t m b = record b {
  publications = b.publications ++ m ∷ [];
  offsets = advanced b.offsets t.source m.ranges;
  sequences = map (published t.group) b.sequences;
}
