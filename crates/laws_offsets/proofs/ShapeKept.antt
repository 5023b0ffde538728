-- Every command keeps the shape of stored offsets and published ranges.
use Rattle.std.proofs.Common.{◌≡◌, ℕ, true, false, cond, not, ◌==◌, ◌&&◌, List, [], ◌∷◌, ◌++◌, map, Some, None, Option, refl, sym, ◌∙◌, ap, subst, bytes_eq, inl, inr, nat_le, nat_lt, length}
use Rattle.std.specs.List.{list_all}
use Rattle.std.proofs.lemmas.Bool.{and_from, and_parts, eq-eqb}
use Rattle.std.proofs.lemmas.List.{length-map}
use Rattle.seg_names.specs.Names.{is_name}
use Rattle.book_rows.specs.Answer.{book_after, empty_book, next}
use Rattle.book_rows.specs.Form.{are_offsets, are_parts, are_ranges_of, is_few, is_offset, is_range, keeps_form, offset_limit, partition_limit}
use Rattle.book_rows.specs.Lists.{is_empty, list_links}
use Rattle.book_rows.specs.Offsets.{advanced, cleared, end_of, point_of, reset_to}
use Rattle.book_rows.specs.Outcome.{all_tables, is_full, row_limit}
use Rattle.book_rows.specs.Publications.{drop_publication, reset_publication}
use Rattle.book_rows.specs.Shape.{are_points, are_row_ranges, fits_kind, is_publication_row}
use Rattle.book_rows.specs.Tiles.{is_reset}
use Rattle.book_rows.specs.declared.commands.Command.{Command}
use Rattle.book_rows.specs.declared.commands.Command.TheVariants as Commands
use Rattle.book_rows.specs.declared.kinds.PubKind.{PubKind}
use Rattle.book_rows.specs.declared.kinds.PubKind.TheVariants as PubKinds
use Rattle.book_rows.specs.declared.kinds.Table.TheVariants as Tables
use Rattle.book_rows.specs.declared.rows.Book.{Book}
use Rattle.book_rows.specs.declared.rows.Offset.{Offset}
use Rattle.book_rows.specs.declared.rows.OffsetRow.{OffsetRow}
use Rattle.book_rows.specs.declared.rows.Publication.{Publication}
use Rattle.book_rows.specs.declared.rows.Range.{Range}
use Rattle.book_rows.specs.declared.rows.Ranges.{Ranges}
use Rattle.laws_locks.proofs.Lists.{In-list_all, found_In, pass_push, pass_weaker}
use Rattle.laws_offsets.specs.Effects.{IsPublished, IsReset, TaskRanges, publish_of}
use Rattle.laws_offsets.specs.OffsetShape.{AreOffsetRows, ArePublishedRanges, HasNames, HasOffsetShape, OffsetShapeStays, ReachedHaveOffsetShape, ShapeHasOffsetShape, fits_reset}
use Rattle.laws_offsets.proofs.EachCommand.{each_command}
use Rattle.laws_offsets.proofs.NamedSources.{names_stay}
use Rattle.laws_offsets.proofs.Outcomes.{has_room}
use Rattle.laws_offsets.proofs.RowOrder.{cleared_rows, stored_rows}
use Rattle.laws_offsets.proofs.StoredAfter.{ranges_form}

-- ---- a part of the whole shape

kind_fits : (kind : PubKind) (m : Publication) → fits_kind kind m ≡ true → cond (is_reset kind) (are_points m.ranges) true ≡ true
kind_fits PubKinds.Append m e = refl
kind_fits PubKinds.Over m e = refl
kind_fits PubKinds.Replace m e = refl
kind_fits PubKinds.Drop m e = refl
kind_fits PubKinds.Reset m e = (and_parts _ (are_points m.ranges) (and_parts _ (is_empty m.empties) e).0).1

pub shape_has_offset_shape : ShapeHasOffsetShape
shape_has_offset_shape b h = record {
  rows = record { limits = h.limits.offsets; order = h.keys.offsets };
  room = has_room Tables.Offsets all_tables b h.limits.room (inr (inr (inr (inr (inr (inr (inr (inr (inr (inl refl))))))))));
  ranges = record {
    limits = pass_weaker is_publication_row (λ m. are_row_ranges m.ranges) (λ m e. (and_parts _ (are_row_ranges m.ranges) e).1) b.publications h.limits.publications;
    points = pass_weaker (λ m. fits_kind m.kind m) fits_reset (λ m e. kind_fits m.kind m e) b.publications h.limits.kinds;
  };
}

-- ---- rows of a publish

ends_limits : (rs : List Range) → list_all is_range rs ≡ true → list_all is_offset (map end_of rs) ≡ true
ends_limits [] a = refl
ends_limits (r ∷ rs) a =
    let both = and_parts (is_range r) (list_all is_range rs) a in
    let outer = and_parts (nat_le r.partition partition_limit && nat_le r.start offset_limit) (nat_le r.end offset_limit) both.0 in
    and_from (is_offset (end_of r)) (list_all is_offset (map end_of rs))
    (and_from (nat_le r.partition partition_limit) (nat_le r.end offset_limit) (and_parts (nat_le r.partition partition_limit) (nat_le r.start offset_limit) outer.0).0 outer.1) (ends_limits rs both.1)

parts_ranges : (rs : List Range) → are_parts rs ≡ true → list_all is_range rs ≡ true
parts_ranges rs e = (and_parts (is_few rs) (list_all is_range rs) (and_parts (is_few rs && list_all is_range rs) (list_links (λ a b. nat_lt a.partition b.partition) rs) e).0).1

advanced_rows : (rows : List OffsetRow) (source : List ℕ) (o : Option Ranges) → is_name source ≡ true → are_ranges_of o ≡ true → AreOffsetRows rows → AreOffsetRows (advanced rows source o)
advanced_rows rows source None name form h = h
advanced_rows rows source (Some ranges) name form h =
    let parts = and_parts (is_name ranges.stream && not (is_empty ranges.parts)) (are_parts ranges.parts) form in
    stored_rows source ranges.stream (map end_of ranges.parts) rows name (and_parts (is_name ranges.stream) (not (is_empty ranges.parts)) parts.0).0
    (ends_limits ranges.parts (parts_ranges ranges.parts parts.1)) h

pub row_ranges : (o : Option Ranges) → are_ranges_of o ≡ true → are_row_ranges o ≡ true
row_ranges None form = refl
row_ranges (Some ranges) form =
    let parts = and_parts (is_name ranges.stream && not (is_empty ranges.parts)) (are_parts ranges.parts) form in
    and_from (is_name ranges.stream) (are_parts ranges.parts) (and_parts (is_name ranges.stream) (not (is_empty ranges.parts)) parts.0).0 parts.1

-- ---- one publication more

one_more : (ms : List Publication) (m : Publication) → are_row_ranges m.ranges ≡ true → fits_reset m ≡ true → ArePublishedRanges ms → ArePublishedRanges (ms ++ m ∷ [])
one_more ms m a b h = record { limits = pass_push (λ m. are_row_ranges m.ranges) ms m h.limits a; points = pass_push fits_reset ms m h.points b }

no_reset_fits : (m : Publication) → is_reset m.kind ≡ false → fits_reset m ≡ true
no_reset_fits m e = ap (λ b. cond b (are_points m.ranges) true) e

-- ---- a reset

pub points_range : (os : List Offset) → list_all is_offset os ≡ true → list_all is_range (map point_of os) ≡ true
points_range [] a = refl
points_range (o ∷ os) a =
    let both = and_parts (is_offset o) (list_all is_offset os) a in
    let own = and_parts (nat_le o.partition partition_limit) (nat_le o.offset offset_limit) both.0 in
    and_from (is_range (point_of o)) (list_all is_range (map point_of os))
    (and_from (nat_le o.partition partition_limit && nat_le o.offset offset_limit) (nat_le o.offset offset_limit) both.0 own.1) (points_range os both.1)

pub points_ascend : (os : List Offset) → list_links (λ a b. nat_lt a.partition b.partition) (map point_of os) ≡ list_links (λ a b. nat_lt a.partition b.partition) os
points_ascend [] = refl
points_ascend (o ∷ []) = refl
points_ascend (o ∷ p ∷ os) = ap (λ b. nat_lt o.partition p.partition && b) (points_ascend (p ∷ os))

pub points_fit : (os : List Offset) → list_all (λ r. r.start == r.end) (map point_of os) ≡ true
points_fit [] = refl
points_fit (o ∷ os) = and_from (o.offset == o.offset) (list_all (λ r. r.start == r.end) (map point_of os)) (eq-eqb o.offset o.offset refl) (points_fit os)

pub point_parts : (os : List Offset) → are_offsets os ≡ true → are_parts (map point_of os) ≡ true
point_parts os e =
    let links = and_parts (is_few os && list_all is_offset os) (list_links (λ a b. nat_lt a.partition b.partition) os) e in
    let own = and_parts (is_few os) (list_all is_offset os) links.0 in
    and_from (is_few (map point_of os) && list_all is_range (map point_of os)) (list_links (λ a b. nat_lt a.partition b.partition) (map point_of os))
    (and_from (is_few (map point_of os)) (list_all is_range (map point_of os)) (rw (length-map os point_of) own.0) (points_range os own.1)) (points_ascend os ∙ links.1)

offsets_of : (os : List Offset) → are_offsets os ≡ true → list_all is_offset os ≡ true
offsets_of os e = (and_parts (is_few os) (list_all is_offset os) (and_parts (is_few os && list_all is_offset os) (list_links (λ a b. nat_lt a.partition b.partition) os) e).0).1

-- ---- each command

-- the shape is one of offsets and publications alone
moved : (b : Book) (os : List OffsetRow) (ms : List Publication) → b.offsets ≡ os → b.publications ≡ ms → is_full Tables.Offsets b ≡ false → AreOffsetRows os → ArePublishedRanges ms → HasOffsetShape b
moved b os ms e f room h k = record { rows = subst AreOffsetRows (sym e) h; room = room; ranges = subst ArePublishedRanges (sym f) k }

-- no less room where the offsets are the same
same_room : (b after : Book) → after.offsets ≡ b.offsets → is_full Tables.Offsets b ≡ false → is_full Tables.Offsets after ≡ false
same_room b after e room = ap (λ (rows : List OffsetRow). nat_lt row_limit (length rows)) e ∙ room

pub offset_shape_stays : OffsetShapeStays
offset_shape_stays b c form named h = each_command HasOffsetShape b c h (record {
  published = λ p of w. published_shape p of w;
  dropped = λ source span w. moved (next b c) b.offsets (b.publications ++ drop_publication source span ∷ []) w.offsets w.publications (same_room b (next b c) w.offsets h.room) h.rows
      (one_more b.publications (drop_publication source span) refl refl h.ranges);
  reset = λ source stream os is w. reset_shape source stream os (subst (λ (c : Command). keeps_form c ≡ true) is form) w;
  others = λ w. moved (next b c) b.offsets b.publications w.offsets w.publications (same_room b (next b c) w.offsets h.room) h.rows h.ranges;
}) where
  published_shape : (p : TaskRanges) → publish_of c ≡ Some p → IsPublished b (next b c) p → HasOffsetShape (next b c)
  published_shape p of w =
      let ranges = ranges_form c p form of in
      moved (next b c) (advanced b.offsets w.task.source p.ranges) (b.publications ++ w.publication ∷ []) w.offsets w.publications w.room
      (advanced_rows b.offsets w.task.source p.ranges (In-list_all (λ t. is_name t.source) w.task b.tasks (found_In (λ t. bytes_eq t.task p.task) w.task b.tasks w.found).0 named) ranges h.rows)
      (one_more b.publications w.publication (subst (λ (o : Option Ranges). are_row_ranges o ≡ true) (sym w.ranges_are) (row_ranges p.ranges ranges)) (no_reset_fits w.publication w.no_reset) h.ranges)

  reset_shape : (source stream : List ℕ) (os : List Offset) → keeps_form (Commands.Reset source stream os) ≡ true → IsReset b (next b c) source stream os → HasOffsetShape (next b c)
  reset_shape source stream os form w =
      let all = and_parts (is_name source && is_name stream) (are_offsets os) form in
      let names = and_parts (is_name source) (is_name stream) all.0 in
      moved (next b c) (reset_to b.offsets source stream os) (b.publications ++ reset_publication source stream os ∷ []) w.stored w.publications w.room
      (stored_rows source stream os (cleared b.offsets source stream) names.0 names.1 (offsets_of os all.1) (cleared_rows b.offsets source stream h.rows))
      (one_more b.publications (reset_publication source stream os) (and_from (is_name stream) (are_parts (map point_of os)) names.1 (point_parts os all.1)) (points_fit os) h.ranges)

-- ---- lists of commands

empty_shape : HasOffsetShape empty_book
empty_shape = record { rows = record { limits = refl; order = tt }; room = refl; ranges = record { limits = refl; points = refl } }

after_shape : (cs : List Command) (b : Book) → list_all keeps_form cs ≡ true → HasNames b → HasOffsetShape b → HasOffsetShape (book_after b cs)
after_shape [] b forms named h = h
after_shape (c ∷ cs) b forms named h =
    let form = and_parts (keeps_form c) (list_all keeps_form cs) forms in
    after_shape cs (next b c) form.1 (names_stay b c form.0 named) (offset_shape_stays b c form.0 named.tasks h)

pub reached_have_offset_shape : ReachedHaveOffsetShape
reached_have_offset_shape cs forms = after_shape cs empty_book forms (record { tasks = refl; supervisors = refl }) empty_shape
