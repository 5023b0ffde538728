-- What is decided of a publish, before anything changes, comes to what the rules say.
use Rattle.std.proofs.Common.{◌&&◌, ◌++◌, ◌∙◌, ◌≡◌, ◌≤◌, List, None, Option, Some, [], ap, append_assoc, false, length, map, nat_lt, not, refl, subst, sym, true}
use Rattle.std.specs.List.{list_all}
use Rattle.std.proofs.lemmas.Bool.{and_parts, ltb-false}
use Rattle.iv_span.specs.Extent.{Extent}
use Rattle.seg_names.specs.Ids.{same_id}
use Rattle.seg_names.specs.Names.{is_name}
use Rattle.seg_names.specs.declared.seg_id.SegId.{SegId}
use Rattle.book_rows.specs.Append.{after_append, rows_of_root, upgrade_of, without_roots}
use Rattle.book_rows.specs.Form.{are_ids, are_lists, are_parts, are_ranges_of, are_spans, is_few, is_id, is_range, is_some_few}
use Rattle.book_rows.specs.Ids.{id_before}
use Rattle.book_rows.specs.Lists.{gathered, is_empty, list_links}
use Rattle.book_rows.specs.Outcome as rules
use Rattle.book_rows.specs.Outcome.{all_tables, changed, fitted, fitted_by, is_full, no_room, row_limit}
use Rattle.book_rows.specs.Over.{Filling, Inserting, Replacing, Target, kind_of}
use Rattle.book_rows.specs.Publications.{Publish, committed, in_spans, publication_of, repeat_of, without_since}
use Rattle.book_rows.specs.PublishSteps.{commit_reply, filled, over_step, publish_step, published_or}
use Rattle.book_rows.specs.Rewrite.{after_insert, after_replace}
use Rattle.book_rows.specs.Sequences.{published}
use Rattle.book_rows.specs.Shape.{AreDistinct, pending_ids, same_chunk_row, segment_ids}
use Rattle.book_rows.specs.Sound.{Sound}
use Rattle.book_rows.specs.Spans.{is_span, span_at_most}
use Rattle.book_rows.specs.declared.kinds.PubKind.{PubKind}
use Rattle.book_rows.specs.declared.kinds.PubKind.TheVariants as PubKinds
use Rattle.book_rows.specs.declared.kinds.Table.{Table}
use Rattle.book_rows.specs.declared.replies.Reply.{Reply}
use Rattle.book_rows.specs.declared.rows.Book.{Book}
use Rattle.book_rows.specs.declared.rows.ChunkRow.{ChunkRow}
use Rattle.book_rows.specs.declared.rows.PendingRow.{PendingRow}
use Rattle.book_rows.specs.declared.rows.Publication.{Publication}
use Rattle.book_rows.specs.declared.rows.Ranges.{Ranges}
use Rattle.book_rows.specs.declared.rows.SegmentRow.{SegmentRow}
use Rattle.book_rows.specs.declared.rows.SequenceRow.{SequenceRow}
use Rattle.book_rows.specs.declared.rows.SpanSince.{SpanSince}
use Rattle.book_rows.specs.declared.rows.TaskRow.{TaskRow}
use Rattle.book_rows.specs.declared.rows.UpgradeRow.{UpgradeRow}
use Rattle.laws_locks.proofs.Lists.{none_found, pairs_left}
use Rattle.stream_offsets.specs.Room.{ranges_ascend}
use Rattle.upgrade_plan.specs.NewRows.{copies_at, new_chunks, new_pendings, new_segments}
use Rattle.upgrade_plan.specs.declared.appending.AppendRows.{AppendRows}
use Rattle.upgrade_plan.specs.declared.filling.OverRows.{OverRows}
use Rattle.overlord_core.specs.Commits.{IsAnswered, after_fill_plan, carried, committed_by, fill_tables, pending_rows, with_append_rows, with_fill_rows}
use Rattle.book_core.specs.Publishing.{spans_in}
use Rattle.book_core.specs.Done.{IsDone}
use Rattle.book_core.specs.declared.outcomes.Outcome.{Outcome}
use Rattle.overlord_core.specs.declared.publishing.filling.FillPlan.{FillPlan}

-- ---- the publish of a task of this row

module _ (kind : PubKind) (o : Option TaskRow) (t : TaskRow) (b : Book) (p : Publish) (m : Publication) (f : TaskRow → rules.Outcome) where
  -- it is answered at once
  pub step_answered : (d : Outcome) → Some t ≡ o → m ≡ publication_of kind t (without_since p.spans) p → IsAnswered (Some d) b t m → IsDone d b (publish_step kind o b p f)
  step_answered d found own answered =
      subst (λ (x : Option TaskRow). IsDone d b (publish_step kind x b p f)) found
      (subst (λ (x : Publication). IsDone d b (published_or (repeat_of x b.publications) b t.status (commit_reply x.kind) (f t))) own (answered (f t)))

  -- it is decided
  pub step_is : Some t ≡ o → m ≡ publication_of kind t (without_since p.spans) p → IsAnswered None b t m → publish_step kind o b p f ≡ f t
  step_is found own unanswered =
      ap (λ (x : Option TaskRow). publish_step kind x b p f) (sym found)
      ∙ subst (λ (x : Publication). published_or (repeat_of x b.publications) b t.status (commit_reply x.kind) (f t) ≡ f t) own (unanswered (f t))

-- ---- whether there is room

pub fits_by : (tables : List Table) (b after whole : Book) (reply : Reply) (o : Option Table) → whole ≡ after → o ≡ no_room tables whole → fitted_by o b (changed whole reply) ≡ fitted tables b after reply
fits_by tables b after whole reply o same e = ap (λ (x : Option Table). fitted_by x b (changed whole reply)) e ∙ ap (λ (x : Book). fitted tables b x reply) same

-- ---- append

module _ (b : Book) (t : TaskRow) (p : Publish) where
  abbrev appended_by : List SegmentRow → List UpgradeRow → List SegId → Book
  appended_by segments upgrades ids = record b { segments = b.segments ++ segments; pendings = without_roots ids b.pendings; upgrades = b.upgrades ++ upgrades }

  pub append_is : (m : Publication) (rows : AppendRows) → m ≡ publication_of PubKinds.Append t [] p
      → rows.segments.items ≡ gathered (λ a. rows_of_root (length b.publications) a b.pendings) m.adds → rows.upgrades.items ≡ gathered (upgrade_of b.posses b.chunks) m.adds
      → committed_by m (with_append_rows rows m.adds b) ≡ after_append t p b
  append_is m rows own segments upgrades =
      ap (λ (xs : List SegmentRow). committed_by m (appended_by xs rows.upgrades.items m.adds)) segments
      ∙ ap (λ (us : List UpgradeRow). committed_by m (appended_by (gathered (λ a. rows_of_root (length b.publications) a b.pendings) m.adds) us m.adds)) upgrades
      ∙ ap (λ (x : Publication). committed_by x (appended_by (gathered (λ a. rows_of_root (length b.publications) a b.pendings) x.adds) (gathered (upgrade_of b.posses b.chunks) x.adds) x.adds)) own

-- ---- insert and replace

abbrev pub after_fill : Filling → TaskRow → Publish → List Target → Book → Book
after_fill Inserting t p xs b = after_insert t p xs b
after_fill Replacing t p xs b = after_replace t p xs b

pub filled_is : (f : Filling) (b : Book) (t : TaskRow) (p : Publish) (xs : List Target)
    → filled f b p t xs ≡ fitted (fill_tables f) b (after_fill f t p xs b) (commit_reply (kind_of f) (length b.publications))
filled_is Inserting b t p xs = refl
filled_is Replacing b t p xs = refl

module _ (b : Book) (t : TaskRow) (p : Publish) (xs : List Target) where
  abbrev filled_by : Filling → List ChunkRow → List SegmentRow → List PendingRow → Book
  filled_by f chunks segments pendings = carried f pendings xs (record b { chunks = b.chunks ++ chunks; segments = b.segments ++ segments })

  abbrev chunks_in : Filling → Publication → List ChunkRow
  chunks_in f m = new_chunks f (pending_rows b) m.source m.adds (length b.publications) xs

  abbrev segments_in : Filling → Publication → List SegmentRow
  segments_in f m = new_segments f (pending_rows b) m.source m.adds m.empties (length b.publications) xs

  abbrev pendings_in : Filling → Publication → List PendingRow
  pendings_in f m = new_pendings f (pending_rows b) m.source m.adds (length b.publications) xs

  abbrev whole : Filling → Publication
  whole f = publication_of (kind_of f) t (spans_in f xs) p

  by_filling : (f : Filling) → committed_by (whole f) (filled_by f (chunks_in f (whole f)) (segments_in f (whole f)) (pendings_in f (whole f))) ≡ after_fill f t p xs b
  by_filling Inserting = refl
  by_filling Replacing =
      ap (λ (rows : List SegmentRow). record (after_replace t p xs b) { segments = rows })
      (sym (append_assoc b.segments (new_segments Inserting (pending_rows b) t.source p.ids p.tombstones (length b.publications) xs) (gathered (λ x. (copies_at (pending_rows b) t.source p.ids (length b.publications) x).segments) xs)))

  pub fill_is : (f : Filling) (m : Publication) (rows : OverRows) → m ≡ whole f → rows.chunks.items ≡ chunks_in f m → rows.segments.items ≡ segments_in f m → rows.pendings.items ≡ pendings_in f m
      → committed_by m (with_fill_rows f xs rows b) ≡ after_fill f t p xs b
  fill_is f m rows own chunks segments pendings =
      ap (λ (cs : List ChunkRow). committed_by m (filled_by f cs rows.segments.items rows.pendings.items)) chunks
      ∙ ap (λ (ss : List SegmentRow). committed_by m (filled_by f (chunks_in f m) ss rows.pendings.items)) segments
      ∙ ap (λ (ps : List PendingRow). committed_by m (filled_by f (chunks_in f m) (segments_in f m) ps)) pendings
      ∙ ap (λ (x : Publication). committed_by x (filled_by f (chunks_in f x) (segments_in f x) (pendings_in f x))) own
      ∙ by_filling f

-- ---- what is asked of a book and of the lists of a command

pub rows_within : (b : Book) → Sound b → (length b.pendings ≤ row_limit) × (length b.upgrades ≤ row_limit)
rows_within b s =
    let none = none_found (λ table. is_full table b) all_tables s.shape.limits.room in
    (ltb-false row_limit (length b.pendings) none.1.1.1.1.1.1.0, ltb-false row_limit (length b.upgrades) none.1.1.1.1.1.1.1.0)

pub ids_apart : (b : Book) → Sound b → AreDistinct same_id (segment_ids b.segments)
ids_apart b s = pairs_left (λ x y. same_id x y ≡ false) (segment_ids b.segments) (pending_ids b.pendings) s.shape.keys.ids

-- so it is after an insert and a replacement, of which only the pendings and upgrade rows differ
pub chunks_apart_in : (f : Filling) (a : FillPlan) (b : Book) → Sound (after_fill_plan f a b) → AreDistinct same_chunk_row (b.chunks ++ a.rows.chunks.items)
chunks_apart_in Inserting a b s = s.shape.keys.chunks
chunks_apart_in Replacing a b s = s.shape.keys.chunks

pub ids_apart_in : (f : Filling) (a : FillPlan) (b : Book) → Sound (after_fill_plan f a b) → AreDistinct same_id (segment_ids (b.segments ++ a.rows.segments.items))
ids_apart_in Inserting a b s = ids_apart (after_fill_plan Inserting a b) s
ids_apart_in Replacing a b s = ids_apart (after_fill_plan Replacing a b) s

-- the parts of the form of an insert and a replacement
pub record AreInForm (spans : List Extent) (ids tombs : List SegId) (ranges : Option Ranges) : Type 0 where
  pub spans_rise : list_links span_at_most spans ≡ true
  pub ids_rise : list_links id_before ids ≡ true
  pub tombs_rise : list_links id_before tombs ≡ true
  pub few : is_few ids ≡ true
  pub parts_rise : ranges_ascend ranges ≡ true

pub ranges_rise : (ranges : Option Ranges) → are_ranges_of ranges ≡ true → ranges_ascend ranges ≡ true
ranges_rise None h = refl
ranges_rise (Some r) h =
    let parts = and_parts (is_name r.stream && not (is_empty r.parts)) (are_parts r.parts) h in
    (and_parts (is_few r.parts && list_all is_range r.parts) (list_links (λ a b. nat_lt a.partition b.partition) r.parts) parts.1).1

ids_rise : (ids : List SegId) → are_ids ids ≡ true → list_links id_before ids ≡ true
ids_rise ids h = (and_parts (is_few ids && list_all is_id ids) (list_links id_before ids) h).1

pub lists_in_form : (spans : List Extent) (ids tombs : List SegId) (ranges : Option Ranges) → are_lists spans ids tombs ranges ≡ true → AreInForm spans ids tombs ranges
lists_in_form spans ids tombs ranges h =
    let all = and_parts (are_spans spans && are_ids ids && are_ids tombs && not (is_empty ids && is_empty tombs)) (are_ranges_of ranges) h in
    let some = and_parts (are_spans spans && are_ids ids && are_ids tombs) (not (is_empty ids && is_empty tombs)) all.0 in
    let tombed = and_parts (are_spans spans && are_ids ids) (are_ids tombs) some.0 in
    let both = and_parts (are_spans spans) (are_ids ids) tombed.0 in
    record {
      spans_rise = (and_parts (is_some_few spans && list_all is_span spans) (list_links span_at_most spans) both.0).1;
      ids_rise = ids_rise ids both.1;
      tombs_rise = ids_rise tombs tombed.1;
      few = (and_parts (is_few ids) (list_all is_id ids) (and_parts (is_few ids && list_all is_id ids) (list_links id_before ids) both.1).0).0;
      parts_rise = ranges_rise ranges all.1;
    }

-- what is lent of a command's lists is what the command has
pub sound_as_lent : (f : Filling) (o : Option TaskRow) (b : Book) {spans lent_spans : List Extent} {ids lent_ids tombs lent_tombs : List SegId} (ranges : Option Ranges) → lent_spans ≡ spans → lent_ids ≡ ids → lent_tombs ≡ tombs
    → Sound (over_step f o b (in_spans spans ids tombs ranges)).book → Sound (over_step f o b (in_spans lent_spans lent_ids lent_tombs ranges)).book
sound_as_lent f o b {spans} {lent_spans} {ids} {lent_ids} {tombs} {lent_tombs} ranges same_spans same_ids same_tombs s =
    subst (λ (xs : List Extent). Sound (over_step f o b (in_spans xs lent_ids lent_tombs ranges)).book) (sym same_spans)
    (subst (λ (as' : List SegId). Sound (over_step f o b (in_spans spans as' lent_tombs ranges)).book) (sym same_ids)
    (subst (λ (ts : List SegId). Sound (over_step f o b (in_spans spans ids ts ranges)).book) (sym same_tombs) s))
