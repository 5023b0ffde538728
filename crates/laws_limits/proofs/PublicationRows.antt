-- Publications and supervisors stay within their limits.
use Rattle.std.proofs.Common.{◌≡◌, ℕ, Bool, true, false, cond, ◌==◌, ◌&&◌, List, [], ◌∷◌, ◌++◌, map, Ok, Option, refl}
use Rattle.std.specs.List.{list_all}
use Rattle.std.proofs.lemmas.Bool.{and_from, and_parts}
use Rattle.std.proofs.lemmas.List.{length-map}
use Rattle.iv_span.specs.Extent.{Extent}
use Rattle.seg_names.specs.Names.{is_name, is_task_id}
use Rattle.seg_names.specs.declared.seg_id.SegId.{SegId}
use Rattle.book_rows.specs.Form.{KeepsForm, are_offsets, are_parts, is_few, is_id}
use Rattle.book_rows.specs.Grant.{moment}
use Rattle.book_rows.specs.Locks.{left_all_locks, locks_of}
use Rattle.book_rows.specs.Names.{no_group}
use Rattle.book_rows.specs.Offsets.{point_of}
use Rattle.book_rows.specs.Over.{Target, targets}
use Rattle.book_rows.specs.Publications.{Publish, appending, drop_publication, publication_of, reset_publication}
use Rattle.book_rows.specs.PublishSteps.{offsets_reset, reads_stream, sequences_dropped}
use Rattle.book_rows.specs.Reports.{Ended, ended}
use Rattle.book_rows.specs.Sequences.{dropped_sequence, supervisor_of, tasks_dropped}
use Rattle.book_rows.specs.Shape.{are_row_ranges, fits_kind, is_publication_row, is_supervisor_row}
use Rattle.book_rows.specs.Spans.{is_span}
use Rattle.book_rows.specs.TaskSteps.{after_end, with_status}
use Rattle.book_rows.specs.declared.commands.Command.TheVariants as Commands
use Rattle.book_rows.specs.declared.kinds.PubKind.{PubKind}
use Rattle.book_rows.specs.declared.kinds.PubKind.TheVariants as PubKinds
use Rattle.book_rows.specs.declared.kinds.TaskStatus.{TaskStatus}
use Rattle.book_rows.specs.declared.rows.Book.{Book}
use Rattle.book_rows.specs.declared.rows.Offset.{Offset}
use Rattle.book_rows.specs.declared.rows.Publication.{Publication}
use Rattle.book_rows.specs.declared.rows.Ranges.{Ranges}
use Rattle.book_rows.specs.declared.rows.SpanSince.{SpanSince}
use Rattle.book_rows.specs.declared.rows.SupervisorRow.{SupervisorRow}
use Rattle.book_rows.specs.declared.rows.TaskRow.{TaskRow}
use Rattle.book_rows.specs.declared.kinds.LockKind.{LockKind}
use Rattle.book_rows.specs.declared.kinds.LockKind.TheVariants as LockKinds
use Rattle.book_rows.specs.Sound.{Sound}
use Rattle.laws_locks.proofs.Lists.{pass_push}
use Rattle.laws_locks.proofs.Submitting.{submit_text_is_id}
use Rattle.laws_limits.specs.Rows.{ArePublicationRows, PublicationRowsStay}
use Rattle.laws_limits.proofs.Forms.{AreFewIds, AreListsForm, HasTexts, append_form, insert_form, replace_form, texts_of}
use Rattle.laws_limits.proofs.Lists.{pass_all, pass_over}
use Rattle.laws_limits.proofs.Targets.{few_targets, is_target, targets_fit}
use Rattle.laws_limits.proofs.Walk.{DoesRun, Moves, Steps, after_any, fails_all, leaves_all, tick_of}
use Rattle.laws_offsets.proofs.ShapeKept.{points_fit, point_parts}

-- ---- one publication

-- the row of a publish is within its limits
row_fits : (m : Publication) → is_task_id m.group ≡ true → is_name m.source ≡ true → is_few m.spans ≡ true → list_all (λ (s : SpanSince). is_span s.span) m.spans ≡ true → AreFewIds m.adds → AreFewIds m.empties → are_row_ranges m.ranges ≡ true
    → is_publication_row m ≡ true
row_fits m group source few spans adds empties ranges =
    and_from _ (are_row_ranges m.ranges)
    (and_from _ (list_all is_id m.empties)
    (and_from _ (is_few m.empties)
    (and_from _ (list_all is_id m.adds)
    (and_from _ (is_few m.adds) (and_from _ (list_all (λ (s : SpanSince). is_span s.span) m.spans) (and_from _ (is_few m.spans) (and_from (is_task_id m.group) (is_name m.source) group source) few) spans) adds.few) adds.each) empties.few) empties.each)
    ranges

no_ids : AreFewIds []
no_ids = record { few = refl; each = refl }

pub more : (ms : List Publication) (ss : List SupervisorRow) (m : Publication) → is_publication_row m ≡ true → fits_kind m.kind m ≡ true → ArePublicationRows ms ss → ArePublicationRows (ms ++ m ∷ []) ss
more ms ss m fits kind h = record { publications = pass_push is_publication_row ms m h.publications fits; kinds = pass_push (λ m. fits_kind m.kind m) ms m h.kinds kind; supervisors = h.supervisors }

-- the spans of an insert or a replace
spans_fit : (f : Target → SpanSince) → ((x : Target) → is_target x ≡ true → is_span (f x).span ≡ true) → (xs : List Target) → list_all is_target xs ≡ true → list_all (λ (s : SpanSince). is_span s.span) (map f xs) ≡ true
spans_fit f h xs a = pass_over is_target (λ (s : SpanSince). is_span s.span) f h xs a

over_fits : (kind : PubKind) (lock : LockKind) (t : TaskRow) (f : Target → SpanSince) (b : Book) (given : Publish) (xs : List Target) → targets b.posses t lock given.spans ≡ Ok xs → ((x : Target) → is_target x ≡ true → is_span (f x).span ≡ true) → HasTexts t
    → Sound b → AreListsForm given.spans given.ids given.tombstones given.ranges → is_publication_row (publication_of kind t (map f xs) given) ≡ true
over_fits kind lock t f b given xs found same texts sound form =
    row_fits (publication_of kind t (map f xs) given) texts.group texts.source (rw (length-map xs f) (few_targets b.posses t lock given.spans xs found form.few))
    (spans_fit f same xs (targets_fit b.posses t lock given.spans xs sound.shape.limits.posses form.each found)) form.adds form.empties form.read

since_zero : (xs : List Target) → list_all (λ (s : SpanSince). s.since == 0) (map (λ (x : Target). record { span = x.span; since = 0 }) xs) ≡ true
since_zero xs = pass_all (λ (s : SpanSince). s.since == 0) (λ (x : Target). record { span = x.span; since = 0 }) (λ x. refl) xs

target_span : (x : Target) → is_target x ≡ true → is_span x.span ≡ true
target_span x h = (and_parts (is_span x.span) _ h).0

-- ---- a reset

-- ---- the walk

abbrev HasRows : Book → Type 0
HasRows m = ArePublicationRows m.publications m.supervisors

moves : Moves HasRows
moves = record { clock = λ now m h. h; status = λ task status m h. h; granted = λ task g m locks numbers h. h; left = λ n task m h. h; joined = λ n task m h. h }

sound_rows : (b : Book) → Sound b → HasRows b
sound_rows b sound = record { publications = sound.shape.limits.publications; kinds = sound.shape.limits.kinds; supervisors = sound.shape.limits.supervisors }

module _ (b : Book) (sound : Sound b) where
  texts : (t : TaskRow) → DoesRun b t → HasTexts t
  texts t runs = texts_of b.tasks t sound.shape.limits.tasks runs.among

  appends : (task : List ℕ) (ids : List SegId) (ranges : Option Ranges) (t : TaskRow) → KeepsForm (Commands.Append task ids ranges) → DoesRun b t → ArePublicationRows (b.publications ++ publication_of PubKinds.Append t [] (appending ids ranges) ∷ []) b.supervisors
  appends task ids ranges t form runs =
      let own = append_form task ids ranges form in
      more b.publications b.supervisors (publication_of PubKinds.Append t [] (appending ids ranges)) (row_fits (publication_of PubKinds.Append t [] (appending ids ranges)) (texts t runs).group (texts t runs).source refl refl own.adds no_ids own.read) refl (sound_rows b sound)

  inserts : (task : List ℕ) (given : Publish) (t : TaskRow) (xs : List Target) → KeepsForm (Commands.Insert task given.spans given.ids given.tombstones given.ranges) → DoesRun b t → targets b.posses t LockKinds.Exclusive given.spans ≡ Ok xs
      → ArePublicationRows (b.publications ++ publication_of PubKinds.Over t (map (λ (x : Target). record { span = x.span; since = 0 }) xs) given ∷ []) b.supervisors
  inserts task given t xs form runs found =
      more b.publications b.supervisors (publication_of PubKinds.Over t (map (λ (x : Target). record { span = x.span; since = 0 }) xs) given)
      (over_fits PubKinds.Over LockKinds.Exclusive t (λ (x : Target). record { span = x.span; since = 0 }) b given xs found target_span (texts t runs) sound (insert_form task given.spans given.ids given.tombstones given.ranges form)) (since_zero xs) (sound_rows b sound)

  replaces : (task : List ℕ) (given : Publish) (t : TaskRow) (xs : List Target) → KeepsForm (Commands.Replace task given.spans given.ids given.tombstones given.ranges) → DoesRun b t → targets b.posses t LockKinds.Replace given.spans ≡ Ok xs
      → ArePublicationRows (b.publications ++ publication_of PubKinds.Replace t (map (λ (x : Target). record { span = x.span; since = x.since }) xs) given ∷ []) b.supervisors
  replaces task given t xs form runs found =
      more b.publications b.supervisors (publication_of PubKinds.Replace t (map (λ (x : Target). record { span = x.span; since = x.since }) xs) given)
      (over_fits PubKinds.Replace LockKinds.Replace t (λ (x : Target). record { span = x.span; since = x.since }) b given xs found target_span (texts t runs) sound (replace_form task given.spans given.ids given.tombstones given.ranges form)) refl (sound_rows b sound)

  drops : (source : List ℕ) (span : Extent) → KeepsForm (Commands.Drop source span) → ArePublicationRows (b.publications ++ drop_publication source span ∷ []) b.supervisors
  drops source span form =
      let both = and_parts (is_name source) (is_span span) form in
      more b.publications b.supervisors (drop_publication source span) (row_fits (drop_publication source span) (submit_text_is_id no_group refl) both.0 refl (and_from (is_span span) true both.1 refl) no_ids no_ids refl) refl (sound_rows b sound)

  stores : (source stream : List ℕ) (offsets : List Offset) → KeepsForm (Commands.Reset source stream offsets) → HasRows (offsets_reset source stream offsets b)
  stores source stream offsets form =
      let all = and_parts (is_name source && is_name stream) (are_offsets offsets) form in
      let names = and_parts (is_name source) (is_name stream) all.0 in
      more b.publications b.supervisors (reset_publication source stream offsets)
      (row_fits (reset_publication source stream offsets) (submit_text_is_id no_group refl) names.0 refl refl no_ids no_ids (and_from (is_name stream) (are_parts (map point_of offsets)) names.1 (point_parts offsets all.1)))
      (and_from _ true (points_fit offsets) refl) (sound_rows b sound)

  resets : (reads : Bool) (source stream : List ℕ) (offsets : List Offset) → HasRows (offsets_reset source stream offsets b)
      → HasRows (cond reads (sequences_dropped source (offsets_reset source stream offsets b)) (offsets_reset source stream offsets b))
  resets true source stream offsets h = fails_all HasRows moves (tasks_dropped source b.sequences) (record (offsets_reset source stream offsets b) { sequences = map (dropped_sequence source) b.sequences }) h
  resets false source stream offsets h = h

  ends : (t : TaskRow) (status : TaskStatus) → HasRows (after_end t status b)
  ends t status =
      let e : Ended = ended t.group t.task b.clock b.sequences in
      fails_all HasRows moves e.tasks (record (with_status t.task status (left_all_locks t.task b)) { sequences = e.sequences }) (leaves_all HasRows moves (locks_of t.task b.posses) t.task b (sound_rows b sound))

  steps : Steps HasRows b
  steps = record {
    submits = λ row room. sound_rows b sound;
    allots = λ task r t x l form runs placed grants room h. h;
    appends = λ task ids ranges t form runs room. appends task ids ranges t form runs;
    inserts = λ task given t xs form runs found room. inserts task given t xs form runs found;
    replaces = λ task given t xs form runs found room. replaces task given t xs form runs found;
    drops = λ source span form room. drops source span form;
    resets = λ source stream offsets form room. resets (reads_stream (supervisor_of source b.supervisors) stream) source stream offsets (stores source stream offsets form);
    supervises = λ row fits new room. (let h = sound_rows b sound in record { publications = h.publications; kinds = h.kinds; supervisors = pass_push is_supervisor_row b.supervisors row h.supervisors fits });
    ticks = λ now form room. (let k = tick_of b now in fails_all HasRows moves k.told.ended (record b { clock = moment b now; sequences = k.rows }) (sound_rows b sound));
    ends = ends;
    reports = λ t offsets fits runs. sound_rows b sound;
  }

pub publication_rows_stay : PublicationRowsStay
publication_rows_stay b c form sound = after_any HasRows moves b (sound_rows b sound) (steps b sound) c form
