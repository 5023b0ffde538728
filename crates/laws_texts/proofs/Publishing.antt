-- What is published: a refusal names spans and ids of the command, or ids of rows.
use Rattle.std.proofs.Common.{◌&&◌, ◌==◌, ◌≡◌, ◌∷◌, Bool, Err, List, None, Ok, Option, Result, Some, [], cond, length, nat_lt, not, refl, true, ℕ}
use Rattle.std.specs.Prelude.{option_map}
use Rattle.std.specs.List.{list_all}
use Rattle.iv_span.specs.Extent.{Extent, covers}
use Rattle.seg_names.specs.declared.seg_id.SegId.{SegId}
use Rattle.book_rows.specs.Append.{after_append, append_fault, is_allocated}
use Rattle.book_rows.specs.Fits.{id_fits, reply_fits}
use Rattle.book_rows.specs.Form.{are_ids}
use Rattle.book_rows.specs.Lists.{or_else}
use Rattle.book_rows.specs.Locks.{is_valid_over, least}
use Rattle.book_rows.specs.Offsets.{compare, compared, mismatch, part_fault, stored}
use Rattle.book_rows.specs.Outcome.{Outcome, refused_or}
use Rattle.book_rows.specs.Over.{Filling, Inserting, Replacing, Target, check_over, kind_of}
use Rattle.book_rows.specs.Publications.{Publish, appending, publication_of, ranges_fault, repeat_of, without_since}
use Rattle.book_rows.specs.PublishSteps.{after_reset, append_running, appended, commit_reply, dropped, filled, over_checked, over_running, over_step, publish_step, reset_step}
use Rattle.book_rows.specs.Rewrite.{after_drop, after_insert, after_replace, drop_fault}
use Rattle.book_rows.specs.Sequences.{passes}
use Rattle.book_rows.specs.Visible.{is_used_over}
use Rattle.book_rows.specs.declared.kinds.PubKind.{PubKind}
use Rattle.book_rows.specs.declared.kinds.PubKind.TheVariants as PubKinds
use Rattle.book_rows.specs.declared.kinds.Table.TheVariants as Tables
use Rattle.book_rows.specs.declared.replies.Refusal.{Refusal}
use Rattle.book_rows.specs.declared.replies.Refusal.TheVariants as Refusals
use Rattle.book_rows.specs.declared.replies.Reply.TheVariants as Replies
use Rattle.book_rows.specs.declared.rows.Book.{Book}
use Rattle.book_rows.specs.declared.rows.Offset.{Offset}
use Rattle.book_rows.specs.declared.rows.OffsetRow.{OffsetRow}
use Rattle.book_rows.specs.declared.rows.PosseRow.{PosseRow}
use Rattle.book_rows.specs.declared.rows.Range.{Range}
use Rattle.book_rows.specs.declared.rows.Ranges.{Ranges}
use Rattle.book_rows.specs.declared.rows.SegmentRow.{SegmentRow}
use Rattle.book_rows.specs.declared.rows.TaskRow.{TaskRow}
use Rattle.laws_texts.specs.Texts.{HasLimitedRows}
use Rattle.laws_texts.proofs.Limited.{segments_texts}
use Rattle.laws_texts.proofs.Outcomes.{cond_fits, error_fits, fault_fits, fitted_fits, found_fits, or_else_fits, published_fits, unless_fits}
use Rattle.laws_texts.proofs.Checks.{HaveTexts, check_fits, ids_form}

-- ---- ranges

mismatch_fits : (z : Option ℕ) (r : Range) → fault_fits (mismatch z r) ≡ true
mismatch_fits None r = refl
mismatch_fits (Some z) r = cond_fits (z == r.start) None (Some (Refusals.OffsetMismatch r.partition z)) refl refl

compare_fits : (rows : List OffsetRow) (source stream : List ℕ) (rs : List Range) → fault_fits (compare rows source stream rs) ≡ true
compare_fits rows source stream [] = refl
compare_fits rows source stream (r ∷ rs) =
    let z : Option ℕ = stored rows source stream r.partition in
    or_else_fits (part_fault z r) (compare rows source stream rs) (cond_fits (nat_lt r.end r.start) (Some (Refusals.BadRange r.partition)) (mismatch z r) refl (mismatch_fits z r)) (compare_fits rows source stream rs)

compared_fits : (rows : List OffsetRow) (source : List ℕ) (ranges : Option Ranges) → fault_fits (compared rows source ranges) ≡ true
compared_fits rows source None = refl
compared_fits rows source (Some ranges) = compare_fits rows source ranges.stream ranges.parts

ranges_fits : (b : Book) (t : TaskRow) (ranges : Option Ranges) → fault_fits (ranges_fault b t ranges) ≡ true
ranges_fits b t ranges =
    let turn : Bool = passes b.supervisors b.sequences t.source t.group ranges in
    or_else_fits (cond turn None (Some (Refusals.RangeNotAssigned t.source))) (compared b.offsets t.source ranges) (cond_fits turn None (Some (Refusals.RangeNotAssigned t.source)) refl refl) (compared_fits b.offsets t.source ranges)

-- ---- append

commit_reply_fits : (kind : PubKind) (k : ℕ) → reply_fits (commit_reply kind k) ≡ true
commit_reply_fits PubKinds.Append k = refl
commit_reply_fits PubKinds.Over k = refl
commit_reply_fits PubKinds.Replace k = refl
commit_reply_fits PubKinds.Drop k = refl
commit_reply_fits PubKinds.Reset k = refl

-- a publish of a task, decided as it is
publish_fits : (kind : PubKind) (o : Option TaskRow) (b : Book) (given : Publish) (decided : TaskRow → Outcome) → ((t : TaskRow) → reply_fits (decided t).reply ≡ true) → reply_fits (publish_step kind o b given decided).reply ≡ true
publish_fits kind None b given decided each = refl
publish_fits kind (Some t) b given decided each =
    published_fits (repeat_of (publication_of kind t (without_since given.spans) given) b.publications) b t.status (commit_reply kind) (decided t) (commit_reply_fits kind) (each t)

append_running_fits : (b : Book) (given : Publish) (t : TaskRow) → list_all id_fits given.ids ≡ true → reply_fits (append_running b given t).reply ≡ true
append_running_fits b given t h =
    unless_fits (or_else (append_fault b.posses b.pendings t.task given.ids) (ranges_fault b t given.ranges)) b _
    (or_else_fits (append_fault b.posses b.pendings t.task given.ids) (ranges_fault b t given.ranges) (found_fits Refusals.NotAllocated id_fits (λ a. not (is_allocated b.posses b.pendings t.task a)) given.ids (λ a e. e) h) (ranges_fits b t given.ranges))
    (fitted_fits (Tables.Segments ∷ Tables.Upgrades ∷ Tables.Publications ∷ Tables.Offsets ∷ []) b (after_append t given b) (Replies.Append (length b.publications)) refl)

pub appended_fits : (o : Option TaskRow) (b : Book) (ids : List SegId) (ranges : Option Ranges) → are_ids ids ≡ true → reply_fits (appended o b (appending ids ranges)).reply ≡ true
appended_fits o b ids ranges h = publish_fits PubKinds.Append o b (appending ids ranges) (append_running b (appending ids ranges)) (λ t. append_running_fits b (appending ids ranges) t (ids_form ids h))

-- ---- insert and replace

filled_fits : (f : Filling) (b : Book) (given : Publish) (t : TaskRow) (xs : List Target) → reply_fits (filled f b given t xs).reply ≡ true
filled_fits Inserting b given t xs =
    fitted_fits (Tables.Chunks ∷ Tables.Parts ∷ Tables.Segments ∷ Tables.Publications ∷ Tables.Offsets ∷ []) b (after_insert t given xs b) (Replies.Insert (length b.publications)) refl
filled_fits Replacing b given t xs =
    fitted_fits (Tables.Chunks ∷ Tables.Parts ∷ Tables.Segments ∷ Tables.Pendings ∷ Tables.Publications ∷ Tables.Offsets ∷ []) b (after_replace t given xs b) (Replies.Replace (length b.publications)) refl

checked_fits : (r : Result (List Target) Refusal) (f : Filling) (b : Book) (given : Publish) (t : TaskRow) → error_fits r ≡ true → reply_fits (refused_or r b (over_checked f b given t)).reply ≡ true
checked_fits (Err why) f b given t h = h
checked_fits (Ok xs) f b given t h = unless_fits (ranges_fault b t given.ranges) b (filled f b given t xs) (ranges_fits b t given.ranges) (filled_fits f b given t xs)

pub over_fits : (f : Filling) (o : Option TaskRow) (b : Book) (given : Publish) → HasLimitedRows b → HaveTexts given → reply_fits (over_step f o b given).reply ≡ true
over_fits f o b given rows h = publish_fits (kind_of f) o b given (over_running f b given) (λ t. checked_fits (check_over f b given t) f b given t (check_fits f b given t rows h))

-- ---- drop and reset

drop_locked_fits : (o : Option PosseRow) → fault_fits (option_map (λ (q : PosseRow). Refusals.DropLocked q.number) o) ≡ true
drop_locked_fits None = refl
drop_locked_fits (Some q) = refl

pub dropped_fits : (b : Book) (source : List ℕ) (span : Extent) → HasLimitedRows b → reply_fits (dropped b source span).reply ≡ true
dropped_fits b source span rows =
    unless_fits (drop_fault b.posses b.segments source span) b _
    (or_else_fits (option_map (λ (q : PosseRow). Refusals.DropLocked q.number) (least (is_valid_over source span) b.posses)) _ (drop_locked_fits (least (is_valid_over source span) b.posses))
    (found_fits (λ (r : SegmentRow). Refusals.DropPartial r.id) (λ r. id_fits r.id) (λ r. is_used_over source span r && not (covers span r.id.span)) b.segments (λ r e. e) (segments_texts b.segments rows.places.segments)))
    (fitted_fits (Tables.Publications ∷ []) b (after_drop source span b) (Replies.Drop (length b.publications)) refl)

pub reset_fits : (b : Book) (source stream : List ℕ) (offsets : List Offset) → reply_fits (reset_step b source stream offsets).reply ≡ true
reset_fits b source stream offsets = fitted_fits (Tables.Publications ∷ Tables.Offsets ∷ []) b (after_reset source stream offsets b) (Replies.Reset (length b.publications)) refl
