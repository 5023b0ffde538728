-- What an insert and a replace are refused for: the refusals name spans and ids of the command, and ids of rows.
use Rattle.std.proofs.Common.{◌&&◌, ◌++◌, ◌≡◌, ◌∷◌, ◌∙◌, List, None, Ok, Option, Some, [], bytes_eq, cond, false, find, map, not, refl, true, ℕ}
use Rattle.std.specs.Prelude.{option_map}
use Rattle.std.specs.List.{list_all}
use Rattle.std.proofs.lemmas.Bool.{and_from, and_parts}
use Rattle.std.proofs.lemmas.List.Folds.{list_all-append}
use Rattle.iv_span.specs.Extent.{Extent}
use Rattle.seg_names.specs.declared.seg_id.SegId.{SegId}
use Rattle.book_rows.specs.Allocation.{is_root}
use Rattle.book_rows.specs.Append.{version_overlaps}
use Rattle.book_rows.specs.Fits.{id_fits, span_fits}
use Rattle.book_rows.specs.Form.{are_ids, are_lists, are_ranges_of, are_spans, is_few, is_id, is_some_few}
use Rattle.book_rows.specs.Ids.{id_before}
use Rattle.book_rows.specs.Lists.{is_empty, list_links, on_ok, or_else, stands_in}
use Rattle.book_rows.specs.Locks.{is_held, is_lost, least}
use Rattle.book_rows.specs.Over.{Filling, Inserting, Replacing, Target, bad_span, both_in_order, check_over, has_own_version, held_by, held_for, is_filled, is_placed, lock_for, pending_fault, root_fault, straddles_one, target_of, targets, upgrade_fault, version_fault, way_fault}
use Rattle.book_rows.specs.Publications.{Publish}
use Rattle.book_rows.specs.Shape.{is_pending_row, is_upgrade_row}
use Rattle.book_rows.specs.Spans.{first_overlap, first_overlap_after, is_span, overlaps_one, span_at_most}
use Rattle.book_rows.specs.declared.kinds.LockKind.{LockKind}
use Rattle.book_rows.specs.declared.rows.Book.{Book}
use Rattle.book_rows.specs.declared.rows.ChunkRow.{ChunkRow}
use Rattle.book_rows.specs.declared.rows.PendingRow.{PendingRow}
use Rattle.book_rows.specs.declared.rows.PosseRow.{PosseRow}
use Rattle.book_rows.specs.declared.rows.TaskRow.{TaskRow}
use Rattle.book_rows.specs.declared.rows.UpgradeRow.{UpgradeRow}
use Rattle.laws_locks.proofs.Lists.{pass_weaker}
use Rattle.laws_locks.proofs.Targets.{targets_have}
use Rattle.laws_texts.specs.Texts.{HasLimitedRows}
use Rattle.laws_texts.proofs.Limited.{id_span_texts, id_texts, ids_texts, pendings_texts, spans_texts}
use Rattle.laws_texts.proofs.Lists.{either_passes, found_passes, in_order_passes, passes_if_some}
use Rattle.laws_texts.proofs.Outcomes.{error_fits, fault_fits, found_fits, mapped_fits, on_found_fits, on_ok_fits, or_else_fits, or_err_fits}
use Rattle.book_rows.specs.declared.replies.Refusal.TheVariants as Refusals

-- ---- the lists of a command

pub ids_form : (ids : List SegId) → are_ids ids ≡ true → list_all id_fits ids ≡ true
ids_form ids h = ids_texts ids (and_parts (is_few ids) (list_all is_id ids) (and_parts (is_few ids && list_all is_id ids) (list_links id_before ids) h).0).1

spans_form : (spans : List Extent) → are_spans spans ≡ true → list_all span_fits spans ≡ true
spans_form spans h = spans_texts spans (and_parts (is_some_few spans) (list_all is_span spans) (and_parts (is_some_few spans && list_all is_span spans) (list_links span_at_most spans) h).0).1

-- the spans, ids and tombstones of an insert or a replace have texts
pub record HaveTexts (given : Publish) : Type 0 where
  pub spans_fit : list_all span_fits given.spans ≡ true
  pub ids_fit : list_all id_fits given.ids ≡ true
  pub tombs_fit : list_all id_fits given.tombstones ≡ true

pub lists_form : (given : Publish) → are_lists given.spans given.ids given.tombstones given.ranges ≡ true → HaveTexts given
lists_form given h =
    let some = and_parts (are_spans given.spans && are_ids given.ids && are_ids given.tombstones) (not (is_empty given.ids && is_empty given.tombstones)) (and_parts (are_spans given.spans && are_ids given.ids && are_ids given.tombstones && not (is_empty given.ids && is_empty given.tombstones)) (are_ranges_of given.ranges) h).0 in
    let both = and_parts (are_spans given.spans && are_ids given.ids) (are_ids given.tombstones) some.0 in
    let own = and_parts (are_spans given.spans) (are_ids given.ids) both.0 in
    record { spans_fit = spans_form given.spans own.0; ids_fit = ids_form given.ids own.1; tombs_fit = ids_form given.tombstones both.1 }

-- ---- the checks of an insert and a replace

first_overlap_fits : (before spans : List Extent) → list_all span_fits spans ≡ true → passes_if_some span_fits (first_overlap_after before spans) ≡ true
first_overlap_fits before [] h = refl
first_overlap_fits before (s ∷ ss) h =
    let both = and_parts (span_fits s) (list_all span_fits ss) h in
    elim (overlaps_one before s) as (λ x. passes_if_some span_fits (cond x (Some s) (first_overlap_after (s ∷ before) ss)) ≡ true) [ true ↦ both.0 | false ↦ first_overlap_fits (s ∷ before) ss both.1 ]

both_fit : (given : Publish) → HaveTexts given → list_all id_fits (both_in_order given.ids given.tombstones) ≡ true
both_fit given h = in_order_passes id_fits (given.ids ++ given.tombstones) (list_all-append id_fits given.ids given.tombstones ∙ and_from (list_all id_fits given.ids) (list_all id_fits given.tombstones) h.ids_fit h.tombs_fit)

bad_span_fits : (source : List ℕ) (given : Publish) → HaveTexts given → fault_fits (option_map Refusals.BadSpan (bad_span source given)) ≡ true
bad_span_fits source given h =
    let other : Option SegId = find (λ a. not (is_placed source given.spans a)) (both_in_order given.ids given.tombstones) in
    mapped_fits Refusals.BadSpan span_fits (bad_span source given) (λ s e. e)
    (either_passes span_fits (first_overlap given.spans) _ (first_overlap_fits [] given.spans h.spans_fit)
    (either_passes span_fits (option_map (λ (a : SegId). a.span) other) _ (span_of_fits other (found_passes id_fits (λ a. not (is_placed source given.spans a)) (both_in_order given.ids given.tombstones) (both_fit given h)))
    (found_passes span_fits (λ s. not (is_filled given.ids given.tombstones s)) given.spans h.spans_fit))) where
      span_of_fits : (o : Option SegId) → passes_if_some id_fits o ≡ true → passes_if_some span_fits (option_map (λ (a : SegId). a.span) o) ≡ true
      span_of_fits None e = refl
      span_of_fits (Some a) e = id_span_texts a e

by_look_ups : (lost held : Option PosseRow) (span : Extent) → span_fits span ≡ true → error_fits (held_by lost held span) ≡ true
by_look_ups (Some lost) held span h = refl
by_look_ups None (Some q) span h = refl
by_look_ups None None span h = h

pub held_fits : (qs : List PosseRow) (t : TaskRow) (kind : LockKind) (span : Extent) → span_fits span ≡ true → error_fits (held_for qs t kind span) ≡ true
held_fits qs t kind span h = by_look_ups (least (is_lost t.task t.source span) qs) (least (is_held t.task t.source span kind) qs) span h

locks_fits : (qs : List PosseRow) (t : TaskRow) (kind : LockKind) (spans : List Extent) → list_all span_fits spans ≡ true → error_fits (targets qs t kind spans) ≡ true
locks_fits qs t kind [] h = refl
locks_fits qs t kind (s ∷ ss) h =
    let both = and_parts (span_fits s) (list_all span_fits ss) h in
    on_ok_fits (held_for qs t kind s) (λ q. on_ok (targets qs t kind ss) (λ xs. Ok (target_of s q ∷ xs))) (held_fits qs t kind s both.0)
    (λ q. on_ok_fits (targets qs t kind ss) (λ xs. Ok (target_of s q ∷ xs)) (locks_fits qs t kind ss both.1) (λ xs. refl))

targets_fit : (qs : List PosseRow) (t : TaskRow) (kind : LockKind) (spans : List Extent) (xs : List Target) → list_all span_fits spans ≡ true → targets qs t kind spans ≡ Ok xs → list_all (λ x. span_fits x.span) xs ≡ true
targets_fit qs t kind spans xs h found =
    targets_have qs t kind (λ spans xs. list_all span_fits spans ≡ true → list_all (λ (x : Target). span_fits x.span) xs ≡ true) (λ h. refl)
    (λ s q ss ys i held rest h. let both = and_parts (span_fits s) (list_all span_fits ss) h in and_from (span_fits s) (list_all (λ (x : Target). span_fits x.span) ys) both.0 (rest both.1))
    spans xs found h

version_fault_fits : (cs : List ChunkRow) (source : List ℕ) (xs : List Target) (ids : List SegId) → list_all (λ x. span_fits x.span) xs ≡ true → list_all id_fits ids ≡ true → fault_fits (version_fault cs source xs ids) ≡ true
version_fault_fits cs source xs ids h k =
    or_else_fits (option_map Refusals.WrongVersion (find (λ a. not (has_own_version xs a)) ids)) _ (found_fits Refusals.WrongVersion id_fits (λ a. not (has_own_version xs a)) ids (λ a e. e) k)
    (found_fits (λ (x : Target). Refusals.VersionUsed x.span) (λ x. span_fits x.span) (λ x. version_overlaps cs source x.span x.version) xs (λ x e. e) h)

pending_fits : (ps : List PendingRow) (source : List ℕ) (spans : List Extent) → list_all is_pending_row ps ≡ true → fault_fits (pending_fault ps source spans) ≡ true
pending_fits ps source spans h = found_fits (λ (p : PendingRow). Refusals.PendingOverlap p.id) (λ p. id_fits p.id) (λ p. bytes_eq p.id.source source && overlaps_one spans p.id.span) ps (λ p e. e) (pendings_texts ps h)

upgrade_fits : (us : List UpgradeRow) (locks : List ℕ) (spans : List Extent) → list_all is_upgrade_row us ≡ true → fault_fits (upgrade_fault us locks spans) ≡ true
upgrade_fits us locks spans h =
    found_fits (λ (u : UpgradeRow). Refusals.Granularity u.root) (λ u. id_fits u.root) (λ u. stands_in locks u.posse && straddles_one spans u.root.span) us (λ u e. e)
    (pass_weaker is_upgrade_row (λ u. id_fits u.root) (λ u. id_texts u.root) us h)

root_fits : (ps : List PendingRow) (source : List ℕ) (spans : List Extent) → list_all is_pending_row ps ≡ true → fault_fits (root_fault ps source spans) ≡ true
root_fits ps source spans h =
    found_fits (λ (p : PendingRow). Refusals.Granularity p.id) (λ p. id_fits p.id) (λ p. is_root p && bytes_eq p.id.source source && straddles_one spans p.id.span) ps (λ p e. e) (pendings_texts ps h)

way_fits : (f : Filling) (b : Book) (given : Publish) (t : TaskRow) (xs : List Target) → HasLimitedRows b → fault_fits (way_fault f b given t xs) ≡ true
way_fits Inserting b given t xs rows = pending_fits b.pendings t.source given.spans rows.places.pendings
way_fits Replacing b given t xs rows =
    let locks : List ℕ = map (λ (x : Target). x.lock) xs in
    or_else_fits (upgrade_fault b.upgrades locks given.spans) (root_fault b.pendings t.source given.spans) (upgrade_fits b.upgrades locks given.spans rows.upgrades) (root_fits b.pendings t.source given.spans rows.places.pendings)

pub check_fits : (f : Filling) (b : Book) (given : Publish) (t : TaskRow) → HasLimitedRows b → HaveTexts given → error_fits (check_over f b given t) ≡ true
check_fits f b given t rows h =
    or_err_fits (option_map Refusals.BadSpan (bad_span t.source given)) _ (bad_span_fits t.source given h)
    (on_found_fits (targets b.posses t (lock_for f) given.spans) _ (locks_fits b.posses t (lock_for f) given.spans h.spans_fit)
    (λ xs found. or_err_fits (or_else (version_fault b.chunks t.source xs (both_in_order given.ids given.tombstones)) (way_fault f b given t xs)) (Ok xs)
    (or_else_fits (version_fault b.chunks t.source xs (both_in_order given.ids given.tombstones)) (way_fault f b given t xs)
    (version_fault_fits b.chunks t.source xs (both_in_order given.ids given.tombstones) (targets_fit b.posses t (lock_for f) given.spans xs h.spans_fit found) (both_fit given h)) (way_fits f b given t xs rows)) refl))
