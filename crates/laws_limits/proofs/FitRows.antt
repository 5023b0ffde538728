-- A sequence within its limits, and what the changes of its row keep of it.
use Rattle.std.proofs.Common.{◌≡◌, ℕ, ℤ, pos, Bool, true, false, cond, ◌&&◌, ◌||◌, List, [], ◌∷◌, ◌++◌, map, refl, sym, ap, ◌∙◌, length, nat_le, nat_lt, bytes_eq, not}
use Rattle.std.specs.List.{AllByRecursion, list_all}
use Rattle.std.specs.Ordering.{int_eq}
use Rattle.std.proofs.lemmas.Bool.{and_from, and_parts}
use Rattle.iv_time.specs.Range.{is_instant}
use Rattle.seg_names.specs.Names.{is_name, is_task_id}
use Rattle.book_rows.specs.Form.{are_offsets, is_few, is_offset, offset_limit, partition_limit}
use Rattle.book_rows.specs.Kinds.{same_state}
use Rattle.book_rows.specs.Lists.{is_empty, list_links}
use Rattle.book_rows.specs.Reports.{both_told, closed_at, closes, ends_told, greater, greatest, has_reported, is_told, kept, left_by, reported, told, told_again}
use Rattle.book_rows.specs.Sequences.{abandoned, dropped_sequence, is_abandoned_by, is_dropped_by, is_named, published}
use Rattle.book_rows.specs.Shape.{fits_state, is_report, is_sequence_row}
use Rattle.book_rows.specs.declared.kinds.SeqState.{SeqState}
use Rattle.book_rows.specs.declared.kinds.SeqState.TheVariants as States
use Rattle.book_rows.specs.declared.rows.Offset.{Offset}
use Rattle.book_rows.specs.declared.rows.Report.{Report}
use Rattle.book_rows.specs.declared.rows.SequenceRow.{SequenceRow}
use Rattle.laws_locks.proofs.Lists.{pass_filter, pass_map, pass_push}

-- ---- the parts of a row

-- what a state excludes, of the moment of closing and the ends
abbrev pub has_state : SeqState → ℤ → List Offset → Bool
has_state States.Reading closed ends = int_eq closed (pos 0) && is_empty ends
has_state States.Paused closed ends = int_eq closed (pos 0) && is_empty ends
has_state _ closed ends = true

pub record IsFitRow (u : SequenceRow) : Type 0 where
  pub source_is : is_name u.source ≡ true
  pub opened_is : is_instant u.opened ≡ true
  pub closed_is : is_instant u.closed ≡ true
  pub starts_are : are_offsets u.starts ≡ true
  pub ends_are : are_offsets u.ends ≡ true
  pub live_are : list_all is_task_id u.live ≡ true
  pub reports_are : list_all is_report u.reports ≡ true
  pub state_is : has_state u.state u.closed u.ends ≡ true

-- all of them
abbrev pub AreFit : List SequenceRow → Type 0
AreFit us = AllByRecursion IsFitRow us

state_alike : (s : SeqState) (u : SequenceRow) → fits_state s u ≡ has_state s u.closed u.ends
state_alike States.Reading u = refl
state_alike States.Paused u = refl
state_alike States.Closed u = refl
state_alike States.Published u = refl
state_alike States.Abandoned u = refl

pub fit_row : (u : SequenceRow) → is_sequence_row u ≡ true → fits_state u.state u ≡ true → IsFitRow u
fit_row u h state =
    let reports = and_parts (is_name u.source && is_instant u.opened && is_instant u.closed && are_offsets u.starts && are_offsets u.ends && list_all is_task_id u.live) (list_all is_report u.reports) h in
    let live = and_parts (is_name u.source && is_instant u.opened && is_instant u.closed && are_offsets u.starts && are_offsets u.ends) (list_all is_task_id u.live) reports.0 in
    let ends = and_parts (is_name u.source && is_instant u.opened && is_instant u.closed && are_offsets u.starts) (are_offsets u.ends) live.0 in
    let starts = and_parts (is_name u.source && is_instant u.opened && is_instant u.closed) (are_offsets u.starts) ends.0 in
    let closed = and_parts (is_name u.source && is_instant u.opened) (is_instant u.closed) starts.0 in
    let opened = and_parts (is_name u.source) (is_instant u.opened) closed.0 in
    record {
      source_is = opened.0;
      opened_is = opened.1;
      closed_is = closed.1;
      starts_are = starts.1;
      ends_are = ends.1;
      live_are = live.1;
      reports_are = reports.1;
      state_is = sym (state_alike u.state u) ∙ state;
    }

pub row_of_fit : (u : SequenceRow) → IsFitRow u → is_sequence_row u ≡ true
row_of_fit u h =
    and_from (is_name u.source && is_instant u.opened && is_instant u.closed && are_offsets u.starts && are_offsets u.ends && list_all is_task_id u.live) (list_all is_report u.reports)
    (and_from (is_name u.source && is_instant u.opened && is_instant u.closed && are_offsets u.starts && are_offsets u.ends) (list_all is_task_id u.live)
    (and_from (is_name u.source && is_instant u.opened && is_instant u.closed && are_offsets u.starts) (are_offsets u.ends)
    (and_from (is_name u.source && is_instant u.opened && is_instant u.closed) (are_offsets u.starts)
    (and_from (is_name u.source && is_instant u.opened) (is_instant u.closed) (and_from (is_name u.source) (is_instant u.opened) h.source_is h.opened_is) h.closed_is) h.starts_are) h.ends_are) h.live_are) h.reports_are

pub state_of_fit : (u : SequenceRow) → IsFitRow u → fits_state u.state u ≡ true
state_of_fit u h = state_alike u.state u ∙ h.state_is

-- ---- one of two

either_passes : {X : Type 0} (p : X → Bool) (b : Bool) (x y : X) → p x ≡ true → p y ≡ true → p (cond b x y) ≡ true
either_passes p true x y h k = h
either_passes p false x y h k = k

state_either : (b : Bool) (s t : SeqState) (closed : ℤ) (ends : List Offset) → has_state s closed ends ≡ true → has_state t closed ends ≡ true → has_state (cond b s t) closed ends ≡ true
state_either b s t closed ends h k = either_passes (λ s. has_state s closed ends) b s t h k

-- ---- published, abandoned, left

pub fit_published : (name : List ℕ) (u : SequenceRow) → IsFitRow u → IsFitRow (published name u)
fit_published name u h = record {
  source_is = h.source_is;
  opened_is = h.opened_is;
  closed_is = h.closed_is;
  starts_are = h.starts_are;
  ends_are = h.ends_are;
  live_are = h.live_are;
  reports_are = h.reports_are;
  state_is = state_either (is_named name u) States.Published u.state u.closed u.ends refl h.state_is;
}

gives_up : (b : Bool) (u : SequenceRow) → IsFitRow u → IsFitRow (record u { state = cond b States.Abandoned u.state; live = cond b [] u.live })
gives_up b u h = record {
  source_is = h.source_is;
  opened_is = h.opened_is;
  closed_is = h.closed_is;
  starts_are = h.starts_are;
  ends_are = h.ends_are;
  live_are = either_passes (list_all is_task_id) b [] u.live refl h.live_are;
  reports_are = h.reports_are;
  state_is = state_either b States.Abandoned u.state u.closed u.ends refl h.state_is;
}

pub fit_abandoned : (source : List ℕ) (group from : ℕ) (u : SequenceRow) → IsFitRow u → IsFitRow (abandoned source group from u)
fit_abandoned source group from u h = gives_up (is_abandoned_by source group from u) u h

pub fit_dropped : (source : List ℕ) (u : SequenceRow) → IsFitRow u → IsFitRow (dropped_sequence source u)
fit_dropped source u h = gives_up (is_dropped_by source u) u h

pub fit_left : (task : List ℕ) (u : SequenceRow) → IsFitRow u → IsFitRow (left_by task u)
fit_left task u h = record {
  source_is = h.source_is;
  opened_is = h.opened_is;
  closed_is = h.closed_is;
  starts_are = h.starts_are;
  ends_are = h.ends_are;
  live_are = pass_filter is_task_id (λ t. not (bytes_eq t task)) u.live h.live_are;
  reports_are = h.reports_are;
  state_is = h.state_is;
}

-- another state, of those that aren't closed
pub fit_paused : (state : SeqState) (u : SequenceRow) → has_state state u.closed u.ends ≡ true → IsFitRow u → IsFitRow (record u { state = state })
fit_paused state u is h = record {
  source_is = h.source_is;
  opened_is = h.opened_is;
  closed_is = h.closed_is;
  starts_are = h.starts_are;
  ends_are = h.ends_are;
  live_are = h.live_are;
  reports_are = h.reports_are;
  state_is = is;
}

-- ---- offsets that are told

abbrev ascend : List Offset → Bool
ascend os = list_links (λ a b. nat_lt a.partition b.partition) os

pub record AreOffsets (os : List Offset) : Type 0 where
  pub few : is_few os ≡ true
  pub each : list_all is_offset os ≡ true
  pub links : ascend os ≡ true

offsets_parts : (os : List Offset) → are_offsets os ≡ true → AreOffsets os
offsets_parts os h =
    let links = and_parts (is_few os && list_all is_offset os) (ascend os) h in
    let both = and_parts (is_few os) (list_all is_offset os) links.0 in
    record { few = both.0; each = both.1; links = links.1 }

pub offsets_from : (os : List Offset) → AreOffsets os → are_offsets os ≡ true
offsets_from os h = and_from (is_few os && list_all is_offset os) (ascend os) (and_from (is_few os) (list_all is_offset os) h.few h.each) h.links

told_length : (xs ys : List Offset) → length (both_told xs ys) ≡ length xs
told_length [] ys = refl
told_length (x ∷ xs) [] = refl
told_length (x ∷ xs) (y ∷ ys) = rw (told_length xs ys) refl

greater_offset : (x y : Offset) → is_offset x ≡ true → is_offset y ≡ true → is_offset (record { partition = x.partition; offset = greater x.offset y.offset }) ≡ true
greater_offset x y h k =
    let own = and_parts (nat_le x.partition partition_limit) (nat_le x.offset offset_limit) h in
    let other = and_parts (nat_le y.partition partition_limit) (nat_le y.offset offset_limit) k in
    and_from (nat_le x.partition partition_limit) (nat_le (greater x.offset y.offset) offset_limit) own.0 (either_passes (λ n. nat_le n offset_limit) (nat_lt x.offset y.offset) y.offset x.offset other.1 own.1)

told_each : (xs ys : List Offset) → list_all is_offset xs ≡ true → list_all is_offset ys ≡ true → list_all is_offset (both_told xs ys) ≡ true
told_each [] ys h k = refl
told_each (x ∷ xs) [] h k = h
told_each (x ∷ xs) (y ∷ ys) h k =
    let own = and_parts (is_offset x) (list_all is_offset xs) h in
    let other = and_parts (is_offset y) (list_all is_offset ys) k in
    and_from (is_offset (record { partition = x.partition; offset = greater x.offset y.offset })) (list_all is_offset (both_told xs ys)) (greater_offset x y own.0 other.0) (told_each xs ys own.1 other.1)

told_links : (xs ys : List Offset) → ascend (both_told xs ys) ≡ ascend xs
told_links [] ys = refl
told_links (x ∷ xs) [] = refl
told_links (x ∷ []) (z ∷ zs) = refl
told_links (x ∷ y ∷ xs) (z ∷ []) = refl
told_links (x ∷ y ∷ xs) (z ∷ w ∷ zs) = ap (λ b. nat_lt x.partition y.partition && b) (told_links (y ∷ xs) (w ∷ zs))

told_offsets : (xs ys : List Offset) → are_offsets xs ≡ true → are_offsets ys ≡ true → are_offsets (both_told xs ys) ≡ true
told_offsets xs ys h k =
    let own = offsets_parts xs h in
    offsets_from (both_told xs ys) (record { few = rw (told_length xs ys) own.few; each = told_each xs ys own.each (offsets_parts ys k).each; links = told_links xs ys ∙ own.links })

report_offsets : (r : Report) → is_report r ≡ true → are_offsets r.offsets ≡ true
report_offsets r h = (and_parts (is_task_id r.task) (are_offsets r.offsets) h).1

greatest_offsets : (at : List Offset) (rs : List Report) → are_offsets at ≡ true → list_all is_report rs ≡ true → are_offsets (greatest at rs) ≡ true
greatest_offsets at [] h k = h
greatest_offsets at (r ∷ rs) h k =
    let both = and_parts (is_report r) (list_all is_report rs) k in
    greatest_offsets (both_told at r.offsets) rs (told_offsets at r.offsets h (report_offsets r both.0)) both.1

-- ---- reports

again_fits : (new r : Report) → is_report new ≡ true → is_report r ≡ true → is_report (told_again new r) ≡ true
again_fits new r fits h =
    let both = and_parts (is_task_id r.task) (are_offsets r.offsets) h in
    and_from (is_task_id r.task) (are_offsets (cond (bytes_eq r.task new.task) (both_told r.offsets new.offsets) r.offsets)) both.0
    (either_passes are_offsets (bytes_eq r.task new.task) (both_told r.offsets new.offsets) r.offsets (told_offsets r.offsets new.offsets both.1 (report_offsets new fits)) both.1)

kept_fit : (new : Report) (rs : List Report) → is_report new ≡ true → list_all is_report rs ≡ true → list_all is_report (kept new rs) ≡ true
kept_fit new rs fits h =
    either_passes (list_all is_report) (has_reported rs new.task) (map (told_again new) rs) (rs ++ new ∷ []) (pass_map is_report is_report (told_again new) (λ r e. again_fits new r fits e) rs h) (pass_push is_report rs new h fits)

told_state : (named : Bool) (s : SeqState) (closed : ℤ) (ends : List Offset) → has_state s closed ends ≡ true → has_state (cond (named && (same_state s States.Reading || same_state s States.Paused)) States.Paused s) closed ends ≡ true
told_state true States.Reading closed ends h = h
told_state true States.Paused closed ends h = h
told_state true States.Closed closed ends h = h
told_state true States.Published closed ends h = h
told_state true States.Abandoned closed ends h = h
told_state false s closed ends h = h

fit_told : (name : List ℕ) (new : Report) (u : SequenceRow) → is_report new ≡ true → IsFitRow u → IsFitRow (told name new u)
fit_told name new u fits h = record {
  source_is = h.source_is;
  opened_is = h.opened_is;
  closed_is = h.closed_is;
  starts_are = h.starts_are;
  ends_are = h.ends_are;
  live_are = h.live_are;
  reports_are = either_passes (list_all is_report) (is_told name u) (kept new u.reports) u.reports (kept_fit new u.reports fits h.reports_are) h.reports_are;
  state_is = told_state (is_named name u) u.state u.closed u.ends h.state_is;
}

closed_state : (b : Bool) (s : SeqState) (clock closed : ℤ) (told ends : List Offset) → has_state s closed ends ≡ true → has_state (cond b States.Closed s) (cond b clock closed) (cond b told ends) ≡ true
closed_state true s clock closed told ends h = refl
closed_state false s clock closed told ends h = h

pub fit_closed : (name : List ℕ) (clock : ℤ) (u : SequenceRow) → is_instant clock ≡ true → IsFitRow u → IsFitRow (closed_at name clock u)
fit_closed name clock u is h = record {
  source_is = h.source_is;
  opened_is = h.opened_is;
  closed_is = either_passes is_instant (closes name u) clock u.closed is h.closed_is;
  starts_are = h.starts_are;
  ends_are = either_passes are_offsets (closes name u) (ends_told u.starts u.reports) u.ends (greatest_offsets u.starts u.reports h.starts_are h.reports_are) h.ends_are;
  live_are = h.live_are;
  reports_are = h.reports_are;
  state_is = closed_state (closes name u) u.state clock u.closed (ends_told u.starts u.reports) u.ends h.state_is;
}

pub fit_reported : (name : List ℕ) (new : Report) (clock : ℤ) (u : SequenceRow) → is_report new ≡ true → is_instant clock ≡ true → IsFitRow u → IsFitRow (reported name new clock u)
fit_reported name new clock u fits is h = fit_closed name clock (told name new u) is (fit_told name new u fits h)
