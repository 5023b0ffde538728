-- What the forms of commands and the limits of tasks give.
use Rattle.std.proofs.Common.{◌≡◌, ℕ, true, not, ◌&&◌, ◌||◌, List, Option, length, nat_le, is_some}
use Rattle.std.specs.List.{list_all}
use Rattle.std.proofs.lemmas.Bool.{and_parts}
use Rattle.iv_span.specs.Extent.{Extent}
use Rattle.seg_names.specs.Names.{is_name, is_task_id}
use Rattle.seg_names.specs.declared.seg_id.SegId.{SegId}
use Rattle.book_rows.specs.Form.{KeepsForm, are_ids, are_lists, are_ranges_of, are_spans, is_few, is_id, is_some_few, is_want, priority_limit}
use Rattle.book_rows.specs.Ids.{id_before}
use Rattle.book_rows.specs.Lists.{In, is_empty, list_links}
use Rattle.book_rows.specs.Shape.{are_row_ranges, is_task_row}
use Rattle.book_rows.specs.Spans.{is_span, span_at_most}
use Rattle.book_rows.specs.declared.commands.Command.TheVariants as Commands
use Rattle.book_rows.specs.declared.rows.Ranges.{Ranges}
use Rattle.book_rows.specs.declared.rows.TaskRow.{TaskRow}
use Rattle.laws_locks.proofs.Lists.{In-list_all}
use Rattle.laws_offsets.proofs.ShapeKept.{row_ranges}

-- ---- tasks

-- the texts of a task's row
pub record HasTexts (t : TaskRow) : Type 0 where
  pub task : is_task_id t.task ≡ true
  pub group : is_task_id t.group ≡ true
  pub source : is_name t.source ≡ true

row_texts : (t : TaskRow) → is_task_row t ≡ true → HasTexts t
row_texts t h =
    let wants = and_parts (is_task_id t.task && is_task_id t.group && is_name t.source && nat_le t.priority priority_limit && nat_le (length t.wants) 64) (list_all is_want t.wants) h in
    let few = and_parts (is_task_id t.task && is_task_id t.group && is_name t.source && nat_le t.priority priority_limit) (nat_le (length t.wants) 64) wants.0 in
    let high = and_parts (is_task_id t.task && is_task_id t.group && is_name t.source) (nat_le t.priority priority_limit) few.0 in
    let source = and_parts (is_task_id t.task && is_task_id t.group) (is_name t.source) high.0 in
    let ids = and_parts (is_task_id t.task) (is_task_id t.group) source.0 in
    record { task = ids.0; group = ids.1; source = source.1 }

pub texts_of : (ts : List TaskRow) (t : TaskRow) → list_all is_task_row ts ≡ true → In t ts → HasTexts t
texts_of ts t h i = row_texts t (In-list_all is_task_row t ts i h)

-- ---- lists of ids, and ranges

pub record AreFewIds (ids : List SegId) : Type 0 where
  pub few : is_few ids ≡ true
  pub each : list_all is_id ids ≡ true

pub few_ids : (ids : List SegId) → are_ids ids ≡ true → AreFewIds ids
few_ids ids h =
    let links = and_parts (is_few ids && list_all is_id ids) (list_links id_before ids) h in
    let both = and_parts (is_few ids) (list_all is_id ids) links.0 in
    record { few = both.0; each = both.1 }

-- ---- publishes

pub record IsAppendForm (ids : List SegId) (ranges : Option Ranges) : Type 0 where
  pub adds : AreFewIds ids
  pub read : are_row_ranges ranges ≡ true

pub append_form : (task : List ℕ) (ids : List SegId) (ranges : Option Ranges) → KeepsForm (Commands.Append task ids ranges) → IsAppendForm ids ranges
append_form task ids ranges h =
    let some = and_parts (is_task_id task && are_ids ids && are_ranges_of ranges) (not (is_empty ids) || is_some ranges) h in
    let read = and_parts (is_task_id task && are_ids ids) (are_ranges_of ranges) some.0 in
    let adds = and_parts (is_task_id task) (are_ids ids) read.0 in
    record { adds = few_ids ids adds.1; read = row_ranges ranges read.1 }

-- the lists of an insert or a replace
pub record AreListsForm (spans : List Extent) (ids tombs : List SegId) (ranges : Option Ranges) : Type 0 where
  pub few : is_few spans ≡ true
  pub each : list_all is_span spans ≡ true
  pub adds : AreFewIds ids
  pub empties : AreFewIds tombs
  pub read : are_row_ranges ranges ≡ true

lists_parts : (spans : List Extent) (ids tombs : List SegId) (ranges : Option Ranges) → are_lists spans ids tombs ranges ≡ true → AreListsForm spans ids tombs ranges
lists_parts spans ids tombs ranges h =
    let read = and_parts (are_spans spans && are_ids ids && are_ids tombs && not (is_empty ids && is_empty tombs)) (are_ranges_of ranges) h in
    let some = and_parts (are_spans spans && are_ids ids && are_ids tombs) (not (is_empty ids && is_empty tombs)) read.0 in
    let empties = and_parts (are_spans spans && are_ids ids) (are_ids tombs) some.0 in
    let adds = and_parts (are_spans spans) (are_ids ids) empties.0 in
    let links = and_parts (is_some_few spans && list_all is_span spans) (list_links span_at_most spans) adds.0 in
    let each = and_parts (is_some_few spans) (list_all is_span spans) links.0 in
    let few = and_parts (nat_le 1 (length spans)) (is_few spans) each.0 in
    record { few = few.1; each = each.1; adds = few_ids ids adds.1; empties = few_ids tombs empties.1; read = row_ranges ranges read.1 }

pub insert_form : (task : List ℕ) (spans : List Extent) (ids tombs : List SegId) (ranges : Option Ranges) → KeepsForm (Commands.Insert task spans ids tombs ranges) → AreListsForm spans ids tombs ranges
insert_form task spans ids tombs ranges h = lists_parts spans ids tombs ranges (and_parts (is_task_id task) (are_lists spans ids tombs ranges) h).1

pub replace_form : (task : List ℕ) (spans : List Extent) (ids tombs : List SegId) (ranges : Option Ranges) → KeepsForm (Commands.Replace task spans ids tombs ranges) → AreListsForm spans ids tombs ranges
replace_form task spans ids tombs ranges h = lists_parts spans ids tombs ranges (and_parts (is_task_id task) (are_lists spans ids tombs ranges) h).1
