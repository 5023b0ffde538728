-- How long spellings are.
use Rattle.std.proofs.Common.{◌≡◌, ℕ, ℤ, ◌*◌, ◌<◌, ◌≤◌, ◌^◌, true, List, [], ◌∷◌, ◌++◌, length, Option, Some, None, refl, ap, arith, nat_le}
use Rattle.std.specs.List.{flat_map, list_all}
use Rattle.std.specs.Int.{w32, to_be_bytes}
use Rattle.std.proofs.lemmas.Bool.Decides.{nat_tests}
use Rattle.std.proofs.lemmas.List.{length-append}
use Rattle.std.proofs.lemmas.List.Concat.{flat_map-cons}
use Rattle.iv_span.specs.Extent.{Extent}
use Rattle.seg_names.specs.Names.{is_name}
use Rattle.seg_names.specs.declared.seg_id.SegId.{SegId}
use Rattle.wire_fields.specs.Fields.{text_field}
use Rattle.book_rows.specs.Spans.{is_span}
use Rattle.book_rows.specs.Form.{is_id, are_parts}
use Rattle.book_rows.specs.declared.rows.Want.{Want}
use Rattle.book_rows.specs.declared.rows.Offset.{Offset}
use Rattle.book_rows.specs.declared.rows.Range.{Range}
use Rattle.book_rows.specs.declared.rows.Ranges.{Ranges}
use Rattle.book_rows.specs.declared.commands.Command.{Command}
use Rattle.book_rows.specs.declared.commands.Command.TheVariants.{Submit, Manage, Lock, Unlock, Allocate, Append, Insert, Replace, End, Drop, Reset, Supervise, Tick, Paused, Checkpoint, ToReplace, Show}
use Rattle.cmd_codec.specs.Fields.{short, signed, span_field}
use Rattle.cmd_codec.specs.Spelling.{spelling, overwrite_field, tombstones_field}
use Rattle.cmd_codec.specs.Records.{IsSpelled}
use Rattle.cmd_codec.proofs.Readers.{and_true}
use Rattle.cmd_codec.proofs.FieldLists.{IsWithin, length1, length2, length3, length4, length6, length7}
use Rattle.cmd_codec.proofs.Numbers.{a_count, long_number, an_instant, a_duration, a_name, a_task}
use Rattle.cmd_codec.proofs.FieldBytes.{a_kind, a_lock_kind, a_status, a_granularity, a_span, an_id, a_want, an_offset, a_range}
use Rattle.cmd_codec.proofs.Lists.{is_list, list_of, option_of, some_ranges, parts_good}
use Rattle.cmd_codec.proofs.Commands.{Goods, overwrite_goods, submitted_task, wants_good, ids_good, offsets_good, ranges_good, previous_good, count_fits, fits32_below, fits64_below}
use Rattle.cmd_codec.proofs.RecordBytes.{some_bytes}

task_within : IsWithin a_task 256
task_within text h = grind (arith, nat_tests)

name_within : IsWithin a_name 201
name_within text h = grind (arith, nat_tests)

kind_within : IsWithin a_kind 1
kind_within k h = omega arith

lock_kind_within : IsWithin a_lock_kind 1
lock_kind_within k h = omega arith

status_within : IsWithin a_status 1
status_within s h = omega arith

granularity_within : IsWithin a_granularity 1
granularity_within g h = omega arith

short_length : (n : ℕ) → length (short n) ≤ 4
unfolding short
short_length n = omega arith

count_within : IsWithin a_count 4
count_within n h = short_length n

long_within : IsWithin long_number 8
long_within n h = omega arith

signed_length : (z : ℤ) → length (signed z) ≤ 8
unfolding signed
signed_length z = omega arith

instant_within : IsWithin an_instant 8
instant_within z h = signed_length z

duration_within : IsWithin a_duration 8
duration_within z h = signed_length z

span_within : IsWithin a_span 16
span_within e h = omega (arith, length-append (signed e.start) (signed e.end), signed_length e.start, signed_length e.end)

id_within : IsWithin an_id 229
id_within id h =
    let p = and_true _ _ h in
    let q = and_true _ _ p.0 in
    let r = and_true (is_name id.source) (is_span id.span) q.0 in
    omega (arith, length-append (text_field id.source) (span_field id.span ++ (signed id.version ++ to_be_bytes w32 id.part)), length-append (span_field id.span) (signed id.version ++ to_be_bytes w32 id.part), length-append (signed id.version) (to_be_bytes w32 id.part), name_within id.source r.0, span_within id.span r.1, signed_length id.version)

want_within : IsWithin a_want 17
want_within want h = omega (arith, span_within want.span h)

offset_within : IsWithin an_offset 12
offset_within o h = omega arith

range_within : IsWithin a_range 20
range_within r h = omega arith

spans_each : (xs : List Extent) → list_all a_span.good xs ≡ true → length (flat_map a_span.put xs) ≤ 16 * length xs
spans_each [] h = omega arith
spans_each (x ∷ xs) h =
    let p = and_true (a_span.good x) (list_all a_span.good xs) h in
    omega (arith, ap length (flat_map-cons a_span.put x xs), length-append (a_span.put x) (flat_map a_span.put xs), span_within x p.0, spans_each xs p.1)

spans_within : IsWithin (list_of a_span) 1048562
spans_within xs h =
    let p = and_true (nat_le (length xs) 65535) (list_all a_span.good xs) h in
    let few : length xs ≤ 65535 = grind (arith, nat_tests) in
    omega (arith, spans_each xs p.1, few)

ids_each : (xs : List SegId) → list_all an_id.good xs ≡ true → length (flat_map an_id.put xs) ≤ 229 * length xs
ids_each [] h = omega arith
ids_each (x ∷ xs) h =
    let p = and_true (an_id.good x) (list_all an_id.good xs) h in
    omega (arith, ap length (flat_map-cons an_id.put x xs), length-append (an_id.put x) (flat_map an_id.put xs), id_within x p.0, ids_each xs p.1)

ids_within : IsWithin (list_of an_id) 15007517
ids_within xs h =
    let p = and_true (nat_le (length xs) 65535) (list_all an_id.good xs) h in
    let few : length xs ≤ 65535 = grind (arith, nat_tests) in
    omega (arith, ids_each xs p.1, few)

offsets_each : (xs : List Offset) → list_all an_offset.good xs ≡ true → length (flat_map an_offset.put xs) ≤ 12 * length xs
offsets_each [] h = omega arith
offsets_each (x ∷ xs) h =
    let p = and_true (an_offset.good x) (list_all an_offset.good xs) h in
    omega (arith, ap length (flat_map-cons an_offset.put x xs), length-append (an_offset.put x) (flat_map an_offset.put xs), offset_within x p.0, offsets_each xs p.1)

offsets_within : IsWithin (list_of an_offset) 786422
offsets_within xs h =
    let p = and_true (nat_le (length xs) 65535) (list_all an_offset.good xs) h in
    let few : length xs ≤ 65535 = grind (arith, nat_tests) in
    omega (arith, offsets_each xs p.1, few)

wants_each : (xs : List Want) → list_all a_want.good xs ≡ true → length (flat_map a_want.put xs) ≤ 17 * length xs
wants_each [] h = omega arith
wants_each (x ∷ xs) h =
    let p = and_true (a_want.good x) (list_all a_want.good xs) h in
    omega (arith, ap length (flat_map-cons a_want.put x xs), length-append (a_want.put x) (flat_map a_want.put xs), want_within x p.0, wants_each xs p.1)

wants_within : IsWithin (list_of a_want) 1114097
wants_within xs h =
    let p = and_true (nat_le (length xs) 65535) (list_all a_want.good xs) h in
    let few : length xs ≤ 65535 = grind (arith, nat_tests) in
    omega (arith, wants_each xs p.1, few)

parts_each : (xs : List Range) → list_all a_range.good xs ≡ true → length (flat_map a_range.put xs) ≤ 20 * length xs
parts_each [] h = omega arith
parts_each (x ∷ xs) h =
    let p = and_true (a_range.good x) (list_all a_range.good xs) h in
    omega (arith, ap length (flat_map-cons a_range.put x xs), length-append (a_range.put x) (flat_map a_range.put xs), range_within x p.0, parts_each xs p.1)

parts_within : IsWithin (list_of a_range) 1310702
parts_within xs h =
    let p = and_true (nat_le (length xs) 65535) (list_all a_range.good xs) h in
    let few : length xs ≤ 65535 = grind (arith, nat_tests) in
    omega (arith, parts_each xs p.1, few)

previous_within : IsWithin (option_of an_id) 230
previous_within (Some id) h = omega (arith, id_within id h)
previous_within None h = omega arith

ranges_within : IsWithin (option_of some_ranges) 1310904
ranges_within (Some r) h =
    let q = and_true _ (are_parts r.parts) h in
    let n = and_true (is_name r.stream) _ q.0 in
    omega (arith, length-append (text_field r.stream) ((list_of a_range).put r.parts), name_within r.stream n.0, parts_within r.parts (parts_good r.parts q.1))
ranges_within None h = omega arith

tombstones_within : (ts : List SegId) → is_list is_id ts ≡ true → length (tombstones_field ts) ≤ 15007517
tombstones_within [] h = omega arith
tombstones_within (t ∷ ts) h = ids_within (t ∷ ts) h

overwrite_within : (task : List ℕ) (spans : List Extent) (ids tombstones : List SegId) (ranges : Option Ranges) → Goods task spans ids tombstones ranges → length (overwrite_field task spans ids tombstones ranges) ≤ 40000000
overwrite_within task spans ids tombstones ranges g =
    omega (arith, length-append (a_task.put task) ((list_of a_span).put spans ++ ((list_of an_id).put ids ++ ((option_of some_ranges).put ranges ++ tombstones_field tombstones))), length-append ((list_of a_span).put spans) ((list_of an_id).put ids ++ ((option_of some_ranges).put ranges ++ tombstones_field tombstones)), length-append ((list_of an_id).put ids) ((option_of some_ranges).put ranges ++ tombstones_field tombstones), length-append ((option_of some_ranges).put ranges) (tombstones_field tombstones), task_within task g.task_good, spans_within spans g.spans_are, ids_within ids g.ids_are, ranges_within ranges g.ranges_are, tombstones_within tombstones g.tombstones_are)

-- A spelling's length fits four bytes.
short_spelling : (c : Command) → IsSpelled c → length (spelling c) < 2 ^ 32
short_spelling (Submit task group source kind priority locks) h =
    let p5 = and_true _ _ h.0 in
    let p4 = and_true _ _ p5.0 in
    let p3 = and_true _ _ p4.0 in
    let p2 = and_true _ _ p3.0 in
    let p1 = and_true _ _ p2.0 in
    omega (arith, length6 a_task a_task a_name a_kind a_count (list_of a_want) 256 256 201 1 4 1114097 task_within task_within name_within kind_within count_within wants_within task group source kind priority locks (submitted_task task p1.0) (submitted_task group p1.1) p2.1 refl (fits32_below 1000000 priority (omega arith) p3.1) (wants_good locks p4.1 p5.1))
short_spelling (Manage now) h =
    omega (arith, length1 an_instant 8 instant_within now h.0)
short_spelling (Lock task kind span now) h =
    let p2 = and_true _ _ h.0 in
    let p1 = and_true _ _ p2.0 in
    omega (arith, length4 a_task a_lock_kind a_span an_instant 256 1 16 8 task_within lock_kind_within span_within instant_within task kind span now p1.0 refl p1.1 p2.1)
short_spelling (Unlock task lock) h =
    let p1 = and_true _ _ h.0 in
    omega (arith, length2 a_task long_number 256 8 task_within long_within task lock p1.0 (fits64_below lock p1.1))
short_spelling (Allocate task kind sequence previous at granularity now) h =
    let p5 = and_true _ _ h.0 in
    let p4 = and_true _ _ p5.0 in
    let p3 = and_true _ _ p4.0 in
    let p2 = and_true _ _ p3.0 in
    let p1 = and_true _ _ p2.0 in
    omega (arith, length7 a_task a_lock_kind a_name (option_of an_id) an_instant a_granularity an_instant 256 1 201 230 8 1 8 task_within lock_kind_within name_within previous_within instant_within granularity_within instant_within task kind sequence previous at granularity now p1.0 refl p2.1 (previous_good previous p3.1) p4.1 refl p5.1)
short_spelling (Append task ids ranges) h =
    let p3 = and_true _ _ h.0 in
    let p2 = and_true _ _ p3.0 in
    let p1 = and_true _ _ p2.0 in
    omega (arith, length3 a_task (list_of an_id) (option_of some_ranges) 256 15007517 1310904 task_within ids_within ranges_within task ids ranges p1.0 (ids_good ids p1.1) (ranges_good ranges p2.1))
short_spelling (Insert task spans ids tombstones ranges) h = omega (arith, overwrite_within task spans ids tombstones ranges (overwrite_goods task spans ids tombstones ranges h.0))
short_spelling (Replace task spans ids tombstones ranges) h = omega (arith, overwrite_within task spans ids tombstones ranges (overwrite_goods task spans ids tombstones ranges h.0))
short_spelling (End task status) h =
    let p1 = and_true _ _ h.0 in
    omega (arith, length2 a_task a_status 256 1 task_within status_within task status p1.0 refl)
short_spelling (Drop source span) h =
    let p1 = and_true _ _ h.0 in
    omega (arith, length2 a_name a_span 201 16 name_within span_within source span p1.0 p1.1)
short_spelling (Reset source stream offsets) h =
    let p2 = and_true _ _ h.0 in
    let p1 = and_true _ _ p2.0 in
    omega (arith, length3 a_name a_name (list_of an_offset) 201 201 786422 name_within name_within offsets_within source stream offsets p1.0 p1.1 (offsets_good offsets p2.1))
short_spelling (Supervise source stream partitions task_count replicas task_duration completion_timeout) h =
    let p6 = and_true _ _ h.0 in
    let p5 = and_true _ _ p6.0 in
    let p4 = and_true _ _ p5.0 in
    let p3 = and_true _ _ p4.0 in
    let p2 = and_true _ _ p3.0 in
    let p1 = and_true _ _ p2.0 in
    omega (arith, length7 a_name a_name a_count a_count a_count a_duration a_duration 201 201 4 4 4 8 8 name_within name_within count_within count_within count_within duration_within duration_within source stream partitions task_count replicas task_duration completion_timeout p1.0 p1.1 (count_fits 4096 partitions (omega arith) p2.1) (count_fits 4096 task_count (omega arith) p3.1) (count_fits 16 replicas (omega arith) p4.1) p5.1 p6.1)
short_spelling (Tick now) h =
    omega (arith, length1 an_instant 8 instant_within now h.0)
short_spelling (Paused task offsets) h =
    let p2 = and_true _ _ h.0 in
    let p1 = and_true _ _ p2.0 in
    omega (arith, length2 a_task (list_of an_offset) 256 786422 task_within offsets_within task offsets p1.0 (offsets_good offsets p2.1))
short_spelling (Checkpoint task offsets) h =
    let p2 = and_true _ _ h.0 in
    let p1 = and_true _ _ p2.0 in
    omega (arith, length2 a_task (list_of an_offset) 256 786422 task_within offsets_within task offsets p1.0 (offsets_good offsets p2.1))
short_spelling (ToReplace task span) h = omega arith
short_spelling (Show what) h = omega arith

-- A spelling has a byte, and its length fits four bytes.
pub spelling_length : (c : Command) → IsSpelled c → (0 < length (spelling c)) × (length (spelling c) < 2 ^ 32)
spelling_length c h = (some_bytes c h, short_spelling c h)
