-- Tags, and whole commands: what is written of one is read again, and what is read was written so.
use Rattle.std.proofs.Common.{◌≡◌, ℕ, ◌&&◌, ◌<◌, Bool, true, false, cond, List, [], ◌∷◌, ◌++◌, length, Option, Some, None, refl, sym, ap, subst, ◌∙◌, arith, nat_le, nat_lt}
use Rattle.std.specs.List.{AllByRecursion, list_all}
use Rattle.std.specs.Str.{is_utf8}
use Rattle.std.proofs.lemmas.Bool.Decides.{nat_tests}
use Rattle.std.proofs.lemmas.List.Elements.{All-from_recursion}
use Rattle.std.proofs.lemmas.Option.{some_pair_parts}
use Rattle.std.proofs.lemmas.Str.{IsUtf8-from_ascii, is_utf8-from_IsUtf8}
use Rattle.std.proofs.lemmas.Str.Ascii.{IsAscii-from_all}
use Rattle.iv_span.specs.Extent.{Extent}
use Rattle.seg_names.specs.Names.{is_between, is_task_id}
use Rattle.seg_names.specs.declared.seg_id.SegId.{SegId}
use Rattle.wire_fields.specs.Fields.{◌>>=◌, AreBytes, byte_at}
use Rattle.wire_fields.proofs.FieldsTaken.{bind_some}
use Rattle.book_rows.specs.Spans.{is_span}
use Rattle.book_rows.specs.Form.{is_submit_text, is_submit_byte, is_id, is_optional_id, is_offset, is_want, are_spans, are_ids, are_offsets, are_ranges_of, is_few, are_lists, keeps_form}
use Rattle.book_rows.specs.declared.rows.Want.{Want}
use Rattle.book_rows.specs.declared.rows.Offset.{Offset}
use Rattle.book_rows.specs.declared.rows.Ranges.{Ranges}
use Rattle.book_rows.specs.declared.commands.Command.{Command}
use Rattle.book_rows.specs.declared.commands.Command.TheVariants.{Submit, Manage, Lock, Unlock, Allocate, Append, Insert, Replace, End, Drop, Reset, Supervise, Tick, Paused, Checkpoint, ToReplace, Show}
use Rattle.cmd_codec.specs.Spelling.{spelling, has_tag, overwrite_tag, overwrite_field}
use Rattle.cmd_codec.specs.Reading.{tag_of, code_at, values_at, command_at}
use Rattle.cmd_codec.specs.Records.{IsSpelled}
use Rattle.cmd_codec.specs.declared.tag.Tag.{Tag}
use Rattle.cmd_codec.specs.declared.tag.Tag.TheVariants as tag
use Rattle.cmd_codec.proofs.Readers.{when_some, some_is, and_true, both_true, any, Spells, step, checked_again}
use Rattle.cmd_codec.proofs.Numbers.{fits32, fits64}
use Rattle.cmd_codec.proofs.FieldBytes.{code_of, pick, no_more, coded}
use Rattle.cmd_codec.proofs.Lists.{is_list, is_option, are_some_ranges, short_list}
use Rattle.cmd_codec.proofs.Overwrites.{Make, Overwrite, plain_again, marked_again, plain_takes, marked_takes}
use Rattle.cmd_codec.proofs.Again.{submit_again, manage_again, lock_again, unlock_again, allocate_again, append_again, end_again, drop_again, reset_again, supervise_again, tick_again, paused_again, checkpoint_again}
use Rattle.cmd_codec.proofs.Takes.{IsSpelledBy, submit_takes, manage_takes, lock_takes, unlock_takes, allocate_takes, append_takes, end_takes, drop_takes, reset_takes, supervise_takes, tick_takes, paused_takes, checkpoint_takes}

abbrev tag_code : Tag → ℕ
tag_code tag.Submit = 1
tag_code tag.Manage = 2
tag_code tag.Lock = 3
tag_code tag.Unlock = 4
tag_code tag.Allocate = 5
tag_code tag.Append = 6
tag_code tag.Insert = 7
tag_code tag.Replace = 8
tag_code tag.End = 9
tag_code tag.Drop = 10
tag_code tag.Reset = 11
tag_code tag.Supervise = 12
tag_code tag.Tick = 13
tag_code tag.Paused = 14
tag_code tag.Checkpoint = 15
tag_code tag.MarkedInsert = 16
tag_code tag.MarkedReplace = 17

tag_there : (t : Tag) → tag_of (tag_code t) ≡ Some t
tag_there tag.Submit = refl
tag_there tag.Manage = refl
tag_there tag.Lock = refl
tag_there tag.Unlock = refl
tag_there tag.Allocate = refl
tag_there tag.Append = refl
tag_there tag.Insert = refl
tag_there tag.Replace = refl
tag_there tag.End = refl
tag_there tag.Drop = refl
tag_there tag.Reset = refl
tag_there tag.Supervise = refl
tag_there tag.Tick = refl
tag_there tag.Paused = refl
tag_there tag.Checkpoint = refl
tag_there tag.MarkedInsert = refl
tag_there tag.MarkedReplace = refl

tag_back : (n : ℕ) (t : Tag) → tag_of n ≡ Some t → n ≡ tag_code t
tag_back n t e0 =
    pick tag_code n 1 tag.Submit t _ refl e0 (λ e1.
    pick tag_code n 2 tag.Manage t _ refl e1 (λ e2.
    pick tag_code n 3 tag.Lock t _ refl e2 (λ e3.
    pick tag_code n 4 tag.Unlock t _ refl e3 (λ e4.
    pick tag_code n 5 tag.Allocate t _ refl e4 (λ e5.
    pick tag_code n 6 tag.Append t _ refl e5 (λ e6.
    pick tag_code n 7 tag.Insert t _ refl e6 (λ e7.
    pick tag_code n 8 tag.Replace t _ refl e7 (λ e8.
    pick tag_code n 9 tag.End t _ refl e8 (λ e9.
    pick tag_code n 10 tag.Drop t _ refl e9 (λ e10.
    pick tag_code n 11 tag.Reset t _ refl e10 (λ e11.
    pick tag_code n 12 tag.Supervise t _ refl e11 (λ e12.
    pick tag_code n 13 tag.Tick t _ refl e12 (λ e13.
    pick tag_code n 14 tag.Paused t _ refl e13 (λ e14.
    pick tag_code n 15 tag.Checkpoint t _ refl e14 (λ e15.
    pick tag_code n 16 tag.MarkedInsert t _ refl e15 (λ e16.
    pick tag_code n 17 tag.MarkedReplace t _ refl e16 (λ e17.
    no_more t (n ≡ tag_code t) e17)))))))))))))))))

tagged : Spells (code_of tag_code) any any (code_at tag_of)
tagged = coded tag_code tag_of tag_there tag_back

submitted_small : (x : ℕ) → is_submit_byte x ≡ true → x < 128
submitted_small x h = grind (arith, nat_tests)

all_small : (text : List ℕ) → list_all is_submit_byte text ≡ true → AllByRecursion (λ x. x < 128) text
all_small [] h = tt
all_small (x ∷ xs) h = let p = and_true (is_submit_byte x) (list_all is_submit_byte xs) h in (submitted_small x p.0, all_small xs p.1)

within : (n : ℕ) → nat_le n 200 ≡ true → nat_le n 255 ≡ true
within n k = grind (arith, nat_tests)

few_wants : (n : ℕ) → nat_le n 64 ≡ true → nat_le n 4096 ≡ true
few_wants n h = grind (arith, nat_tests)

-- the id of a task that is submitted is a task id
pub submitted_task : (text : List ℕ) → is_submit_text text ≡ true → is_task_id text ≡ true
submitted_task text h =
    let p = and_true _ _ h in
    let q = and_true _ _ p.0 in
    let r = and_true _ _ q.0 in
    let utf8 : is_utf8 text ≡ true = is_utf8-from_IsUtf8 text (IsUtf8-from_ascii text (IsAscii-from_all text (All-from_recursion (λ x. x < 128) text (all_small text r.1)))) in
    let s = and_true _ _ r.0 in
    let few = within (length text) s.1 in
    both_true (nat_le 1 (length text) && nat_le (length text) 255) (is_utf8 text) (both_true (nat_le 1 (length text)) (nat_le (length text) 255) s.0 few) utf8

pub wants_good : (xs : List Want) → nat_le (length xs) 64 ≡ true → list_all is_want xs ≡ true → is_list is_want xs ≡ true
wants_good xs few all = let le : is_few xs ≡ true = few_wants (length xs) few in short_list is_want xs le all

spans_good : (xs : List Extent) → are_spans xs ≡ true → is_list is_span xs ≡ true
spans_good xs h =
    let p = and_true _ _ h in
    let q = and_true _ _ p.0 in
    let r = and_true _ _ q.0 in
    short_list is_span xs r.1 q.1

pub ids_good : (xs : List SegId) → are_ids xs ≡ true → is_list is_id xs ≡ true
ids_good xs h = let p = and_true _ _ h in let q = and_true _ _ p.0 in short_list is_id xs q.0 q.1

pub offsets_good : (xs : List Offset) → are_offsets xs ≡ true → is_list is_offset xs ≡ true
offsets_good xs h = let p = and_true _ _ h in let q = and_true _ _ p.0 in short_list is_offset xs q.0 q.1

pub ranges_good : (r : Option Ranges) → are_ranges_of r ≡ true → is_option are_some_ranges r ≡ true
ranges_good (Some r) h = h
ranges_good None h = refl

pub previous_good : (i : Option SegId) → is_optional_id i ≡ true → is_option is_id i ≡ true
previous_good (Some i) h = h
previous_good None h = refl

pub fits32_below : (most n : ℕ) → most < 4294967296 → nat_le n most ≡ true → fits32 n ≡ true
fits32_below most n lt h = grind (arith, nat_tests)

pub count_fits : (most n : ℕ) → most < 4294967296 → is_between 1 most n ≡ true → fits32 n ≡ true
count_fits most n lt h = fits32_below most n lt (and_true (nat_le 1 n) (nat_le n most) h).1

pub fits64_below : (n : ℕ) → nat_lt n 9007199254740992 ≡ true → fits64 n ≡ true
fits64_below n h = grind (arith, nat_tests)

pub record Goods (task : List ℕ) (spans : List Extent) (ids tombstones : List SegId) (ranges : Option Ranges) : Type 0 where
  pub task_good : is_task_id task ≡ true
  pub spans_are : is_list is_span spans ≡ true
  pub ids_are : is_list is_id ids ≡ true
  pub tombstones_are : is_list is_id tombstones ≡ true
  pub ranges_are : is_option are_some_ranges ranges ≡ true

pub overwrite_goods : (task : List ℕ) (spans : List Extent) (ids tombstones : List SegId) (ranges : Option Ranges) → (is_task_id task && are_lists spans ids tombstones ranges) ≡ true → Goods task spans ids tombstones ranges
overwrite_goods task spans ids tombstones ranges h =
    let o = and_true (is_task_id task) _ h in
    let p = and_true _ (are_ranges_of ranges) o.1 in
    let q = and_true _ _ p.0 in
    let r = and_true _ (are_ids tombstones) q.0 in
    let s = and_true (are_spans spans) (are_ids ids) r.0 in
    record { task_good = o.0; spans_are = spans_good spans s.0; ids_are = ids_good ids s.1; tombstones_are = ids_good tombstones r.1; ranges_are = ranges_good ranges p.1 }

-- What is written of a command is read again, whatever follows it.
pub command_again : (c : Command) (rest : List ℕ) → IsSpelled c → command_at (spelling c ++ rest) ≡ Some (c, rest)
unfolding command_at code_at byte_at
command_again (Submit task group source kind priority locks) rest h =
    let p5 = and_true _ _ h.0 in
    let p4 = and_true _ _ p5.0 in
    let p3 = and_true _ _ p4.0 in
    let p2 = and_true _ _ p3.0 in
    let p1 = and_true _ _ p2.0 in
    checked_again _ keeps_form (Submit task group source kind priority locks) rest (submit_again task group source kind priority locks rest (submitted_task task p1.0) (submitted_task group p1.1) p2.1 (fits32_below 1000000 priority (omega arith) p3.1) (wants_good locks p4.1 p5.1)) h.0
command_again (Manage now) rest h =
    checked_again _ keeps_form (Manage now) rest (manage_again now rest h.0) h.0
command_again (Lock task kind span now) rest h =
    let p2 = and_true _ _ h.0 in
    let p1 = and_true _ _ p2.0 in
    checked_again _ keeps_form (Lock task kind span now) rest (lock_again task kind span now rest p1.0 p1.1 p2.1) h.0
command_again (Unlock task lock) rest h =
    let p1 = and_true _ _ h.0 in
    checked_again _ keeps_form (Unlock task lock) rest (unlock_again task lock rest p1.0 (fits64_below lock p1.1)) h.0
command_again (Allocate task kind sequence previous at granularity now) rest h =
    let p5 = and_true _ _ h.0 in
    let p4 = and_true _ _ p5.0 in
    let p3 = and_true _ _ p4.0 in
    let p2 = and_true _ _ p3.0 in
    let p1 = and_true _ _ p2.0 in
    checked_again _ keeps_form (Allocate task kind sequence previous at granularity now) rest (allocate_again task kind sequence previous at granularity now rest p1.0 p2.1 (previous_good previous p3.1) p4.1 p5.1) h.0
command_again (Append task ids ranges) rest h =
    let p3 = and_true _ _ h.0 in
    let p2 = and_true _ _ p3.0 in
    let p1 = and_true _ _ p2.0 in
    checked_again _ keeps_form (Append task ids ranges) rest (append_again task ids ranges rest p1.0 (ids_good ids p1.1) (ranges_good ranges p2.1)) h.0
command_again (Insert task spans ids [] ranges) rest h =
    let g = overwrite_goods task spans ids [] ranges h.0 in
    checked_again _ keeps_form (Insert task spans ids [] ranges) rest (plain_again Insert task spans ids ranges rest g.task_good g.spans_are g.ids_are g.ranges_are) h.0
command_again (Insert task spans ids (t ∷ ts) ranges) rest h =
    let g = overwrite_goods task spans ids (t ∷ ts) ranges h.0 in
    checked_again _ keeps_form (Insert task spans ids (t ∷ ts) ranges) rest (marked_again Insert task spans ids t ts ranges rest g.task_good g.spans_are g.ids_are g.ranges_are g.tombstones_are) h.0
command_again (Replace task spans ids [] ranges) rest h =
    let g = overwrite_goods task spans ids [] ranges h.0 in
    checked_again _ keeps_form (Replace task spans ids [] ranges) rest (plain_again Replace task spans ids ranges rest g.task_good g.spans_are g.ids_are g.ranges_are) h.0
command_again (Replace task spans ids (t ∷ ts) ranges) rest h =
    let g = overwrite_goods task spans ids (t ∷ ts) ranges h.0 in
    checked_again _ keeps_form (Replace task spans ids (t ∷ ts) ranges) rest (marked_again Replace task spans ids t ts ranges rest g.task_good g.spans_are g.ids_are g.ranges_are g.tombstones_are) h.0
command_again (End task status) rest h =
    let p1 = and_true _ _ h.0 in
    checked_again _ keeps_form (End task status) rest (end_again task status rest p1.0) h.0
command_again (Drop source span) rest h =
    let p1 = and_true _ _ h.0 in
    checked_again _ keeps_form (Drop source span) rest (drop_again source span rest p1.0 p1.1) h.0
command_again (Reset source stream offsets) rest h =
    let p2 = and_true _ _ h.0 in
    let p1 = and_true _ _ p2.0 in
    checked_again _ keeps_form (Reset source stream offsets) rest (reset_again source stream offsets rest p1.0 p1.1 (offsets_good offsets p2.1)) h.0
command_again (Supervise source stream partitions task_count replicas task_duration completion_timeout) rest h =
    let p6 = and_true _ _ h.0 in
    let p5 = and_true _ _ p6.0 in
    let p4 = and_true _ _ p5.0 in
    let p3 = and_true _ _ p4.0 in
    let p2 = and_true _ _ p3.0 in
    let p1 = and_true _ _ p2.0 in
    checked_again _ keeps_form (Supervise source stream partitions task_count replicas task_duration completion_timeout) rest (supervise_again source stream partitions task_count replicas task_duration completion_timeout rest p1.0 p1.1 (count_fits 4096 partitions (omega arith) p2.1) (count_fits 4096 task_count (omega arith) p3.1) (count_fits 16 replicas (omega arith) p4.1) p5.1 p6.1) h.0
command_again (Tick now) rest h =
    checked_again _ keeps_form (Tick now) rest (tick_again now rest h.0) h.0
command_again (Paused task offsets) rest h =
    let p2 = and_true _ _ h.0 in
    let p1 = and_true _ _ p2.0 in
    checked_again _ keeps_form (Paused task offsets) rest (paused_again task offsets rest p1.0 (offsets_good offsets p2.1)) h.0
command_again (Checkpoint task offsets) rest h =
    let p2 = and_true _ _ h.0 in
    let p1 = and_true _ _ p2.0 in
    checked_again _ keeps_form (Checkpoint task offsets) rest (checkpoint_again task offsets rest p1.0 (offsets_good offsets p2.1)) h.0
command_again (ToReplace task span) rest h = let no : false ≡ true = h.1 in absurd cc
command_again (Show what) rest h = let no : false ≡ true = h.1 in absurd cc

-- No spelling begins another.
pub one_spelling : (a b : Command) (x y : List ℕ) → IsSpelled a → IsSpelled b → spelling a ++ x ≡ spelling b ++ y → (a ≡ b) × (x ≡ y)
one_spelling a b x y h k e = some_pair_parts a b x y (sym (command_again a x h) ∙ ap command_at e ∙ command_again b y k)

overwrite_spelled : (plain marked : ℕ) (make : Make) (bytes : List ℕ) (has : Bool) (c : Command) (rest : List ℕ)
    → ((task : List ℕ) (spans : List Extent) (ids tombstones : List SegId) (ranges : Option Ranges) → (spelling (make task spans ids tombstones ranges) ≡ overwrite_tag plain marked tombstones ∷ overwrite_field task spans ids tombstones ranges) × (has_tag (make task spans ids tombstones ranges) ≡ true))
    → Overwrite make bytes has c rest → IsSpelledBy (cond has plain marked) bytes c rest
overwrite_spelled plain marked make bytes has c rest is o =
    let made : Command = make o.task o.spans o.ids o.tombstones o.ranges in
    let s = is o.task o.spans o.ids o.tombstones o.ranges in
    let tag : overwrite_tag plain marked o.tombstones ≡ cond has plain marked = ap (λ (b : Bool). cond b plain marked) o.has_none in
    let parts : cond has plain marked ∷ bytes ≡ spelling made ++ rest = rw (s.0, tag) (ap (λ (t : List ℕ). cond has plain marked ∷ t) o.parts) in
    subst (λ (x : Command). IsSpelledBy (cond has plain marked) bytes x rest) o.made (parts, s.1)

-- what reads as a command of a tag is spelled by it
spelled_by : (t : Tag) (bytes : List ℕ) (c : Command) (rest : List ℕ) → AreBytes bytes → values_at t bytes ≡ Some (c, rest) → IsSpelledBy (tag_code t) bytes c rest
spelled_by tag.Submit bytes c rest fits e = submit_takes bytes c rest fits e
spelled_by tag.Manage bytes c rest fits e = manage_takes bytes c rest fits e
spelled_by tag.Lock bytes c rest fits e = lock_takes bytes c rest fits e
spelled_by tag.Unlock bytes c rest fits e = unlock_takes bytes c rest fits e
spelled_by tag.Allocate bytes c rest fits e = allocate_takes bytes c rest fits e
spelled_by tag.Append bytes c rest fits e = append_takes bytes c rest fits e
spelled_by tag.Insert bytes c rest fits e = overwrite_spelled 7 16 Insert bytes true c rest (λ task spans ids tombstones ranges. (refl, refl)) (plain_takes Insert bytes c rest fits e)
spelled_by tag.Replace bytes c rest fits e = overwrite_spelled 8 17 Replace bytes true c rest (λ task spans ids tombstones ranges. (refl, refl)) (plain_takes Replace bytes c rest fits e)
spelled_by tag.End bytes c rest fits e = end_takes bytes c rest fits e
spelled_by tag.Drop bytes c rest fits e = drop_takes bytes c rest fits e
spelled_by tag.Reset bytes c rest fits e = reset_takes bytes c rest fits e
spelled_by tag.Supervise bytes c rest fits e = supervise_takes bytes c rest fits e
spelled_by tag.Tick bytes c rest fits e = tick_takes bytes c rest fits e
spelled_by tag.Paused bytes c rest fits e = paused_takes bytes c rest fits e
spelled_by tag.Checkpoint bytes c rest fits e = checkpoint_takes bytes c rest fits e
spelled_by tag.MarkedInsert bytes c rest fits e = overwrite_spelled 7 16 Insert bytes false c rest (λ task spans ids tombstones ranges. (refl, refl)) (marked_takes Insert bytes c rest fits e)
spelled_by tag.MarkedReplace bytes c rest fits e = overwrite_spelled 8 17 Replace bytes false c rest (λ task spans ids tombstones ranges. (refl, refl)) (marked_takes Replace bytes c rest fits e)

-- What is read was written so, and keeps its form.
pub command_takes : (bytes : List ℕ) (c : Command) (rest : List ℕ) → AreBytes bytes → command_at bytes ≡ Some (c, rest) → (bytes ≡ spelling c ++ rest) × IsSpelled c
unfolding command_at
command_takes bytes c rest fits e =
    let a = step (code_of tag_code) any any (code_at tag_of) tagged bytes fits (λ (t : Tag × List ℕ). values_at t.0 t.1 >>= λ (x : Command × List ℕ). cond (keeps_form x.0) (Some x) None) (c, rest) e in
    let b = bind_some (values_at a.value a.rest) (λ (x : Command × List ℕ). cond (keeps_form x.0) (Some x) None) (c, rest) a.more in
    let g = when_some (keeps_form b.0.0) (Some b.0) (c, rest) b.2 in
    let same = some_is b.0 (c, rest) g.1 in
    let read : values_at a.value a.rest ≡ Some (c, rest) = b.1 ∙ g.1 in
    let kept : keeps_form c ≡ true = subst (λ (x : Command × List ℕ). keeps_form x.0 ≡ true) same g.0 in
    let s = spelled_by a.value a.rest c rest a.fits read in
    (a.parts ∙ s.0, (kept, s.1))
