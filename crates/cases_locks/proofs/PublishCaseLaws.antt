-- The worked cases of the laws on publications.
use Rattle.std.proofs.Common.{Bool, List, [], ap, arith, cond, false, inl, inr, refl, subst, suc, sym, true, zero, ℕ, ◌+◌, ◌<◌, ◌∷◌, ◌≡◌}
use Rattle.std.proofs.lemmas.Bool.{false≢true}
use Rattle.std.specs.Ordering.{int_eq}
use Rattle.std.specs.Prelude.{None, pos, ℤ}
use Rattle.std.specs.Str.{chars, is_utf8}
use lib.Utf8.{encode}
use Rattle.iv_span.specs.Extent.{Extent, covers, overlap}
use Rattle.seg_names.specs.declared.seg_id.SegId.{SegId}
use Rattle.book_rows.specs.Lists.{In}
use Rattle.book_rows.specs.Live.{IsIn, IsWhole}
use Rattle.book_rows.specs.Over.{Inserting, Target}
use Rattle.book_rows.specs.Rewrite.{own_row}
use Rattle.book_rows.specs.Shape.{AreDistinct, same_task}
use Rattle.book_rows.specs.Spans.{is_span_of}
use Rattle.book_rows.specs.declared.rows.ChunkRow.{ChunkRow}
use Rattle.book_rows.specs.declared.rows.PendingRow.{PendingRow}
use Rattle.book_rows.specs.declared.rows.SegmentRow.{SegmentRow}
use Rattle.book_rows.specs.declared.rows.UpgradeRow.{UpgradeRow}
use Rattle.laws_locks.proofs.Targets.{let_through}
use Rattle.laws_chunks.specs.Appending.{IsTaken}
use Rattle.laws_chunks.specs.ChunksSound.{AreChunksSound}
use Rattle.laws_chunks.specs.Covering.{IsInsert, IsReplace}
use Rattle.cases_locks.specs.Day.{day, day_id, first_pending, hour, hour_id, left, locked, replaced, replacer_row, source, target, upgrade_row}
use Rattle.scenes.specs.Script.{after, now}
use Rattle.scenes.specs.Publishing.{used_row}
use Rattle.scenes.specs.Rows.{p_row}
use Rattle.laws_chunks.specs.Growing.{building, pushed}
use Rattle.laws_chunks.specs.Inserts.{AreDisjoint, ArePlaced, IsInsertSpan}
use Rattle.cases_locks.specs.LockCases.{replace_lock, third_hour, under}
use Rattle.cases_locks.specs.PublishCases.{AppendsAreDone, InsertsAreDone, ReplacesAreDone, RowsAreGone, and_later, begun_append, begun_insert, begun_replace, both_ids, exclusive_lock, held, inserter_row, is_used, new_id, of_day, removed, the_ids, the_insert, the_replace, the_tombs, three_rows, turned_rows, two_spans, two_targets, whole_chunk}
use Rattle.laws_chunks.specs.Replacements.{IsReplaceSpan}
use Rattle.laws_chunks.specs.RowOrder.{HasSameUsed}
use Rattle.laws_chunks.proofs.AppendCommand.{appended_keeps}
use Rattle.laws_chunks.proofs.AppendingRoots.{append_keeps}
use Rattle.laws_chunks.proofs.CheckedCommands.{insert_span}
use Rattle.cases_locks.proofs.DayBooks.{held_reached, later_reached, left_reached, locked_reached, replaced_reached, under_reached}
use Rattle.cases_locks.proofs.DayLaws.{premises_are_met}
use Rattle.laws_chunks.proofs.DropCommand.{dropped_keeps}
use Rattle.laws_chunks.proofs.EveryCommand.{every_command_keeps}
use Rattle.laws_chunks.proofs.InsertCommand.{inserted_keeps}
use Rattle.laws_chunks.proofs.InsertingSpans.{insert_keeps}
use Rattle.laws_chunks.proofs.PushingPublications.{push_keeps}
use Rattle.laws_chunks.proofs.ReorderedRows.{removed_are_unused, same_used_keeps}
use Rattle.laws_chunks.proofs.ReplaceCommand.{replaced_keeps}
use Rattle.laws_chunks.proofs.ReplacingSpans.{replace_keeps}

-- ---- an append

append_begun : AreChunksSound (pushed begun_append (after locked))
append_begun = push_keeps begun_append (after locked) refl refl refl locked_reached.chunks

two_tasks : AreDistinct same_task (after locked).tasks
two_tasks = ((refl, tt), (tt, tt))

pub appends_are_done : AppendsAreDone
appends_are_done = record {
  begun = record { before = locked_reached.chunks; changed = append_begun };
  begun_publications = refl;
  is_append = premises_are_met.of_append;
  one_root = record { before = append_begun; changed = append_keeps 0 [] begun_append first_pending (upgrade_row ∷ []) (after locked) premises_are_met.of_append append_begun };
  root_segments = refl;
  root_pendings = refl;
  distinct_ids = ((refl, tt), (tt, tt));
  is_task = inl refl;
  not_refused = refl;
  members = locked_reached.locks.0.members;
  distinct_tasks = two_tasks;
  whole = record { before = locked_reached.chunks; changed = appended_keeps (after locked) p_row both_ids None ((refl, tt), (tt, tt)) (inl refl) refl locked_reached.locks.0.members two_tasks locked_reached.chunks };
  whole_segments = refl;
  whole_pendings = refl;
  whole_upgrades = refl;
}

-- ---- spans with one id

-- a chunk of core 1 is whole where a used row has part 0 of it
one_whole : (rows : List SegmentRow) (span : Extent) (next : ℕ) (r : SegmentRow) → In r rows → r.used ≡ true → IsIn (whole_chunk span next) r.id → r.id.part ≡ 0 → IsWhole rows (whole_chunk span next)
one_whole rows span next r i used of part zero l = (r, i, used, of, part)
one_whole rows span next r i used of part (suc n) l = absurd (omega (arith, l))

own_in : (span : Extent) (next : ℕ) → IsIn (whole_chunk span next) (new_id span)
own_in span next = record { source_is = refl; span_is = refl; version_is = refl }

-- what is said of an id holds of each of a list of it alone
of_one : (P : SegId → Type 0) (a : SegId) → P a → (x : SegId) → In x (a ∷ []) → P x
of_one P a h x (inl e) = subst P (sym e) h
of_one P a h x (inr i) = absurd i

-- ---- an insert

hour_insert : IsInsert held begun_insert exclusive_lock (whole_chunk hour 1) 0 the_ids the_tombs
hour_insert = record {
  span = record {
    is_valid = record { among = inl refl; valid = refl };
    from = refl;
    source_is = refl;
    version_is = refl;
    within = refl;
    proper = refl;
    free = λ k. k.among;
    apart = record { ids = λ a i. absurd i; spans = λ x i. absurd i };
    ids_of = of_one (IsIn (whole_chunk hour 1)) (new_id hour) (own_in hour 1);
    tombs_of = λ a i. absurd i;
    distinct = (tt, tt);
    parts = of_one (λ a. a.part < 1) (new_id hour) (omega arith);
    next_low = omega arith;
    has_core = omega arith;
    whole = one_whole (own_row 0 (new_id hour) ∷ []) hour 1 (own_row 0 (new_id hour)) (inl refl) refl (own_in hour 1) refl;
  };
  is_over = refl;
  kind_is = refl;
  no_pending = λ x i. absurd i;
}

insert_begun : AreChunksSound (building [] begun_insert held)
insert_begun = push_keeps begun_insert held refl refl refl held_reached.chunks

two_disjoint : AreDisjoint two_targets
two_disjoint = ((refl, tt), (tt, tt))

hour_placed : ArePlaced two_targets the_ids
hour_placed = of_one (λ a. is_span_of two_spans a.span ≡ true) (new_id hour) refl

third_placed : ArePlaced two_targets the_tombs
third_placed = of_one (λ a. is_span_of two_spans a.span ≡ true) (new_id third_hour) refl

insert_spans : (x : Target) → In x two_targets → IsInsertSpan held inserter_row the_ids the_tombs x
insert_spans = insert_span held inserter_row the_insert two_targets refl (let_through Inserting held the_insert inserter_row two_targets refl)

pub inserts_are_done : InsertsAreDone
inserts_are_done = record {
  is_insert = hour_insert;
  one_span = record { before = insert_begun; changed = insert_keeps 0 [] begun_insert exclusive_lock (whole_chunk hour 1) the_ids the_tombs held hour_insert insert_begun };
  span_segments = refl;
  disjoint = two_disjoint;
  ids_placed = hour_placed;
  tombs_placed = third_placed;
  are_spans = insert_spans;
  whole = record { before = held_reached.chunks; changed = inserted_keeps held inserter_row two_targets the_insert two_disjoint hour_placed third_placed insert_spans held_reached.chunks };
  whole_segments = refl;
  whole_chunks = refl;
  proper = refl;
  let_through = refl;
}

-- ---- the replacement

zero_is_not_now : pos 0 ≡ now → ⊥
zero_is_not_now e = false≢true (ap (λ (z : ℤ). int_eq z now) e)

day_free : IsTaken under.chunks (replace_lock false) day → ⊥
day_free k = not_there k.chunk k.among k.version_is where
  not_there : (c : ChunkRow) → In c under.chunks → c.version ≡ now → ⊥
  not_there c (inl e) v = zero_is_not_now (subst (λ (x : ChunkRow). x.version ≡ now) e v)
  not_there c (inr i) v = i

roots_within : (r : PendingRow) → In r under.pendings → r.id ≡ r.root → r.id.source ≡ source → overlap r.id.span day ≡ true → covers day r.id.span ≡ true
roots_within r (inl e) root from meets = subst (λ (x : PendingRow). covers day x.id.span ≡ true) (sym e) refl
roots_within r (inr i) root from meets = absurd i

upgrades_within : (u : UpgradeRow) → In u under.upgrades → u.posse ≡ 2 → overlap u.root.span day ≡ true → covers day u.root.span ≡ true
upgrades_within u (inl e) of meets = subst (λ (x : UpgradeRow). covers day x.root.span ≡ true) (sym e) refl
upgrades_within u (inr i) of meets = absurd i

day_in : IsIn (whole_chunk day 3) (day_id 0)
day_in = record { source_is = refl; span_is = refl; version_is = refl }

day_replace : IsReplace under begun_replace (replace_lock false) (whole_chunk day 3) 1 (day_id 0 ∷ []) []
day_replace = record {
  span = record {
    is_valid = record { among = inr (inl refl); valid = refl };
    from = refl;
    source_is = refl;
    version_is = refl;
    within = refl;
    proper = refl;
    free = day_free;
    apart = record { ids = λ a i. absurd i; spans = λ x i. absurd i };
    ids_of = of_one (IsIn (whole_chunk day 3)) (day_id 0) day_in;
    tombs_of = λ a i. absurd i;
    distinct = (tt, tt);
    parts = of_one (λ a. a.part < 1) (day_id 0) (omega arith);
    next_low = omega arith;
    has_core = omega arith;
    whole = one_whole (own_row 1 (day_id 0) ∷ []) day 3 (own_row 1 (day_id 0)) (inl refl) refl day_in refl;
  };
  is_replace = refl;
  kind_is = refl;
  roots_within = roots_within;
  upgrades_within = upgrades_within;
  next_is = refl;
}

replace_begun : AreChunksSound (building under.publications begun_replace under)
replace_begun = push_keeps begun_replace under refl refl refl under_reached.chunks

one_disjoint : AreDisjoint (target ∷ [])
one_disjoint = (tt, tt)

day_placed : ArePlaced (target ∷ []) (day_id 0 ∷ [])
day_placed = of_one (λ a. is_span_of (day ∷ []) a.span ≡ true) (day_id 0) refl

none_placed : ArePlaced (target ∷ []) []
none_placed a i = absurd i

replace_spans : (x : Target) → In x (target ∷ []) → IsReplaceSpan under replacer_row (day_id 0 ∷ []) [] x
replace_spans x (inl e) = subst (λ (y : Target). IsReplaceSpan under replacer_row (day_id 0 ∷ []) [] y) (sym e) premises_are_met.of_replace
replace_spans x (inr i) = absurd i

pub replaces_are_done : ReplacesAreDone
unfolding is_utf8 chars encode
replaces_are_done = record {
  is_replace = day_replace;
  one_span = record { before = replace_begun; changed = replace_keeps 1 under.publications begun_replace (replace_lock false) (whole_chunk day 3) (day_id 0 ∷ []) [] under day_replace replace_begun };
  span_segments = refl;
  span_pendings = refl;
  span_upgrades = refl;
  disjoint = one_disjoint;
  ids_placed = day_placed;
  tombs_placed = none_placed;
  are_spans = replace_spans;
  whole = record { before = under_reached.chunks; changed = replaced_keeps under replacer_row (target ∷ []) of_day one_disjoint day_placed none_placed replace_spans under_reached.chunks };
  whole_segments = refl;
  whole_pendings = refl;
  proper = refl;
  let_through = refl;
  form = refl;
  lock_shape = under_reached.locks.0;
  by_command = record { before = under_reached.chunks; changed = every_command_keeps the_replace under refl under_reached.locks.0 under_reached.chunks };
  command_segments = refl;
}

-- ---- other orders, a drop, and the removal of unused rows

rows_forth : (r : SegmentRow) → In r three_rows → r.used ≡ true → In r turned_rows
rows_forth r (inl e) used = inr (inl e)
rows_forth r (inr (inl e)) used = inr (inr (inl e))
rows_forth r (inr (inr (inl e))) used = inl e
rows_forth r (inr (inr (inr i))) used = absurd i

rows_back : (r : SegmentRow) → In r turned_rows → r.used ≡ true → In r three_rows
rows_back r (inl e) used = inr (inr (inl e))
rows_back r (inr (inl e)) used = inl e
rows_back r (inr (inr (inl e))) used = inr (inl e)
rows_back r (inr (inr (inr i))) used = absurd i

-- one more where the test holds
abbrev one_if : Bool → ℕ → ℕ
one_if b n = cond b (1 + n) n

counted_by : (x y z : Bool) → one_if z (one_if x (one_if y 0)) ≡ one_if x (one_if y (one_if z 0))
counted_by true true true = refl
counted_by true true false = refl
counted_by true false true = refl
counted_by true false false = refl
counted_by false true true = refl
counted_by false true false = refl
counted_by false false true = refl
counted_by false false false = refl

rows_same : HasSameUsed three_rows turned_rows
rows_same = record {
  forth = rows_forth;
  back = rows_back;
  counts = λ p of. counted_by (p (used_row (hour_id 0) (hour_id 0) 0)) (p (used_row (day_id 0) (day_id 0) 1)) (p (used_row (day_id 1) (hour_id 0) 1));
}

same_without : HasSameUsed (after and_later).segments removed
same_without = removed_are_unused is_used (after and_later).segments (λ r on. on)

pub rows_are_gone : RowsAreGone
rows_are_gone = record {
  same_turned = rows_same;
  turned = record { before = replaced_reached.chunks; changed = same_used_keeps turned_rows (after replaced) rows_same replaced_reached.chunks };
  is_free = premises_are_met.of_drop;
  not_refused = refl;
  dropped = record { before = left_reached.chunks; changed = dropped_keeps source day (after left) refl left_reached.chunks };
  some_before = refl;
  none_after = refl;
  keeps_used = λ r on. on;
  same_used = same_without;
  without_unused = record { before = later_reached.chunks; changed = same_used_keeps removed (after and_later) same_without later_reached.chunks };
  one_left = refl;
}
