-- More worked cases, on the rows of the first ones: in each what a law asks for is there, and what it says is seen.
use Rattle.std.specs.Prelude.{◌++◌, ◌||◌, ◌∷◌, ◌≡◌, List, None, Some, [], codes, false, map, nat_le, neg_ℤ, not, pos, true, Bool, ℤ}
use Rattle.std.specs.List.{list_all, list_any}
use Rattle.iv_span.specs.Extent.{Extent, has}
use Rattle.seg_names.specs.declared.seg_id.SegId.{SegId}
use Rattle.book_rows.specs.Allocation.{is_root}
use Rattle.book_rows.specs.Answer.{answer, book_after, changes, next}
use Rattle.book_rows.specs.Append.{append_fault}
use Rattle.book_rows.specs.Carried.{is_seen_within, to_replace}
use Rattle.book_rows.specs.Contents.{alive, in_contents, takes}
use Rattle.book_rows.specs.Ids.{id_before}
use Rattle.book_rows.specs.Lists.{In, at_place, list_links}
use Rattle.book_rows.specs.Locks.{is_member_of, posse_of}
use Rattle.book_rows.specs.Publications.{appending, publication_of, reset_publication}
use Rattle.book_rows.specs.Rules.{upgraded}
use Rattle.book_rows.specs.Shown.{contents_of, ids_shown, roots_at, timeline_of}
use Rattle.book_rows.specs.Spans.{cuts}
use Rattle.book_rows.specs.Visible.{is_visible, shown, visible}
use Rattle.book_rows.specs.declared.commands.Command.{Command}
use Rattle.book_rows.specs.declared.rows.Book.{Book}
use Rattle.book_rows.specs.declared.rows.PendingRow.{PendingRow}
use Rattle.book_rows.specs.declared.rows.PosseRow.{PosseRow}
use Rattle.book_rows.specs.declared.rows.SegmentRow.{SegmentRow}
use Rattle.book_rows.specs.declared.commands.Command.TheVariants as Commands
use Rattle.book_rows.specs.declared.kinds.LockKind.TheVariants as LockKinds
use Rattle.book_rows.specs.declared.replies.Refusal.TheVariants as Refusals
use Rattle.book_rows.specs.declared.replies.Reply.TheVariants as Replies
use Rattle.iv_time.specs.declared.granularity.Granularity.TheVariants as Granularities
use Rattle.laws_chunks.specs.Meaning.{HaveDistinctAdds}
use Rattle.laws_shown.specs.Appended.{IsRootPending}
use Rattle.laws_shown.specs.Asking.{MayAsk}
use Rattle.laws_shown.specs.Ends.{DependsOn, DependsWithin, HoldsSomewhere, HoldsThroughout, IsBeforeAll, ends_within}
use Rattle.cases_shown.specs.ShownDay.{after, append_it, before, chunks_before, day, day_id, hour, hour_id, is_in_day_if_in_hour, replacement, replacing, rows_after, rows_before, rows_without_copy, source, upgrades, waiting_book}
use Rattle.laws_shown.specs.History.{IsPut}
use Rattle.laws_shown.specs.Printed.{chunk_parts, is_after, is_next_chunk, is_next_part}
use Rattle.laws_shown.specs.Tests.{IsSeen, carries_upgrades, shows_contents}
use Rattle.scenes.specs.Publishing.{reset_nothing, used_row}
use Rattle.scenes.specs.Rows.{p_row, r_row}
use Rattle.book_rows.specs.declared.kinds.PubKind.TheVariants as PubKinds

-- ---- the ends

-- to be in the hour depends only on the hour; it holds somewhere in the day, as one of the ends says, and not throughout it, as another says
abbrev pub HourInTheDay : Type 0
HourInTheDay =
    DependsWithin day (hour ∷ []) (has hour)
    × (list_any (has hour) (ends_within day (hour ∷ [])) ≡ true)
    × HoldsSomewhere day (has hour)
    × (list_all (has hour) (ends_within day (hour ∷ [])) ≡ false)
    × (HoldsThroughout day (has hour) → ⊥)
    × (list_all (has day) (ends_within day (hour ∷ [])) ≡ true)
    × HoldsThroughout day (has day)

abbrev pub is_in_hour_if_in_day : ℤ → Bool
is_in_hour_if_in_day t = not (has day t) || has hour t

-- an instant in the hour is in the day, at all instants; the other way round fails at an end, and so at an instant
abbrev pub AllInstants : Type 0
AllInstants =
    DependsOn (day ∷ hour ∷ []) is_in_day_if_in_hour
    × DependsOn (day ∷ hour ∷ []) is_in_hour_if_in_day
    × IsBeforeAll (neg_ℤ (pos 1)) (day ∷ hour ∷ [])
    × (is_in_day_if_in_hour (neg_ℤ (pos 1)) ≡ true)
    × (is_in_hour_if_in_day (neg_ℤ (pos 1)) ≡ true)
    × (list_all is_in_day_if_in_hour (cuts (day ∷ hour ∷ [])) ≡ true)
    × ((t : ℤ) → is_in_day_if_in_hour t ≡ true)
    × (list_all is_in_hour_if_in_day (cuts (day ∷ hour ∷ [])) ≡ false)
    × (is_in_hour_if_in_day (pos 7) ≡ false)

-- ---- what the tests say of an instant

-- where a test fails, an instant is there at which the counts differ
abbrev pub TestsTellAnInstant : Type 0
TestsTellAnInstant =
    (shows_contents rows_after after ≡ true)
    × (shown rows_after source (pos 5) (hour_id 1) ≡ 1)
    × (alive (λ k. true) after source (pos 5) (hour_id 1) ≡ 1)
    × (shows_contents rows_without_copy after ≡ false)
    × (shown rows_without_copy source (pos 5) (hour_id 1) ≡ 0)
    × (carries_upgrades (replacing ∷ []) chunks_before upgrades before ≡ true)
    × (upgraded upgrades 2 (pos 5) (hour_id 1) ≡ 1)
    × (alive (λ k. nat_le 1 k) before source (pos 5) (hour_id 1) ≡ 1)
    × (carries_upgrades (replacing ∷ []) chunks_before [] before ≡ false)
    × (upgraded [] 2 (pos 5) (hour_id 1) ≡ 0)

-- the row of the hour is seen in the day, and under the replacement it isn't
abbrev pub SeenInTheDay : Type 0
SeenInTheDay =
    In (used_row (hour_id 1) (hour_id 1) 1) rows_before
    × (is_seen_within rows_before source day (used_row (hour_id 1) (hour_id 1) 1) ≡ true)
    × IsSeen rows_before source day (used_row (hour_id 1) (hour_id 1) 1)
    × In (used_row (hour_id 1) (hour_id 1) 1) rows_after
    × (is_seen_within rows_after source day (used_row (hour_id 1) (hour_id 1) 1) ≡ false)
    × (is_visible rows_after source (pos 5) (used_row (hour_id 1) (hour_id 1) 1) ≡ false)

-- ---- the contents

-- the replacement takes away the first append and not the second one, which is put
abbrev pub PutInTheHour : Type 0
PutInTheHour =
    (at_place 2 after ≡ Some replacement)
    × (takes source (pos 5) replacement 0 ≡ true)
    × (takes source (pos 5) replacement 1 ≡ false)
    × (in_contents after source (pos 5) (hour_id 1) ≡ true)
    × IsPut after source (pos 5) (hour_id 1)
    × (in_contents after source (pos 5) (hour_id 0) ≡ false)
    × (IsPut after source (pos 5) (hour_id 0) → ⊥)

-- no id is added twice, and a root is counted once where it is in the contents; an id that is added twice is counted twice
abbrev pub CountedWhereDistinct : Type 0
CountedWhereDistinct =
    HaveDistinctAdds after
    × (in_contents after source (pos 5) (hour_id 1) ≡ true)
    × (alive (λ k. true) after source (pos 5) (hour_id 1) ≡ 1)
    × (in_contents after source (pos 5) (hour_id 0) ≡ false)
    × (alive (λ k. true) after source (pos 5) (hour_id 0) ≡ 0)
    × (alive (λ k. true) (before ++ before) source (pos 5) (hour_id 0) ≡ 2)

-- ---- what is printed

-- what is visible at instants of the one part of the timeline and of the three parts of the contents, and beside them
abbrev pub PrintedAtInstants : Type 0
PrintedAtInstants =
    (map (λ r. r.id.version) (visible rows_after source (pos 5)) ≡ pos 9 ∷ pos 9 ∷ [])
    × (ids_shown (visible rows_after source (pos 5)) ≡ day_id 0 ∷ day_id 1 ∷ [])
    × (ids_shown (visible rows_after source (pos 23)) ≡ day_id 0 ∷ day_id 1 ∷ [])
    × (visible rows_after source (pos 24) ≡ [])
    × (list_any (λ p. has p.span (pos 24)) (timeline_of rows_after source) ≡ false)
    × (roots_at (visible rows_after source (pos 4)) (pos 4) ≡ day_id 0 ∷ [])
    × (roots_at (visible rows_after source (pos 5)) (pos 5) ≡ day_id 0 ∷ hour_id 1 ∷ [])
    × (roots_at (visible rows_after source (pos 6)) (pos 6) ≡ day_id 0 ∷ [])
    × (list_any (λ p. has p.span (pos 24)) (contents_of rows_after source) ≡ false)

-- an hour inserted over the day
abbrev pub over_id : SegId
over_id = record { source = source; span = hour; version = pos 10; part = 0 }

abbrev pub rows_over : List SegmentRow
rows_over = used_row over_id over_id 1 ∷ used_row (day_id 1) (day_id 1) 0 ∷ used_row (day_id 0) (day_id 0) 0 ∷ []

abbrev pub morning : Extent
morning = record { start = pos 0; end = pos 5 }

abbrev pub rest_of_day : Extent
rest_of_day = record { start = pos 6; end = pos 24 }

-- ids stand in id order whatever the order of the rows is; three parts that ascend, of which those that touch differ
abbrev pub PrintedInOrder : Type 0
PrintedInOrder =
    (ids_shown rows_over ≡ day_id 0 ∷ day_id 1 ∷ over_id ∷ [])
    × (list_links id_before (ids_shown rows_over) ≡ true)
    × (roots_at rows_over (pos 5) ≡ day_id 0 ∷ day_id 1 ∷ over_id ∷ [])
    × (list_links id_before (roots_at rows_over (pos 5)) ≡ true)
    × (timeline_of rows_over source
    ≡ record { span = morning; version = pos 9; ids = day_id 0 ∷ day_id 1 ∷ [] }
    ∷ record { span = hour; version = pos 10; ids = over_id ∷ [] }
    ∷ record { span = rest_of_day; version = pos 9; ids = day_id 0 ∷ day_id 1 ∷ [] }
    ∷ [])
    × (list_links is_after (timeline_of rows_over source) ≡ true)
    × (list_links is_next_chunk (chunk_parts rows_over source) ≡ true)
    × (list_links is_next_part (contents_of rows_over source) ≡ true)

-- ---- what is read

-- in id order, each once, whatever the order of the rows and however many have the root
abbrev pub ReadInOrder : Type 0
ReadInOrder =
    (to_replace (used_row (hour_id 1) (hour_id 1) 1 ∷ rows_before) before (record replacing { since = 2 }) ≡ hour_id 0 ∷ hour_id 1 ∷ [])
    × (list_links id_before (to_replace (used_row (hour_id 1) (hour_id 1) 1 ∷ rows_before) before (record replacing { since = 2 })) ≡ true)

-- ---- who is answered

-- a task has the replacing lock of the day
abbrev pub replacing_book : Book
replacing_book = record waiting_book {
  tasks = r_row ∷ [];
  posses = replacing ∷ [];
  chunks = chunks_before;
  segments = rows_before;
  pendings = [];
  upgrades = upgrades;
  publications = before;
}

-- a lock of the hour that the task lost
abbrev pub lost_hour : PosseRow
lost_hour = record replacing { number = 3; span = hour; revoked = true }

abbrev pub ask : Extent → Command
ask span = Commands.ToReplace (codes "r") span

-- it may ask of the morning, is answered for the day, and nothing changes; of a span that isn't in the day it is refused, and of the hour where it lost a lock there
abbrev pub AskingOfTheDay : Type 0
AskingOfTheDay =
    MayAsk replacing_book (codes "r") morning replacing
    × (answer replacing_book (ask morning) ≡ Replies.ToReplace (hour_id 0 ∷ []))
    × (changes replacing_book (ask morning) ≡ false)
    × (next replacing_book (ask morning) ≡ replacing_book)
    × (answer replacing_book (ask (record { start = pos 20; end = pos 30 })) ≡ Replies.Refused (Refusals.LockMissing (record { start = pos 20; end = pos 30 })))
    × (answer (record replacing_book { posses = replacing ∷ lost_hour ∷ [] }) (ask hour) ≡ Replies.Refused (Refusals.LockRevoked 3))
    × (answer (record replacing_book { posses = replacing ∷ lost_hour ∷ [] }) (ask morning) ≡ Replies.ToReplace (hour_id 0 ∷ []))

-- ---- publications

-- they stand behind those that are there, and nothing else becomes of them
abbrev pub PublicationsOfTheHour : Type 0
PublicationsOfTheHour =
    ((next waiting_book append_it).publications ≡ publication_of PubKinds.Append p_row [] (appending (hour_id 0 ∷ []) None) ∷ [])
    × ((next (next waiting_book append_it) reset_nothing).publications ≡ (next waiting_book append_it).publications ++ reset_publication source (codes "t") [] ∷ [])
    × ((book_after waiting_book (append_it ∷ reset_nothing ∷ Commands.Unlock (codes "p") 1 ∷ [])).publications ≡ publication_of PubKinds.Append p_row [] (appending (hour_id 0 ∷ []) None) ∷ reset_publication source (codes "t") [] ∷ [])

-- ---- allocations and appends

-- a request with a sequence of its own
abbrev pub ask_new : Command
ask_new = Commands.Allocate (codes "p") LockKinds.Append (codes "s2") None (pos 5) Granularities.Hour (pos 9)

-- it is answered the next part, and a pending has that id
abbrev pub NewPendingOfTheHour : Type 0
NewPendingOfTheHour =
    (answer waiting_book ask_new ≡ Replies.Allocate (hour_id 1) 1 [])
    × IsRootPending (next waiting_book ask_new) (hour_id 1) 1

abbrev pub the_pending : PendingRow
the_pending = record { id = hour_id 0; root = hour_id 0; posse = 1; sequence = codes "s"; previous = None }

-- a member may append it, and where its append is refused it is for another id
abbrev pub MemberAppends : Type 0
MemberAppends =
    In the_pending waiting_book.pendings
    × (is_root the_pending ≡ true)
    × (is_member_of (posse_of 1 waiting_book.posses) (codes "p") ≡ true)
    × (append_fault waiting_book.posses waiting_book.pendings (codes "p") (hour_id 0 ∷ []) ≡ None)
    × (answer waiting_book append_it ≡ Replies.Append 0)
    × (answer waiting_book (Commands.Append (codes "p") (hour_id 0 ∷ hour_id 5 ∷ []) None) ≡ Replies.Refused (Refusals.NotAllocated (hour_id 5)))
