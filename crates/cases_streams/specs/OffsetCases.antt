-- Cases in which the premises of the laws are met, with what the laws say of them.
use Rattle.std.specs.Prelude.{◌++◌, ◌∷◌, ◌≡◌, Bool, List, None, Some, [], false, map, not, pos, true, ℕ}
use Rattle.std.specs.List.{list_all}
use Rattle.book_rows.specs.Answer.{book_after, changes, empty_book, next}
use Rattle.book_rows.specs.Form.{KeepsForm, keeps_form}
use Rattle.book_rows.specs.Lists.{In, gathered}
use Rattle.book_rows.specs.Offsets.{compare, compared, stored}
use Rattle.book_rows.specs.Outcome.{is_full, task_of}
use Rattle.book_rows.specs.Publications.{appending, drop_publication, publication_of, reset_publication}
use Rattle.book_rows.specs.Shape.{HasShape}
use Rattle.book_rows.specs.Tiles.{ends_with, is_reset, run_of, start_in}
use Rattle.book_rows.specs.declared.commands.Command.{Command}
use Rattle.book_rows.specs.declared.commands.Command.TheVariants as Commands
use Rattle.book_rows.specs.declared.kinds.Table.TheVariants as Tables
use Rattle.book_rows.specs.declared.kinds.TaskKind.TheVariants as TaskKinds
use Rattle.book_rows.specs.declared.kinds.TaskStatus.TheVariants as Statuses
use Rattle.book_rows.specs.declared.replies.Refusal.TheVariants as Refusals
use Rattle.book_rows.specs.declared.rows.Book.{Book}
use Rattle.book_rows.specs.declared.rows.OffsetRow.{OffsetRow}
use Rattle.book_rows.specs.declared.rows.Publication.{Publication}
use Rattle.book_rows.specs.declared.rows.Range.{Range}
use Rattle.book_rows.specs.declared.rows.Ranges.{Ranges}
use Rattle.laws_offsets.specs.Comparing.{AllGoOn, GoesOn, IsWhy}
use Rattle.laws_offsets.specs.Coverage.{part_in, position, range_of, resets, times}
use Rattle.laws_offsets.specs.Effects.{publish_of, publishes_nothing}
use Rattle.laws_offsets.specs.OffsetShape.{HasNames, HasOffsetShape}
use Rattle.laws_offsets.specs.Tiling.{Tiles}
use Rattle.scenes.specs.Script.{w, t, p, now, day}
use Rattle.scenes.specs.Publishing.{range, point, reset}
use Rattle.scenes.specs.Rows.{p_row}
use Rattle.book_rows.specs.declared.kinds.PubKind.TheVariants as PubKinds

abbrev pub ranges : List Range → Ranges
ranges parts = record { stream = t; parts = parts }

-- the task publishes ranges and no ids
abbrev pub read : List Range → Command
read parts = Commands.Append p [] (Some (ranges parts))

-- ---- a book: two partitions are read, the stream is reset, and is read on

abbrev pub before_reset : List Command
before_reset = Commands.Submit p p w TaskKinds.Realtime 75 [] ∷ Commands.Manage now ∷ read (range 0 0 10 ∷ range 1 5 20 ∷ []) ∷ read (range 0 10 12 ∷ []) ∷ []

abbrev pub after_reset : List Command
after_reset = reset (point 0 4 ∷ []) ∷ read (range 0 4 7 ∷ range 2 1 3 ∷ []) ∷ Commands.Drop w day ∷ read (range 0 7 12 ∷ []) ∷ []

abbrev pub commands : List Command
commands = before_reset ++ after_reset

abbrev pub book_before : Book
book_before = book_after empty_book before_reset

abbrev pub book : Book
book = book_after empty_book commands

abbrev pub row : ℕ → ℕ → OffsetRow
row partition offset = record { source = w; stream = t; partition = partition; offset = offset }

-- ---- a publish that goes on from what is stored, and one that doesn't: it starts below it

abbrev pub more : List Range
more = range 0 12 15 ∷ range 3 8 8 ∷ []

abbrev pub goes_on : Command
goes_on = read more

abbrev pub falls_back : Command
falls_back = read (range 0 11 15 ∷ [])

-- ---- tiling: commands that keep their form lead to the book, whose ranges end at what is stored

-- nothing is published in the empty book, and nothing is stored
abbrev pub EmptyIsTiled : Type 0
EmptyIsTiled =
    (run_of w t 0 empty_book.publications ≡ record { from = None; ranges = [] })
    × (ends_with None [] ≡ Some None)
    × (stored empty_book.offsets w t 0 ≡ None)

-- a partition that the reset lists, one that it doesn't and that is read again, and one that isn't
abbrev pub BookTiles : Type 0
BookTiles =
    (list_all keeps_form commands ≡ true)
    × (run_of w t 0 book.publications ≡ record { from = Some 4; ranges = range 0 4 7 ∷ range 0 7 12 ∷ [] })
    × (ends_with (Some 4) (range 0 4 7 ∷ range 0 7 12 ∷ []) ≡ Some (Some 12))
    × (stored book.offsets w t 0 ≡ Some 12)
    × (run_of w t 1 book.publications ≡ record { from = None; ranges = [] })
    × (stored book.offsets w t 1 ≡ None)
    × (run_of w t 2 book.publications ≡ record { from = None; ranges = range 2 1 3 ∷ [] })
    × (stored book.offsets w t 2 ≡ Some 3)

-- ranges that leave a gap don't tile
abbrev pub GapEndsNowhere : Type 0
GapEndsNowhere = ends_with (Some 4) (range 0 4 7 ∷ range 0 8 12 ∷ []) ≡ None

-- after one publish more
abbrev pub TilesGoOn : Type 0
TilesGoOn =
    KeepsForm goes_on
    × Tiles book
    × (run_of w t 0 (next book goes_on).publications ≡ record { from = Some 4; ranges = range 0 4 7 ∷ range 0 7 12 ∷ range 0 12 15 ∷ [] })
    × (ends_with (Some 4) (range 0 4 7 ∷ range 0 7 12 ∷ range 0 12 15 ∷ []) ≡ Some (Some 15))
    × (stored (next book goes_on).offsets w t 0 ≡ Some 15)

-- ---- each offset once: from 4, where the reset begins, up to 12; there is nothing of partition 1

abbrev pub EachOffsetOnce : Type 0
EachOffsetOnce =
    (list_all keeps_form commands ≡ true)
    × Tiles book
    × (position (run_of w t 0 book.publications) ≡ Some 4)
    × (stored book.offsets w t 0 ≡ Some 12)
    × (times 3 (run_of w t 0 book.publications) ≡ 0)
    × (times 4 (run_of w t 0 book.publications) ≡ 1)
    × (times 6 (run_of w t 0 book.publications) ≡ 1)
    × (times 7 (run_of w t 0 book.publications) ≡ 1)
    × (times 11 (run_of w t 0 book.publications) ≡ 1)
    × (times 12 (run_of w t 0 book.publications) ≡ 0)
    × (position (run_of w t 1 book.publications) ≡ None)
    × (stored book.offsets w t 1 ≡ None)
    × (position (run_of w t 2 book.publications) ≡ Some 1)
    × (stored book.offsets w t 2 ≡ Some 3)

abbrev pub no_resets : List Publication → Bool
no_resets ms = list_all (λ m. not (resets w t m)) ms

-- what was published after the reset
abbrev pub since_reset : List Publication
since_reset =
    publication_of PubKinds.Append p_row [] (appending [] (Some (ranges (range 0 4 7 ∷ range 2 1 3 ∷ []))))
    ∷ drop_publication w day
    ∷ publication_of PubKinds.Append p_row [] (appending [] (Some (ranges (range 0 7 12 ∷ []))))
    ∷ []

abbrev pub the_reset : Publication
the_reset = reset_publication w t (point 0 4 ∷ [])

-- all that the book has published
abbrev pub published : List Publication
published = publication_of PubKinds.Append p_row [] (appending [] (Some (ranges (range 0 0 10 ∷ range 1 5 20 ∷ [])))) ∷ publication_of PubKinds.Append p_row [] (appending [] (Some (ranges (range 0 10 12 ∷ [])))) ∷ the_reset ∷ since_reset

-- the book before has no reset of the stream, and its run has all ranges
abbrev pub NoResetIsFound : Type 0
NoResetIsFound =
    (no_resets book_before.publications ≡ true)
    × (gathered (range_of w t 0) book_before.publications ≡ range 0 0 10 ∷ range 0 10 12 ∷ [])
    × (run_of w t 0 book_before.publications ≡ record { from = None; ranges = range 0 0 10 ∷ range 0 10 12 ∷ [] })

-- the book has one, with none after it, and its run has the ranges since, from where the reset says
abbrev pub ResetsAreFound : Type 0
ResetsAreFound =
    (resets w t the_reset ≡ true)
    × (no_resets since_reset ≡ true)
    × (book.publications ≡ book_before.publications ++ the_reset ∷ since_reset)
    × (start_in (part_in 0 the_reset.ranges) ≡ Some 4)
    × (gathered (range_of w t 0) since_reset ≡ range 0 4 7 ∷ range 0 7 12 ∷ [])
    × (run_of w t 0 book.publications ≡ record { from = Some 4; ranges = range 0 4 7 ∷ range 0 7 12 ∷ [] })

-- ---- comparing

-- three ranges go on, and no fault is found; one doesn't, and one is
abbrev pub FaultIsSeen : Type 0
FaultIsSeen =
    AllGoOn book.offsets w t (range 0 12 13 ∷ range 2 3 5 ∷ range 3 9 9 ∷ [])
    × (compare book.offsets w t (range 0 12 13 ∷ range 2 3 5 ∷ range 3 9 9 ∷ []) ≡ None)
    × (AllGoOn book.offsets w t (range 0 12 13 ∷ range 2 4 5 ∷ []) → ⊥)
    × (compare book.offsets w t (range 0 12 13 ∷ range 2 4 5 ∷ []) ≡ Some (Refusals.OffsetMismatch 2 3))

-- of three ranges the first goes on, the second starts above what is stored, and the third ends before it starts: the fault is
-- the second's; without the second it is the third's
abbrev pub FirstFaultIsTold : Type 0
FirstFaultIsTold =
    (compare book.offsets w t (range 0 12 13 ∷ range 2 4 5 ∷ range 3 9 8 ∷ []) ≡ Some (Refusals.OffsetMismatch 2 3))
    × AllGoOn book.offsets w t (range 0 12 13 ∷ [])
    × (stored book.offsets w t 2 ≡ Some 3)
    × IsWhy (Some 3) (range 2 4 5) (Refusals.OffsetMismatch 2 3)
    × (compare book.offsets w t (range 0 12 13 ∷ range 3 9 8 ∷ []) ≡ Some (Refusals.BadRange 3))
    × (stored book.offsets w t 3 ≡ None)
    × IsWhy None (range 3 9 8) (Refusals.BadRange 3)

-- ---- publishes

-- what changes by one that goes on, and what doesn't
abbrev pub PublishIsTaken : Type 0
PublishIsTaken =
    (publish_of goes_on ≡ Some (record { task = p; ranges = Some (ranges more) }))
    × (changes book goes_on ≡ true)
    × (task_of p book.tasks ≡ Some p_row)
    × (compared book.offsets w (Some (ranges more)) ≡ None)
    × (book.offsets ≡ row 0 12 ∷ row 2 3 ∷ [])
    × ((next book goes_on).offsets ≡ row 0 15 ∷ row 2 3 ∷ row 3 8 ∷ [])
    × (is_full Tables.Offsets (next book goes_on) ≡ false)
    × (book.publications ≡ published)
    × ((next book goes_on).publications ≡ published ++ publication_of PubKinds.Append p_row [] (appending [] (Some (ranges more))) ∷ [])
    × (is_reset (publication_of PubKinds.Append p_row [] (appending [] (Some (ranges more)))).kind ≡ false)
    × (book.tasks ≡ p_row ∷ [])
    × ((next book goes_on).tasks ≡ p_row ∷ [])
    × (book.supervisors ≡ [])
    × ((next book goes_on).supervisors ≡ [])

-- its ranges: one starts at what is stored, and nothing is stored where the other starts
abbrev pub RangesStartThere : Type 0
RangesStartThere =
    (publish_of goes_on ≡ Some (record { task = p; ranges = Some (ranges more) }))
    × (task_of p book.tasks ≡ Some p_row)
    × (changes book goes_on ≡ true)
    × In (range 0 12 15) more
    × (stored book.offsets w t 0 ≡ Some 12)
    × GoesOn (Some 12) (range 0 12 15)
    × In (range 3 8 8) more
    × (stored book.offsets w t 3 ≡ None)
    × GoesOn None (range 3 8 8)

-- what is stored after it: the ends of its ranges, and what was, of another partition, stream or source
abbrev pub EndsAreStored : Type 0
EndsAreStored =
    KeepsForm goes_on
    × (publish_of goes_on ≡ Some (record { task = p; ranges = Some (ranges more) }))
    × (task_of p book.tasks ≡ Some p_row)
    × (changes book goes_on ≡ true)
    × (stored (next book goes_on).offsets w t 0 ≡ Some 15)
    × (stored (next book goes_on).offsets w t 2 ≡ Some 3)
    × (stored (next book goes_on).offsets w t 3 ≡ Some 8)
    × (stored (next book goes_on).offsets w p 0 ≡ None)
    × (stored (next book goes_on).offsets p t 0 ≡ None)

abbrev pub PublishIsRefused : Type 0
PublishIsRefused =
    (publish_of falls_back ≡ Some (record { task = p; ranges = Some (ranges (range 0 11 15 ∷ [])) }))
    × (task_of p book.tasks ≡ Some p_row)
    × (compared book.offsets w (Some (ranges (range 0 11 15 ∷ []))) ≡ Some (Refusals.OffsetMismatch 0 12))
    × (changes book falls_back ≡ false)
    × (next book falls_back ≡ book)

-- ---- resets, a drop, and a command that does neither

abbrev pub again : Command
again = reset (point 2 9 ∷ [])

-- of another stream
abbrev pub elsewhere : Command
elsewhere = Commands.Reset w p (point 0 6 ∷ [])

abbrev pub ResetIsTaken : Type 0
ResetIsTaken =
    (changes book again ≡ true)
    × ((next book again).offsets ≡ row 2 9 ∷ [])
    × (is_full Tables.Offsets (next book again) ≡ false)
    × (book.publications ≡ published)
    × ((next book again).publications ≡ published ++ reset_publication w t (point 2 9 ∷ []) ∷ [])

-- what is stored after it, and after one of another stream
abbrev pub ListedIsStored : Type 0
ListedIsStored =
    KeepsForm again
    × (changes book again ≡ true)
    × (stored (next book again).offsets w t 0 ≡ None)
    × (stored (next book again).offsets w t 2 ≡ Some 9)
    × KeepsForm elsewhere
    × (changes book elsewhere ≡ true)
    × (stored (next book elsewhere).offsets w p 0 ≡ Some 6)
    × (stored (next book elsewhere).offsets w t 0 ≡ Some 12)
    × (stored (next book elsewhere).offsets w t 2 ≡ Some 3)

abbrev pub DropIsTaken : Type 0
DropIsTaken =
    (changes book (Commands.Drop w day) ≡ true)
    × (book.offsets ≡ row 0 12 ∷ row 2 3 ∷ [])
    × ((next book (Commands.Drop w day)).offsets ≡ row 0 12 ∷ row 2 3 ∷ [])
    × (book.publications ≡ published)
    × ((next book (Commands.Drop w day)).publications ≡ published ++ drop_publication w day ∷ [])
    × (book.tasks ≡ p_row ∷ [])
    × ((next book (Commands.Drop w day)).tasks ≡ p_row ∷ [])
    × (book.supervisors ≡ [])
    × ((next book (Commands.Drop w day)).supervisors ≡ [])

abbrev pub EndIsTaken : Type 0
EndIsTaken =
    (publishes_nothing (Commands.End p Statuses.Failed) ≡ true)
    × (changes book (Commands.End p Statuses.Failed) ≡ true)
    × (book.offsets ≡ row 0 12 ∷ row 2 3 ∷ [])
    × ((next book (Commands.End p Statuses.Failed)).offsets ≡ row 0 12 ∷ row 2 3 ∷ [])
    × (book.publications ≡ published)
    × ((next book (Commands.End p Statuses.Failed)).publications ≡ published)

-- ---- the shape

-- of the book, as a part of its whole shape
abbrev pub BookHasShape : Type 0
BookHasShape = HasShape book × HasOffsetShape book

-- of the book that commands reach, and after one publish more
abbrev pub ShapeGoesOn : Type 0
ShapeGoesOn =
    (list_all keeps_form commands ≡ true)
    × HasOffsetShape book
    × HasNames book
    × KeepsForm goes_on
    × HasOffsetShape (next book goes_on)

abbrev pub submits : Command
submits = Commands.Submit t t t TaskKinds.Batch 50 []

abbrev pub supervises : Command
supervises = Commands.Supervise t p 1 1 1 (pos 1000) (pos 1000)

-- a task and a supervisor more: their source is a name
abbrev pub NamesGoOn : Type 0
NamesGoOn =
    HasNames book
    × KeepsForm submits
    × (map (λ x. x.source) (next book submits).tasks ≡ w ∷ t ∷ [])
    × HasNames (next book submits)
    × KeepsForm supervises
    × (map (λ x. x.source) (next book supervises).supervisors ≡ t ∷ [])
    × HasNames (next book supervises)
