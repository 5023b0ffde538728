-- Worked cases of the small changes of sequences: each begins with the linked sequences of the book in which the second has opened, and
-- its change leaves them linked.
use Rattle.std.specs.Prelude.{◌∷◌, ◌≡◌, List, [], codes, map, ℕ}
use Rattle.book_rows.specs.Lists.{In}
use Rattle.book_rows.specs.Offsets.{advance, reset_to}
use Rattle.book_rows.specs.Reports.{ended, reported}
use Rattle.book_rows.specs.SequenceRules.{Chain}
use Rattle.book_rows.specs.Sequences.{abandoned, dropped_sequence, name_of, partitions_of, positions, published}
use Rattle.book_rows.specs.Shape.{AreDistinct, same_supervisor}
use Rattle.book_rows.specs.Ticks.{Ticking, nothing_ticked, stopped, ticked, with_opened}
use Rattle.book_rows.specs.declared.kinds.SeqState.TheVariants as States
use Rattle.book_rows.specs.declared.rows.OffsetRow.{OffsetRow}
use Rattle.book_rows.specs.declared.rows.Report.{Report}
use Rattle.book_rows.specs.declared.rows.SequenceRow.{SequenceRow}
use Rattle.book_rows.specs.declared.rows.SupervisorRow.{SupervisorRow}
use Rattle.laws_sequences.specs.Links.{AreLinked}
use Rattle.laws_sequences.specs.MoveLaws.{IsTurn}
use Rattle.laws_sequences.specs.NameLaws.{IsKey}
use Rattle.cases_streams.specs.SequenceScenes.{AreSeenLinked, closed_row, first_closed, name, other_row, published_row, ranges_to, reading_row, replica, rows, second_opened, source, stream}
use Rattle.scenes.specs.Script.{after}
use Rattle.scenes.specs.Supervising.{first_group_at, minutes_later, supervisor}

-- nothing is stored yet
abbrev pub stored : List OffsetRow
stored = (after second_opened).offsets

abbrev pub supervisors : List SupervisorRow
supervisors = supervisor ∷ []

abbrev pub paused : SequenceRow → SequenceRow
paused u = record u { state = States.Paused }

-- the second group's reading sequence pauses after its hour
abbrev pub PauseIsSeen : Type 0
PauseIsSeen =
    AreLinked stored supervisors rows
    × (map (stopped supervisor 1 (minutes_later 60)) rows ≡ closed_row ∷ paused other_row ∷ reading_row ∷ [])
    × AreSeenLinked stored (map (stopped supervisor 1 (minutes_later 60)) rows) (closed_row ∷ reading_row ∷ []) (paused other_row ∷ [])

abbrev pub told : ℕ → Report
told number = record { task = replica 0 1 number; offsets = first_group_at 11 9 }

abbrev pub paused_row : SequenceRow
paused_row = record reading_row { state = States.Paused; reports = told 0 ∷ [] }

abbrev pub closed_now : SequenceRow
closed_now = record reading_row { state = States.Closed; closed = minutes_later 2; ends = first_group_at 11 9; reports = told 0 ∷ told 1 ∷ [] }

-- a replica of the reading sequence reports, and then the other
abbrev pub ReportIsSeen : Type 0
ReportIsSeen =
    AreLinked stored supervisors rows
    × (map (reported (name 0 1) (told 0) (minutes_later 2)) rows ≡ closed_row ∷ other_row ∷ paused_row ∷ [])
    × AreSeenLinked stored (closed_row ∷ other_row ∷ paused_row ∷ []) (closed_row ∷ paused_row ∷ []) (other_row ∷ [])
    × (map (reported (name 0 1) (told 1) (minutes_later 2)) (closed_row ∷ other_row ∷ paused_row ∷ []) ≡ closed_row ∷ other_row ∷ closed_now ∷ [])
    × AreSeenLinked stored (closed_row ∷ other_row ∷ closed_now ∷ []) (closed_row ∷ closed_now ∷ []) (other_row ∷ [])

abbrev pub left_row : SequenceRow
left_row = record closed_row { live = replica 0 0 1 ∷ [] }

abbrev pub gone : SequenceRow → SequenceRow
gone u = record u { state = States.Abandoned; live = [] }

-- a replica of the closed sequence ends, and then the other, which abandons it and the later one
abbrev pub EndIsSeen : Type 0
EndIsSeen =
    AreLinked stored supervisors rows
    × ((ended (name 0 0) (replica 0 0 0) (minutes_later 2) rows).sequences ≡ left_row ∷ other_row ∷ reading_row ∷ [])
    × AreSeenLinked stored (left_row ∷ other_row ∷ reading_row ∷ []) (left_row ∷ reading_row ∷ []) (other_row ∷ [])
    × ((ended (name 0 0) (replica 0 0 1) (minutes_later 2) (left_row ∷ other_row ∷ reading_row ∷ [])).sequences ≡ gone closed_row ∷ other_row ∷ gone reading_row ∷ [])
    × AreSeenLinked stored (gone closed_row ∷ other_row ∷ gone reading_row ∷ []) [] (other_row ∷ [])

-- the first group's sequences are abandoned from the second on
abbrev pub AbandoningIsSeen : Type 0
AbandoningIsSeen =
    AreLinked stored supervisors rows
    × (map (abandoned source 0 1) rows ≡ closed_row ∷ other_row ∷ gone reading_row ∷ [])
    × AreSeenLinked stored (map (abandoned source 0 1) rows) (closed_row ∷ []) (other_row ∷ [])

abbrev pub advanced : List OffsetRow
advanced = advance stored source stream (ranges_to 10 9).parts

-- the closed sequence, whose turn it is, is published: the next one starts at what is stored then
abbrev pub PublicationIsSeen : Type 0
PublicationIsSeen =
    AreDistinct same_supervisor supervisors
    × In supervisor supervisors
    × ((v : SequenceRow) → In v rows → IsKey v.source v.group v.index)
    × IsTurn supervisor rows closed_row (ranges_to 10 9).parts
    × AreLinked stored supervisors rows
    × (map (published (name_of closed_row)) rows ≡ published_row ∷ other_row ∷ reading_row ∷ [])
    × (positions advanced source stream (partitions_of supervisor 0) ≡ first_group_at 10 9)
    × AreSeenLinked advanced (map (published (name_of closed_row)) rows) (reading_row ∷ []) (other_row ∷ [])

-- the stream is reset
abbrev pub ResetIsSeen : Type 0
ResetIsSeen =
    AreLinked stored supervisors rows
    × (map (dropped_sequence source) rows ≡ gone closed_row ∷ gone other_row ∷ gone reading_row ∷ [])
    × (positions (reset_to stored source stream (first_group_at 5 5)) source stream (partitions_of supervisor 0) ≡ first_group_at 5 5)
    × AreSeenLinked (reset_to stored source stream (first_group_at 5 5)) (map (dropped_sequence source) rows) [] []

-- a stream is reset that the supervisor doesn't read
abbrev pub OtherResetIsSeen : Type 0
OtherResetIsSeen =
    AreLinked stored supervisors rows
    × (positions (reset_to stored source (codes "other") (first_group_at 5 5)) source stream (partitions_of supervisor 0) ≡ first_group_at 0 0)
    × AreSeenLinked (reset_to stored source (codes "other") (first_group_at 5 5)) rows (closed_row ∷ reading_row ∷ []) (other_row ∷ [])

-- where the first group has a closed sequence alone, another opens at its ends
abbrev pub before : Ticking
before = record { rows = closed_row ∷ other_row ∷ []; told = nothing_ticked }

abbrev pub OpeningIsSeen : Type 0
OpeningIsSeen =
    ((after first_closed).sequences ≡ closed_row ∷ other_row ∷ [])
    × AreDistinct same_supervisor supervisors
    × In supervisor supervisors
    × AreLinked stored supervisors before.rows
    × ((with_opened stored supervisor 0 (minutes_later 1) before).rows ≡ rows)
    × AreSeenLinked stored (with_opened stored supervisor 0 (minutes_later 1) before).rows (closed_row ∷ reading_row ∷ []) (other_row ∷ [])

abbrev pub third_row : SequenceRow
third_row = record reading_row { index = 2; opened = minutes_later 60; starts = first_group_at 0 0; live = replica 0 2 0 ∷ replica 0 2 1 ∷ [] }

-- a tick an hour later: the first group's are late and go, another opens, and the second group's pauses
abbrev pub TickIsSeen : Type 0
TickIsSeen =
    AreDistinct same_supervisor supervisors
    × AreLinked stored supervisors rows
    × ((ticked stored (minutes_later 60) supervisors rows).rows ≡ gone closed_row ∷ paused other_row ∷ gone reading_row ∷ third_row ∷ [])
    × (positions stored source stream (partitions_of supervisor 0) ≡ first_group_at 0 0)
    × Chain (first_group_at 0 0) (third_row ∷ [])
    × Chain (positions stored source stream (partitions_of supervisor 1)) (paused other_row ∷ [])
