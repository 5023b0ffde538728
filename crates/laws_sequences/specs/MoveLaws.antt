-- The small changes of sequences of which the commands are made: each keeps that they go on from one another.
use Rattle.std.specs.Prelude.{◌&&◌, ◌≡◌, List, Some, bytes_eq, false, map, true, ℕ, ℤ}
use Rattle.std.specs.List.{AllByRecursion}
use Rattle.book_rows.specs.Lists.{In}
use Rattle.book_rows.specs.Offsets.{advance, reset_to}
use Rattle.book_rows.specs.Reports.{ended, reported}
use Rattle.book_rows.specs.Sequences.{abandoned, are_ranges, dropped_sequence, first_open, is_closed, name_of, published}
use Rattle.book_rows.specs.Shape.{AreDistinct, same_supervisor}
use Rattle.book_rows.specs.Ticks.{Ticking, stopped, ticked, with_opened}
use Rattle.book_rows.specs.declared.rows.Offset.{Offset}
use Rattle.book_rows.specs.declared.rows.OffsetRow.{OffsetRow}
use Rattle.book_rows.specs.declared.rows.Range.{Range}
use Rattle.book_rows.specs.declared.rows.Report.{Report}
use Rattle.book_rows.specs.declared.rows.SequenceRow.{SequenceRow}
use Rattle.book_rows.specs.declared.rows.SupervisorRow.{SupervisorRow}
use Rattle.laws_sequences.specs.Links.{AreLinked}
use Rattle.laws_sequences.specs.NameLaws.{IsKey}

-- linked sequences, changed so, are linked over the same offsets
abbrev pub KeepsLinked : (List SequenceRow → List SequenceRow) → Type 0
KeepsLinked change = (rows : List OffsetRow) (ss : List SupervisorRow) (us : List SequenceRow) → AreLinked rows ss us → AreLinked rows ss (change us)

abbrev pub PauseKeepsLinked : Type 0
PauseKeepsLinked = (s : SupervisorRow) (group : ℕ) (now : ℤ) → KeepsLinked (map (stopped s group now))

abbrev pub ReportKeepsLinked : Type 0
ReportKeepsLinked = (name : List ℕ) (new : Report) (clock : ℤ) → KeepsLinked (map (reported name new clock))

-- the end of a replica closes its sequence, or abandons it with the later ones
abbrev pub EndKeepsLinked : Type 0
EndKeepsLinked = (name task : List ℕ) (clock : ℤ) → KeepsLinked (λ us. (ended name task clock us).sequences)

abbrev pub AbandoningKeepsLinked : Type 0
AbandoningKeepsLinked = (source : List ℕ) (group from : ℕ) → KeepsLinked (map (abandoned source group from))

-- whose turn it is: the group's first unpublished sequence is closed, and the ranges are from its starts to its ends
pub record IsTurn (s : SupervisorRow) (us : List SequenceRow) (u : SequenceRow) (parts : List Range) : Type 0 where
  pub first : first_open s.source u.group us ≡ Some u
  pub closed : is_closed u ≡ true
  pub ranges : are_ranges u.starts u.ends parts ≡ true

-- its publication on the supervisor's stream
abbrev pub PublicationKeepsLinked : Type 0
PublicationKeepsLinked = (rows : List OffsetRow) (ss : List SupervisorRow) (us : List SequenceRow) (s : SupervisorRow) (u : SequenceRow) (parts : List Range) → AreDistinct same_supervisor ss → In s ss
    → ((v : SequenceRow) → In v us → IsKey v.source v.group v.index) → IsTurn s us u parts → AreLinked rows ss us → AreLinked (advance rows s.source s.stream parts) ss (map (published (name_of u)) us)

-- a reset of a source's stream abandons the source's sequences
abbrev pub ResetKeepsLinked : Type 0
ResetKeepsLinked = (source stream : List ℕ) (os : List Offset) (rows : List OffsetRow) (ss : List SupervisorRow) (us : List SequenceRow) → AreLinked rows ss us → AreLinked (reset_to rows source stream os) ss (map (dropped_sequence source) us)

-- one of a stream that no supervisor of the source reads changes nothing of them
abbrev pub OtherResetKeepsLinked : Type 0
OtherResetKeepsLinked = (source stream : List ℕ) (os : List Offset) (rows : List OffsetRow) (ss : List SupervisorRow) (us : List SequenceRow) → AllByRecursion (λ s. (bytes_eq source s.source && bytes_eq stream s.stream) ≡ false) ss
    → AreLinked rows ss us → AreLinked (reset_to rows source stream os) ss us

-- where no sequence of a group reads or is paused, one is opened
abbrev pub OpeningKeepsLinked : Type 0
OpeningKeepsLinked = (rows : List OffsetRow) (ss : List SupervisorRow) (s : SupervisorRow) (group : ℕ) (now : ℤ) (k : Ticking) → AreDistinct same_supervisor ss → In s ss → AreLinked rows ss k.rows → AreLinked rows ss (with_opened rows s group now k).rows

-- a whole tick: all groups of all supervisors
abbrev pub TickKeepsLinked : Type 0
TickKeepsLinked = (rows : List OffsetRow) (ss : List SupervisorRow) (now : ℤ) → AreDistinct same_supervisor ss → (us : List SequenceRow) → AreLinked rows ss us → AreLinked rows ss (ticked rows now ss us).rows
