-- The laws of the small changes.
use Rattle.book_rows.specs.Reports.{reported}
use Rattle.book_rows.specs.Ticks.{stopped}
use Rattle.laws_locks.proofs.Lists.{all_from_In}
use Rattle.laws_sequences.specs.MoveLaws.{AbandoningKeepsLinked, EndKeepsLinked, OpeningKeepsLinked, OtherResetKeepsLinked, PauseKeepsLinked, PublicationKeepsLinked, ReportKeepsLinked, ResetKeepsLinked, TickKeepsLinked}
use Rattle.laws_sequences.proofs.Abandoned.{linked_abandoned, linked_dropped, linked_reset}
use Rattle.laws_sequences.proofs.Keys.{HasKey}
use Rattle.laws_sequences.proofs.KeptLinks.{keeps_reported, keeps_stopped, linked_map}
use Rattle.laws_sequences.proofs.PublishedRows.{linked_published}
use Rattle.laws_sequences.proofs.TickedRows.{linked_ended, linked_opened_where, linked_ticked}

pub pause_keeps_linked : PauseKeepsLinked
pause_keeps_linked s group now = linked_map (stopped s group now) (keeps_stopped s group now)

pub report_keeps_linked : ReportKeepsLinked
report_keeps_linked name new clock = linked_map (reported name new clock) (keeps_reported name new clock)

pub end_keeps_linked : EndKeepsLinked
end_keeps_linked = linked_ended

pub abandoning_keeps_linked : AbandoningKeepsLinked
abandoning_keeps_linked = linked_abandoned

pub publication_keeps_linked : PublicationKeepsLinked
publication_keeps_linked rows ss us s u parts distinct i keys turn h = linked_published rows ss us s u parts distinct i (all_from_In HasKey us keys) turn h

pub reset_keeps_linked : ResetKeepsLinked
reset_keeps_linked = linked_dropped

pub other_reset_keeps_linked : OtherResetKeepsLinked
other_reset_keeps_linked = linked_reset

pub opening_keeps_linked : OpeningKeepsLinked
opening_keeps_linked rows ss s group now k distinct i h = linked_opened_where rows ss distinct s group now k i h

pub tick_keeps_linked : TickKeepsLinked
tick_keeps_linked rows ss now distinct us h = linked_ticked rows ss distinct now us h
