-- The worked cases of the small changes, computed.
use Rattle.std.proofs.Common.{arith, inl, inr, refl, subst, sym}
use Rattle.std.proofs.lemmas.Bool.{false≢true}
use Rattle.std.specs.Fmt.{digits}
use Rattle.book_rows.specs.Lists.{In}
use Rattle.book_rows.specs.declared.rows.SequenceRow.{SequenceRow}
use Rattle.laws_sequences.specs.Links.{AreLinked}
use Rattle.cases_streams.specs.MoveCases.{AbandoningIsSeen, EndIsSeen, OpeningIsSeen, OtherResetIsSeen, PauseIsSeen, PublicationIsSeen, ReportIsSeen, ResetIsSeen, TickIsSeen, before, closed_now, gone, left_row, paused, paused_row, stored, supervisors}
use Rattle.laws_sequences.specs.NameLaws.{IsKey}
use Rattle.cases_streams.specs.SequenceScenes.{closed_row, other_row, reading_row, rows}
use Rattle.cases_streams.proofs.WorkedRows.{OwnRow, key, links_closed, links_opened, own_closed, own_other, own_published, own_reading}

linked : AreLinked stored supervisors rows
unfolding digits
linked = links_opened.linked

own_paused : OwnRow (paused other_row)
own_paused e = record { starts = refl; ends = λ x. absurd (false≢true x) }

own_told : OwnRow paused_row
own_told e = record { starts = refl; ends = λ x. absurd (false≢true x) }

own_now : OwnRow closed_now
own_now e = record { starts = refl; ends = λ x. refl }

own_left : OwnRow left_row
own_left e = record { starts = refl; ends = λ x. refl }

own_first_gone : OwnRow (gone closed_row)
own_first_gone e = record { starts = refl; ends = λ x. absurd (false≢true x) }

own_other_gone : OwnRow (gone other_row)
own_other_gone e = record { starts = refl; ends = λ x. absurd (false≢true x) }

own_second_gone : OwnRow (gone reading_row)
own_second_gone e = record { starts = refl; ends = λ x. absurd (false≢true x) }

pub pause_is_seen : PauseIsSeen
unfolding digits
pause_is_seen = (linked, refl, (refl, refl, (refl, (refl, refl, refl)), (refl, refl), (own_closed, (own_paused, (own_reading, tt)))))

pub report_is_seen : ReportIsSeen
unfolding digits
report_is_seen = (
  linked,
  refl,
  (refl, refl, (refl, (refl, refl, refl)), (refl, refl), (own_closed, (own_other, (own_told, tt)))),
  refl,
  (refl, refl, (refl, (refl, refl, refl)), (refl, refl), (own_closed, (own_other, (own_now, tt)))),
)

pub end_is_seen : EndIsSeen
unfolding digits
end_is_seen = (
  linked,
  refl,
  (refl, refl, (refl, (refl, refl, refl)), (refl, refl), (own_left, (own_other, (own_reading, tt)))),
  refl,
  (refl, refl, (refl, tt), (refl, refl), (own_first_gone, (own_other, (own_second_gone, tt)))),
)

pub abandoning_is_seen : AbandoningIsSeen
unfolding digits
abandoning_is_seen = (linked, refl, (refl, refl, (refl, refl), (refl, refl), (own_closed, (own_other, (own_second_gone, tt)))))

each_key : (v : SequenceRow) → In v rows → IsKey v.source v.group v.index
each_key v (inl same) = subst (λ (x : SequenceRow). IsKey x.source x.group x.index) (sym same) (key 0 0 (omega arith) (omega arith))
each_key v (inr (inl same)) = subst (λ (x : SequenceRow). IsKey x.source x.group x.index) (sym same) (key 1 0 (omega arith) (omega arith))
each_key v (inr (inr (inl same))) = subst (λ (x : SequenceRow). IsKey x.source x.group x.index) (sym same) (key 0 1 (omega arith) (omega arith))
each_key v (inr (inr (inr i))) = absurd i

pub publication_is_seen : PublicationIsSeen
unfolding digits
publication_is_seen = (
  (tt, tt),
  inl refl,
  each_key,
  record { first = refl; closed = refl; ranges = refl },
  linked,
  refl,
  refl,
  (refl, refl, (refl, refl), (refl, refl), (own_published, (own_other, (own_reading, tt)))),
)

pub reset_is_seen : ResetIsSeen
unfolding digits
reset_is_seen = (linked, refl, refl, (refl, refl, (refl, tt), (refl, tt), (own_first_gone, (own_other_gone, (own_second_gone, tt)))))

pub other_reset_is_seen : OtherResetIsSeen
unfolding digits
other_reset_is_seen = (linked, refl, (refl, refl, (refl, (refl, refl, refl)), (refl, refl), (own_closed, (own_other, (own_reading, tt)))))

linked_before : AreLinked stored supervisors before.rows
unfolding digits
linked_before = links_closed.linked

pub opening_is_seen : OpeningIsSeen
unfolding digits
opening_is_seen = (refl, (tt, tt), inl refl, linked_before, refl, (refl, refl, (refl, (refl, refl, refl)), (refl, refl), (own_closed, (own_other, (own_reading, tt)))))

pub tick_is_seen : TickIsSeen
unfolding digits
tick_is_seen = ((tt, tt), linked, refl, refl, refl, refl)
