-- What the worked cases share: their commands keep their form, so the sequences of their books are in line.
use Rattle.std.proofs.Common.{◌≡◌, ℕ, ◌<◌, ◌^◌, true, ◌∷◌, [], bytes_eq, refl}
use Rattle.std.proofs.lemmas.Bool.{false≢true}
use Rattle.std.specs.Fmt.{digits}
use Rattle.std.specs.Str.{chars, is_utf8}
use lib.Utf8.{encode}
use Rattle.book_rows.specs.SequenceRules.{IsOwn}
use Rattle.book_rows.specs.Sequences.{partitions_of}
use Rattle.book_rows.specs.declared.rows.SequenceRow.{SequenceRow}
use Rattle.laws_locks.specs.LockShape.{AreTaskRows}
use Rattle.book_rows.specs.Form.{AllKeepForm}
use Rattle.laws_sequences.specs.Links.{HasLinks}
use Rattle.laws_sequences.specs.NameLaws.{IsKey}
use Rattle.cases_streams.specs.SequenceScenes.{AreSeenLinked, closed_row, first_closed, first_published, other_row, published_row, reading_row, rows, second_opened, source}
use Rattle.scenes.specs.Script.{after}
use Rattle.scenes.specs.Supervising.{supervisor}
use Rattle.laws_sequences.proofs.Reaching.{links_stay}

pub forms_closed : AllKeepForm first_closed
unfolding digits chars is_utf8 encode
forms_closed = refl

pub forms_opened : AllKeepForm second_opened
unfolding digits chars is_utf8 encode
forms_opened = refl

pub forms_published : AllKeepForm first_published
unfolding digits chars is_utf8 encode
forms_published = refl

pub links_closed : HasLinks (after first_closed)
links_closed = links_stay first_closed forms_closed

pub links_opened : HasLinks (after second_opened)
links_opened = links_stay second_opened forms_opened

pub links_published : HasLinks (after first_published)
links_published = links_stay first_published forms_published

pub key : (g i : ℕ) → g < 2 ^ 64 → i < 2 ^ 64 → IsKey source g i
key g i a b = record { source_is = refl; group_fits = a; index_fits = b }

-- ---- rows

-- its offsets are those of its group's partitions
abbrev pub OwnRow : SequenceRow → Type 0
OwnRow u = bytes_eq u.source supervisor.source ≡ true → IsOwn (partitions_of supervisor u.group) u

pub own_closed : OwnRow closed_row
own_closed e = record { starts = refl; ends = λ x. refl }

pub own_other : OwnRow other_row
own_other e = record { starts = refl; ends = λ x. absurd (false≢true x) }

pub own_reading : OwnRow reading_row
own_reading e = record { starts = refl; ends = λ x. absurd (false≢true x) }

pub own_published : OwnRow published_row
own_published e = record { starts = refl; ends = λ x. absurd (false≢true x) }

-- ---- what is seen

pub seen_opened : AreSeenLinked (after second_opened).offsets rows (closed_row ∷ reading_row ∷ []) (other_row ∷ [])
unfolding digits
seen_opened = (refl, refl, (refl, (refl, refl, refl)), (refl, refl), (own_closed, (own_other, (own_reading, tt))))

pub seen_published : AreSeenLinked (after first_published).offsets (after first_published).sequences (reading_row ∷ []) (other_row ∷ [])
unfolding digits
seen_published = (refl, refl, (refl, refl), (refl, refl), (own_published, (own_other, (own_reading, tt))))

pub rows_opened : AreTaskRows (after second_opened).tasks
unfolding digits chars is_utf8 encode
rows_opened = record { rows = refl; keys = ((refl, (refl, (refl, (refl, (refl, tt))))), ((refl, (refl, (refl, (refl, tt)))), ((refl, (refl, (refl, tt))), ((refl, (refl, tt)), ((refl, tt), (tt, tt)))))) }
