-- The worked cases of what the publishes of replicas are answered, computed.
use Rattle.std.proofs.Common.{◌≡◌, ◌++◌, ◌∷◌, List, [], Some, ap, codes, inl, inr, refl, subst, sym, true}
use Rattle.std.proofs.lemmas.Bool.{false≢true}
use Rattle.std.specs.Fmt.{digits}
use Rattle.std.specs.Str.{chars, is_utf8}
use lib.Utf8.{encode}
use Rattle.book_rows.specs.Lists.{In}
use Rattle.book_rows.specs.Names.{begins_with, sup_prefix}
use Rattle.book_rows.specs.SequenceRules.{IsGroupOfSequence, IsPublishedOnce, has_ranges_of, is_of_sequence}
use Rattle.book_rows.specs.declared.kinds.TaskStatus.TheVariants as Statuses
use Rattle.book_rows.specs.declared.rows.Publication.{Publication}
use Rattle.book_rows.specs.declared.rows.SequenceRow.{SequenceRow}
use Rattle.book_rows.specs.Form.{AllKeepForm}
use Rattle.laws_sequences.specs.Links.{ArePublished, HasLinks}
use Rattle.cases_streams.specs.PublishCases.{FirstIsNext, LineKnowsNoStream, NumberIsItsPlace, NumberIsOne, PublishesAreAnswered, RangesAreItsOwn, ReachedIsSeen, RepeatIsOnStream, StreamIsItsOwn, between, closed, committed, first, later, odd, repeated_elsewhere, second}
use Rattle.laws_sequences.specs.PublishLaws.{IsNext, IsPublishBy}
use Rattle.cases_streams.specs.SequenceScenes.{closed_row, first_published, other_row, publication, published_row, ranges_on, ranges_to, reading_row, replica, task_row}
use Rattle.laws_sequences.proofs.Reaching.{links_stay}
use Rattle.laws_sequences.proofs.StreamsKept.{streams_stay}
use Rattle.cases_streams.proofs.WorkedRows.{forms_published, links_opened, links_published}
use Rattle.scenes.specs.Supervising.{supervisor}

by_first : IsPublishBy closed closed_row first
unfolding digits
by_first = record { publish = record { task = replica 0 0 1; ranges = Some (ranges_to 10 9) }; is_publish = refl; task = task_row 0 0 1 Statuses.Running; found = refl; among = inl refl; group_is = refl }

by_second : IsPublishBy committed published_row second
unfolding digits
by_second = record { publish = record { task = replica 0 0 0; ranges = Some (ranges_to 10 9) }; is_publish = refl; task = task_row 0 0 0 Statuses.Running; found = refl; among = inl refl; group_is = refl }

by_second_later : IsPublishBy later published_row second
unfolding digits
by_second_later = record { publish = record { task = replica 0 0 0; ranges = Some (ranges_to 10 9) }; is_publish = refl; task = task_row 0 0 0 Statuses.Running; found = refl; among = inl refl; group_is = refl }

its_turn : IsNext closed closed_row (ranges_to 10 9)
unfolding digits
its_turn = record { first = refl; closed = refl; ranges_are = refl; supervisor = supervisor; among = inl refl; source_is = refl; stream_is = refl }

pub publishes_are_answered : PublishesAreAnswered
unfolding digits
publishes_are_answered = (refl, refl)

pub ranges_are_its_own : RangesAreItsOwn
unfolding digits
ranges_are_its_own = (links_opened, (by_first, refl), refl, refl, refl, refl, links_published, (by_second, refl), refl, refl)

pub stream_is_its_own : StreamIsItsOwn
unfolding digits
stream_is_its_own = (links_opened, by_first, refl, inl refl, refl, refl)

pub repeat_is_on_stream : RepeatIsOnStream
unfolding digits
repeat_is_on_stream = (forms_published, refl, links_published, streams_stay first_published forms_published, refl, refl, refl, refl, refl, (by_second, refl), refl, refl)

-- ---- a publication on another stream

published_once : IsPublishedOnce odd.publications published_row
unfolding digits
published_once = record { once = refl; ranges = one } where
  one : (m : Publication) → In m odd.publications → is_of_sequence published_row m ≡ true → has_ranges_of published_row m.ranges ≡ true
  one m (inl same) e = subst (λ (x : Publication). has_ranges_of published_row x.ranges ≡ true) (sym same) refl
  one m (inr i) e = absurd i

other_once : IsPublishedOnce odd.publications other_row
unfolding digits
other_once = record { once = refl; ranges = none } where
  none : (m : Publication) → In m odd.publications → is_of_sequence other_row m ≡ true → has_ranges_of other_row m.ranges ≡ true
  none m (inl same) e = absurd (false≢true (subst (λ (x : Publication). is_of_sequence other_row x ≡ true) same e))
  none m (inr i) e = absurd i

reading_once : IsPublishedOnce odd.publications reading_row
unfolding digits
reading_once = record { once = refl; ranges = none } where
  none : (m : Publication) → In m odd.publications → is_of_sequence reading_row m ≡ true → has_ranges_of reading_row m.ranges ≡ true
  none m (inl same) e = absurd (false≢true (subst (λ (x : Publication). is_of_sequence reading_row x ≡ true) same e))
  none m (inr i) e = absurd i

odd_rows : List SequenceRow
odd_rows = published_row ∷ other_row ∷ reading_row ∷ []

odd_published : ArePublished odd.publications odd_rows
unfolding digits odd_rows
odd_published = record { each = each; groups = groups } where
  each : (u : SequenceRow) → In u odd_rows → IsPublishedOnce odd.publications u
  each u (inl same) = subst (λ (x : SequenceRow). IsPublishedOnce odd.publications x) (sym same) published_once
  each u (inr (inl same)) = subst (λ (x : SequenceRow). IsPublishedOnce odd.publications x) (sym same) other_once
  each u (inr (inr (inl same))) = subst (λ (x : SequenceRow). IsPublishedOnce odd.publications x) (sym same) reading_once
  each u (inr (inr (inr i))) = absurd i

  groups : (m : Publication) → In m odd.publications → begins_with sup_prefix m.group ≡ true → IsGroupOfSequence odd_rows m.group
  groups m (inl same) e = record { sequence = published_row; among = inl refl; group_is = ap (λ (x : Publication). x.group) same }
  groups m (inr i) e = absurd i

odd_links : HasLinks odd
unfolding digits odd_rows
odd_links = record { supervisors = links_published.supervisors; supervised = links_published.supervised; linked = links_published.linked; replicas = links_published.replicas; published = odd_published }

by_odd : IsPublishBy odd published_row repeated_elsewhere
unfolding digits
by_odd = record { publish = record { task = replica 0 0 0; ranges = Some (ranges_on (codes "other") 10 9) }; is_publish = refl; task = task_row 0 0 0 Statuses.Running; found = refl; among = inl refl; group_is = refl }

pub line_knows_no_stream : LineKnowsNoStream
unfolding digits
line_knows_no_stream = (odd_links, (by_odd, refl), refl, refl)

-- ---- numbers

forms_later : AllKeepForm (first_published ++ between)
unfolding digits chars is_utf8 encode
forms_later = refl

pub number_is_its_place : NumberIsItsPlace
unfolding digits
number_is_its_place = ((by_first, refl), refl, refl, links_stay (first_published ++ between) forms_later, inl refl, record { publication = publication; at = refl; group_is = refl }, refl, refl)

pub number_is_one : NumberIsOne
unfolding digits chars is_utf8 encode
number_is_one = (links_opened, refl, refl, refl, refl, (by_first, refl), (by_second_later, refl))

-- ---- the next sequence

pub first_is_next : FirstIsNext
unfolding digits
first_is_next = (links_opened, refl, by_first, its_turn, refl)

-- ---- from the book without rows on

pub reached_is_seen : ReachedIsSeen
unfolding digits chars is_utf8 encode
reached_is_seen = (refl, (by_first, refl), refl, refl, its_turn, refl, (by_second_later, refl))
