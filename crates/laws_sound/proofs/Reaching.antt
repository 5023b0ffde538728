-- What sound books have, said of every book that commands reach.
use Rattle.std.specs.List.{list_all}
use Rattle.std.proofs.lemmas.Bool.{and_parts}
use Rattle.book_rows.specs.Answer.{next, reached}
use Rattle.book_rows.specs.Form.{keeps_form}
use Rattle.book_rows.specs.declared.commands.Command.TheVariants as Commands
use Rattle.laws_shown.proofs.Answering.{answered_is_reading, one_lock_is_asked}
use Rattle.laws_shown.proofs.Appending.{appended_is_shown}
use Rattle.laws_shown.proofs.Histories.{sound_shows_what_was_put}
use Rattle.laws_shown.proofs.PrintedHistory.{sound_contents_are_what_was_put, sound_timeline_is_what_was_put}
use Rattle.laws_shown.proofs.Reading.{sound_reads_what_was_there, sound_splits_contents}
use Rattle.laws_sound.specs.Reached.{AppendedStaysShown, ReachedAnswersAreReadings, ReachedAskOneLock, ReachedContentsAreWhatWasPut, ReachedReadWhatWasThere, ReachedShowWhatWasPut, ReachedSplitContents, ReachedTimelineIsWhatWasPut}
use Rattle.laws_sound.proofs.Joined.{next_is_sound, reached_books_are_sound, sound_after}

pub reached_show_what_was_put : ReachedShowWhatWasPut
reached_show_what_was_put cs forms source t root = sound_shows_what_was_put (reached cs) (reached_books_are_sound cs forms) source t root

pub reached_timeline_is_what_was_put : ReachedTimelineIsWhatWasPut
reached_timeline_is_what_was_put cs forms source t root = sound_timeline_is_what_was_put (reached cs) (reached_books_are_sound cs forms) source t root

pub reached_contents_are_what_was_put : ReachedContentsAreWhatWasPut
reached_contents_are_what_was_put cs forms source t root = sound_contents_are_what_was_put (reached cs) (reached_books_are_sound cs forms) source t root

pub reached_read_what_was_there : ReachedReadWhatWasThere
reached_read_what_was_there cs forms q = sound_reads_what_was_there (reached cs) (reached_books_are_sound cs forms) q

pub reached_answers_are_readings : ReachedAnswersAreReadings
reached_answers_are_readings cs forms task span roots h = answered_is_reading (reached cs) task span roots (reached_books_are_sound cs forms) h

pub reached_ask_one_lock : ReachedAskOneLock
reached_ask_one_lock cs forms task span t p q at m n = one_lock_is_asked (reached cs) task span t p q (reached_books_are_sound cs forms) at m n

pub reached_split_contents : ReachedSplitContents
reached_split_contents cs forms q valid kind t within uncovered root = sound_splits_contents (reached cs) (reached_books_are_sound cs forms) q valid kind t within uncovered root

pub appended_stays_shown : AppendedStaysShown
appended_stays_shown before after task ids ranges forms more done a t among within kept =
    let sound = reached_books_are_sound before forms in
    let both = and_parts (keeps_form (Commands.Append task ids ranges)) (list_all keeps_form after) more in
    appended_is_shown (reached before) task ids ranges after (record {
      sound = sound;
      done = done;
      still_sound = sound_after after (next (reached before) (Commands.Append task ids ranges)) both.1 (next_is_sound (reached before) (Commands.Append task ids ranges) both.0 sound);
    }) a t among within kept
