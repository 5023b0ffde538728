-- What the books of runs have of locks, offsets, replacements and sequences.
use Rattle.std.proofs.Common.{subst, sym}
use Rattle.book_rows.specs.Sound.{Sound}
use Rattle.book_rows.specs.declared.rows.Book.{Book}
use Rattle.machine_run.specs.Rules.{state_after}
use Rattle.overlord_rules.specs.OverlordRules.{overlord_rules}
use Rattle.laws_locks.proofs.Reaching.{valid_locks_are_compatible}
use Rattle.laws_offsets.specs.Coverage.{AreReadOnce}
use Rattle.laws_offsets.proofs.Reaching.{tiled_are_read_once}
use Rattle.laws_sequences.proofs.Reaching.{sound_has_links}
use Rattle.laws_shown.proofs.Answering.{answered_is_reading}
use Rattle.laws_shown.proofs.Reading.{sound_splits_contents}
use Rattle.laws_runs.specs.RunBooks.{OfRuns}
use Rattle.laws_runs.specs.RunCommands.{IsReached}
use Rattle.laws_runs.specs.RunRules.{AnswersReadings, HasCompatibleLocks, HasSequencesInLine, RunsAnswerReadings, RunsHaveCompatibleLocks, RunsKeepSequencesInLine, RunsReadOffsetsOnce, RunsSplitContents, SplitsContents}
use Rattle.laws_runs.proofs.ReachedRuns.{runs_reach}
use Rattle.laws_runs.proofs.SoundRuns.{runs_lead_to_sound}

-- what sound books have
of_sound : (P : Book → Type 0) → ((b : Book) → Sound b → P b) → OfRuns P
of_sound P law first second b lines e = law (state_after overlord_rules b lines) (runs_lead_to_sound first second b lines e)

reached_locks : (b : Book) → IsReached b → HasCompatibleLocks b
reached_locks b by = subst HasCompatibleLocks (sym by.book) (λ i j p q. valid_locks_are_compatible by.commands i j p q)

pub runs_have_compatible_locks : RunsHaveCompatibleLocks
runs_have_compatible_locks first second b lines e = reached_locks (state_after overlord_rules b lines) (runs_reach first second b lines e)

pub runs_read_offsets_once : RunsReadOffsetsOnce
runs_read_offsets_once = of_sound AreReadOnce (λ b s. tiled_are_read_once b s.tiled)

pub runs_answer_readings : RunsAnswerReadings
runs_answer_readings = of_sound AnswersReadings (λ b s task span roots is. answered_is_reading b task span roots s is)

pub runs_split_contents : RunsSplitContents
runs_split_contents = of_sound SplitsContents (λ b s q valid kind t within uncovered root. sound_splits_contents b s q valid kind t within uncovered root)

pub runs_keep_sequences_in_line : RunsKeepSequencesInLine
runs_keep_sequences_in_line = of_sound HasSequencesInLine (λ b s. (sound_has_links b s).linked)
