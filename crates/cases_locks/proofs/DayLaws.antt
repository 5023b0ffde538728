-- The worked day: what it is answered, and that the premises of the laws are met on it.
use Rattle.std.proofs.Common.{None, [], inl, refl, ◌∷◌}
use Rattle.book_rows.specs.Over.{Replacing}
use Rattle.book_rows.specs.Publications.{Publish, in_spans}
use Rattle.laws_locks.proofs.Targets.{let_through}
use Rattle.cases_locks.specs.Day.{DayIsDone, PremisesAreMet, appended_under, day, day_id, hour_id, left, locked, replacer_row, source, target}
use Rattle.scenes.specs.Script.{after}
use Rattle.laws_chunks.proofs.AppendCommand.{new_upgrades}
use Rattle.laws_chunks.proofs.CheckedCommands.{replace_span}
use Rattle.cases_locks.proofs.DayBooks.{locked_reached}
use Rattle.laws_chunks.proofs.DropCommand.{is_free}

pub day_is_done : DayIsDone
day_is_done = (refl, refl, refl, refl, refl, refl, refl)

-- what the replacer publishes
abbrev the_replacement : Publish
the_replacement = in_spans (day ∷ []) (day_id 0 ∷ []) [] None

pub premises_are_met : PremisesAreMet
premises_are_met = record {
  of_append = record {
    among = inl refl;
    is_root = refl;
    source_is = refl;
    made = new_upgrades (after locked).posses (after locked).chunks (hour_id 0) locked_reached.chunks.compatible_locks refl;
    sinces = λ q v. locked_reached.chunks.shape.sinces q v.among;
  };
  of_replace = replace_span (after appended_under) replacer_row the_replacement (target ∷ []) refl (let_through Replacing (after appended_under) the_replacement replacer_row (target ∷ []) refl) target (inl refl);
  of_drop = is_free (after left).posses (after left).segments source day refl;
}
