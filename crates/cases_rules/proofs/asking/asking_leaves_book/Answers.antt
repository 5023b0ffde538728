use Rattle.std.proofs.Common.{refl, ◌++◌}
use Rattle.book_rows.proofs.StepLaws.{stays_where_unchanged}
use Rattle.book_rows.specs.declared.commands.Command.TheVariants as Commands
use Rattle.scenes.specs.Script.{after, day, r}
use Rattle.cases_rules.specs.ReplaceCases.{both, stream_day}
use Rattle.cases_rules.proofs.asking.asking_leaves_book.Goals as goal

pub returns : goal.returns
returns c = (refl, refl, stays_where_unchanged (after (both ++ stream_day)) (Commands.ToReplace r day) refl)
