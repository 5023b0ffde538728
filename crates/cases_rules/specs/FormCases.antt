-- Which commands keep their form.
use Rattle.std.specs.Prelude.{◌++◌, ◌∷◌, ◌≡◌, List, None, [], codes, not, pos, true}
use Rattle.std.specs.List.{list_all}
use Rattle.cases_rules.specs.AllocationCases.{day_then_hour}
use Rattle.cases_rules.specs.ReplaceCases.{appended_after, both, second_replacement, stream_day}
use Rattle.scenes.specs.Script.{a, alloc, append, day, drop, id, insert, now, submit}
use Rattle.cases_rules.specs.StreamCases.{both_publish, offsets_tried, two_replicas}
use Rattle.cases_rules.specs.SupervisorCases.{first_hour, second_hour}
use Rattle.cases_rules.specs.TaskCases.{wanting_both}
use Rattle.book_rows.specs.Form.{AllKeepForm, keeps_form}
use Rattle.book_rows.specs.declared.commands.Command.{Command}
use Rattle.book_rows.specs.declared.commands.Command.TheVariants as Commands
use Rattle.iv_time.specs.declared.granularity.Granularity.TheVariants as Granularities
use Rattle.book_rows.specs.declared.kinds.LockKind.TheVariants as LockKinds
use Rattle.book_rows.specs.declared.kinds.TaskStatus.TheVariants as Statuses
use Rattle.book_rows.specs.declared.kinds.TaskKind.TheVariants as TaskKinds

-- the commands of the other cases do
abbrev pub AllWellFormed : Type 0
AllWellFormed =
    AllKeepForm (both ++ (stream_day ++ (appended_after ++ second_replacement)))
    × AllKeepForm (first_hour ++ second_hour)
    × AllKeepForm (two_replicas ++ (both_publish ++ offsets_tried))
    × AllKeepForm (wanting_both ++ day_then_hour)

-- ids out of order or repeated, no ids and no ranges, an id of the program's own making, a waiting end, a replacing allocation, and an instant too late
abbrev pub bad_forms : List Command
bad_forms =
    append a (id day now 1 ∷ id day now 0 ∷ [])
    ∷ append a (id day now 0 ∷ id day now 0 ∷ [])
    ∷ append a []
    ∷ submit (codes "sup:b") TaskKinds.Batch
    ∷ Commands.End a Statuses.Running
    ∷ alloc a LockKinds.Replace (codes "s") now Granularities.Day
    ∷ Commands.Tick (pos 253402300800000)
    ∷ drop (record { start = day.end; end = day.start })
    ∷ Commands.Insert a [] (id day now 0 ∷ []) [] None
    ∷ insert a day []
    ∷ []

abbrev pub NoneWellFormed : Type 0
NoneWellFormed = list_all (λ c. not (keeps_form c)) bad_forms ≡ true
