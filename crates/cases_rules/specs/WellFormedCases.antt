-- The commands that the cases on publishing, streams and supervisors begin with.
use Rattle.std.specs.Prelude.{[], ◌++◌, ◌∷◌}
use Rattle.cases_rules.specs.AppendCases.{appended_under, copied_appends, one_append, partly_replaced}
use Rattle.cases_rules.specs.NothingCases.{mixed_insert, nothing_read, replaced_by_nothing}
use Rattle.cases_rules.specs.RangeCases.{both_sources, two_stored}
use Rattle.cases_rules.specs.ReplaceRefusalCases.{two_of_day, two_revoked}
use Rattle.cases_rules.specs.ReplacementCases.{replace_both, replaced_by_group, two_locks}
use Rattle.book_rows.specs.Form.{AllKeepForm}
use Rattle.scenes.specs.Script.{day, id, now}
use Rattle.cases_rules.specs.SequenceCases.{closed_at_ten, published_ten, reading}
use Rattle.cases_rules.specs.ShownCases.{all_shows}
use Rattle.cases_rules.specs.TurnCases.{insert_ten, replace_ten}

-- ---- they keep their form

abbrev pub SetUpsKeepForm : Type 0
SetUpsKeepForm =
    AllKeepForm (one_append ++ (copied_appends ++ (appended_under ++ (partly_replaced ++ two_locks ++ replace_both ∷ []))))
    × AllKeepForm (two_revoked ++ (two_of_day ++ (replaced_by_group ++ (mixed_insert ++ (replaced_by_nothing ++ nothing_read ∷ [])))))
    × AllKeepForm (two_stored ++ (both_sources ++ all_shows))
    × AllKeepForm (reading 3 ++ (closed_at_ten ++ (published_ten ++ insert_ten (id day now 0) ∷ replace_ten (id day now 0) ∷ [])))
