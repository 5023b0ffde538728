use Rattle.std.proofs.Common.{◌≡◌, map, take}
use Rattle.book_rows.specs.Reports.{told_again}
use Rattle.sup_core.proofs.reports.kept.Given as goal

abbrev pub invariant-loop-report : goal.invariant-loop-report
invariant-loop-report l = l.made.items ≡ map (told_again (record { task = l.task; offsets = l.offsets })) (take l.report-index l.reports)

abbrev pub invariant-loop-report-else-has_reported : goal.invariant-loop-report-else-has_reported
invariant-loop-report-else-has_reported l = l.made.items ≡ take l.report-index l.reports
