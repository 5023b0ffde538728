use Rattle.std.proofs.Common.{◌≡◌, drop}
use Rattle.book_rows.specs.Reports.{greatest}
use Rattle.sup_core.proofs.offsets.ends_told.Given as goal

-- what is left to go through leads to the same end
abbrev pub invariant-loop-report : goal.invariant-loop-report
invariant-loop-report l = greatest l.starts l.reports ≡ greatest l.at.items (drop l.report-index l.reports)
