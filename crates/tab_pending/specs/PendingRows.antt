-- What the table of pendings means.
use Rattle.std.specs.Prelude.{◌<ℤ◌, List}
use Rattle.std.specs.List.{AllByRecursion}
use Rattle.book_rows.specs.declared.rows.PendingRow.{PendingRow}
use Rattle.book_rows.specs.declared.rows.UpgradeRow.{UpgradeRow}

-- the pendings and the upgrade rows, each in the order in which they were added
pub record PendingRows : Type 0 where
  pub pendings : List PendingRow
  pub upgrades : List UpgradeRow

-- no id has an empty span
abbrev pub HaveSpans : List PendingRow → Type 0
HaveSpans ps = AllByRecursion (λ p. p.id.span.start <ℤ p.id.span.end) ps

-- no root has an empty span
abbrev pub RootsHaveSpans : List UpgradeRow → Type 0
RootsHaveSpans us = AllByRecursion (λ u. u.root.span.start <ℤ u.root.span.end) us
