-- What pendings and upgrade rows are looked for by, where the rules have no word of their own.
use Rattle.std.specs.Prelude.{◌&&◌, ◌≡◌, Bool, List, bytes_eq, true, ℕ}
use Rattle.iv_span.specs.Extent.{Extent, overlap}
use Rattle.book_rows.specs.Allocation.{is_pending_over, is_root}
use Rattle.book_rows.specs.Lists.{stands_in}
use Rattle.book_rows.specs.Over.{straddles_one}
use Rattle.book_rows.specs.Rewrite.{is_copied, is_taken_up}
use Rattle.book_rows.specs.Spans.{overlaps_one}
use Rattle.book_rows.specs.declared.rows.PendingRow.{PendingRow}
use Rattle.book_rows.specs.declared.rows.UpgradeRow.{UpgradeRow}

-- a pending of the source that overlaps one of the spans
abbrev pub is_over_one : List ℕ → List Extent → PendingRow → Bool
is_over_one source spans p = bytes_eq p.id.source source && overlaps_one spans p.id.span

-- a root pending of the source that overlaps the span
abbrev pub is_root_over : List ℕ → Extent → PendingRow → Bool
is_root_over source span p = is_root p && is_pending_over source span p

-- a root pending of the source that overlaps one of the spans and doesn't lie within it
abbrev pub is_root_across : List ℕ → List Extent → PendingRow → Bool
is_root_across source spans p = is_root p && bytes_eq p.id.source source && straddles_one spans p.id.span

-- a pending of one of the locks
abbrev pub is_of_one : List ℕ → PendingRow → Bool
is_of_one locks p = stands_in locks p.posse

-- an upgrade row of one of the locks, whose root overlaps one of the spans and doesn't lie within it
abbrev pub is_upgrade_across : List ℕ → List Extent → UpgradeRow → Bool
is_upgrade_across locks spans u = stands_in locks u.posse && straddles_one spans u.root.span

-- what overlaps one of the spans overlaps this one
abbrev pub MeetsAll : Extent → List Extent → Type 0
MeetsAll all spans = (s : Extent) → overlaps_one spans s ≡ true → overlap s all ≡ true

-- ---- what lies within a span overlaps it, where its own span isn't empty

abbrev pub is_copied_over : List ℕ → Extent → PendingRow → Bool
is_copied_over source span p = is_pending_over source span p && is_copied source span p

abbrev pub is_taken_over : ℕ → Extent → UpgradeRow → Bool
is_taken_over lock span u = overlap u.root.span span && is_taken_up lock span u
