-- The rows that a publish adds, as lists.
use Rattle.std.specs.Prelude.{◌++◌, ◌∷◌, ◌≤◌, Bool, List, None, Option, Some, [], false, length, map, true, ℕ, ℤ}
use Rattle.iv_span.specs.Extent.{Extent}
use Rattle.seg_names.specs.declared.seg_id.SegId.{SegId}
use Rattle.book_rows.specs.Lists.{gathered}
use Rattle.book_rows.specs.Outcome.{row_limit}
use Rattle.book_rows.specs.Over.{Filling, Inserting, Replacing, Target}
use Rattle.book_rows.specs.Rewrite.{chunk_for, copies_for, copy_id, core_of, how_many, own_rows}
use Rattle.book_rows.specs.declared.answers.Copies.{Copies}
use Rattle.book_rows.specs.declared.rows.ChunkRow.{ChunkRow}
use Rattle.book_rows.specs.declared.rows.PendingRow.{PendingRow}
use Rattle.book_rows.specs.declared.rows.SegmentRow.{SegmentRow}
use Rattle.book_rows.specs.declared.rows.UpgradeRow.{UpgradeRow}
use Rattle.tab_pending.specs.PendingRows.{PendingRows}

-- ---- an append

-- the upgrade row of a root under the lock that carries it, if there is one
abbrev pub carried_by : Option ℕ → SegId → List UpgradeRow
carried_by None root = []
carried_by (Some lock) root = record { posse = lock; root = root } ∷ []

-- ---- a replacement

-- the copy of an upgrade root, which depends on its row by the root alone
abbrev pub root_copy : List ℕ → Extent → ℤ → ℕ → ℕ → SegId → SegmentRow
root_copy source span version k part root = record { id = copy_id source span version part; used = true; root = root; commit = k; tombstone = false }

-- the copies of one span
abbrev pub copies_at : PendingRows → List ℕ → List SegId → ℕ → Target → Copies
copies_at ps source ids k x = copies_for ps.pendings ps.upgrades x.lock source x.span x.version (core_of ids x.span) k

-- ---- an insert or a replacement

-- the segment that an id or a tombstone becomes
abbrev pub row_of : ℕ → Bool → SegId → SegmentRow
row_of k tombstone a = record { id = a; used = true; root = a; commit = k; tombstone = tombstone }

-- an insert has no copies
abbrev pub new_chunks : Filling → PendingRows → List ℕ → List SegId → ℕ → List Target → List ChunkRow
new_chunks Inserting ps source ids k xs = map (chunk_for source ids 0) xs
new_chunks Replacing ps source ids k xs = map (λ x. chunk_for source ids (how_many (copies_at ps source ids k x)) x) xs

-- first the ids and tombstones of all spans, then the copies span by span
abbrev pub new_segments : Filling → PendingRows → List ℕ → List SegId → List SegId → ℕ → List Target → List SegmentRow
new_segments Inserting ps source ids tombs k xs = gathered (λ x. own_rows k ids tombs x.span) xs
new_segments Replacing ps source ids tombs k xs = gathered (λ x. own_rows k ids tombs x.span) xs ++ gathered (λ x. (copies_at ps source ids k x).segments) xs

abbrev pub new_pendings : Filling → PendingRows → List ℕ → List SegId → ℕ → List Target → List PendingRow
new_pendings Inserting ps source ids k xs = []
new_pendings Replacing ps source ids k xs = gathered (λ x. (copies_at ps source ids k x).pendings) xs

-- ---- target by target

-- the copies of one span, numbered on from a part; an insert has none
abbrev pub copies_from : Filling → PendingRows → List ℕ → ℕ → Target → ℕ → Copies
copies_from Inserting ps source k x from = record { segments = []; pendings = [] }
copies_from Replacing ps source k x from = copies_for ps.pendings ps.upgrades x.lock source x.span x.version from k

abbrev pub copies_in : Filling → PendingRows → List ℕ → List SegId → ℕ → Target → Copies
copies_in f ps source ids k x = copies_from f ps source k x (core_of ids x.span)

abbrev pub chunk_in : Filling → PendingRows → List ℕ → List SegId → ℕ → Target → ChunkRow
chunk_in f ps source ids k x = chunk_for source ids (how_many (copies_in f ps source ids k x)) x

-- neither table has too many rows
pub record AreWithinLimit (ps : PendingRows) : Type 0 where
  pub pendings : length ps.pendings ≤ row_limit
  pub upgrades : length ps.upgrades ≤ row_limit
