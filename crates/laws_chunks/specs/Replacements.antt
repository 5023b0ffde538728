-- A whole replacement keeps the rules on chunks: its spans one after another.
use Rattle.std.specs.Prelude.{◌≡◌, List, true}
use Rattle.iv_span.specs.Extent.{covers, overlap}
use Rattle.seg_names.specs.declared.seg_id.SegId.{SegId}
use Rattle.book_rows.specs.Lists.{In}
use Rattle.book_rows.specs.Over.{Target}
use Rattle.book_rows.specs.Publications.{Publish}
use Rattle.book_rows.specs.Rewrite.{after_replace}
use Rattle.book_rows.specs.declared.rows.Book.{Book}
use Rattle.book_rows.specs.declared.rows.PendingRow.{PendingRow}
use Rattle.book_rows.specs.declared.rows.TaskRow.{TaskRow}
use Rattle.book_rows.specs.declared.rows.UpgradeRow.{UpgradeRow}
use Rattle.book_rows.specs.declared.kinds.LockKind.TheVariants as LockKinds
use Rattle.laws_chunks.specs.ChunksSound.{AreChunksSound}
use Rattle.laws_chunks.specs.Inserts.{AreDisjoint, ArePlaced, IsFilledSpan}

-- a filled span under a replacing lock; each root pending and each upgrade root of the lock that meets it lies within it
pub record IsReplaceSpan (b : Book) (t : TaskRow) (ids tombs : List SegId) (x : Target) : Type 0 where
  pub filled : IsFilledSpan b t LockKinds.Replace ids tombs x
  pub number_is : filled.lock.number ≡ x.lock
  pub since_is : filled.lock.since ≡ x.since
  pub roots_within : (r : PendingRow) → In r b.pendings → r.id ≡ r.root → r.id.source ≡ t.source → overlap r.id.span x.span ≡ true → covers x.span r.id.span ≡ true
  pub upgrades_within : (u : UpgradeRow) → In u b.upgrades → u.posse ≡ x.lock → overlap u.root.span x.span ≡ true → covers x.span u.root.span ≡ true

abbrev pub ReplacedKeeps : Type 0
ReplacedKeeps = (b : Book) (t : TaskRow) (xs : List Target) (given : Publish) → AreDisjoint xs → ArePlaced xs given.ids → ArePlaced xs given.tombstones → ((x : Target) → In x xs → IsReplaceSpan b t given.ids given.tombstones x) → AreChunksSound b → AreChunksSound (after_replace t given xs b)
