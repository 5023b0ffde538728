-- Worked cases of what the rules mean, on the books of the day.
use Rattle.std.specs.Prelude.{◌∷◌, ◌≡◌, List, None, [], cond, false, nat_le, pos, true}
use Rattle.iv_span.specs.Extent.{has}
use Rattle.book_rows.specs.Contents.{alive, in_contents, is_put_from}
use Rattle.book_rows.specs.Live.{IsValid, is_covered}
use Rattle.book_rows.specs.Publications.{appending, publication_of}
use Rattle.book_rows.specs.Rules.{AreBelowLocks, CarriesUpgrades, HaveCopies, HaveOneSpan, ShowsContents}
use Rattle.book_rows.specs.Sound.{Sound}
use Rattle.book_rows.specs.Visible.{is_visible, shown, stands_for}
use Rattle.book_rows.specs.declared.kinds.LockKind.TheVariants as LockKinds
use Rattle.book_rows.specs.declared.rows.Publication.{Publication}
use Rattle.book_rows.specs.declared.rows.SegmentRow.{SegmentRow}
use Rattle.laws_chunks.specs.ChunksSound.{AreChunksSound, HaveLiveChunks}
use Rattle.cases_locks.specs.Day.{day_id, hour_id, left, replaced, source, the_day}
use Rattle.scenes.specs.Script.{after}
use Rattle.scenes.specs.Publishing.{used_row}
use Rattle.scenes.specs.Rows.{p_row}
use Rattle.cases_locks.specs.LockCases.{replace_lock, under}
use Rattle.laws_chunks.specs.Meaning.{HaveDistinctAdds, IsAsAdded, IsAsContained, IsShown}
use Rattle.laws_chunks.specs.RowTexts.{AreSame, ChunksAreBelowLocks, ChunksHaveCopies, ChunksHaveOneSpan}
use Rattle.book_rows.specs.declared.kinds.PubKind.TheVariants as PubKinds

-- ---- counts

-- an id that two publications add
abbrev pub added_twice : List Publication
added_twice = publication_of PubKinds.Append p_row [] (appending (hour_id 0 ∷ []) None) ∷ publication_of PubKinds.Append p_row [] (appending (hour_id 0 ∷ []) None) ∷ []

-- it is counted twice, and put; in the day it is counted once, until the drop takes it away, and not among what was added later
pub record RootsAreCounted : Type 0 where
  pub counted_twice : alive (λ k. true) added_twice source (pos 0) (hour_id 0) ≡ 2
  pub put_twice : is_put_from 0 (λ k. true) added_twice source (pos 0) (hour_id 0) ≡ true
  pub distinct : HaveDistinctAdds (after left).publications
  pub counted_once : alive (λ k. true) (after left).publications source (pos 0) (hour_id 0) ≡ 1
  pub put_once : is_put_from 0 (λ k. true) (after left).publications source (pos 0) (hour_id 0) ≡ true
  pub one : alive (λ k. true) (after left).publications source (pos 0) (hour_id 0) ≡ cond (is_put_from 0 (λ k. true) (after left).publications source (pos 0) (hour_id 0)) 1 0
  pub not_counted_since : alive (λ k. nat_le 1 k) (after left).publications source (pos 0) (hour_id 0) ≡ 0
  pub not_put_since : is_put_from 0 (λ k. nat_le 1 k) (after left).publications source (pos 0) (hour_id 0) ≡ false
  pub not_counted : alive (λ k. true) (after the_day).publications source (pos 0) (hour_id 0) ≡ 0
  pub not_put : is_put_from 0 (λ k. true) (after the_day).publications source (pos 0) (hour_id 0) ≡ false

-- ---- what is shown

-- the row of the replacement that stands for the appended root
abbrev pub the_copy : SegmentRow
the_copy = used_row (day_id 1) (hour_id 0) 1

-- after the replacement the appended root is shown once, by its copy; its own row isn't visible any more, and the copy's own id is no root
pub record RootsAreShown : Type 0 where
  pub distinct : HaveDistinctAdds (after replaced).publications
  pub shows : ShowsContents (after replaced).segments (after replaced).publications
  pub as_contained : IsAsContained (after replaced).segments (after replaced).publications source (pos 0) (hour_id 0)
  pub is_shown : IsShown (after replaced).segments source (pos 0) (hour_id 0)
  pub copy_visible : is_visible (after replaced).segments source (pos 0) the_copy ≡ true
  pub copy_stands : stands_for (hour_id 0) (pos 0) the_copy ≡ true
  pub own_not_visible : is_visible (after replaced).segments source (pos 0) (used_row (hour_id 0) (hour_id 0) 0) ≡ false
  pub shown_once : shown (after replaced).segments source (pos 0) (hour_id 0) ≡ 1
  pub contained : in_contents (after replaced).publications source (pos 0) (hour_id 0) ≡ true
  pub copy_not_shown : shown (after replaced).segments source (pos 0) (day_id 1) ≡ 0
  pub copy_not_contained : in_contents (after replaced).publications source (pos 0) (day_id 1) ≡ false

-- the book under the lock is sound by all rules; so its chunks are, and it shows its contents
pub record UnderIsSound : Type 0 where
  pub sound : Sound under
  pub chunks_sound : AreChunksSound under
  pub as_contained : IsAsContained under.segments under.publications source (pos 0) (hour_id 0)
  pub shown_once : shown under.segments source (pos 0) (hour_id 0) ≡ 1
  pub contained : in_contents under.publications source (pos 0) (hour_id 0) ≡ true

-- ---- what a replacement has to carry

-- the appended root is carried, and the pending one isn't
pub record RootsAreCarried : Type 0 where
  pub carries : CarriesUpgrades under.posses under.chunks under.upgrades under.publications
  pub valid : IsValid under.posses (replace_lock false)
  pub replaces : (replace_lock false).lock_kind ≡ LockKinds.Replace
  pub inside : has (replace_lock false).span (pos 0) ≡ true
  pub uncovered : is_covered under.chunks (replace_lock false) (pos 0) ≡ false
  pub as_added : IsAsAdded under.upgrades under.publications (replace_lock false) (pos 0) (hour_id 0)
  pub put : is_put_from 0 (λ k. nat_le 0 k) under.publications source (pos 0) (hour_id 0) ≡ true
  pub pending_as_added : IsAsAdded under.upgrades under.publications (replace_lock false) (pos 0) (hour_id 1)
  pub pending_not_put : is_put_from 0 (λ k. nat_le 0 k) under.publications source (pos 0) (hour_id 1) ≡ false

-- ---- the rules on live chunks, said of ids and said of rows

-- after the replacement a chunk with a pending has the day's above it
pub record TextsAreMet : Type 0 where
  pub live : HaveLiveChunks (after replaced).chunks (after replaced).segments (after replaced).pendings
  pub same : AreSame (after replaced).posses (after replaced).chunks (after replaced).segments (after replaced).pendings
  pub one_span : HaveOneSpan (after replaced).segments (after replaced).pendings
  pub rows_one_span : ChunksHaveOneSpan (after replaced).chunks (after replaced).segments (after replaced).pendings
  pub below : AreBelowLocks (after replaced).posses (after replaced).segments (after replaced).pendings
  pub rows_below : ChunksAreBelowLocks (after replaced).posses (after replaced).chunks (after replaced).segments (after replaced).pendings
  pub copies : HaveCopies (after replaced).chunks (after replaced).segments (after replaced).pendings
  pub rows_copies : ChunksHaveCopies (after replaced).chunks (after replaced).segments (after replaced).pendings
