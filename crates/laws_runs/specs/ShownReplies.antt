-- What the replies to `show timeline` and `show contents` say of each instant: what the publications put there and did not take away.
use Rattle.std.specs.Prelude.{◌≡◌, List, Some, int_lt, true, ℕ, ℤ}
use Rattle.iv_span.specs.Extent.{has}
use Rattle.seg_names.specs.declared.seg_id.SegId.{SegId}
use Rattle.book_rows.specs.Answer.{answer}
use Rattle.book_rows.specs.Ids.{id_before}
use Rattle.book_rows.specs.Lists.{In, list_links}
use Rattle.book_rows.specs.declared.commands.Command.TheVariants as Commands
use Rattle.book_rows.specs.declared.commands.What.TheVariants as Whats
use Rattle.book_rows.specs.declared.replies.ContentsPart.{ContentsPart}
use Rattle.book_rows.specs.declared.replies.Reply.TheVariants as Replies
use Rattle.book_rows.specs.declared.replies.TimelinePart.{TimelinePart}
use Rattle.book_rows.specs.declared.rows.Book.{Book}
use Rattle.cmd_words.specs.Lines.{CommandOf}
use Rattle.overlord_rules.specs.OverlordRules.{reply_of}
use Rattle.reply_text.specs.Lines.{TextOf}
use Rattle.laws_shown.specs.History.{IsPut, IsShownAsPut}
use Rattle.laws_shown.specs.Printed.{DoesShow, is_after, is_next_part}

-- ---- the timeline

-- What these parts show at the instant are the roots of the rows whose ids they give. They show the root exactly where a publication of the
-- source added it and none after took it away there; and then one part does, by one row.
pub record TimelineShows (b : Book) (source : List ℕ) (parts : List TimelinePart) (t : ℤ) (root : SegId) : Type 0 where
  pub put : (p : TimelinePart) → In p parts → has p.span t ≡ true → DoesShow b.segments p t root → IsPut b.publications source t root
  pub shown : IsPut b.publications source t root → (p : TimelinePart) × In p parts × (has p.span t ≡ true) × DoesShow b.segments p t root
  pub once : (p q : TimelinePart) → In p parts → In q parts → has p.span t ≡ true → has q.span t ≡ true
      → (x : DoesShow b.segments p t root) (y : DoesShow b.segments q t root) → (p ≡ q) × (x.0 ≡ y.0)

-- What the book replies that is asked for the timeline of the source: parts that have instants, ascend and don't overlap, each with its ids
-- in order and each once. It is what is put out in answer to any line that asks so.
pub record RepliesTimeline (b : Book) (source : List ℕ) : Type 0 where
  pub parts : List TimelinePart
  pub answered : answer b (Commands.Show (Whats.Timeline source)) ≡ Replies.Timeline parts source
  pub printed : (line : List ℕ) → CommandOf line ≡ Some (Commands.Show (Whats.Timeline source)) → reply_of b line ≡ TextOf (Replies.Timeline parts source)
  pub proper : (p : TimelinePart) → In p parts → int_lt p.span.start p.span.end ≡ true
  pub ascend : list_links is_after parts ≡ true
  pub in_order : (p : TimelinePart) → In p parts → list_links id_before p.ids ≡ true
  pub shows : (t : ℤ) (root : SegId) → TimelineShows b source parts t root

-- ---- the contents

-- These parts list the root at the instant exactly there; and then one part does.
pub record ContentsShow (b : Book) (source : List ℕ) (parts : List ContentsPart) (t : ℤ) (root : SegId) : Type 0 where
  pub put : (p : ContentsPart) → In p parts → has p.span t ≡ true → In root p.roots → IsPut b.publications source t root
  pub shown : IsPut b.publications source t root → (p : ContentsPart) × In p parts × (has p.span t ≡ true) × In root p.roots
  pub once : (p q : ContentsPart) → In p parts → In q parts → has p.span t ≡ true → has q.span t ≡ true → In root p.roots → In root q.roots → p ≡ q

-- What the book replies that is asked for the contents: parts that have instants and ascend, no two of which touch and have the same roots,
-- each with its roots in order and each once.
pub record RepliesContents (b : Book) (source : List ℕ) : Type 0 where
  pub parts : List ContentsPart
  pub answered : answer b (Commands.Show (Whats.Contents source)) ≡ Replies.Contents parts source
  pub printed : (line : List ℕ) → CommandOf line ≡ Some (Commands.Show (Whats.Contents source)) → reply_of b line ≡ TextOf (Replies.Contents parts source)
  pub proper : (p : ContentsPart) → In p parts → int_lt p.span.start p.span.end ≡ true
  pub ascend : list_links is_next_part parts ≡ true
  pub in_order : (p : ContentsPart) → In p parts → list_links id_before p.roots ≡ true
  pub shows : (t : ℤ) (root : SegId) → ContentsShow b source parts t root

-- ---- both

-- At each instant the replies to `show timeline` and to `show contents`, and the visible rows themselves, show what the publications put
-- there and none after took away, each root once.
pub record ShowsWhatWasPut (b : Book) (source : List ℕ) : Type 0 where
  pub timeline : RepliesTimeline b source
  pub contents : RepliesContents b source
  pub rows : (t : ℤ) (root : SegId) → IsShownAsPut b source t root
