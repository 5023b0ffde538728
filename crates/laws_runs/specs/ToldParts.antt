-- The text of a timeline, or of contents, tells its parts: no other list of parts has it.
use Rattle.std.specs.Prelude.{◌&&◌, ◌≡◌, Bool, List, true, ℕ}
use Rattle.std.specs.List.{list_all}
use Rattle.iv_time.specs.Range.{is_instant}
use Rattle.seg_names.specs.IdTexts.{is_seg_id}
use Rattle.book_rows.specs.Fits.{span_fits}
use Rattle.book_rows.specs.Shown.{contents_of, timeline_of}
use Rattle.book_rows.specs.Sound.{Sound}
use Rattle.book_rows.specs.declared.replies.ContentsPart.{ContentsPart}
use Rattle.book_rows.specs.declared.replies.Reply.TheVariants as Replies
use Rattle.book_rows.specs.declared.replies.TimelinePart.{TimelinePart}
use Rattle.book_rows.specs.declared.rows.Book.{Book}
use Rattle.reply_text.specs.Lines.{TextOf}

-- a part whose ids, span and version have texts
abbrev pub has_texts : TimelinePart → Bool
has_texts p = list_all is_seg_id p.ids && span_fits p.span && is_instant p.version

abbrev pub have_root_texts : ContentsPart → Bool
have_root_texts p = list_all is_seg_id p.roots && span_fits p.span

-- of two timelines whose parts have texts, one text is one source and one list of parts
abbrev pub TextsTellTimelines : Type 0
TextsTellTimelines = (ps qs : List TimelinePart) (source other : List ℕ) → list_all has_texts ps ≡ true → list_all has_texts qs ≡ true
    → TextOf (Replies.Timeline ps source) ≡ TextOf (Replies.Timeline qs other) → (ps ≡ qs) × (source ≡ other)

abbrev pub TextsTellContents : Type 0
TextsTellContents = (ps qs : List ContentsPart) (source other : List ℕ) → list_all have_root_texts ps ≡ true → list_all have_root_texts qs ≡ true
    → TextOf (Replies.Contents ps source) ≡ TextOf (Replies.Contents qs other) → (ps ≡ qs) × (source ≡ other)

-- those that a sound book replies with have texts
abbrev pub SoundPartsHaveTexts : Type 0
SoundPartsHaveTexts = (b : Book) → Sound b → (source : List ℕ) → (list_all has_texts (timeline_of b.segments source) ≡ true) × (list_all have_root_texts (contents_of b.segments source) ≡ true)
