-- Stores stand for sound books, and lines keep them; what such books reply to `show`.
use Rattle.std.proofs.Common.{◌≡◌, List, Option, Some, ap, int_le, int_lt, refl, subst, sym, true, ℕ, ℤ}
use Rattle.std.proofs.lemmas.Bool.{and_from}
use Rattle.iv_span.specs.Extent.{Extent, has}
use Rattle.seg_names.specs.declared.seg_id.SegId.{SegId}
use Rattle.book_rows.specs.Answer.{answer}
use Rattle.book_rows.specs.Ids.{id_before}
use Rattle.book_rows.specs.Lists.{In, list_links}
use Rattle.book_rows.specs.Shown.{contents_of, timeline_of, timeline_part}
use Rattle.book_rows.specs.Sound.{Sound}
use Rattle.book_rows.specs.Visible.{visible}
use Rattle.book_rows.specs.declared.commands.Command.{Command}
use Rattle.book_rows.specs.declared.commands.Command.TheVariants as Commands
use Rattle.book_rows.specs.declared.commands.What.TheVariants as Whats
use Rattle.book_rows.specs.declared.replies.ContentsPart.{ContentsPart}
use Rattle.book_rows.specs.declared.replies.TimelinePart.{TimelinePart}
use Rattle.book_rows.specs.declared.rows.Book.{Book}
use Rattle.book_rows.specs.declared.rows.SegmentRow.{SegmentRow}
use Rattle.cmd_words.specs.Lines.{CommandOf}
use Rattle.machine_run.specs.Good.{good_after, store_good}
use Rattle.machine_run.specs.Rules.{state_after}
use Rattle.overlord_rules.specs.OverlordRules.{overlord_rules, reply_by, reply_of}
use Rattle.reply_text.specs.Lines.{TextOf}
use Rattle.laws_chunks.proofs.Members.{In-map}
use Rattle.laws_locks.proofs.Instants.{le_itself}
use Rattle.laws_parts.proofs.Determined.{contents_are_so, timeline_is_so}
use Rattle.laws_shown.proofs.Histories.{sound_shows_what_was_put}
use Rattle.laws_shown.proofs.PrintedHistory.{sound_contents_are_what_was_put, sound_timeline_is_what_was_put}
use Rattle.laws_shown.proofs.Printing.{contents_are_of_each_instant, parts_ascend, prints_in_order, timeline_is_of_each_instant}
use Rattle.laws_runs.specs.RunBooks.{LinesKeepSound, RunsLeadToSound, RunsShowWhatWasPut, SoundShowWhatWasPut, StoreBooksAreSound}
use Rattle.laws_runs.specs.ShownReplies.{ContentsShow, RepliesContents, RepliesTimeline, TimelineShows}
use Rattle.laws_runs.proofs.GoodBooks.{good_books}

pub store_books_are_sound : StoreBooksAreSound
store_books_are_sound first second b e = store_good overlord_rules good_books first second b e

pub lines_keep_sound : LinesKeepSound
lines_keep_sound b lines s = good_after overlord_rules good_books b lines s

pub runs_lead_to_sound : RunsLeadToSound
runs_lead_to_sound first second b lines e = lines_keep_sound b lines (store_books_are_sound first second b e)

-- ---- what they show

-- each part of the timeline has an instant, as each of the contents has
pub timeline_proper : (rows : List SegmentRow) (source : List ℕ) (p : TimelinePart) → In p (timeline_of rows source) → int_lt p.span.start p.span.end ≡ true
timeline_proper rows source p i =
    let so = timeline_is_so rows source in
    let w = In-map timeline_part p so.0 (subst (λ (ps : List TimelinePart). In p ps) so.2 i) in
    subst (λ (x : TimelinePart). int_lt x.span.start x.span.end ≡ true) (sym w.2) (so.1.proper w.0 w.1)

pub contents_proper : (rows : List SegmentRow) (source : List ℕ) (p : ContentsPart) → In p (contents_of rows source) → int_lt p.span.start p.span.end ≡ true
contents_proper rows source p i = (contents_are_so rows source).proper p i

pub has_start : (s : Extent) → int_lt s.start s.end ≡ true → has s s.start ≡ true
has_start s h = and_from (int_le s.start s.start) (int_lt s.start s.end) (le_itself s.start) h

-- the ids of a part of the timeline, and the roots of a part of the contents, stand in order
ids_in_order : (rows : List SegmentRow) (source : List ℕ) (p : TimelinePart) → In p (timeline_of rows source) → list_links id_before p.ids ≡ true
ids_in_order rows source p i =
    let at = (timeline_is_of_each_instant rows source).parts p p.span.start i (has_start p.span (timeline_proper rows source p i)) in
    subst (λ (ids : List SegId). list_links id_before ids ≡ true) (sym at.ids_are) (prints_in_order (visible rows source p.span.start) p.span.start).0

roots_in_order : (rows : List SegmentRow) (source : List ℕ) (p : ContentsPart) → In p (contents_of rows source) → list_links id_before p.roots ≡ true
roots_in_order rows source p i =
    let at = (contents_are_of_each_instant rows source).parts p p.span.start i (has_start p.span (contents_proper rows source p i)) in
    subst (λ (roots : List SegId). list_links id_before roots ≡ true) (sym at) (prints_in_order (visible rows source p.span.start) p.span.start).1

timeline_shows : (b : Book) → Sound b → (source : List ℕ) (t : ℤ) (root : SegId) → TimelineShows b source (timeline_of b.segments source) t root
timeline_shows b s source t root = let of = sound_timeline_is_what_was_put b s source t root in record { put = of.put; shown = of.printed; once = of.once }

contents_show : (b : Book) → Sound b → (source : List ℕ) (t : ℤ) (root : SegId) → ContentsShow b source (contents_of b.segments source) t root
contents_show b s source t root = let of = sound_contents_are_what_was_put b s source t root in record { put = of.put; shown = of.printed; once = of.once }

-- what is answered to a line that is a command
line_reply : (b : Book) (line : List ℕ) (c : Command) → CommandOf line ≡ Some c → reply_of b line ≡ TextOf (answer b c)
unfolding reply_of
line_reply b line c is = ap (λ (o : Option Command). TextOf (reply_by b o)) is

replies_timeline : (b : Book) → Sound b → (source : List ℕ) → RepliesTimeline b source
replies_timeline b s source = record {
  parts = timeline_of b.segments source;
  answered = refl;
  printed = λ line is. line_reply b line (Commands.Show (Whats.Timeline source)) is;
  proper = λ p i. timeline_proper b.segments source p i;
  ascend = (parts_ascend b.segments source).0;
  in_order = λ p i. ids_in_order b.segments source p i;
  shows = λ t root. timeline_shows b s source t root;
}

replies_contents : (b : Book) → Sound b → (source : List ℕ) → RepliesContents b source
replies_contents b s source = record {
  parts = contents_of b.segments source;
  answered = refl;
  printed = λ line is. line_reply b line (Commands.Show (Whats.Contents source)) is;
  proper = λ p i. contents_proper b.segments source p i;
  ascend = (parts_ascend b.segments source).2;
  in_order = λ p i. roots_in_order b.segments source p i;
  shows = λ t root. contents_show b s source t root;
}

pub sound_show_what_was_put : SoundShowWhatWasPut
sound_show_what_was_put b s source = record {
  timeline = replies_timeline b s source;
  contents = replies_contents b s source;
  rows = λ t root. sound_shows_what_was_put b s source t root;
}

pub runs_show_what_was_put : RunsShowWhatWasPut
runs_show_what_was_put source first second b lines e = sound_show_what_was_put (state_after overlord_rules b lines) (runs_lead_to_sound first second b lines e) source
