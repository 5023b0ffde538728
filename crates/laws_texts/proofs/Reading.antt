-- What a replacement has to read: roots of rows.
use Rattle.std.proofs.Common.{◌≡◌, Err, Ok, Result, true}
use Rattle.iv_span.specs.Extent.{Extent}
use Rattle.book_rows.specs.Carried.{is_carried}
use Rattle.book_rows.specs.Fits.{reply_fits, span_fits}
use Rattle.book_rows.specs.Outcome.{refused_or}
use Rattle.book_rows.specs.Over.{held_for}
use Rattle.book_rows.specs.PublishSteps.{asked, told_of}
use Rattle.book_rows.specs.declared.kinds.LockKind.TheVariants as LockKinds
use Rattle.book_rows.specs.declared.replies.Refusal.{Refusal}
use Rattle.book_rows.specs.declared.rows.Book.{Book}
use Rattle.book_rows.specs.declared.rows.PosseRow.{PosseRow}
use Rattle.book_rows.specs.declared.rows.TaskRow.{TaskRow}
use Rattle.laws_texts.specs.Texts.{HasLimitedRows}
use Rattle.laws_texts.proofs.Limited.{roots_texts}
use Rattle.laws_texts.proofs.Outcomes.{error_fits}
use Rattle.laws_texts.proofs.Checks.{held_fits}

asked_by_fits : (r : Result PosseRow Refusal) (b : Book) → HasLimitedRows b → error_fits r ≡ true → reply_fits (refused_or r b (told_of b)).reply ≡ true
asked_by_fits (Err why) b rows h = h
asked_by_fits (Ok q) b rows h = roots_texts (is_carried b.segments b.publications q) b.segments rows.places.segments

pub asked_fits : (b : Book) (span : Extent) (t : TaskRow) → HasLimitedRows b → span_fits span ≡ true → reply_fits (asked b span t).reply ≡ true
asked_fits b span t rows h = asked_by_fits (held_for b.posses t LockKinds.Replace span) b rows (held_fits b.posses t LockKinds.Replace span h)
