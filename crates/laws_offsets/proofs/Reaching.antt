-- Every command keeps that the ranges tile; so does every list of commands.
use Rattle.std.proofs.Common.{◌≡◌, ℕ, true, List, [], ◌∷◌, ◌++◌, Some, Option, refl, sym, subst, ap, ◌∙◌}
use Rattle.std.specs.List.{list_all}
use Rattle.std.proofs.lemmas.Bool.{and_parts}
use Rattle.book_rows.specs.Answer.{book_after, empty_book, next}
use Rattle.book_rows.specs.Form.{keeps_form}
use Rattle.book_rows.specs.Offsets.{advanced, compared, reset_to, stored}
use Rattle.book_rows.specs.Publications.{drop_publication, reset_publication}
use Rattle.book_rows.specs.Tiles.{IsTiled, run_of}
use Rattle.book_rows.specs.declared.commands.Command.{Command}
use Rattle.book_rows.specs.declared.rows.Book.{Book}
use Rattle.book_rows.specs.declared.rows.OffsetRow.{OffsetRow}
use Rattle.book_rows.specs.declared.rows.Publication.{Publication}
use Rattle.book_rows.specs.declared.rows.Ranges.{Ranges}
use Rattle.laws_offsets.specs.Coverage.{ReachedAreReadOnce, TiledAreReadOnce}
use Rattle.laws_offsets.specs.Effects.{IsPublished, TaskRanges, publish_of}
use Rattle.laws_offsets.specs.Tiling.{EmptyBookTiles, ReachedBooksTile, Tiles, TilesStay}
use Rattle.laws_offsets.proofs.EachCommand.{each_command}
use Rattle.laws_offsets.proofs.RangesInRow.{covered_once}
use Rattle.laws_offsets.proofs.StoredAfter.{distinct_in, distinct_reset, ranges_form}
use Rattle.laws_offsets.proofs.TiledMore.{tiled_published, tiled_reset}

pub empty_book_tiles : EmptyBookTiles
empty_book_tiles source stream partition = refl

-- the rule is one on publications and offsets alone
moved : (ms ns : List Publication) (rows os : List OffsetRow) → ms ≡ ns → rows ≡ os → IsTiled ns os → IsTiled ms rows
moved ms ns rows os e f h = subst (λ (ms : List Publication). IsTiled ms rows) (sym e) (subst (λ (rows : List OffsetRow). IsTiled ns rows) (sym f) h)

pub tiles_stay : TilesStay
tiles_stay b c form h = each_command Tiles b c h (record {
  published = λ p of w. published_tiles p of w;
  dropped = λ source span w. moved (next b c).publications (b.publications ++ drop_publication source span ∷ []) (next b c).offsets b.offsets w.publications w.offsets
      (tiled_published b.publications b.offsets h (drop_publication source span) refl (λ ranges has. cc) refl);
  reset = λ source stream os is w. moved (next b c).publications (b.publications ++ reset_publication source stream os ∷ []) (next b c).offsets (reset_to b.offsets source stream os) w.publications w.stored
      (tiled_reset b.publications b.offsets h source stream os (distinct_reset source stream os (subst (λ (c : Command). keeps_form c ≡ true) is form)));
  others = λ w. moved (next b c).publications b.publications (next b c).offsets b.offsets w.publications w.offsets h;
}) where
  published_tiles : (p : TaskRanges) → publish_of c ≡ Some p → IsPublished b (next b c) p → Tiles (next b c)
  published_tiles p of w =
      moved (next b c).publications (b.publications ++ w.publication ∷ []) (next b c).offsets (advanced b.offsets w.publication.source w.publication.ranges) w.publications (w.offsets ∙ sym same_rows)
      (tiled_published b.publications b.offsets h w.publication w.no_reset (λ ranges has. distinct_in p.ranges ranges (ranges_form c p form of) (sym w.ranges_are ∙ has)) (same_fault ∙ w.goes_on)) where
        same_rows : advanced b.offsets w.publication.source w.publication.ranges ≡ advanced b.offsets w.task.source p.ranges
        same_rows = ap (λ (s : List ℕ). advanced b.offsets s w.publication.ranges) w.source_is ∙ ap (λ (o : Option Ranges). advanced b.offsets w.task.source o) w.ranges_are

        same_fault : compared b.offsets w.publication.source w.publication.ranges ≡ compared b.offsets w.task.source p.ranges
        same_fault = ap (λ (s : List ℕ). compared b.offsets s w.publication.ranges) w.source_is ∙ ap (λ (o : Option Ranges). compared b.offsets w.task.source o) w.ranges_are

-- ---- lists of commands

after_tiles : (cs : List Command) (b : Book) → list_all keeps_form cs ≡ true → Tiles b → Tiles (book_after b cs)
after_tiles [] b forms h = h
after_tiles (c ∷ cs) b forms h =
    let form = and_parts (keeps_form c) (list_all keeps_form cs) forms in
    after_tiles cs (next b c) form.1 (tiles_stay b c form.0 h)

pub reached_books_tile : ReachedBooksTile
reached_books_tile cs forms = after_tiles cs empty_book forms empty_book_tiles

-- ---- each offset once

pub tiled_are_read_once : TiledAreReadOnce
tiled_are_read_once b h source stream partition = covered_once (run_of source stream partition b.publications).from (stored b.offsets source stream partition) (run_of source stream partition b.publications).ranges (h source stream partition)

pub reached_are_read_once : ReachedAreReadOnce
reached_are_read_once cs forms = tiled_are_read_once (book_after empty_book cs) (reached_books_tile cs forms)
