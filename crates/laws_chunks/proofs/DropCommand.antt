-- A drop that isn't refused keeps the rules.
use Rattle.std.proofs.Common.{Bool, List, None, Option, Some, bytes_eq, false, find, not, refl, sym, true, ℕ, ◌&&◌, ◌≡◌}
use Rattle.std.specs.Prelude.{option_map}
use Rattle.std.proofs.lemmas.Bool.{and_from, false≢true}
use Rattle.std.proofs.lemmas.Slice.Eq.{bytes_eq-Decides}
use Rattle.iv_span.specs.Extent.{Extent, covers, overlap}
use Rattle.book_rows.specs.Lists.{or_else}
use Rattle.book_rows.specs.Locks.{is_valid_over, least}
use Rattle.book_rows.specs.Rewrite.{drop_fault}
use Rattle.book_rows.specs.Visible.{is_used_over}
use Rattle.book_rows.specs.declared.rows.PosseRow.{PosseRow}
use Rattle.book_rows.specs.declared.rows.SegmentRow.{SegmentRow}
use Rattle.laws_chunks.specs.Commands.{DroppedKeeps}
use Rattle.laws_chunks.specs.Dropping.{IsFree}
use Rattle.laws_chunks.proofs.DroppingSpans.{drop_keeps}
use Rattle.laws_chunks.proofs.LookUps.{find_none, least_none}
use Rattle.book_rows.specs.declared.replies.Refusal.TheVariants as Refusals

-- neither look-up finds anything
none_found : (q : Option PosseRow) (r : Option SegmentRow) → or_else (option_map (λ (q : PosseRow). Refusals.DropLocked q.number) q) (option_map (λ (r : SegmentRow). Refusals.DropPartial r.id) r) ≡ None → (q ≡ None) × (r ≡ None)
none_found None None h = (refl, refl)
none_found None (Some r) h = cc
none_found (Some q) r h = cc

pub is_free : (qs : List PosseRow) (rows : List SegmentRow) (source : List ℕ) (span : Extent) → drop_fault qs rows source span ≡ None → IsFree qs rows source span
is_free qs rows source span h = free (none_found (least (is_valid_over source span) qs) (find (λ r. is_used_over source span r && not (covers span r.id.span)) rows) h) where
  off_of : (a b c : Bool) → (a && b && c) ≡ false → a ≡ true → b ≡ true → c ≡ false
  off_of true true c h x y = h
  off_of true false c h x y = absurd (false≢true y)
  off_of false b c h x y = absurd (false≢true x)

  on_of : (a b : Bool) → (a && not b) ≡ false → a ≡ true → b ≡ true
  on_of true true h x = refl
  on_of true false h x = sym h
  on_of false b h x = absurd (false≢true x)

  free : (least (is_valid_over source span) qs ≡ None) × (find (λ r. is_used_over source span r && not (covers span r.id.span)) rows ≡ None) → IsFree qs rows source span
  free n = record {
    unlocked = λ q v e. off_of (not q.revoked) (bytes_eq q.source source) (overlap q.span span) (least_none (is_valid_over source span) qs n.0 q v.among) (rw v.valid refl) ((bytes_eq-Decides q.source source).1 e);
    uncut = λ r i used e o. on_of (is_used_over source span r) (covers span r.id.span) (find_none (λ r. is_used_over source span r && not (covers span r.id.span)) rows n.1 r i)
        (and_from (r.used && bytes_eq r.id.source source) (overlap r.id.span span) (and_from r.used (bytes_eq r.id.source source) used ((bytes_eq-Decides r.id.source source).1 e)) o);
  }

pub dropped_keeps : DroppedKeeps
dropped_keeps source span b h sound = drop_keeps source span b (is_free b.posses b.segments source span h) sound
