-- The roots of rows, and at which instants a row may show its root.
use Rattle.std.specs.Prelude.{◌&&◌, ◌∷◌, ◌≡◌, Bool, List, None, Option, Some, [], cond, int_le, int_lt, true, unsigned_abs, ℕ, ℤ}
use Rattle.std.specs.Int.{int_max, int_min}
use Rattle.std.specs.Ordering.{int_eq}
use Rattle.std.proofs.Common.{ap, inl, sym}
use Rattle.std.proofs.lemmas.Bool.Decides.{Decides-int_eq}
use Rattle.seg_names.specs.declared.seg_id.SegId.{SegId}
use Rattle.book_rows.specs.Ids.{id_before}
use Rattle.book_rows.specs.Lists.{In, list_links}
use Rattle.book_rows.specs.declared.rows.SegmentRow.{SegmentRow}
use Rattle.row_index.specs.Index.{IsReached, digest_key, digest_range}
use Rattle.row_index.proofs.IndexLemmas.{digest_reached}
use Rattle.timeline_view.specs.declared.marks.Mark.{Mark}

abbrev pub mark_of : SegmentRow → Mark
mark_of r = record { root = r.root; version = r.id.version; start = int_max r.id.span.start r.root.span.start; end = int_min r.id.span.end r.root.span.end }

-- a mark is found by its version
abbrev pub mark_keys : Mark → List (ℕ × ℤ)
mark_keys m = digest_key (unsigned_abs m.version) ∷ []

-- the mark is of the version and has the instant
abbrev pub is_current : ℤ → ℤ → Mark → Bool
is_current version t m = int_eq m.version version && (int_le m.start t && int_lt t m.end)

abbrev pub current : ℤ → ℤ → Option Mark → Option Mark
current version t None = None
current version t (Some m) = cond (is_current version t m) (Some m) None

-- what a look-up by version promises of the keys
pub version_reached : (version : ℤ) (m : Mark) → int_eq m.version version ≡ true → IsReached (digest_range (unsigned_abs version) ∷ []) (mark_keys m)
version_reached version m on = digest_reached (unsigned_abs version) (mark_keys m) (inl (ap (λ (v : ℤ). digest_key (unsigned_abs v)) (sym ((Decides-int_eq m.version version).0 on))))

-- the roots of the marks of the version that have the instant, in id order, each once
pub record AreRootsOf (ms : List Mark) (version t : ℤ) (roots : List SegId) : Type 0 where
  pub linked : list_links id_before roots ≡ true
  pub from : (a : SegId) → In a roots → (m : Mark) × In m ms × (is_current version t m ≡ true) × (m.root ≡ a)
  pub all : (m : Mark) → In m ms → is_current version t m ≡ true → In m.root roots
