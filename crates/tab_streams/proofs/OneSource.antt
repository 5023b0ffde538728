-- The rows of one source, among the rows of all.
use Rattle.std.proofs.Common.{◌++◌, ◌∙◌, ◌∷◌, ◌≡◌, List, [], ap, ap₂, bytes_eq, cond, false, filter, inl, inr, refl, sym, true, ℕ}
use Rattle.std.specs.BTreeMap.{is_at}
use Rattle.std.specs.List.{AllByRecursion}
use Rattle.std.specs.Map.{lookup}
use Rattle.std.specs.Ordering.{ordering_reverse}
use Rattle.std.specs.declared.cmp.Ordering.TheVariants.{Equal, Less}
use Rattle.std.proofs.lemmas.Bool.{cases_Bool}
use Rattle.std.proofs.lemmas.Cmp.{nat_list_cmp_total, tied_itself}
use Rattle.std.proofs.lemmas.List.Elements.{filter-append}
use Rattle.std.proofs.lemmas.Slice.Eq.{bytes_eq-Decides}
use Rattle.book_rows.specs.Offsets.{row_for}
use Rattle.book_rows.specs.declared.rows.Offset.{Offset}
use Rattle.book_rows.specs.declared.rows.OffsetRow.{OffsetRow}
use Rattle.tab_streams.specs.ByName.{AreOrdered, all_rows, or_nothing, source_rows, stream_rows, under}
use Rattle.tab_streams.proofs.Around.{Sources, Streams, nothing_behind, one_source, sources_append}
use Rattle.tab_streams.proofs.NameSplit.{Split, entry_of, name_cmp, split}

-- names that stand one before the other aren't one
less_apart : (xs ys : List ℕ) → name_cmp xs ys ≡ Less → bytes_eq xs ys ≡ false
less_apart xs ys lt =
    elim (cases_Bool (bytes_eq xs ys)) [
      | inl on ↦
          let mixed : Equal ≡ Less = sym (tied_itself nat_list_cmp_total ys) ∙ (ap (λ (n : List ℕ). name_cmp n ys) (sym ((bytes_eq-Decides xs ys).0 on)) ∙ lt) in
          absurd (cc)
      | inr off ↦ off
    ]

more_apart : (xs ys : List ℕ) → name_cmp xs ys ≡ Less → bytes_eq ys xs ≡ false
more_apart xs ys lt =
    elim (cases_Bool (bytes_eq ys xs)) [
      | inl on ↦
          let mixed : Equal ≡ Less = sym (tied_itself nat_list_cmp_total xs) ∙ (ap (λ (n : List ℕ). name_cmp xs n) (sym ((bytes_eq-Decides ys xs).0 on)) ∙ lt) in
          absurd (cc)
      | inr off ↦ off
    ]

module _ (source : List ℕ) where
  abbrev of_source : List OffsetRow → List OffsetRow
  of_source rows = filter (λ r. bytes_eq r.source source) rows

  stream_goes : (name stream : List ℕ) (ps : List Offset) → bytes_eq name source ≡ false → of_source (stream_rows name stream ps) ≡ []
  stream_goes name stream [] off = refl
  stream_goes name stream (p ∷ ps) off = ap (λ b. cond b (row_for name stream p ∷ of_source (stream_rows name stream ps)) (of_source (stream_rows name stream ps))) off ∙ stream_goes name stream ps off

  source_goes : (name : List ℕ) (ts : Streams) → bytes_eq name source ≡ false → of_source (source_rows name ts) ≡ []
  source_goes name [] off = refl
  source_goes name (t ∷ ts) off =
      filter-append (λ r. bytes_eq r.source source) (stream_rows name t.0 t.1) (source_rows name ts)
      ∙ ap₂ (λ xs ys. xs ++ ys) (stream_goes name t.0 t.1 off) (source_goes name ts off)

  stream_stays : (stream : List ℕ) (ps : List Offset) → of_source (stream_rows source stream ps) ≡ stream_rows source stream ps
  stream_stays stream [] = refl
  stream_stays stream (p ∷ ps) =
      ap (λ b. cond b (row_for source stream p ∷ of_source (stream_rows source stream ps)) (of_source (stream_rows source stream ps))) ((bytes_eq-Decides source source).1 refl)
      ∙ ap (λ rows. row_for source stream p ∷ rows) (stream_stays stream ps)

  source_stays : (ts : Streams) → of_source (source_rows source ts) ≡ source_rows source ts
  source_stays [] = refl
  source_stays (t ∷ ts) =
      filter-append (λ r. bytes_eq r.source source) (stream_rows source t.0 t.1) (source_rows source ts)
      ∙ ap₂ (λ xs ys. xs ++ ys) (stream_stays t.0 t.1) (source_stays ts)

  before_go : (ss : Sources) → AllByRecursion (λ e. name_cmp e.0 source ≡ Less) ss → of_source (all_rows ss) ≡ []
  before_go [] h = refl
  before_go (s ∷ ss) h =
      filter-append (λ r. bytes_eq r.source source) (source_rows s.0 s.1) (all_rows ss)
      ∙ ap₂ (λ xs ys. xs ++ ys) (source_goes s.0 s.1 (less_apart s.0 source h.0)) (before_go ss h.1)

  after_go : (ss : Sources) → AllByRecursion (λ e. name_cmp source e.0 ≡ Less) ss → of_source (all_rows ss) ≡ []
  after_go [] h = refl
  after_go (s ∷ ss) h =
      filter-append (λ r. bytes_eq r.source source) (source_rows s.0 s.1) (all_rows ss)
      ∙ ap₂ (λ xs ys. xs ++ ys) (source_goes s.0 s.1 (more_apart source s.0 h.0)) (after_go ss h.1)

  of_split : (ss : Sources) → Split source ss → of_source (all_rows ss) ≡ source_rows source (under source ss)
  of_split ss s =
      let mine : List (List ℕ × Streams) = entry_of source (lookup (is_at (name_cmp source)) ss) in
      let own : of_source (all_rows mine) ≡ source_rows source (under source ss) =
      ap of_source (one_source source (lookup (is_at (name_cmp source)) ss)) ∙ source_stays (under source ss) in
      ap (λ (xs : Sources). of_source (all_rows xs)) s.whole
      ∙ (
      ap of_source (sources_append s.front (mine ++ s.back) ∙ ap (λ r. all_rows s.front ++ r) (sources_append mine s.back))
      ∙ (
      filter-append (λ r. bytes_eq r.source source) (all_rows s.front) (all_rows mine ++ all_rows s.back)
      ∙ (
      ap (λ r. r ++ of_source (all_rows mine ++ all_rows s.back)) (before_go s.front s.less)
      ∙ (
      filter-append (λ r. bytes_eq r.source source) (all_rows mine) (all_rows s.back)
      ∙ (ap₂ (λ xs ys. xs ++ ys) own (after_go s.back s.more) ∙ nothing_behind (source_rows source (under source ss)))
      )
      )
      )
      )

-- those of the source are the rows of what stands under it
pub rows_of_source : (source : List ℕ) (ss : Sources) → AreOrdered ss → (ts : Streams) → under source ss ≡ ts → source_rows source ts ≡ filter (λ r. bytes_eq r.source source) (all_rows ss)
rows_of_source source ss sorted ts found = ap (source_rows source) (sym found) ∙ sym (of_split source ss (split source ss sorted))
