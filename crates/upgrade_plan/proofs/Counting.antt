-- How many parts a chunk gets, and what an insert and a replacement have in common.
use Rattle.std.proofs.Common.{◌+◌, ◌++◌, ◌∙◌, ◌∷◌, ◌≡◌, ◌≤◌, Bool, List, [], ap, arith, false, filter, length, map, nat_lt, refl, suc, true, zero, ℕ, ℤ}
use Rattle.std.specs.List.{list_any}
use Rattle.std.proofs.lemmas.Bool.{le-ltb, leb-true, or_from}
use Rattle.std.proofs.lemmas.List.{append-nil, length-map}
use Rattle.std.proofs.lemmas.List.Sums.{count_by-le-length, length-filter}
use Rattle.iv_span.specs.Extent.{Extent}
use Rattle.seg_names.specs.declared.seg_id.SegId.{SegId}
use Rattle.book_rows.specs.Form.{is_few, item_limit}
use Rattle.book_rows.specs.Ids.{is_of_span}
use Rattle.book_rows.specs.Lists.{gathered}
use Rattle.book_rows.specs.Outcome.{part_limit}
use Rattle.book_rows.specs.Over.{Filling, Inserting, Replacing, Target}
use Rattle.book_rows.specs.Rewrite.{copies_for, core_by, core_of, how_many, is_copied, is_taken_up, own_rows, pending_copy, upgrade_copy}
use Rattle.book_rows.specs.declared.rows.PendingRow.{PendingRow}
use Rattle.book_rows.specs.declared.rows.SegmentRow.{SegmentRow}
use Rattle.book_rows.specs.declared.rows.UpgradeRow.{UpgradeRow}
use Rattle.tab_pending.specs.PendingRows.{PendingRows}
use Rattle.upgrade_plan.specs.NewRows.{AreWithinLimit, chunk_in, copies_from, copies_in, new_chunks, new_pendings, new_segments}
use Rattle.upgrade_plan.proofs.Numbering.{length-numbered}

-- ---- counts

filter_short : {X : Type 0} (p : X → Bool) (xs : List X) → length (filter p xs) ≤ length xs
filter_short p xs = rw (length-filter p xs) (count_by-le-length p xs)

pub how_many_is : (ps : List PendingRow) (us : List UpgradeRow) (lock : ℕ) (source : List ℕ) (span : Extent) (version : ℤ) (from k : ℕ)
    → how_many (copies_for ps us lock source span version from k) ≡ length (filter (is_taken_up lock span) us) + length (filter (is_copied source span) ps)
how_many_is ps us lock source span version from k =
    rw (
      length-numbered (upgrade_copy source span version k) from (filter (is_taken_up lock span) us),
      length-numbered (pending_copy source span version) (from + length (filter (is_taken_up lock span) us)) (filter (is_copied source span) ps),
    ) refl

module _ (ps : List PendingRow) (us : List UpgradeRow) (lock : ℕ) (source : List ℕ) (span : Extent) (version : ℤ) (from k : ℕ) (fit : from + how_many (copies_for ps us lock source span version from k) ≤ part_limit) where
  -- the copies of these roots fit, and those of these pendings behind them
  pub roots_fit : (roots : List SegId) → roots ≡ map (λ u. u.root) (filter (is_taken_up lock span) us) → from + length roots ≤ part_limit
  roots_fit roots e =
      let count = how_many_is ps us lock source span version from k in
      let same : length roots ≡ length (filter (is_taken_up lock span) us) = ap length e ∙ length-map (filter (is_taken_up lock span) us) (λ u. u.root) in
      omega (arith, count, same, fit)

  pub all_fit : (roots : List SegId) (waiting : List PendingRow) → roots ≡ map (λ u. u.root) (filter (is_taken_up lock span) us) → waiting ≡ filter (is_copied source span) ps → from + length roots + length waiting ≤ part_limit
  all_fit roots waiting e d =
      let count = how_many_is ps us lock source span version from k in
      let same : length roots ≡ length (filter (is_taken_up lock span) us) = ap length e ∙ length-map (filter (is_taken_up lock span) us) (λ u. u.root) in
      let others : length waiting ≡ length (filter (is_copied source span) ps) = ap length d in
      omega (arith, count, same, others, fit)

-- the copies fit, where neither table has too many rows
pub copies_fit : (f : Filling) (ps : PendingRows) (source : List ℕ) (k : ℕ) (x : Target) (from : ℕ) → from ≤ item_limit → AreWithinLimit ps → from + how_many (copies_from f ps source k x from) ≤ part_limit
copies_fit Inserting ps source k x from few rows = omega arith
copies_fit Replacing ps source k x from few rows =
    let count = how_many_is ps.pendings ps.upgrades x.lock source x.span x.version from k in
    let us : length (filter (is_taken_up x.lock x.span) ps.upgrades) ≤ length ps.upgrades = filter_short (is_taken_up x.lock x.span) ps.upgrades in
    let qs : length (filter (is_copied source x.span) ps.pendings) ≤ length ps.pendings = filter_short (is_copied source x.span) ps.pendings in
    rw count (omega (arith, us, qs, few, rows.pendings, rows.upgrades))

core_few : (n : ℕ) → n ≤ item_limit → core_by n ≤ item_limit
core_few zero le = omega arith
core_few (suc n) le = le

pub few_in_span : (ids : List SegId) (span : Extent) → is_few ids ≡ true → length (filter (is_of_span span) ids) ≤ item_limit
few_in_span ids span few =
    let all : length ids ≤ item_limit = leb-true (length ids) item_limit few in
    let some : length (filter (is_of_span span) ids) ≤ length ids = filter_short (is_of_span span) ids in
    omega (arith, all, some)

pub few_parts_whole : (ids : List SegId) (span : Extent) → is_few ids ≡ true → core_of ids span ≤ item_limit
few_parts_whole ids span few = core_few (length (filter (is_of_span span) ids)) (few_in_span ids span few)

-- ---- target by target

module _ (f : Filling) (ps : PendingRows) (source : List ℕ) (ids : List SegId) (k : ℕ) where
  pub no_chunk_full : is_few ids ≡ true → AreWithinLimit ps → (xs : List Target) → list_any (λ c. nat_lt part_limit c.next) (map (chunk_in f ps source ids k) xs) ≡ false
  no_chunk_full few rows [] = refl
  no_chunk_full few rows (x ∷ xs) =
      let fits = copies_fit f ps source k x (core_of ids x.span) (few_parts_whole ids x.span few) rows in
      or_from (nat_lt part_limit (chunk_in f ps source ids k x).next) (list_any (λ c. nat_lt part_limit c.next) (map (chunk_in f ps source ids k) xs))
      (le-ltb part_limit (chunk_in f ps source ids k x).next fits)
      (no_chunk_full few rows xs)

gathered_none : {X Y : Type 0} (xs : List X) → gathered {X = X} {Y = Y} (λ x. []) xs ≡ []
gathered_none [] = refl
gathered_none (x ∷ xs) = gathered_none xs

pub chunks_are : (f : Filling) (ps : PendingRows) (source : List ℕ) (ids : List SegId) (k : ℕ) (xs : List Target) → map (chunk_in f ps source ids k) xs ≡ new_chunks f ps source ids k xs
chunks_are Inserting ps source ids k xs = refl
chunks_are Replacing ps source ids k xs = refl

pub segments_are : (f : Filling) (ps : PendingRows) (source : List ℕ) (ids tombs : List SegId) (k : ℕ) (xs : List Target)
    → gathered (λ x. own_rows k ids tombs x.span) xs ++ gathered (λ x. (copies_in f ps source ids k x).segments) xs ≡ new_segments f ps source ids tombs k xs
segments_are Inserting ps source ids tombs k xs = ap (λ rows. gathered (λ x. own_rows k ids tombs x.span) xs ++ rows) (gathered_none xs) ∙ append-nil (gathered (λ x. own_rows k ids tombs x.span) xs)
segments_are Replacing ps source ids tombs k xs = refl

-- the same of rows that were made in two steps, from ids that were put into other values
pub segments_by : (f : Filling) (ps : PendingRows) (source : List ℕ) (k : ℕ) (xs : List Target) (ids put tombs put_tombs : List SegId) (own rows : List SegmentRow)
    → put ≡ ids → put_tombs ≡ tombs → own ≡ gathered (λ x. own_rows k put put_tombs x.span) xs → rows ≡ own ++ gathered (λ x. (copies_in f ps source put k x).segments) xs → rows ≡ new_segments f ps source ids tombs k xs
segments_by f ps source k xs ids put tombs put_tombs own rows same same_tombs first e = e ∙ rw (first, same, same_tombs) (segments_are f ps source ids tombs k xs)

pub pendings_are : (f : Filling) (ps : PendingRows) (source : List ℕ) (ids : List SegId) (k : ℕ) (xs : List Target) → gathered (λ x. (copies_in f ps source ids k x).pendings) xs ≡ new_pendings f ps source ids k xs
pendings_are Inserting ps source ids k xs = gathered_none xs
pendings_are Replacing ps source ids k xs = refl
