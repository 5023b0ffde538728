-- The rows of all sources, split at one stream.
use Rattle.std.proofs.Common.{◌++◌, ◌∙◌, ◌∷◌, ◌≡◌, List, None, Option, Some, [], ap, ap₂, refl, sym, ℕ}
use Rattle.std.specs.BTreeMap.{insert_entry, is_at}
use Rattle.std.specs.List.{AllByRecursion}
use Rattle.std.specs.Map.{lookup, remove_entry}
use Rattle.std.specs.Ordering.{ordering_reverse, ordering_then}
use Rattle.std.specs.declared.cmp.Ordering.TheVariants.{Greater, Less}
use Rattle.std.proofs.lemmas.Cmp.{nat_list_cmp_total, tied_itself}
use Rattle.book_rows.specs.Ids.{is_less}
use Rattle.book_rows.specs.Offsets.{row_for}
use Rattle.book_rows.specs.declared.rows.Offset.{Offset}
use Rattle.book_rows.specs.declared.rows.OffsetRow.{OffsetRow}
use Rattle.tab_streams.specs.ByName.{AreOrdered, all_rows, or_nothing, source_rows, stream_rows, under}
use Rattle.tab_streams.proofs.NameSplit.{Split, entry_of, name_cmp, split}
use Rattle.tab_streams.proofs.RowOrder.{IsFirst, IsLast, first_by, last_by}

abbrev pub Streams : Type 0
Streams = List (List ℕ × List Offset)

abbrev pub Sources : Type 0
Sources = List (List ℕ × Streams)

-- ---- lists of lists

all_both : (P : OffsetRow → Type 0) (xs ys : List OffsetRow) → AllByRecursion P xs → AllByRecursion P ys → AllByRecursion P (xs ++ ys)
all_both P [] ys a b = b
all_both P (x ∷ xs) ys a b = (a.0, all_both P xs ys a.1 b)

append_assoc : (xs ys zs : List OffsetRow) → (xs ++ ys) ++ zs ≡ xs ++ (ys ++ zs)
append_assoc [] ys zs = refl
append_assoc (x ∷ xs) ys zs = ap (λ r. x ∷ r) (append_assoc xs ys zs)

streams_append : (source : List ℕ) (xs ys : Streams) → source_rows source (xs ++ ys) ≡ source_rows source xs ++ source_rows source ys
streams_append source [] ys = refl
streams_append source (x ∷ xs) ys =
    ap (λ r. stream_rows source x.0 x.1 ++ r) (streams_append source xs ys) ∙ sym (append_assoc (stream_rows source x.0 x.1) (source_rows source xs) (source_rows source ys))

pub sources_append : (xs ys : Sources) → all_rows (xs ++ ys) ≡ all_rows xs ++ all_rows ys
sources_append [] ys = refl
sources_append (x ∷ xs) ys = ap (λ r. source_rows x.0 x.1 ++ r) (sources_append xs ys) ∙ sym (append_assoc (source_rows x.0 x.1) (all_rows xs) (all_rows ys))

pub nothing_behind : (xs : List OffsetRow) → xs ++ [] ≡ xs
nothing_behind [] = refl
nothing_behind (x ∷ xs) = ap (λ r. x ∷ r) (nothing_behind xs)

one_stream : (source stream : List ℕ) (o : Option (List Offset)) → source_rows source (entry_of stream o) ≡ stream_rows source stream (or_nothing o)
one_stream source stream None = refl
one_stream source stream (Some ps) = nothing_behind (stream_rows source stream ps)

pub one_source : (source : List ℕ) (o : Option Streams) → all_rows (entry_of source o) ≡ source_rows source (or_nothing o)
one_source source None = refl
one_source source (Some ts) = nothing_behind (source_rows source ts)

joined : (a b m c d : List OffsetRow) → a ++ ((b ++ (m ++ c)) ++ d) ≡ (a ++ b) ++ (m ++ (c ++ d))
joined [] [] [] c d = refl
joined [] [] (x ∷ m) c d = ap (λ r. x ∷ r) (joined [] [] m c d)
joined [] (x ∷ b) m c d = ap (λ r. x ∷ r) (joined [] b m c d)
joined (x ∷ a) b m c d = ap (λ r. x ∷ r) (joined a b m c d)

-- ---- rows of other names stand before the stream's, or after them

module _ (source stream : List ℕ) where
  rows_all : (P : OffsetRow → Type 0) (s t : List ℕ) (ps : List Offset) → ((o : Offset) → P (row_for s t o)) → AllByRecursion P (stream_rows s t ps)
  rows_all P s t [] h = tt
  rows_all P s t (p ∷ ps) h = (h p, rows_all P s t ps h)

  source_all : (P : OffsetRow → Type 0) (s : List ℕ) (ts : Streams) → ((t : List ℕ) (o : Offset) → P (row_for s t o)) → AllByRecursion P (source_rows s ts)
  source_all P s [] h = tt
  source_all P s (t ∷ ts) h = all_both P (stream_rows s t.0 t.1) (source_rows s ts) (rows_all P s t.0 t.1 (h t.0)) (source_all P s ts h)

  first_sources : (ss : Sources) → AllByRecursion (λ e. name_cmp e.0 source ≡ Less) ss → AllByRecursion (IsFirst source stream) (all_rows ss)
  first_sources [] h = tt
  first_sources (e ∷ ss) h =
      all_both (IsFirst source stream) (source_rows e.0 e.1) (all_rows ss)
      (source_all (IsFirst source stream) e.0 e.1 (λ t o. first_by source stream (row_for e.0 t o) (ap (λ x. is_less (ordering_then x (name_cmp t stream))) h.0)))
      (first_sources ss h.1)

  last_sources : (ss : Sources) → AllByRecursion (λ e. name_cmp source e.0 ≡ Less) ss → AllByRecursion (IsLast source stream) (all_rows ss)
  last_sources [] h = tt
  last_sources (e ∷ ss) h =
      let turned : name_cmp e.0 source ≡ Greater = nat_list_cmp_total.antisymm e.0 source ∙ ap ordering_reverse h.0 in
      all_both (IsLast source stream) (source_rows e.0 e.1) (all_rows ss)
      (source_all (IsLast source stream) e.0 e.1 (λ t o. last_by source stream (row_for e.0 t o) (ap (λ x. is_less (ordering_reverse (ordering_then x (name_cmp t stream)))) turned)))
      (last_sources ss h.1)

  first_streams : (ts : Streams) → AllByRecursion (λ e. name_cmp e.0 stream ≡ Less) ts → AllByRecursion (IsFirst source stream) (source_rows source ts)
  first_streams [] h = tt
  first_streams (e ∷ ts) h =
      all_both (IsFirst source stream) (stream_rows source e.0 e.1) (source_rows source ts)
      (rows_all (IsFirst source stream) source e.0 e.1 (λ o. first_by source stream (row_for source e.0 o) (ap₂ (λ x y. is_less (ordering_then x y)) (tied_itself nat_list_cmp_total source) h.0)))
      (first_streams ts h.1)

  last_streams : (ts : Streams) → AllByRecursion (λ e. name_cmp stream e.0 ≡ Less) ts → AllByRecursion (IsLast source stream) (source_rows source ts)
  last_streams [] h = tt
  last_streams (e ∷ ts) h =
      let turned : name_cmp e.0 stream ≡ Greater = nat_list_cmp_total.antisymm e.0 stream ∙ ap ordering_reverse h.0 in
      all_both (IsLast source stream) (stream_rows source e.0 e.1) (source_rows source ts)
      (rows_all (IsLast source stream) source e.0 e.1 (λ o. last_by source stream (row_for source e.0 o) (ap₂ (λ x y. is_less (ordering_reverse (ordering_then x y))) (tied_itself nat_list_cmp_total source) turned)))
      (last_streams ts h.1)

  -- ---- the rows before and after the stream's, whatever it has

  pub record Around (ss : Sources) : Type 0 where
    pub front : List OffsetRow
    pub back : List OffsetRow
    pub whole : all_rows ss ≡ front ++ (stream_rows source stream (under stream (under source ss)) ++ back)
    pub put : (ps : List Offset) → all_rows (insert_entry name_cmp ss source (insert_entry name_cmp (under source ss) stream ps)) ≡ front ++ (stream_rows source stream ps ++ back)
    pub removed : all_rows (insert_entry name_cmp ss source (remove_entry (is_at (name_cmp stream)) (under source ss))) ≡ front ++ back
    pub first : AllByRecursion (IsFirst source stream) front
    pub last : AllByRecursion (IsLast source stream) back

  around_by : (ss : Sources) → Split source ss → Split stream (under source ss) → Around ss
  around_by ss s t =
      let a : List OffsetRow = all_rows s.front in
      let b : List OffsetRow = source_rows source t.front in
      let m : List OffsetRow = stream_rows source stream (under stream (under source ss)) in
      let c : List OffsetRow = source_rows source t.back in
      let d : List OffsetRow = all_rows s.back in
      let own : source_rows source (under source ss) ≡ b ++ (m ++ c) =
      ap (source_rows source) t.whole
      ∙ (
      streams_append source t.front (entry_of stream (lookup (is_at (name_cmp stream)) (under source ss)) ++ t.back)
      ∙ ap (λ r. b ++ r) (streams_append source (entry_of stream (lookup (is_at (name_cmp stream)) (under source ss))) t.back ∙ ap (λ r. r ++ c) (one_stream source stream (lookup (is_at (name_cmp stream)) (under source ss))))
      ) in
      record {
        front = a ++ b;
        back = c ++ d;
        whole =
            ap all_rows s.whole
            ∙ (
            sources_append s.front (entry_of source (lookup (is_at (name_cmp source)) ss) ++ s.back)
            ∙ (
            ap (λ r. a ++ r) (sources_append (entry_of source (lookup (is_at (name_cmp source)) ss)) s.back ∙ ap (λ r. r ++ d) (one_source source (lookup (is_at (name_cmp source)) ss) ∙ own))
            ∙ joined a b m c d
            )
            );
        put = λ ps.
            let inner : Streams = insert_entry name_cmp (under source ss) stream ps in
            ap all_rows (s.put inner)
            ∙ (
            sources_append s.front ((source, inner) ∷ s.back)
            ∙ (
            ap (λ r. a ++ (r ++ d)) (ap (source_rows source) (t.put ps) ∙ streams_append source t.front ((stream, ps) ∷ t.back))
            ∙ joined a b (stream_rows source stream ps) c d
            )
            );
        removed =
            let inner : Streams = remove_entry (is_at (name_cmp stream)) (under source ss) in
            ap all_rows (s.put inner)
            ∙ (
            sources_append s.front ((source, inner) ∷ s.back)
            ∙ (ap (λ r. a ++ (r ++ d)) (ap (source_rows source) t.removed ∙ streams_append source t.front t.back) ∙ joined a b [] c d)
            );
        first = all_both (IsFirst source stream) a b (first_sources s.front s.less) (first_streams t.front t.less);
        last = all_both (IsLast source stream) c d (last_streams t.back t.more) (last_sources s.back s.more);
      }

  pub around : (ss : Sources) → AreOrdered ss → AreOrdered (under source ss) → Around ss
  around ss outer inner = around_by ss (split source ss outer) (split stream (under source ss) inner)

-- ---- a source that has nothing

empty_source : (source : List ℕ) (ss : Sources) → Split source ss → under source ss ≡ [] → all_rows (remove_entry (is_at (name_cmp source)) ss) ≡ all_rows ss
empty_source source ss s none =
    let o : Option Streams = lookup (is_at (name_cmp source)) ss in
    let middle : all_rows (entry_of source o) ≡ [] = one_source source o ∙ ap (source_rows source) none in
    ap all_rows s.removed
    ∙ (
    sources_append s.front s.back
    ∙ sym (
    ap all_rows s.whole
    ∙ (
    sources_append s.front (entry_of source o ++ s.back)
    ∙ ap (λ r. all_rows s.front ++ r) (sources_append (entry_of source o) s.back ∙ ap (λ r. r ++ all_rows s.back) middle)
    )
    )
    )

pub source_removed : (source : List ℕ) (ss : Sources) → AreOrdered ss → under source ss ≡ [] → all_rows (remove_entry (is_at (name_cmp source)) ss) ≡ all_rows ss
source_removed source ss sorted none = empty_source source ss (split source ss sorted) none
