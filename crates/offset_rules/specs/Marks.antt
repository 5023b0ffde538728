-- How far the ranges of each partition have come, publication by publication, and where each stream was last reset.
use Rattle.std.specs.Prelude.{◌&&◌, ◌++◌, ◌+◌, ◌==◌, ◌∷◌, ◌≡◌, Bool, List, None, Option, Some, [], bytes_eq, cond, false, find, fold, map, nat_le, nat_lt, true, ℕ}
use Rattle.std.specs.List.{list_all, list_any}
use Rattle.std.proofs.Common.{ap, arith, refl, ◌∙◌}
use Rattle.std.proofs.lemmas.Bool.{and_parts, eqb-true}
use Rattle.std.proofs.lemmas.Bool.Decides.{nat_tests}
use Rattle.std.proofs.lemmas.Slice.Eq.{bytes_eq-Decides}
use Rattle.book_rows.specs.Offsets.{stored}
use Rattle.book_rows.specs.Tiles.{goes_on, is_reset}
use Rattle.book_rows.specs.declared.rows.OffsetRow.{OffsetRow}
use Rattle.book_rows.specs.declared.rows.Publication.{Publication}
use Rattle.book_rows.specs.declared.rows.Range.{Range}
use Rattle.book_rows.specs.declared.rows.Ranges.{Ranges}
use Rattle.row_index.specs.Digests.{mix}
use Rattle.row_index.specs.Index.{IsReached, digest_key, digest_range}
use Rattle.row_table.specs.Table.{settled}
use Rattle.laws_unsound.specs.HistoryRows.{ends_at}
use Rattle.row_search.specs.Reached.{digest_reaches}

-- the last publication with the partition, counted from 1, and where its ranges end then that go on from one another: nothing where they don't, and none where there are none
pub record Mark : Type 0 where
  pub source : List ℕ
  pub stream : List ℕ
  pub partition : ℕ
  pub place : ℕ
  pub end : Option (Option ℕ)

-- the last reset of a stream, counted from 1
pub record ResetAt : Type 0 where
  pub source : List ℕ
  pub stream : List ℕ
  pub place : ℕ

pub record History : Type 0 where
  pub marks : List Mark
  pub resets : List ResetAt

abbrev pub is_mark_of : List ℕ → List ℕ → ℕ → Mark → Bool
is_mark_of source stream partition m = bytes_eq m.source source && (bytes_eq m.stream stream && (m.partition == partition))

abbrev pub is_reset_of : List ℕ → List ℕ → ResetAt → Bool
is_reset_of source stream r = bytes_eq r.source source && bytes_eq r.stream stream

-- 0 where the stream was never reset
abbrev pub place_or_none : Option ResetAt → ℕ
place_or_none None = 0
place_or_none (Some r) = r.place

abbrev pub since_of : List ResetAt → List ℕ → List ℕ → ℕ
since_of rs source stream = place_or_none (find (is_reset_of source stream) rs)

-- a mark from before the last reset says nothing
abbrev pub end_by : ℕ → Option Mark → Option (Option ℕ)
end_by since None = Some None
end_by since (Some m) = cond (nat_le since m.place) m.end (Some None)

abbrev pub end_of : History → List ℕ → List ℕ → ℕ → Option (Option ℕ)
end_of h source stream partition = end_by (since_of h.resets source stream) (find (is_mark_of source stream partition) h.marks)

-- ---- a range more

abbrev pub end_on : Option (Option ℕ) → Range → Option (Option ℕ)
end_on None r = None
end_on (Some z) r = cond (nat_le r.start r.end && goes_on z r.start) (Some (Some r.end)) None

-- a reset lists an offset, from which ranges go on
abbrev pub end_after : Bool → Option (Option ℕ) → Range → Option (Option ℕ)
end_after reset e r = cond reset (Some (Some r.start)) (end_on e r)

-- a publication in its place, and what it reads
pub record Reading : Type 0 where
  pub place : ℕ
  pub reset : Bool
  pub since : ℕ
  pub source : List ℕ
  pub stream : List ℕ

abbrev pub moved : Reading → Range → Mark → Mark
moved g r m = record m { place = g.place; end = end_after g.reset (end_by g.since (Some m)) r }

abbrev pub first_mark : Reading → Range → Mark
first_mark g r = record { source = g.source; stream = g.stream; partition = r.partition; place = g.place; end = end_after g.reset (Some None) r }

-- a mark of the partition from an earlier publication
abbrev pub is_older : Reading → Range → Mark → Bool
is_older g r m = is_mark_of g.source g.stream r.partition m && nat_lt m.place g.place

abbrev pub put_mark : Reading → Range → List Mark → List Mark
put_mark g r ms = cond (list_any (is_mark_of g.source g.stream r.partition) ms) (map (settled (is_older g r) (moved g r)) ms) (ms ++ first_mark g r ∷ [])

abbrev pub put_marks : Reading → List Range → List Mark → List Mark
put_marks g [] ms = ms
put_marks g (r ∷ rs) ms = put_marks g rs (put_mark g r ms)

-- ---- a reset more

abbrev pub is_older_reset : ℕ → List ℕ → List ℕ → ResetAt → Bool
is_older_reset place source stream r = is_reset_of source stream r && nat_lt r.place place

abbrev pub reset_to : ℕ → ResetAt → ResetAt
reset_to place r = record r { place = place }

abbrev pub put_reset : ℕ → List ℕ → List ℕ → List ResetAt → List ResetAt
put_reset place source stream rs =
    cond (list_any (is_reset_of source stream) rs) (map (settled (is_older_reset place source stream) (reset_to place)) rs) (rs ++ record { source = source; stream = stream; place = place } ∷ [])

-- ---- a publication more

abbrev pub resets_with : Bool → ℕ → List ℕ → List ℕ → List ResetAt → List ResetAt
resets_with reset place source stream rs = cond reset (put_reset place source stream rs) rs

abbrev pub history_with : ℕ → Bool → List ℕ → Ranges → History → History
history_with place reset source ranges h = record {
  marks = put_marks (record { place = place; reset = reset; since = since_of (resets_with reset place source ranges.stream h.resets) source ranges.stream; source = source; stream = ranges.stream }) ranges.parts h.marks;
  resets = resets_with reset place source ranges.stream h.resets;
}

abbrev pub history_on : ℕ → Publication → Option Ranges → History → History
history_on place m None h = h
history_on place m (Some ranges) h = history_with place (is_reset m.kind) m.source ranges h

abbrev pub history_from : ℕ → List Publication → History → History
history_from k [] h = h
history_from k (m ∷ ms) h = history_from (k + 1) ms (history_on (k + 1) m m.ranges h)

abbrev pub no_history : History
no_history = record { marks = []; resets = [] }

abbrev pub history_of : List Publication → History
history_of pubs = history_from 0 pubs no_history

-- ---- what is stored

unfoldable pub is_tiled_by : History → List OffsetRow → List ℕ → List ℕ → ℕ → Bool
is_tiled_by h rows source stream partition = ends_at (end_of h source stream partition) (stored rows source stream partition)

unfoldable pub are_tiled_in : History → List OffsetRow → List ℕ → Option Ranges → Bool
are_tiled_in h rows source None = true
are_tiled_in h rows source (Some ranges) = list_all (λ r. is_tiled_by h rows source ranges.stream r.partition) ranges.parts

abbrev pub are_tiled_by : History → List Publication → List OffsetRow → Bool
are_tiled_by h pubs rows = list_all (λ m. are_tiled_in h rows m.source m.ranges) pubs && list_all (λ r. is_tiled_by h rows r.source r.stream r.partition) rows

-- ---- how marks, resets and stored offsets are found

abbrev pub part_digest : ℕ → List ℕ → List ℕ → ℕ → ℕ
part_digest digest source stream partition = mix (fold mix (fold mix digest source) stream) partition

abbrev pub stream_digest : List ℕ → List ℕ → ℕ
stream_digest source stream = fold mix (fold mix 17 source) stream

parts_mix : (digest : ℕ) (s z t u : List ℕ) (n k : ℕ) → (bytes_eq s z && (bytes_eq t u && (n == k))) ≡ true → part_digest digest s t n ≡ part_digest digest z u k
parts_mix digest s z t u n k on =
    let first = and_parts (bytes_eq s z) (bytes_eq t u && (n == k)) on in
    let second = and_parts (bytes_eq t u) (n == k) first.1 in
    ap (λ (x : List ℕ). part_digest digest x t n) ((bytes_eq-Decides s z).0 first.0)
    ∙ (ap (λ (x : List ℕ). part_digest digest z x n) ((bytes_eq-Decides t u).0 second.0) ∙ ap (λ (x : ℕ). part_digest digest z u x) (eqb-true n k second.1))

pub mark_reaches : (source stream : List ℕ) (partition : ℕ) (m : Mark) → is_mark_of source stream partition m ≡ true
    → IsReached (digest_range (part_digest 16 source stream partition) ∷ []) (digest_key (part_digest 16 m.source m.stream m.partition) ∷ [])
mark_reaches source stream partition m on = digest_reaches (part_digest 16 source stream partition) (part_digest 16 m.source m.stream m.partition) (parts_mix 16 m.source source m.stream stream m.partition partition on)

pub older_reaches : (g : Reading) (r : Range) (m : Mark) → is_older g r m ≡ true
    → IsReached (digest_range (part_digest 16 g.source g.stream r.partition) ∷ []) (digest_key (part_digest 16 m.source m.stream m.partition) ∷ [])
older_reaches g r m on = mark_reaches g.source g.stream r.partition m (and_parts (is_mark_of g.source g.stream r.partition m) (nat_lt m.place g.place) on).0

pub reset_reaches : (source stream : List ℕ) (r : ResetAt) → is_reset_of source stream r ≡ true → IsReached (digest_range (stream_digest source stream) ∷ []) (digest_key (stream_digest r.source r.stream) ∷ [])
reset_reaches source stream r on =
    let both = and_parts (bytes_eq r.source source) (bytes_eq r.stream stream) on in
    digest_reaches (stream_digest source stream) (stream_digest r.source r.stream)
    (ap (λ (x : List ℕ). stream_digest x r.stream) ((bytes_eq-Decides r.source source).0 both.0) ∙ ap (λ (x : List ℕ). stream_digest source x) ((bytes_eq-Decides r.stream stream).0 both.1))

pub older_reset_reaches : (place : ℕ) (source stream : List ℕ) (r : ResetAt) → is_older_reset place source stream r ≡ true → IsReached (digest_range (stream_digest source stream) ∷ []) (digest_key (stream_digest r.source r.stream) ∷ [])
older_reset_reaches place source stream r on = reset_reaches source stream r (and_parts (is_reset_of source stream r) (nat_lt r.place place) on).0

not_below : (n : ℕ) → nat_lt n n ≡ false
not_below n = grind (arith, nat_tests)

never : (b c : Bool) → c ≡ false → (b && c) ≡ false
never true c e = e
never false c e = refl

-- a mark that was moved isn't older
pub mark_settles : (g : Reading) (r : Range) (m : Mark) → is_older g r m ≡ true → is_older g r (moved g r m) ≡ false
mark_settles g r m on = never (is_mark_of g.source g.stream r.partition m) (nat_lt g.place g.place) (not_below g.place)

pub reset_settles : (place : ℕ) (source stream : List ℕ) (r : ResetAt) → is_older_reset place source stream r ≡ true → is_older_reset place source stream (reset_to place r) ≡ false
reset_settles place source stream r on = never (is_reset_of source stream r) (nat_lt place place) (not_below place)

-- ---- stored offsets

pub stored_reaches : (source stream : List ℕ) (partition : ℕ) (r : OffsetRow) → ((bytes_eq r.source source && bytes_eq r.stream stream) && (r.partition == partition)) ≡ true
    → IsReached (digest_range (part_digest 18 source stream partition) ∷ []) (digest_key (part_digest 18 r.source r.stream r.partition) ∷ [])
stored_reaches source stream partition r on =
    let both = and_parts (bytes_eq r.source source && bytes_eq r.stream stream) (r.partition == partition) on in
    let two = and_parts (bytes_eq r.source source) (bytes_eq r.stream stream) both.0 in
    digest_reaches (part_digest 18 source stream partition) (part_digest 18 r.source r.stream r.partition)
    (ap (λ (x : List ℕ). part_digest 18 x r.stream r.partition) ((bytes_eq-Decides r.source source).0 two.0)
    ∙ (ap (λ (x : List ℕ). part_digest 18 source x r.partition) ((bytes_eq-Decides r.stream stream).0 two.1) ∙ ap (λ (x : ℕ). part_digest 18 source stream x) (eqb-true r.partition partition both.1)))
