-- One publication more keeps that the ranges tile: one with ranges that go on, one without ranges, and a reset.
use Rattle.std.proofs.Common.{◌≡◌, ℕ, Bool, true, false, cond, ◌==◌, ◌&&◌, List, [], ◌∷◌, ◌++◌, map, Some, None, Option, refl, ap, arith, nat_le, nat_lt, bytes_eq}
use Rattle.std.proofs.lemmas.Bool.Decides.{nat_tests}
use Rattle.std.proofs.lemmas.Bool.{eqb-true}
use Rattle.std.proofs.lemmas.List.{append-nil}
use Rattle.book_rows.specs.Lists.{or_else}
use Rattle.book_rows.specs.Offsets.{advance, advanced, compare, compared, mismatch, part_fault, point_of, reset_to, stored}
use Rattle.book_rows.specs.Publications.{reset_publication}
use Rattle.book_rows.specs.Tiles.{IsTiled, Run, as_list, ends_with, goes_on, is_reset, no_run, part_at, run_by, run_of, start_in}
use Rattle.book_rows.specs.declared.replies.Refusal.{Refusal}
use Rattle.book_rows.specs.declared.replies.Refusal.TheVariants as Refusals
use Rattle.book_rows.specs.declared.rows.Offset.{Offset}
use Rattle.book_rows.specs.declared.rows.OffsetRow.{OffsetRow}
use Rattle.book_rows.specs.declared.rows.Publication.{Publication}
use Rattle.book_rows.specs.declared.rows.Range.{Range}
use Rattle.book_rows.specs.declared.rows.Ranges.{Ranges}
use Rattle.laws_offsets.specs.Lookups.{end_in, listed}
use Rattle.laws_offsets.proofs.Distinct.{HasDistinctParts, HasDistinctPartitions}
use Rattle.laws_offsets.proofs.Lists.{or_else_none, same_text}
use Rattle.laws_offsets.proofs.RangesInRow.{ends_push}
use Rattle.laws_offsets.proofs.Runs.{run_push}
use Rattle.laws_offsets.proofs.StoredRows.{stored_advanced, stored_reset}

-- ---- a range that goes on

ends_more : (z y : Option ℕ) (rs : List Range) (o : Option Range) → ends_with z rs ≡ Some y → ((r : Range) → o ≡ Some r → (nat_le r.start r.end && goes_on y r.start) ≡ true) → ends_with z (rs ++ as_list o) ≡ Some (or_else (end_in o) y)
ends_more z y rs None e f = rw append-nil e
ends_more z y rs (Some r) e f = ends_push z y rs r e (f r refl)

fits : (z : Option ℕ) (r : Range) → part_fault z r ≡ None → (nat_le r.start r.end && goes_on z r.start) ≡ true
fits None r e = up r.start r.end (mismatch None r) e where
  up : (s e : ℕ) (o : Option Refusal) → cond (nat_lt e s) (Some (Refusals.BadRange r.partition)) o ≡ None → (nat_le s e && true) ≡ true
  up s e o h = grind (arith, nat_tests)
fits (Some z) r e = up r.start r.end e where
  up : (s e : ℕ) → cond (nat_lt e s) (Some (Refusals.BadRange r.partition)) (cond (z == s) None (Some (Refusals.OffsetMismatch r.partition z))) ≡ None → (nat_le s e && (z == s)) ≡ true
  up s e h = grind (arith, nat_tests)

compare_at : (rows : List OffsetRow) (source stream : List ℕ) (partition : ℕ) (parts : List Range) (r : Range) → compare rows source stream parts ≡ None → part_at partition parts ≡ Some r → part_fault (stored rows source stream partition) r ≡ None
compare_at rows source stream partition [] r e f = cc
compare_at rows source stream partition (q ∷ rs) r e f = at (q.partition == partition) refl (λ g. compare_at rows source stream partition rs r parts.1 g) f where
  parts : (part_fault (stored rows source stream q.partition) q ≡ None) × (compare rows source stream rs ≡ None)
  parts = or_else_none (part_fault (stored rows source stream q.partition) q) (compare rows source stream rs) e

  at : (b : Bool) → (q.partition == partition) ≡ b → (part_at partition rs ≡ Some r → part_fault (stored rows source stream partition) r ≡ None) → cond b (Some q) (part_at partition rs) ≡ Some r → part_fault (stored rows source stream partition) r ≡ None
  at true on rest g =
      let same : q ≡ r = cc in
      rw (← same, ← eqb-true q.partition partition on) parts.0
  at false off rest g = rest g

-- ---- one publication more

-- where the ranges of a run end
abbrev ends_of : Run → Option (Option ℕ)
ends_of run = ends_with run.from run.ranges

module _ (ms : List Publication) (rows : List OffsetRow) (tiled : IsTiled ms rows) where
  -- whose ranges go on from what is stored
  tiled_ranged : (m : Publication) (ranges : Ranges) → is_reset m.kind ≡ false → m.ranges ≡ Some ranges → HasDistinctParts ranges.parts → compare rows m.source ranges.stream ranges.parts ≡ None
      → IsTiled (ms ++ m ∷ []) (advance rows m.source ranges.stream ranges.parts)
  tiled_ranged m ranges other has distinct none source stream partition =
      rw (run_push source stream partition no_run ms m, has, other, stored_advanced rows m.source ranges.stream ranges.parts distinct source stream partition)
      (here (bytes_eq m.source source) (bytes_eq ranges.stream stream) refl refl) where
        run : Run
        run = run_of source stream partition ms

        here : (b c : Bool) → bytes_eq m.source source ≡ b → bytes_eq ranges.stream stream ≡ c
            → ends_of (cond b (cond c (run_by false partition ranges.parts run) run) run)
            ≡ Some (cond (b && c) (or_else (end_in (part_at partition ranges.parts)) (stored rows source stream partition)) (stored rows source stream partition))
        here true true e f =
            ends_more run.from (stored rows source stream partition) run.ranges (part_at partition ranges.parts) (tiled source stream partition)
            (λ r g. fits (stored rows source stream partition) r (compare_at rows source stream partition ranges.parts r (moved e f) g)) where
              moved : bytes_eq m.source source ≡ true → bytes_eq ranges.stream stream ≡ true → compare rows source stream ranges.parts ≡ None
              moved e f = rw (← same_text m.source source e, ← same_text ranges.stream stream f) none
        here true false e f = tiled source stream partition
        here false c e f = tiled source stream partition

  -- without ranges
  tiled_unranged : (m : Publication) → m.ranges ≡ None → IsTiled (ms ++ m ∷ []) rows
  tiled_unranged m has source stream partition =
      rw (run_push source stream partition no_run ms m, has)
      (elim (bytes_eq m.source source) as (λ b. ends_of (cond b (run_of source stream partition ms) (run_of source stream partition ms)) ≡ Some (stored rows source stream partition))
      [ true ↦ tiled source stream partition | false ↦ tiled source stream partition ])

  -- either way
  tiled_by : (m : Publication) (o : Option Ranges) → is_reset m.kind ≡ false → m.ranges ≡ o → ((ranges : Ranges) → o ≡ Some ranges → HasDistinctParts ranges.parts) → compared rows m.source o ≡ None → IsTiled (ms ++ m ∷ []) (advanced rows m.source o)
  tiled_by m None other has distinct none = tiled_unranged m has
  tiled_by m (Some ranges) other has distinct none = tiled_ranged m ranges other has (distinct ranges refl) none

  pub tiled_published : (m : Publication) → is_reset m.kind ≡ false → ((ranges : Ranges) → m.ranges ≡ Some ranges → HasDistinctParts ranges.parts) → compared rows m.source m.ranges ≡ None → IsTiled (ms ++ m ∷ []) (advanced rows m.source m.ranges)
  tiled_published m other distinct none = tiled_by m m.ranges other refl distinct none

  starts_listed : (partition : ℕ) (os : List Offset) → start_in (part_at partition (map point_of os)) ≡ listed partition os
  starts_listed partition [] = refl
  starts_listed partition (o ∷ os) =
      elim (o.partition == partition) as (λ b. start_in (cond b (Some (point_of o)) (part_at partition (map point_of os))) ≡ cond b (Some o.offset) (listed partition os))
      [ true ↦ refl | false ↦ starts_listed partition os ]

  -- of a reset
  pub tiled_reset : (s t : List ℕ) (os : List Offset) → HasDistinctPartitions os → IsTiled (ms ++ reset_publication s t os ∷ []) (reset_to rows s t os)
  tiled_reset s t os distinct source stream partition =
      rw (run_push source stream partition no_run ms (reset_publication s t os), stored_reset rows s t os distinct source stream partition)
      (here (bytes_eq s source) (bytes_eq t stream)) where
        run : Run
        run = run_of source stream partition ms

        here : (b c : Bool) → ends_of (cond b (cond c (run_by true partition (map point_of os) run) run) run) ≡ Some (cond (b && c) (listed partition os) (stored rows source stream partition))
        here true true = ap Some (starts_listed partition os)
        here true false = tiled source stream partition
        here false c = tiled source stream partition
