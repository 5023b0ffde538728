-- Which ranges a run has: those of the stream's publications after its last reset.
use Rattle.std.proofs.Common.{◌≡◌, ℕ, Bool, true, false, cond, not, ◌&&◌, List, [], ◌∷◌, ◌++◌, Some, None, Option, refl, sym, ◌∙◌, ap, append_assoc, bytes_eq}
use Rattle.std.specs.List.{list_all}
use Rattle.std.proofs.lemmas.Bool.{and_parts, not-true}
use Rattle.std.proofs.lemmas.List.{append-nil}
use Rattle.book_rows.specs.Lists.{gathered}
use Rattle.book_rows.specs.Tiles.{Run, as_list, is_reset, no_run, part_at, run_after, run_by, run_from, run_of, run_on, start_in}
use Rattle.book_rows.specs.declared.kinds.PubKind.{PubKind}
use Rattle.book_rows.specs.declared.rows.Publication.{Publication}
use Rattle.book_rows.specs.declared.rows.Range.{Range}
use Rattle.book_rows.specs.declared.rows.Ranges.{Ranges}
use Rattle.laws_offsets.specs.Coverage.{RunSinceReset, RunWithoutReset, is_on, part_in, range_of, resets}

module _ (source stream : List ℕ) (partition : ℕ) where
  -- the run after one more publication is read last
  pub run_push : (run : Run) (ms : List Publication) (m : Publication) → run_from source stream partition run (ms ++ m ∷ []) ≡ run_after source stream partition m (run_from source stream partition run ms)
  run_push run [] m = refl
  run_push run (n ∷ ms) m = run_push (run_after source stream partition n run) ms m

  run_append : (run : Run) (ms ns : List Publication) → run_from source stream partition run (ms ++ ns) ≡ run_from source stream partition (run_from source stream partition run ms) ns
  run_append run [] ns = refl
  run_append run (m ∷ ms) ns = run_append (run_after source stream partition m run) ms ns

  abbrev longer : Run → List Range → Run
  longer run rs = record { from = run.from; ranges = run.ranges ++ rs }

  nothing_more : (run : Run) → longer run [] ≡ run
  nothing_more run = rw (append-nil run.ranges) refl

  -- a publication that doesn't reset the stream adds its range of the partition
  on_stream : (kind : PubKind) (o : Option Ranges) (run : Run) → (is_on stream o && is_reset kind) ≡ false → run_on stream partition kind o run ≡ longer run (cond (is_on stream o) (as_list (part_in partition o)) [])
  on_stream kind None run e = sym (nothing_more run)
  on_stream kind (Some ranges) run e = by (bytes_eq ranges.stream stream) (is_reset kind) e where
    by : (on reset : Bool) → (on && reset) ≡ false → cond on (run_by reset partition ranges.parts run) run ≡ longer run (cond on (as_list (part_at partition ranges.parts)) [])
    by true true e = cc
    by true false e = refl
    by false reset e = sym (nothing_more run)

  one_more : (m : Publication) (run : Run) → resets source stream m ≡ false → run_after source stream partition m run ≡ longer run (range_of source stream partition m)
  one_more m run e = by (bytes_eq m.source source) e where
    by : (own : Bool) → (own && is_on stream m.ranges && is_reset m.kind) ≡ false
        → cond own (run_on stream partition m.kind m.ranges run) run ≡ longer run (cond (own && is_on stream m.ranges) (as_list (part_in partition m.ranges)) [])
    by true e = on_stream m.kind m.ranges run e
    by false e = sym (nothing_more run)

  -- and so do several
  all_more : (ms : List Publication) (run : Run) → list_all (λ m. not (resets source stream m)) ms ≡ true → run_from source stream partition run ms ≡ longer run (gathered (range_of source stream partition) ms)
  all_more [] run e = sym (nothing_more run)
  all_more (m ∷ ms) run e =
      let both = and_parts (not (resets source stream m)) (list_all (λ m. not (resets source stream m)) ms) e in
      ap (λ (r : Run). run_from source stream partition r ms) (one_more m run (not-true (resets source stream m) both.0))
      ∙ (all_more ms (longer run (range_of source stream partition m)) both.1
      ∙ ap (λ (rs : List Range). record { from = run.from; ranges = rs }) (append_assoc run.ranges (range_of source stream partition m) (gathered (range_of source stream partition) ms)))

  -- a reset begins the run anew
  begins : (kind : PubKind) (o : Option Ranges) (run : Run) → (is_on stream o && is_reset kind) ≡ true → run_on stream partition kind o run ≡ record { from = start_in (part_in partition o); ranges = [] }
  begins kind None run e = cc
  begins kind (Some ranges) run e = by (bytes_eq ranges.stream stream) (is_reset kind) e where
    by : (on reset : Bool) → (on && reset) ≡ true → cond on (run_by reset partition ranges.parts run) run ≡ record { from = start_in (part_at partition ranges.parts); ranges = [] }
    by true true e = refl
    by true false e = cc
    by false reset e = cc

  anew : (m : Publication) (run : Run) → resets source stream m ≡ true → run_after source stream partition m run ≡ record { from = start_in (part_in partition m.ranges); ranges = [] }
  anew m run e = by (bytes_eq m.source source) e where
    by : (own : Bool) → (own && is_on stream m.ranges && is_reset m.kind) ≡ true → cond own (run_on stream partition m.kind m.ranges run) run ≡ record { from = start_in (part_in partition m.ranges); ranges = [] }
    by true e = begins m.kind m.ranges run e
    by false e = cc

pub run_without_reset : RunWithoutReset
run_without_reset source stream partition ms none = all_more source stream partition ms no_run none

pub run_since_reset : RunSinceReset
run_since_reset source stream partition ms m since is none =
    run_append source stream partition no_run ms (m ∷ since)
    ∙ (ap (λ (r : Run). run_from source stream partition r since) (anew source stream partition m (run_of source stream partition ms) is)
    ∙ all_more source stream partition since (record { from = start_in (part_in partition m.ranges); ranges = [] }) none)
