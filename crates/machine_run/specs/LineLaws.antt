-- What calls of a reader leave adds up.
use Rattle.std.proofs.Common.{◌≡◌, ℕ, ◌+◌, Bool, List, length, refl, ◌∙◌, arith}
use Rattle.host_desk.proofs.Moments.{rose_before}
use Rattle.input_lines.specs.Reading.{Reading}
use Rattle.machine_run.specs.Steps.{IsFeed}
use Rattle.machine_run.specs.LineItems.{ReadsOn, LineFails}
use Rattle.machine_run.specs.declared.stop.Stop.{Stop}
use Rattle.machine_run.specs.declared.stop.Stop.TheVariants.{StoreFault, StoreCorrupt, InputFault, OutputFault, NoMemory, StoreFull, InputTooLong}

module _ (tells : Bool) where
  reads_none : (f : Reading) (a : List ℕ) (n : ℕ) → ReadsOn tells f a n f a n
  reads_none f a n = record { counts = omega arith; limit = refl; within = λ le. le; taken = λ told. refl }

  reads_then : (f : Reading) (a : List ℕ) (n : ℕ) (g : Reading) (b : List ℕ) (k : ℕ) (h : Reading) (c : List ℕ) (j : ℕ) → ReadsOn tells f a n g b k → ReadsOn tells g b k h c j → ReadsOn tells f a n h c j
  reads_then f a n g b k h c j one two = record {
    counts = omega (arith, one.counts, two.counts);
    limit = two.limit ∙ one.limit;
    within = λ le. two.within (one.within le);
    taken = λ told. two.taken told ∙ one.taken told;
  }

  fails_then : (f : Reading) (a : List ℕ) (n : ℕ) (g : Reading) (b : List ℕ) (k : ℕ) (c : List ℕ) (j : ℕ) (stop : Stop) → ReadsOn tells f a n g b k → LineFails tells g b k c j stop → LineFails tells f a n c j stop
  fails_then f a n g b k c j StoreFault one is = tt
  fails_then f a n g b k c j (StoreCorrupt file at) one is = tt
  fails_then f a n g b k c j InputFault one is = rose_before n k j one.counts is
  fails_then f a n g b k c j OutputFault one is = tt
  fails_then f a n g b k c j NoMemory one is = tt
  fails_then f a n g b k c j (StoreFull length_now) one is = tt
  fails_then f a n g b k c j InputTooLong one is = λ told. (let sum : g.taken + length b ≡ g.limit + length c = is told in let was : g.taken + length b ≡ f.taken + length a = one.taken told in omega (arith, sum, was, one.limit))

-- the laws of a feed of lines
pub line_laws : {F S : Type 0} (reader : F → Reading) (tells : Bool) (remaining : S → List ℕ) (faults : S → ℕ) → IsFeed (λ (f : F) (s : S) (g : F) (t : S). ReadsOn tells (reader f) (remaining s) (faults s) (reader g) (remaining t) (faults t)) (λ f s g t stop. LineFails tells (reader f) (remaining s) (faults s) (remaining t) (faults t) stop)
line_laws reader tells remaining faults = record {
  begins = λ f s. reads_none tells (reader f) (remaining s) (faults s);
  goes_on = λ f s g t h u one two. reads_then tells (reader f) (remaining s) (faults s) (reader g) (remaining t) (faults t) (reader h) (remaining u) (faults u) one two;
  fails_then = λ f s g t h u stop one is. fails_then tells (reader f) (remaining s) (faults s) (reader g) (remaining t) (faults t) (remaining u) (faults u) stop one is;
}
