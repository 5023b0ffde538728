-- The files of a store that is opened.
use Rattle.std.proofs.Common.{◌≡◌, ◌≢◌, ℕ, zero, suc, true, false, List, [], refl, arith}
use Rattle.gate_log.specs.Format.{new_file, opening_of}
use Rattle.machine_run.specs.Stores.{no_log, opened_file, opened_files}

-- a file in which a log stands is opened as it is, and a new log is made where there is none
pub opened_same : (file : List ℕ) → no_log (opening_of file) ≡ false → opened_file file ≡ file
opened_same file some = rw some refl

pub opened_new : (file : List ℕ) → no_log (opening_of file) ≡ true → opened_file file ≡ new_file 1 []
opened_new file none = rw none refl

-- the files of an opened store
pub opened_by : (old new : ℕ → List ℕ) → new 0 ≡ opened_file (old 0) → ((file : ℕ) → file ≢ 0 → new file ≡ old file) → new ≡ opened_files old
opened_by old new first others = λ i file. same file i
  where
    same : (file : ℕ) → new file ≡ opened_files old file
    same zero = first
    same (suc file) = others (suc file) (λ e. omega arith)
