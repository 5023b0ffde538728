-- Books with long cores.
use Rattle.std.proofs.Common.{◌++◌, ◌∷◌, [], ℕ, arith, refl}
use Rattle.std.specs.Str.{chars, is_utf8}
use lib.Utf8.{encode}
use Rattle.laws_snapshots.proofs.Joined.{reached_books_have_bytes}
use Rattle.snap_codec.specs.Fits.{FitsShort, IsSpelled}
use Rattle.scenes.specs.Script.{day, id, insert, now, r}
use Rattle.cases_snapshots.specs.BookCases.{CoresFitFourBytes, inserted, locked, with_cores}

has_bytes : IsSpelled inserted
unfolding is_utf8 chars encode
has_bytes = reached_books_have_bytes (locked ++ insert r day (id day now 0 ∷ []) ∷ []) refl

-- the core of its one chunk may be another that fits
other_core : (core : ℕ) → FitsShort core → IsSpelled (with_cores core inserted)
other_core core fits =
    let h = has_bytes in
    let tables = h.1.0 in
    let chunks = tables.1.1.0 in
    let chunk = chunks.1.0 in
    (h.0, ((tables.0, (tables.1.0, ((chunks.0, ((chunk.0, (chunk.1.0, (chunk.1.1.0, (fits, chunk.1.1.1.1)))), tt)), tables.1.1.1))), h.1.1))

too_long : FitsShort 4294967296 → ⊥
too_long fits = omega (arith, fits)

pub cores_fit_four_bytes : CoresFitFourBytes
cores_fit_four_bytes = (has_bytes, other_core 4294967295 (omega arith), λ h. too_long h.1.0.1.1.0.1.0.1.1.1.0)
