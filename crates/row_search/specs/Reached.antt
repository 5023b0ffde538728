-- A row of an equal digest is reached.
use Rattle.std.specs.Prelude.{◌∷◌, ◌≡◌, [], ℕ}
use Rattle.std.proofs.Common.{inl, refl}
use Rattle.row_index.specs.Index.{IsReached, digest_key, digest_range}
use Rattle.row_index.proofs.IndexLemmas.{digest_reached}

pub digest_reaches : (asked own : ℕ) → own ≡ asked → IsReached (digest_range asked ∷ []) (digest_key own ∷ [])
digest_reaches asked own e = digest_reached asked (digest_key own ∷ []) (inl (rw e refl))
