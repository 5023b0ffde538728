-- The key by which a supervisor is found. No contract of a public call names it.
use Rattle.std.specs.Prelude.{◌∷◌, ◌≡◌, List, [], bytes_eq, fold, true, ℕ}
use Rattle.std.proofs.Common.{ap, inl, sym}
use Rattle.std.proofs.lemmas.Slice.Eq.{bytes_eq-Decides}
use Rattle.book_rows.specs.declared.rows.SupervisorRow.{SupervisorRow}
use Rattle.row_index.specs.Digests.{mix}
use Rattle.row_index.specs.Index.{IsReached, digest_key, digest_range}
use Rattle.row_index.proofs.IndexLemmas.{digest_reached}

abbrev pub source_digest : List ℕ → ℕ
source_digest source = fold mix 1 source

pub source_covers : (source : List ℕ) (s : SupervisorRow) → bytes_eq s.source source ≡ true → IsReached (digest_range (source_digest source) ∷ []) (digest_key (source_digest s.source) ∷ [])
source_covers source s on = digest_reached (source_digest source) (digest_key (source_digest s.source) ∷ []) (inl (ap (λ (t : List ℕ). digest_key (source_digest t)) (sym ((bytes_eq-Decides s.source source).0 on))))
