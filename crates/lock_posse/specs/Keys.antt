-- The keys by which locks are found. No contract of a public call names them.
use Rattle.std.specs.Prelude.{ℕ, ℤ, ◌&&◌, Bool, List, ◌∷◌, bytes_eq, fold, map}
use Rattle.iv_span.specs.Extent.{Extent, overlap}
use Rattle.book_rows.specs.declared.rows.PosseRow.{PosseRow}
use Rattle.row_index.specs.Digests.{mix}
use Rattle.row_index.specs.Index.{digest_key}
use Rattle.span_keys.specs.Classes.{span_key}

abbrev pub number_digest : ℕ → ℕ
number_digest number = mix 1 number

abbrev pub source_digest : List ℕ → ℕ
source_digest source = fold mix 2 source

abbrev pub member_digest : List ℕ → ℕ
member_digest task = fold mix 3 task

abbrev pub member_keys : List (List ℕ) → List (ℕ × ℤ)
member_keys members = map (λ task. digest_key (member_digest task)) members

-- a lock is found by its number, by its source and span, and by each member
abbrev pub lock_keys : PosseRow → List (ℕ × ℤ)
lock_keys p = digest_key (number_digest p.number) ∷ span_key (source_digest p.source) p.span ∷ member_keys p.members

-- a lock of this source whose span overlaps this one
abbrev pub is_over : List ℕ → Extent → PosseRow → Bool
is_over source span p = bytes_eq p.source source && overlap p.span span
