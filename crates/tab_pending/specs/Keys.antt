-- The keys by which pendings and upgrade rows are found. No contract of a public call names them.
use Rattle.std.specs.Prelude.{◌∷◌, List, None, Option, Some, [], cond, fold, map, unsigned_abs, ℕ, ℤ}
use Rattle.std.specs.List.{flat_map}
use Rattle.iv_span.specs.Extent.{Extent}
use Rattle.seg_names.specs.declared.seg_id.SegId.{SegId}
use Rattle.book_rows.specs.Allocation.{is_root}
use Rattle.book_rows.specs.declared.rows.PendingRow.{PendingRow}
use Rattle.book_rows.specs.declared.rows.UpgradeRow.{UpgradeRow}
use Rattle.row_index.specs.Digests.{mix}
use Rattle.row_index.specs.Index.{digest_key, digest_range}
use Rattle.span_keys.specs.Classes.{span_key, span_ranges}

-- ---- digests

abbrev pub mix_id : ℕ → SegId → ℕ
mix_id digest a = mix (mix (fold mix (mix digest a.part) a.source) (unsigned_abs a.span.start)) (unsigned_abs a.version)

abbrev pub mix_previous : ℕ → Option SegId → ℕ
mix_previous digest None = digest
mix_previous digest (Some a) = mix_id digest a

abbrev pub source_digest : List ℕ → ℕ
source_digest source = fold mix 1 source

-- of what an allocation that is repeated has in common
abbrev pub request_digest : List ℕ → List ℕ → Option SegId → ℕ
request_digest source sequence previous = mix_previous (fold mix (fold mix 2 source) sequence) previous

abbrev pub root_digest : SegId → ℕ
root_digest root = mix_id 3 root

abbrev pub lock_digest : ℕ → ℕ
lock_digest number = mix 4 number

-- of a lock's upgrade rows, which are found by the spans of their roots
abbrev pub carry_digest : ℕ → ℕ
carry_digest number = mix 5 number

-- a root is found by its request. A copy isn't sought so
abbrev pub own_digest : PendingRow → ℕ
own_digest p = cond (is_root p) (request_digest p.id.source p.sequence p.previous) (root_digest p.root)

-- ---- keys

-- a pending is found by its source and span, by its request where it is a root, by its root, and by its lock
abbrev pub pending_keys : PendingRow → List (ℕ × ℤ)
pending_keys p =
    span_key (source_digest p.id.source) p.id.span ∷ digest_key (own_digest p) ∷ digest_key (root_digest p.root) ∷ digest_key (lock_digest p.posse) ∷ []

-- an upgrade row is found by its lock, and by its lock and the span of its root
abbrev pub upgrade_keys : UpgradeRow → List (ℕ × ℤ)
upgrade_keys u = digest_key (lock_digest u.posse) ∷ span_key (carry_digest u.posse) u.root.span ∷ []

-- ---- ranges over several locks, and over several spans

abbrev pub lock_ranges : List ℕ → List ((ℕ × ℤ) × ℤ)
lock_ranges locks = map (λ n. digest_range (lock_digest n)) locks

abbrev pub ranges_over : ℕ → List Extent → List ((ℕ × ℤ) × ℤ)
ranges_over digest spans = flat_map (span_ranges digest) spans

-- of upgrade rows of several locks over a span
abbrev pub carry_ranges : List ℕ → Extent → List ((ℕ × ℤ) × ℤ)
carry_ranges locks span = flat_map (λ n. span_ranges (carry_digest n) span) locks
