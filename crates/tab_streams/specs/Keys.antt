-- The keys by which publications are found. No contract of a public call names them.
use Rattle.std.specs.Prelude.{◌&&◌, ◌+◌, ◌∷◌, Bool, List, None, Option, Some, cond, fold, map, nat_le, nat_lt, pos, unsigned_abs, ℕ, ℤ}
use Rattle.seg_names.specs.declared.seg_id.SegId.{SegId}
use Rattle.book_rows.specs.Ids.{is_listed}
use Rattle.book_rows.specs.Kinds.{same_pub_kind}
use Rattle.book_rows.specs.Publications.{forgets, is_like}
use Rattle.book_rows.specs.declared.kinds.PubKind.TheVariants as PubKinds
use Rattle.book_rows.specs.declared.rows.Publication.{Publication}
use Rattle.book_rows.specs.declared.rows.Range.{Range}
use Rattle.book_rows.specs.declared.rows.Ranges.{Ranges}
use Rattle.row_index.specs.Digests.{mix}
use Rattle.tab_streams.specs.declared.keys.Entry.{Entry}

-- ---- digests

abbrev pub mix_id : ℕ → SegId → ℕ
mix_id digest a = mix (mix (fold mix (mix digest a.part) a.source) (unsigned_abs a.span.start)) (unsigned_abs a.version)

abbrev pub mix_range : ℕ → Range → ℕ
mix_range digest r = mix (mix digest r.partition) r.start

abbrev pub mix_ranges : ℕ → Option Ranges → ℕ
mix_ranges digest None = digest
mix_ranges digest (Some r) = fold mix_range (fold mix digest r.stream) r.parts

abbrev pub mix_stream : ℕ → Option Ranges → ℕ
mix_stream digest None = digest
mix_stream digest (Some r) = fold mix digest r.stream

-- of what a repeat has to have in common
abbrev pub like_digest : Publication → ℕ
like_digest m = mix_ranges (fold mix_id (fold mix_id (fold mix (fold mix 2 m.group) m.source) m.adds) m.empties) m.ranges

-- of the stream of a publication
abbrev pub stream_digest : Publication → ℕ
stream_digest m = mix_stream (fold mix 3 m.source) m.ranges

-- a reset is found by its stream. No other publication is sought so
abbrev pub reset_digest : Publication → ℕ
reset_digest m = cond (same_pub_kind m.kind PubKinds.Reset) (stream_digest m) (like_digest m)

-- ---- keys: the number is the place among the keys of one digest

abbrev pub place_limit : ℕ
place_limit = 4611686018427387904

abbrev pub place_of : ℕ → ℕ
place_of number = cond (nat_lt number place_limit) number place_limit

abbrev pub key_of : ℕ → ℕ → ℕ × ℤ
key_of digest number = (digest, pos (place_of number))

-- the keys of that digest and of numbers from this one on
abbrev pub range_from : ℕ → ℕ → (ℕ × ℤ) × ℤ
range_from digest from = (key_of digest from, pos (place_limit + 1))

abbrev pub added_keys : ℕ → List SegId → List (ℕ × ℤ)
added_keys number ids = map (λ a. key_of (mix_id 1 a) number) ids

-- a publication is found by what a repeat has in common with it, by its stream where it is a reset, and by each id that it adds
abbrev pub entry_keys : Entry → List (ℕ × ℤ)
entry_keys e = key_of (like_digest e.row) e.number ∷ key_of (reset_digest e.row) e.number ∷ added_keys e.number e.row.adds

-- ---- tests

abbrev pub has_added : SegId → Entry → Bool
has_added id e = is_listed e.row.adds id

abbrev pub is_like_from : ℕ → Publication → Entry → Bool
is_like_from from like e = nat_le from e.number && is_like like e.row

abbrev pub forgets_from : ℕ → Publication → Entry → Bool
forgets_from from like e = nat_le from e.number && forgets like e.row
