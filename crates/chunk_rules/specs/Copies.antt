-- Copies of pendings in chunks above them, and how two chunks meet of which one may lack a copy.
use Rattle.std.specs.Prelude.{◌&&◌, ◌++◌, ◌==◌, ◌||◌, ◌∷◌, ◌≡◌, Bool, List, [], bytes_eq, cond, false, int_lt, not, true, ℕ, ℤ}
use Rattle.std.specs.List.{list_any}
use Rattle.std.specs.Ordering.{int_eq}
use Rattle.std.proofs.Common.{ap, inl, inr, refl, sym, ◌∙◌}
use Rattle.std.proofs.lemmas.Bool.{and_parts, cases_Bool}
use Rattle.std.proofs.lemmas.Slice.Eq.{bytes_eq-Decides}
use Rattle.iv_span.specs.Extent.{covers, overlap}
use Rattle.seg_names.specs.Ids.{same_extent, same_id}
use Rattle.seg_names.specs.declared.seg_id.SegId.{SegId}
use Rattle.book_rows.specs.Ids.{same_chunk}
use Rattle.book_rows.specs.declared.rows.ChunkRow.{ChunkRow}
use Rattle.book_rows.specs.declared.rows.PendingRow.{PendingRow}
use Rattle.row_index.specs.Index.{In, IsReached, digest_key, digest_range}
use Rattle.span_keys.specs.Classes.{span_key}
use Rattle.laws_unsound.specs.ChunkRows.{is_root_in}
use Rattle.book_rows.specs.Allocation.{is_of_chunk}
use Rattle.row_search.specs.Classes.{class_digest, class_ranges, class_reached, overlap_turned}
use Rattle.row_search.specs.Digests.{chunk_digest, chunks_mix, ids_mix, mix_chunk, mix_id}
use Rattle.chunk_rules.specs.Lives.{ChunkAt, own_chunk_digest, pending_reaches}
use Rattle.row_search.specs.Reached.{digest_reaches}

-- ---- copies, by the chunk that they are in and their root

abbrev pub copy_digest : SegId → SegId → ℕ
copy_digest id root = mix_id (mix_chunk 14 id.source id.span id.version) root

abbrev pub copy_digest_in : ChunkRow → SegId → ℕ
copy_digest_in c root = mix_id (mix_chunk 14 c.source c.span c.version) root

-- the second is in the chunk of the first, and has its root
abbrev pub are_alike : PendingRow → PendingRow → Bool
are_alike p q = same_chunk q.id p.id && same_id q.root p.root

pub alike_agrees : (p q : PendingRow) → are_alike p q ≡ true → copy_digest q.id q.root ≡ copy_digest p.id p.root
alike_agrees p q on =
    let both = and_parts (same_chunk q.id p.id) (same_id q.root p.root) on in
    let all = and_parts (bytes_eq q.id.source p.id.source && same_extent q.id.span p.id.span) (int_eq q.id.version p.id.version) both.0 in
    let two = and_parts (bytes_eq q.id.source p.id.source) (same_extent q.id.span p.id.span) all.0 in
    ap (λ (d : ℕ). mix_id d q.root) (chunks_mix 14 q.id.source p.id.source q.id.span p.id.span q.id.version p.id.version two.0 two.1 all.1)
    ∙ ids_mix (mix_chunk 14 p.id.source p.id.span p.id.version) q.root p.root both.1

-- a pending, and whether one before it is in its chunk and has its root
pub record CopyAt : Type 0 where
  pub pending : PendingRow
  pub again : Bool

abbrev pub copy_at : List PendingRow → PendingRow → CopyAt
copy_at before p = record { pending = p; again = list_any (are_alike p) before }

abbrev pub copies_after : List PendingRow → List PendingRow → List CopyAt
copies_after before [] = []
copies_after before (p ∷ ps) = copy_at before p ∷ copies_after (before ++ p ∷ []) ps

abbrev pub is_copy_in : ChunkRow → SegId → PendingRow → Bool
is_copy_in d root p = is_of_chunk d p.id && same_id p.root root

-- where it is asked for again, one that isn't the first
abbrev pub is_copy_at : Bool → ChunkRow → SegId → CopyAt → Bool
is_copy_at again d root x = (not again || x.again) && is_copy_in d root x.pending

pub copy_reaches : (again : Bool) (d : ChunkRow) (root : SegId) (x : CopyAt) → is_copy_at again d root x ≡ true → IsReached (digest_range (copy_digest_in d root) ∷ []) (digest_key (copy_digest x.pending.id x.pending.root) ∷ [])
copy_reaches again d root x on =
    let p = x.pending in
    let both = and_parts (is_of_chunk d p.id) (same_id p.root root) (and_parts (not again || x.again) (is_copy_in d root p) on).1 in
    let all = and_parts (bytes_eq p.id.source d.source && same_extent p.id.span d.span) (int_eq p.id.version d.version) both.0 in
    let two = and_parts (bytes_eq p.id.source d.source) (same_extent p.id.span d.span) all.0 in
    digest_reaches (copy_digest_in d root) (copy_digest p.id p.root)
    (ap (λ (e : ℕ). mix_id e p.root) (chunks_mix 14 p.id.source d.source p.id.span d.span p.id.version d.version two.0 two.1 all.1) ∙ ids_mix (mix_chunk 14 d.source d.span d.version) p.root root both.1)

-- ---- root pendings of a lower chunk that an upper one lacks

-- it contains the pending's span, and has one copy of it
abbrev pub has_copy_by : List CopyAt → ChunkRow → PendingRow → Bool
has_copy_by xs d r = covers d.span r.id.span && (list_any (is_copy_at false d r.id) xs && not (list_any (is_copy_at true d r.id) xs))

abbrev pub is_lacking : List CopyAt → ChunkRow → ChunkRow → PendingRow → Bool
is_lacking xs c d r = is_root_in c r && not (has_copy_by xs d r)

abbrev pub lacks_a_copy : List CopyAt → List PendingRow → ChunkRow → ChunkRow → Bool
lacks_a_copy xs ps c d = list_any (is_lacking xs c d) ps

abbrev pub has_root_in : List PendingRow → ChunkRow → Bool
has_root_in ps c = list_any (is_root_in c) ps

pub lacking_reaches : (xs : List CopyAt) (c d : ChunkRow) (r : PendingRow) → is_lacking xs c d r ≡ true → IsReached (digest_range (chunk_digest c) ∷ []) (digest_key (own_chunk_digest r.id) ∷ [])
lacking_reaches xs c d r on = pending_reaches c r (and_parts (same_id r.id r.root) (is_of_chunk c r.id) (and_parts (is_root_in c r) (not (has_copy_by xs d r)) on).0).1

pub root_in_reaches : (c : ChunkRow) (r : PendingRow) → is_root_in c r ≡ true → IsReached (digest_range (chunk_digest c) ∷ []) (digest_key (own_chunk_digest r.id) ∷ [])
root_in_reaches c r on = pending_reaches c r (and_parts (same_id r.id r.root) (is_of_chunk c r.id) on).1

-- ---- chunks that meet

-- a chunk, whether it is live, and whether it has a root pending
pub record RootChunk : Type 0 where
  pub chunk : ChunkRow
  pub live : Bool
  pub rooted : Bool

abbrev pub root_chunk : List PendingRow → ChunkAt → RootChunk
root_chunk ps x = record { chunk = x.chunk; live = x.live; rooted = has_root_in ps x.chunk }

-- live chunks without a core and with one, with root pendings and without; others stand apart
abbrev pub root_class : RootChunk → ℕ
root_class y = cond y.live (cond (y.chunk.core == 0) (cond y.rooted 1 0) (cond y.rooted 2 3)) 4

-- a chunk with a core and without root pendings meets none like it
abbrev pub meets_all : RootChunk → Bool
meets_all x = (x.chunk.core == 0) || x.rooted

abbrev pub root_classes : Bool → List ℕ
root_classes all = cond all (0 ∷ 1 ∷ 2 ∷ 3 ∷ []) (0 ∷ 1 ∷ 2 ∷ [])

abbrev pub root_key : RootChunk → ℕ × ℤ
root_key y = span_key (class_digest y.chunk.source (root_class y)) y.chunk.span

abbrev pub root_ranges : RootChunk → List ((ℕ × ℤ) × ℤ)
root_ranges x = class_ranges x.chunk.source x.chunk.span (root_classes (meets_all x))

-- both are live, and the second is above the first and has no core or lacks a copy
abbrev pub is_bare : (ChunkRow → ChunkRow → Bool) → RootChunk → RootChunk → Bool
is_bare lacks x y =
    x.live && (y.live && (bytes_eq x.chunk.source y.chunk.source && (overlap x.chunk.span y.chunk.span && (int_lt x.chunk.version y.chunk.version && ((y.chunk.core == 0) || (x.rooted && lacks x.chunk y.chunk))))))

abbrev pub is_one_bare : (ChunkRow → ChunkRow → Bool) → RootChunk → RootChunk → Bool
is_one_bare lacks x y = is_bare lacks x y || is_bare lacks y x

-- what is said of two chunks of which the second is bare above the first
record AreMet (x y : RootChunk) : Type 0 where
  low : x.live ≡ true
  high : y.live ≡ true
  source_is : x.chunk.source ≡ y.chunk.source
  meets : overlap x.chunk.span y.chunk.span ≡ true
  told : ((y.chunk.core == 0) || x.rooted) ≡ true

rooted_or : (a b l : Bool) → (a || (b && l)) ≡ true → (a || b) ≡ true
rooted_or true b l on = refl
rooted_or false true l on = refl
rooted_or false false l on = cc

met : (lacks : ChunkRow → ChunkRow → Bool) (x y : RootChunk) → is_bare lacks x y ≡ true → AreMet x y
met lacks x y on =
    let s = bytes_eq x.chunk.source y.chunk.source in
    let o = overlap x.chunk.span y.chunk.span in
    let v = int_lt x.chunk.version y.chunk.version in
    let l = (y.chunk.core == 0) || (x.rooted && lacks x.chunk y.chunk) in
    let first = and_parts x.live (y.live && (s && (o && (v && l)))) on in
    let second = and_parts y.live (s && (o && (v && l))) first.1 in
    let third = and_parts s (o && (v && l)) second.1 in
    let fourth = and_parts o (v && l) third.1 in
    record {
      low = first.0;
      high = second.0;
      source_is = (bytes_eq-Decides x.chunk.source y.chunk.source).0 third.0;
      meets = fourth.0;
      told = rooted_or (y.chunk.core == 0) x.rooted (lacks x.chunk y.chunk) (and_parts v l fourth.1).1;
    }

in_classes : (all bare rooted : Bool) → (all || (bare || rooted)) ≡ true → In {X = ℕ} (cond bare (cond rooted 1 0) (cond rooted 2 3)) (cond all (0 ∷ 1 ∷ 2 ∷ 3 ∷ []) (0 ∷ 1 ∷ 2 ∷ []))
in_classes true true true on = inr (inl refl)
in_classes true true false on = inl refl
in_classes true false true on = inr (inr (inl refl))
in_classes true false false on = inr (inr (inr (inl refl)))
in_classes false true true on = inr (inl refl)
in_classes false true false on = inl refl
in_classes false false true on = inr (inr (inl refl))
in_classes false false false on = cc

reached : (x y : RootChunk) → y.live ≡ true → y.chunk.source ≡ x.chunk.source → overlap y.chunk.span x.chunk.span ≡ true
    → (((x.chunk.core == 0) || x.rooted) || ((y.chunk.core == 0) || y.rooted)) ≡ true → IsReached (root_ranges x) (root_key y ∷ [])
reached x y live same meets on =
    rw (live, same) (class_reached x.chunk.source x.chunk.span y.chunk.span (cond (y.chunk.core == 0) (cond y.rooted 1 0) (cond y.rooted 2 3)) (root_classes (meets_all x)) meets
    (in_classes ((x.chunk.core == 0) || x.rooted) (y.chunk.core == 0) y.rooted on))

-- told of the second's core or the first's roots, or the other way round
second_told : (a b c d : Bool) → (c || b) ≡ true → ((a || b) || (c || d)) ≡ true
second_told true b c d on = refl
second_told false true c d on = refl
second_told false false true d on = refl
second_told false false false d on = cc

first_told : (a b c d : Bool) → (a || d) ≡ true → ((a || b) || (c || d)) ≡ true
first_told true b c d on = refl
first_told false true c d on = refl
first_told false false true d on = refl
first_told false false false d on = on

other : (a b : Bool) → (a || b) ≡ true → a ≡ false → b ≡ true
other true b on off = cc
other false b on off = on

pub bare_reaches : (lacks : ChunkRow → ChunkRow → Bool) (x y : RootChunk) → is_one_bare lacks x y ≡ true → IsReached (root_ranges x) (root_key y ∷ [])
bare_reaches lacks x y on = elim (cases_Bool (is_bare lacks x y)) [
  | inl above ↦
      (let m = met lacks x y above in
      reached x y m.high (sym m.source_is) (overlap_turned x.chunk.span y.chunk.span m.meets) (second_told (x.chunk.core == 0) x.rooted (y.chunk.core == 0) y.rooted m.told))
  | inr off ↦
      (let m = met lacks y x (other (is_bare lacks x y) (is_bare lacks y x) on off) in
      reached x y m.low m.source_is m.meets (first_told (x.chunk.core == 0) x.rooted (y.chunk.core == 0) y.rooted m.told))
]
