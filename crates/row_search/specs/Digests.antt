-- Digests of what rows have in common.
use Rattle.std.specs.Prelude.{◌&&◌, ◌==◌, ◌∷◌, ◌≡◌, [], Bool, List, None, Option, Some, bytes_eq, fold, not, true, unsigned_abs, ℕ, ℤ}
use Rattle.std.specs.Ordering.{int_eq}
use Rattle.std.proofs.Common.{ap, arith, refl, sym, ◌∙◌}
use Rattle.std.proofs.lemmas.Bool.{and_parts, eqb-true}
use Rattle.std.proofs.lemmas.Int.{ints}
use Rattle.std.proofs.lemmas.Slice.Eq.{bytes_eq-Decides}
use Rattle.iv_span.specs.Extent.{Extent}
use Rattle.seg_names.specs.Ids.{same_extent, same_id}
use Rattle.seg_names.specs.declared.seg_id.SegId.{SegId}
use Rattle.book_rows.specs.Allocation.{is_of_chunk, is_root}
use Rattle.book_rows.specs.Ids.{same_previous}
use Rattle.book_rows.specs.Kinds.{same_status}
use Rattle.book_rows.specs.declared.kinds.TaskStatus.TheVariants as Statuses
use Rattle.book_rows.specs.Locks.{same_number}
use Rattle.book_rows.specs.Sequences.{is_of_group}
use Rattle.book_rows.specs.Shape.{is_append, same_chunk_row, same_request, same_sequence, same_supervisor, same_task, same_upgrade, same_version}
use Rattle.book_rows.specs.declared.rows.ChunkRow.{ChunkRow}
use Rattle.book_rows.specs.declared.rows.PendingRow.{PendingRow}
use Rattle.book_rows.specs.declared.rows.PosseRow.{PosseRow}
use Rattle.book_rows.specs.declared.rows.SequenceRow.{SequenceRow}
use Rattle.book_rows.specs.declared.rows.SupervisorRow.{SupervisorRow}
use Rattle.book_rows.specs.declared.rows.TaskRow.{TaskRow}
use Rattle.book_rows.specs.declared.rows.UpgradeRow.{UpgradeRow}
use Rattle.row_index.specs.Digests.{mix}
use Rattle.row_index.specs.Index.{IsReached, digest_key, digest_range}
use Rattle.laws_unsound.specs.Rows.{Rowed}
use Rattle.laws_unsound.specs.ShapeRows.{ask_alike, is_member_task}
use Rattle.row_search.specs.Reached.{digest_reaches}

abbrev pub mix_span : ℕ → Extent → ℕ
mix_span digest s = mix (mix digest (unsigned_abs s.start)) (unsigned_abs s.end)

-- a chunk's source, span and version
abbrev pub mix_chunk : ℕ → List ℕ → Extent → ℤ → ℕ
mix_chunk digest source span version = mix (mix_span (fold mix digest source) span) (unsigned_abs version)

abbrev pub mix_id : ℕ → SegId → ℕ
mix_id digest a = mix (mix_chunk digest a.source a.span a.version) a.part

abbrev pub mix_previous : ℕ → Option SegId → ℕ
mix_previous digest None = digest
mix_previous digest (Some a) = mix_id digest a

abbrev pub task_digest : TaskRow → ℕ
task_digest t = fold mix 1 t.task

abbrev pub number_digest : PosseRow → ℕ
number_digest q = mix 2 q.number

abbrev pub version_digest : PosseRow → ℕ
version_digest q = mix 3 (unsigned_abs q.version)

abbrev pub chunk_digest : ChunkRow → ℕ
chunk_digest c = mix_chunk 4 c.source c.span c.version

abbrev pub id_digest : SegId → ℕ
id_digest a = mix_id 5 a

abbrev pub upgrade_digest : UpgradeRow → ℕ
upgrade_digest u = mix_id (mix 6 u.posse) u.root

abbrev pub supervisor_digest : SupervisorRow → ℕ
supervisor_digest s = fold mix 7 s.source

abbrev pub sequence_digest : SequenceRow → ℕ
sequence_digest u = mix (mix (fold mix 8 u.source) u.group) u.index

abbrev pub request_digest : PendingRow → ℕ
request_digest p = mix_previous (fold mix (fold mix 9 p.id.source) p.sequence) p.previous

-- ---- they agree where rows have it in common

same_text : (xs ys : List ℕ) → bytes_eq xs ys ≡ true → xs ≡ ys
same_text xs ys e = (bytes_eq-Decides xs ys).0 e

same_int : (x y : ℤ) → int_eq x y ≡ true → x ≡ y
same_int x y e = grind (arith, ints)

spans_mix : (digest : ℕ) (a b : Extent) → same_extent a b ≡ true → mix_span digest a ≡ mix_span digest b
spans_mix digest a b on =
    let ends = and_parts (int_eq a.start b.start) (int_eq a.end b.end) on in
    by a.start b.start a.end b.end (same_int a.start b.start ends.0) (same_int a.end b.end ends.1) where
      by : (u v x y : ℤ) → u ≡ v → x ≡ y → mix (mix digest (unsigned_abs u)) (unsigned_abs x) ≡ mix (mix digest (unsigned_abs v)) (unsigned_abs y)
      by u v x y e f = rw (e, f) refl

pub chunks_mix : (digest : ℕ) (s z : List ℕ) (a b : Extent) (v w : ℤ) → bytes_eq s z ≡ true → same_extent a b ≡ true → int_eq v w ≡ true → mix_chunk digest s a v ≡ mix_chunk digest z b w
chunks_mix digest s z a b v w source span version =
    ap (λ (t : List ℕ). mix_chunk digest t a v) (same_text s z source)
    ∙ (ap (λ (d : ℕ). mix d (unsigned_abs v)) (spans_mix (fold mix digest z) a b span) ∙ ap (λ (t : ℤ). mix_chunk digest z b t) (same_int v w version))

pub ids_mix : (digest : ℕ) (a b : SegId) → same_id a b ≡ true → mix_id digest a ≡ mix_id digest b
ids_mix digest a b on =
    let all = and_parts (bytes_eq a.source b.source && same_extent a.span b.span && int_eq a.version b.version) (a.part == b.part) on in
    let three = and_parts (bytes_eq a.source b.source && same_extent a.span b.span) (int_eq a.version b.version) all.0 in
    let two = and_parts (bytes_eq a.source b.source) (same_extent a.span b.span) three.0 in
    ap (λ (d : ℕ). mix d a.part) (chunks_mix digest a.source b.source a.span b.span a.version b.version two.0 two.1 three.1)
    ∙ ap (λ (n : ℕ). mix (mix_chunk digest b.source b.span b.version) n) (eqb-true a.part b.part all.1)

previous_mix : (digest : ℕ) (a b : Option SegId) → same_previous a b ≡ true → mix_previous digest a ≡ mix_previous digest b
previous_mix digest None None on = refl
previous_mix digest None (Some b) on = cc
previous_mix digest (Some a) None on = cc
previous_mix digest (Some a) (Some b) on = ids_mix digest a b on

pub task_agrees : (t u : TaskRow) → same_task t u ≡ true → task_digest u ≡ task_digest t
task_agrees t u on = ap (λ (s : List ℕ). fold mix 1 s) (sym (same_text t.task u.task on))

pub number_agrees : (p q : PosseRow) → same_number p q ≡ true → number_digest q ≡ number_digest p
number_agrees p q on = ap (λ (n : ℕ). mix 2 n) (sym (eqb-true p.number q.number on))

pub version_agrees : (p q : PosseRow) → same_version p q ≡ true → version_digest q ≡ version_digest p
version_agrees p q on =
    let same = (and_parts (not (is_append p.lock_kind) && not (is_append q.lock_kind)) (int_eq p.version q.version) on).1 in
    ap (λ (v : ℤ). mix 3 (unsigned_abs v)) (sym (same_int p.version q.version same))

pub chunk_agrees : (c d : ChunkRow) → same_chunk_row c d ≡ true → chunk_digest d ≡ chunk_digest c
chunk_agrees c d on =
    let all = and_parts (bytes_eq c.source d.source && same_extent c.span d.span) (int_eq c.version d.version) on in
    let two = and_parts (bytes_eq c.source d.source) (same_extent c.span d.span) all.0 in
    sym (chunks_mix 4 c.source d.source c.span d.span c.version d.version two.0 two.1 all.1)

pub id_agrees : (a b : SegId) → same_id a b ≡ true → id_digest b ≡ id_digest a
id_agrees a b on = sym (ids_mix 5 a b on)

pub upgrade_agrees : (u v : UpgradeRow) → same_upgrade u v ≡ true → upgrade_digest v ≡ upgrade_digest u
upgrade_agrees u v on =
    let both = and_parts (u.posse == v.posse) (same_id u.root v.root) on in
    sym (ap (λ (n : ℕ). mix_id (mix 6 n) u.root) (eqb-true u.posse v.posse both.0) ∙ ids_mix (mix 6 v.posse) u.root v.root both.1)

pub supervisor_agrees : (s z : SupervisorRow) → same_supervisor s z ≡ true → supervisor_digest z ≡ supervisor_digest s
supervisor_agrees s z on = ap (λ (t : List ℕ). fold mix 7 t) (sym (same_text s.source z.source on))

pub sequence_agrees : (u v : SequenceRow) → same_sequence u v ≡ true → sequence_digest v ≡ sequence_digest u
sequence_agrees u v on =
    let both = and_parts (is_of_group u.source u.group v) (u.index == v.index) on in
    let of = and_parts (bytes_eq v.source u.source) (v.group == u.group) both.0 in
    ap (λ (t : List ℕ). mix (mix (fold mix 8 t) v.group) v.index) (same_text v.source u.source of.0)
    ∙ (ap (λ (n : ℕ). mix (mix (fold mix 8 u.source) n) v.index) (eqb-true v.group u.group of.1) ∙ ap (λ (n : ℕ). mix (mix (fold mix 8 u.source) u.group) n) (sym (eqb-true u.index v.index both.1)))

pub request_agrees : (p q : PendingRow) → ask_alike p q ≡ true → request_digest q ≡ request_digest p
request_agrees p q on =
    let both = and_parts (is_root q) (same_request p q) (and_parts (is_root p) (is_root q && same_request p q) on).1 in
    let all = and_parts (bytes_eq p.id.source q.id.source && bytes_eq p.sequence q.sequence) (same_previous p.previous q.previous) both.1 in
    let two = and_parts (bytes_eq p.id.source q.id.source) (bytes_eq p.sequence q.sequence) all.0 in
    sym (ap (λ (s : List ℕ). mix_previous (fold mix (fold mix 9 s) p.sequence) p.previous) (same_text p.id.source q.id.source two.0)
    ∙ (ap (λ (s : List ℕ). mix_previous (fold mix (fold mix 9 q.id.source) s) p.previous) (same_text p.sequence q.sequence two.1)
    ∙ previous_mix (fold mix (fold mix 9 q.id.source) q.sequence) p.previous q.previous all.1))

pub id_of_task_agrees : (task other : List ℕ) → bytes_eq task other ≡ true → fold mix 1 other ≡ fold mix 1 task
id_of_task_agrees task other on = ap (λ (s : List ℕ). fold mix 1 s) (sym (same_text task other on))

pub member_reaches : (q : PosseRow) (task : List ℕ) (t : TaskRow) → is_member_task q task t ≡ true → IsReached (digest_range (fold mix 1 task) ∷ []) (digest_key (task_digest t) ∷ [])
member_reaches q task t on =
    let same = (and_parts (bytes_eq t.task task) (same_status t.status Statuses.Running && (bytes_eq t.group q.group && (bytes_eq t.source q.source && (t.priority == q.priority)))) on).0 in
    digest_reaches (fold mix 1 task) (task_digest t) (ap (λ (s : List ℕ). fold mix 1 s) (same_text t.task task same))

pub like_covers : (id : SegId) (e : Rowed SegId) → same_id id e.item ≡ true → IsReached (digest_range (id_digest id) ∷ []) (digest_key (id_digest e.item) ∷ [])
like_covers id e on = digest_reaches (id_digest id) (id_digest e.item) (id_agrees id e.item on)

pub chunk_reaches : (a : SegId) (c : ChunkRow) (rest : Bool) → (is_of_chunk c a && rest) ≡ true → IsReached (digest_range (mix_chunk 4 a.source a.span a.version) ∷ []) (digest_key (chunk_digest c) ∷ [])
chunk_reaches a c rest on =
    let all = and_parts (bytes_eq a.source c.source && same_extent a.span c.span) (int_eq a.version c.version) (and_parts (is_of_chunk c a) rest on).0 in
    let two = and_parts (bytes_eq a.source c.source) (same_extent a.span c.span) all.0 in
    digest_reaches (mix_chunk 4 a.source a.span a.version) (chunk_digest c) (sym (chunks_mix 4 a.source c.source a.span c.span a.version c.version two.0 two.1 all.1))

pub listed_reaches : (id own : SegId) (rest : Bool) → (same_id own id && rest) ≡ true → IsReached (digest_range (id_digest id) ∷ []) (digest_key (id_digest own) ∷ [])
listed_reaches id own rest on = digest_reaches (id_digest id) (id_digest own) (ids_mix 5 own id (and_parts (same_id own id) rest on).0)
