-- What pendings and upgrade rows are held against.
use Rattle.std.specs.Prelude.{◌&&◌, ◌==◌, ◌∷◌, ◌≡◌, Bool, List, [], bytes_eq, nat_le, not, true, ℕ}
use Rattle.std.specs.List.{list_any}
use Rattle.std.proofs.Common.{ap, sym}
use Rattle.std.proofs.lemmas.Bool.{and_parts, eqb-true}
use Rattle.iv_span.specs.Extent.{covers}
use Rattle.seg_names.specs.Ids.{same_id}
use Rattle.seg_names.specs.declared.seg_id.SegId.{SegId}
use Rattle.book_rows.specs.Ids.{same_previous}
use Rattle.book_rows.specs.Kinds.{same_kind}
use Rattle.book_rows.specs.declared.kinds.LockKind.TheVariants as LockKinds
use Rattle.book_rows.specs.declared.rows.PendingRow.{PendingRow}
use Rattle.book_rows.specs.declared.rows.PosseRow.{PosseRow}
use Rattle.book_rows.specs.declared.rows.UpgradeRow.{UpgradeRow}
use Rattle.row_index.specs.Digests.{mix}
use Rattle.row_index.specs.Index.{IsReached, digest_key, digest_range}
use Rattle.laws_unsound.specs.ChunkRows.{is_posse_of, is_root_of}
use Rattle.row_search.specs.Digests.{id_digest, ids_mix, number_digest}
use Rattle.row_search.specs.Reached.{digest_reaches}

abbrev pub number_of_lock : ℕ → ℕ
number_of_lock number = mix 2 number

pub root_reaches : (p r : PendingRow) → is_root_of p r ≡ true → IsReached (digest_range (id_digest p.root) ∷ []) (digest_key (id_digest r.id) ∷ [])
root_reaches p r on =
    let rest = (r.posse == p.posse) && (bytes_eq r.sequence p.sequence && same_previous r.previous p.previous) in
    let second = and_parts (same_id r.id r.root) (same_id r.id p.root && rest) on in
    digest_reaches (id_digest p.root) (id_digest r.id) (ids_mix 5 r.id p.root (and_parts (same_id r.id p.root) rest second.1).0)

number_reaches : (number : ℕ) (q : PosseRow) (rest : Bool) → (not q.revoked && ((q.number == number) && rest)) ≡ true → IsReached (digest_range (number_of_lock number) ∷ []) (digest_key (number_digest q) ∷ [])
number_reaches number q rest on =
    let second = and_parts (q.number == number) rest (and_parts (not q.revoked) ((q.number == number) && rest) on).1 in
    digest_reaches (number_of_lock number) (number_digest q) (ap (λ (n : ℕ). mix 2 n) (eqb-true q.number number second.0))

pub lock_reaches : (p : PendingRow) (q : PosseRow) → is_posse_of p q ≡ true → IsReached (digest_range (number_of_lock p.posse) ∷ []) (digest_key (number_digest q) ∷ [])
lock_reaches p q on = number_reaches p.posse q (bytes_eq q.source p.id.source && covers q.span p.root.span) on

-- the ids that publications add, each with its place
abbrev pub upgrade_lock_by : List (ℕ × SegId) → UpgradeRow → PosseRow → Bool
upgrade_lock_by added u q =
    not q.revoked && ((q.number == u.posse) && (same_kind q.lock_kind LockKinds.Replace && (covers q.span u.root.span && list_any (λ e. same_id e.1 u.root && nat_le q.since e.0) added)))

abbrev pub is_upgrade_by : List PosseRow → List (ℕ × SegId) → UpgradeRow → Bool
is_upgrade_by qs added u = list_any (upgrade_lock_by added u) qs

pub upgrade_reaches : (added : List (ℕ × SegId)) (u : UpgradeRow) (q : PosseRow) → upgrade_lock_by added u q ≡ true → IsReached (digest_range (number_of_lock u.posse) ∷ []) (digest_key (number_digest q) ∷ [])
upgrade_reaches added u q on = number_reaches u.posse q (same_kind q.lock_kind LockKinds.Replace && (covers q.span u.root.span && list_any (λ e. same_id e.1 u.root && nat_le q.since e.0) added)) on
