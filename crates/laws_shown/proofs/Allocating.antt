-- An allocated id is that of a root pending.
use Rattle.std.proofs.Common.{List, [], cond, false, inl, map, refl, true, ℕ, ℤ, ◌&&◌, ◌∷◌, ◌≡◌}
use Rattle.std.proofs.lemmas.Bool.{and_parts}
use Rattle.std.specs.Prelude.{Err, None, Ok, Option, Result, Some, bytes_eq}
use Rattle.seg_names.specs.declared.seg_id.SegId.{SegId}
use Rattle.book_rows.specs.Allocation.{allotted, allotted_id, allotted_row, is_known, is_root, known_fault, known_pending, place}
use Rattle.book_rows.specs.Grant.{book_granted, counters_at, grant_lock, moment}
use Rattle.book_rows.specs.Ids.{same_previous}
use Rattle.book_rows.specs.LockSteps.{IdRequest, allocate_by, allocated, allotted_outcome, join_known, pending_for, placed}
use Rattle.book_rows.specs.Lists.{In}
use Rattle.book_rows.specs.Locks.{is_member_of, joined, posse_of}
use Rattle.book_rows.specs.Outcome.{Outcome, changed, refused, refused_or, repeated, task_of}
use Rattle.book_rows.specs.declared.answers.GrantedLock.{GrantedLock}
use Rattle.book_rows.specs.declared.answers.NewPending.{NewPending}
use Rattle.book_rows.specs.declared.answers.Place.{Place}
use Rattle.book_rows.specs.declared.replies.Refusal.{Refusal}
use Rattle.book_rows.specs.declared.rows.Book.{Book}
use Rattle.book_rows.specs.declared.rows.PendingRow.{PendingRow}
use Rattle.book_rows.specs.declared.rows.TaskRow.{TaskRow}
use Rattle.book_rows.specs.declared.kinds.Table.TheVariants as Tables
use Rattle.book_rows.specs.declared.replies.Reply.TheVariants as Replies
use Rattle.laws_chunks.proofs.LookUps.{find_some}
use Rattle.laws_chunks.proofs.Members.{In-right}
use Rattle.laws_chunks.proofs.Spans.{same_id_itself}
use Rattle.laws_shown.proofs.Ways.{by_fitted, by_task, by_unless}
use Rattle.laws_shown.specs.Appended.{AllocatedIsPending, IsRootPending}

module _ (b : Book) (a : SegId) (lock : ℕ) (revoked : List ℕ) where
  -- where the outcome answers the id, its book has the pending
  abbrev Gives : Outcome → Type 0
  Gives o = o.reply ≡ Replies.Allocate a lock revoked → IsRootPending o.book a lock

  refuses : (why : Refusal) → Gives (refused b why)
  refuses why e = cc

  -- a pending that is known
  same_pending : (p : PendingRow) (numbers : List ℕ) → In p b.pendings → is_root p ≡ true → Replies.Allocate p.id p.posse numbers ≡ Replies.Allocate a lock revoked → IsRootPending b a lock
  same_pending p numbers i root e = (let ids : p.id ≡ a = cc in let locks : p.posse ≡ lock = cc in (p, i, ids, locks, root))

  join_gives : (now : ℤ) (task : List ℕ) (p : PendingRow) → In p b.pendings → is_root p ≡ true → Gives (join_known b now task p)
  join_gives now task p i root =
      elim (is_member_of (posse_of p.posse b.posses) task) as (λ c. Gives (cond c (repeated b (Replies.Allocate p.id p.posse [])) (changed (record b { clock = moment b now; posses = map (joined p.posse task) b.posses }) (Replies.Allocate p.id p.posse []))))
      [ true ↦ λ e. same_pending p [] i root e | false ↦ λ e. same_pending p [] i root e ]

  -- a new one
  allotted_gives : (t : TaskRow) (l : GrantedLock) (n : NewPending) → Gives (allotted_outcome b t l n)
  allotted_gives t l n = by_fitted Gives b refuses (Tables.Locks ∷ Tables.Numbers ∷ Tables.Chunks ∷ Tables.Parts ∷ Tables.Pendings ∷ []) (allotted n after) (Replies.Allocate (allotted_id b.chunks n) n.posse l.granted.revoked) new where
    after : Book
    after = book_granted b t.task l.granted

    new : Replies.Allocate (allotted_id b.chunks n) n.posse l.granted.revoked ≡ Replies.Allocate a lock revoked → IsRootPending (allotted n after) a lock
    new e = (
        let ids : allotted_id b.chunks n ≡ a = cc in
        let locks : n.posse ≡ lock = cc in
        (allotted_row (allotted_id b.chunks n) n, In-right (allotted_row (allotted_id b.chunks n) n) after.pendings (allotted_row (allotted_id b.chunks n) n ∷ []) (inl refl), ids, locks, same_id_itself (allotted_id b.chunks n))
        )

  granted_gives : (o : Result GrantedLock Refusal) (r : IdRequest) (t : TaskRow) (x : Place) → Gives (refused_or o b (λ l. allotted_outcome b t l (pending_for t r x l)))
  granted_gives (Err why) r t x e = cc
  granted_gives (Ok l) r t x e = allotted_gives t l (pending_for t r x l) e

  placed_gives : (o : Result Place Refusal) (r : IdRequest) (t : TaskRow) → Gives (refused_or o b (placed b r t))
  placed_gives (Err why) r t e = cc
  placed_gives (Ok x) r t e = granted_gives (grant_lock b.posses (counters_at b r.now) t (record { lock_kind = r.lock_kind; span = x.span })) r t x e

  root_of : (source sequence : List ℕ) (previous : Option SegId) (p : PendingRow) → is_known source sequence previous p ≡ true → is_root p ≡ true
  root_of source sequence previous p h =
      let one = and_parts (is_root p && bytes_eq p.id.source source && bytes_eq p.sequence sequence) (same_previous p.previous previous) h in
      let two = and_parts (is_root p && bytes_eq p.id.source source) (bytes_eq p.sequence sequence) one.0 in
      (and_parts (is_root p) (bytes_eq p.id.source source) two.0).0

  allocate_gives : (p : Option PendingRow) (r : IdRequest) (t : TaskRow) → known_pending b.pendings t.source r.sequence r.previous ≡ p → Gives (allocate_by p b r t)
  allocate_gives (Some p) r t found =
      let f = find_some (is_known t.source r.sequence r.previous) b.pendings p found in
      by_unless Gives b refuses (known_fault b.posses t r.lock_kind r.at p) (join_known b r.now t.task p) (join_gives r.now t.task p f.0 (root_of t.source r.sequence r.previous p f.1))
  allocate_gives None r t found = placed_gives (place b.segments b.pendings t.source r.at r.granularity) r t

pub allocated_is_pending : AllocatedIsPending
allocated_is_pending b task kind sequence previous at granularity now a lock revoked =
    let r : IdRequest = record { lock_kind = kind; sequence = sequence; previous = previous; at = at; granularity = granularity; now = now } in
    by_task (Gives b a lock revoked) b (refuses b a lock revoked) (task_of task b.tasks) (allocated b r) (λ t. allocate_gives b a lock revoked (known_pending b.pendings t.source sequence previous) r t refl)
