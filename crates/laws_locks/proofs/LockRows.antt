-- Rows of locks: the limits and keys that each change of the list keeps.
use Rattle.std.proofs.Common.{◌≡◌, ℕ, ◌+◌, ℤ, Bool, true, false, cond, not, ◌==◌, ◌&&◌, List, [], ◌∷◌, ◌++◌, map, filter, refl, arith, bytes_eq, int_le, nat_le}
use Rattle.std.specs.List.{list_all}
use Rattle.std.proofs.lemmas.Bool.{and_from, and_parts, le-leb, ne_eqb}
use Rattle.std.proofs.lemmas.List.Folds.{list_all-append}
use Rattle.iv_time.specs.Range.{is_instant}
use Rattle.seg_names.specs.Names.{is_name, is_task_id}
use Rattle.book_rows.specs.Form.{is_want, priority_limit}
use Rattle.book_rows.specs.Grant.{joined_in, last_after, new_row, revoked_in}
use Rattle.book_rows.specs.Locks.{after_leave, joined, left, stays}
use Rattle.book_rows.specs.Shape.{fits_version, is_append, is_posse_row, is_task_row}
use Rattle.book_rows.specs.Spans.{is_span}
use Rattle.book_rows.specs.declared.answers.Counters.{Counters}
use Rattle.book_rows.specs.declared.rows.PosseRow.{PosseRow}
use Rattle.book_rows.specs.declared.rows.TaskRow.{TaskRow}
use Rattle.book_rows.specs.declared.rows.Want.{Want}
use Rattle.laws_locks.specs.LockShape.{AreLockRows}
use Rattle.laws_locks.proofs.Instants.{IsNewVersion, le_le}
use Rattle.laws_locks.proofs.Lists.{all_filter, all_map, all_push, all_weaker, In-list_all, all_from_In, pairs_filter, pairs_map, pairs_push, pass_filter, pass_map, pass_push, pass_weaker}

-- ---- members within their limits

-- the limits of a lock, but for its members
abbrev has_limits : PosseRow → Bool
has_limits p = is_task_id p.group && is_name p.source && is_span p.span && is_instant p.version && nat_le p.priority priority_limit

limits_kept : (p : PosseRow) (ms : List (List ℕ)) → is_posse_row p ≡ true → list_all is_task_id ms ≡ true → is_posse_row (record p { members = ms }) ≡ true
limits_kept p ms h k = and_from (has_limits p) (list_all is_task_id ms) (and_parts (has_limits p) (list_all is_task_id p.members) h).0 k

members_of : (p : PosseRow) → is_posse_row p ≡ true → list_all is_task_id p.members ≡ true
members_of p h = (and_parts (has_limits p) (list_all is_task_id p.members) h).1

repeated : (task : List ℕ) (ns : List ℕ) → is_task_id task ≡ true → list_all is_task_id (map (λ n. task) ns) ≡ true
repeated task [] h = refl
repeated task (n ∷ ns) h = and_from (is_task_id task) _ h (repeated task ns h)

joined_limits : (ns task : List ℕ) (p : PosseRow) → is_task_id task ≡ true → is_posse_row p ≡ true → is_posse_row (joined_in ns task p) ≡ true
joined_limits ns task p k h =
    let extra : List (List ℕ) = map (λ n. task) (filter (λ n. n == p.number) ns) in
    limits_kept p (p.members ++ extra) h (rw (list_all-append is_task_id p.members extra) (and_from _ _ (members_of p h) (repeated task (filter (λ n. n == p.number) ns) k)))

joined_at_limits : (n : ℕ) (task : List ℕ) (p : PosseRow) → is_task_id task ≡ true → is_posse_row p ≡ true → is_posse_row (joined n task p) ≡ true
joined_at_limits n task p k h =
    limits_kept p (cond (p.number == n) (p.members ++ task ∷ []) p.members) h
    (elim (p.number == n) as (λ b. list_all is_task_id (cond b (p.members ++ task ∷ []) p.members) ≡ true) [ true ↦ pass_push is_task_id p.members task (members_of p h) k | false ↦ members_of p h ])

left_limits : (n : ℕ) (task : List ℕ) (p : PosseRow) → is_posse_row p ≡ true → is_posse_row (left n task p) ≡ true
left_limits n task p h =
    limits_kept p (cond (p.number == n) (filter (λ m. not (bytes_eq m task)) p.members) p.members) h
    (elim (p.number == n) as (λ b. list_all is_task_id (cond b (filter (λ m. not (bytes_eq m task)) p.members) p.members) ≡ true)
    [ true ↦ pass_filter is_task_id (λ m. not (bytes_eq m task)) p.members (members_of p h) | false ↦ members_of p h ])

-- ---- changes of each lock, and locks that go

module _ (last : ℤ) (next pubs : ℕ) where
  pub rows_revoked : (ns : List ℕ) (qs : List PosseRow) → AreLockRows last next pubs qs → AreLockRows last next pubs (map (revoked_in ns) qs)
  rows_revoked ns qs h = record {
    rows = pass_map is_posse_row is_posse_row (revoked_in ns) (λ q e. e) qs h.rows;
    numbers = pairs_map _ _ (revoked_in ns) (λ p q e. e) qs h.numbers;
    ascending = pairs_map _ _ (revoked_in ns) (λ p q e. e) qs h.ascending;
    below = all_map _ _ (revoked_in ns) (λ q e. e) qs h.below;
    versions = pass_map (λ q. int_le q.version last) (λ q. int_le q.version last) (revoked_in ns) (λ q e. e) qs h.versions;
    kinds = pass_map fits_version fits_version (revoked_in ns) (λ q e. e) qs h.kinds;
    distinct = pairs_map _ _ (revoked_in ns) (λ p q e. e) qs h.distinct;
    since = pass_map (λ q. nat_le q.since pubs) (λ q. nat_le q.since pubs) (revoked_in ns) (λ q e. e) qs h.since;
  }

  pub rows_joined : (ns task : List ℕ) (qs : List PosseRow) → is_task_id task ≡ true → AreLockRows last next pubs qs → AreLockRows last next pubs (map (joined_in ns task) qs)
  rows_joined ns task qs k h = record {
    rows = pass_map is_posse_row is_posse_row (joined_in ns task) (λ q e. joined_limits ns task q k e) qs h.rows;
    numbers = pairs_map _ _ (joined_in ns task) (λ p q e. e) qs h.numbers;
    ascending = pairs_map _ _ (joined_in ns task) (λ p q e. e) qs h.ascending;
    below = all_map _ _ (joined_in ns task) (λ q e. e) qs h.below;
    versions = pass_map (λ q. int_le q.version last) (λ q. int_le q.version last) (joined_in ns task) (λ q e. e) qs h.versions;
    kinds = pass_map fits_version fits_version (joined_in ns task) (λ q e. e) qs h.kinds;
    distinct = pairs_map _ _ (joined_in ns task) (λ p q e. e) qs h.distinct;
    since = pass_map (λ q. nat_le q.since pubs) (λ q. nat_le q.since pubs) (joined_in ns task) (λ q e. e) qs h.since;
  }

  pub rows_joined_at : (n : ℕ) (task : List ℕ) (qs : List PosseRow) → is_task_id task ≡ true → AreLockRows last next pubs qs → AreLockRows last next pubs (map (joined n task) qs)
  rows_joined_at n task qs k h = record {
    rows = pass_map is_posse_row is_posse_row (joined n task) (λ q e. joined_at_limits n task q k e) qs h.rows;
    numbers = pairs_map _ _ (joined n task) (λ p q e. e) qs h.numbers;
    ascending = pairs_map _ _ (joined n task) (λ p q e. e) qs h.ascending;
    below = all_map _ _ (joined n task) (λ q e. e) qs h.below;
    versions = pass_map (λ q. int_le q.version last) (λ q. int_le q.version last) (joined n task) (λ q e. e) qs h.versions;
    kinds = pass_map fits_version fits_version (joined n task) (λ q e. e) qs h.kinds;
    distinct = pairs_map _ _ (joined n task) (λ p q e. e) qs h.distinct;
    since = pass_map (λ q. nat_le q.since pubs) (λ q. nat_le q.since pubs) (joined n task) (λ q e. e) qs h.since;
  }

  rows_left_by : (n : ℕ) (task : List ℕ) (qs : List PosseRow) → AreLockRows last next pubs qs → AreLockRows last next pubs (map (left n task) qs)
  rows_left_by n task qs h = record {
    rows = pass_map is_posse_row is_posse_row (left n task) (λ q e. left_limits n task q e) qs h.rows;
    numbers = pairs_map _ _ (left n task) (λ p q e. e) qs h.numbers;
    ascending = pairs_map _ _ (left n task) (λ p q e. e) qs h.ascending;
    below = all_map _ _ (left n task) (λ q e. e) qs h.below;
    versions = pass_map (λ q. int_le q.version last) (λ q. int_le q.version last) (left n task) (λ q e. e) qs h.versions;
    kinds = pass_map fits_version fits_version (left n task) (λ q e. e) qs h.kinds;
    distinct = pairs_map _ _ (left n task) (λ p q e. e) qs h.distinct;
    since = pass_map (λ q. nat_le q.since pubs) (λ q. nat_le q.since pubs) (left n task) (λ q e. e) qs h.since;
  }

  rows_filtered : (p : PosseRow → Bool) (qs : List PosseRow) → AreLockRows last next pubs qs → AreLockRows last next pubs (filter p qs)
  rows_filtered p qs h = record {
    rows = pass_filter is_posse_row p qs h.rows;
    numbers = pairs_filter _ p qs h.numbers;
    ascending = pairs_filter _ p qs h.ascending;
    below = all_filter _ p qs h.below;
    versions = pass_filter (λ q. int_le q.version last) p qs h.versions;
    kinds = pass_filter fits_version p qs h.kinds;
    distinct = pairs_filter _ p qs h.distinct;
    since = pass_filter (λ q. nat_le q.since pubs) p qs h.since;
  }

  pub rows_left : (n : ℕ) (task : List ℕ) (qs : List PosseRow) → AreLockRows last next pubs qs → AreLockRows last next pubs (after_leave n task qs)
  rows_left n task qs h = rows_filtered (stays n) (map (left n task) qs) (rows_left_by n task qs h)

-- ---- a new lock

-- its limits, from those of the task and of its want
new_limits : (k : Counters) (t : TaskRow) (w : Want) (v : ℤ) → is_task_row t ≡ true → is_want w ≡ true → is_instant v ≡ true → is_posse_row (new_row k t w v) ≡ true
new_limits k t w v h e i =
    let wants = and_parts _ _ h in
    let count = and_parts _ _ wants.0 in
    let priority = and_parts _ _ count.0 in
    let source = and_parts _ _ priority.0 in
    let ids = and_parts _ _ source.0 in
    and_from (has_limits (new_row k t w v)) (list_all is_task_id (t.task ∷ []))
    (and_from _ _ (and_from _ _ (and_from _ _ (and_from _ _ ids.1 source.1) e) i) priority.1)
    (and_from _ _ ids.0 refl)

pub rows_new : (k : Counters) (t : TaskRow) (w : Want) (v : ℤ) (qs : List PosseRow) → is_task_row t ≡ true → is_want w ≡ true → IsNewVersion w.lock_kind k v
    → AreLockRows k.last k.next_lock k.since qs → AreLockRows (last_after w.lock_kind k v) (k.next_lock + 1) k.since (qs ++ new_row k t w v ∷ [])
rows_new k t w v qs fits wanted new h = record {
  rows = pass_push is_posse_row qs (new_row k t w v) h.rows (new_limits k t w v fits wanted new.instant);
  numbers = pairs_push _ qs (new_row k t w v) h.numbers (all_weaker _ _ (λ p lt. ne_eqb p.number k.next_lock (λ same. omega arith)) qs h.below);
  ascending = pairs_push _ qs (new_row k t w v) h.ascending h.below;
  below = all_push _ qs (new_row k t w v) (all_weaker _ _ (λ p lt. omega arith) qs h.below) (omega arith);
  versions = pass_push (λ q. int_le q.version (last_after w.lock_kind k v)) qs (new_row k t w v)
      (pass_weaker (λ q. int_le q.version k.last) (λ q. int_le q.version (last_after w.lock_kind k v)) (λ q e. le_le q.version k.last (last_after w.lock_kind k v) e new.grows) qs h.versions) new.within;
  kinds = pass_push fits_version qs (new_row k t w v) h.kinds new.fits;
  distinct = pairs_push _ qs (new_row k t w v) h.distinct (all_from_In _ qs (λ q i. new.apart (not (is_append q.lock_kind)) q.version (In-list_all (λ q. int_le q.version k.last) q qs i h.versions)));
  since = pass_push (λ q. nat_le q.since k.since) qs (new_row k t w v) h.since (le-leb k.since k.since (omega arith));
}
