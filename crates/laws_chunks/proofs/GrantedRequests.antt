-- Requests for locks that are granted keep the rules on chunks.
use Rattle.std.proofs.Common.{arith, Bool, List, None, Ok, Some, [], cond, false, inl, inr, int_lt, length, map, pos, refl, subst, sym, true, ℕ, ℤ, ◌+ℤ◌, ◌+◌, ◌∙◌, ◌≡◌, ◌⊎◌}
use Rattle.std.proofs.lemmas.Option.{same_Some}
use Rattle.std.proofs.lemmas.Int.{ints}
use Rattle.std.proofs.lemmas.List.{append-nil}
use Rattle.std.specs.Int.{int_max}
use Rattle.std.specs.Ordering.{int_eq}
use Rattle.book_rows.specs.Grant.{book_granted, counters_at, grant, is_against, joined_in, joins_row, last_after, makes_row, new_row, numbers_against, posses_after, revoked_in, version_for}
use Rattle.book_rows.specs.Lists.{In, stands_in}
use Rattle.book_rows.specs.Locks.{stripped, stripped_upgrades}
use Rattle.book_rows.specs.Rules.{GoTogether}
use Rattle.iv_time.specs.Range.{last_instant}
use Rattle.book_rows.specs.declared.answers.Counters.{Counters}
use Rattle.book_rows.specs.declared.answers.Granted.{Granted}
use Rattle.book_rows.specs.declared.kinds.LockKind.{LockKind}
use Rattle.book_rows.specs.declared.rows.Book.{Book}
use Rattle.book_rows.specs.declared.rows.PosseRow.{PosseRow}
use Rattle.book_rows.specs.declared.rows.TaskRow.{TaskRow}
use Rattle.book_rows.specs.declared.rows.Want.{Want}
use Rattle.laws_locks.proofs.Compatible.{against_listed, goes}
use Rattle.laws_locks.proofs.Grants.{granted_cases}
use Rattle.laws_chunks.specs.ChunksSound.{AreChunksSound}
use Rattle.laws_chunks.specs.Commands.{GrantedKeeps}
use Rattle.laws_chunks.specs.LockMoves.{IsGrant, granted, joined_locks, revoked}
use Rattle.laws_chunks.proofs.GrantingLocks.{grant_keeps}
use Rattle.laws_chunks.proofs.LosingLocks.{join_keeps, revoke_keeps}
use Rattle.laws_chunks.proofs.Members.{In-all, In-map, all_from_In}
use Rattle.laws_chunks.proofs.OtherTables.{others_keep}
use Rattle.book_rows.specs.declared.kinds.LockKind.TheVariants as LockKinds

-- the counters are those of the book, at any instant
pub record AreCounters (b : Book) (k : Counters) : Type 0 where
  pub last_is : k.last ≡ b.last
  pub next_is : k.next_lock ≡ b.next_lock
  pub since_is : k.since ≡ length b.publications

-- ---- a task joins locks that are there, or none

module _ (b : Book) (k : Counters) (task : List ℕ) (same : AreCounters b k) where
  pub joined_keeps : (locks joins : List ℕ) → AreChunksSound b → AreChunksSound (book_granted b task (record { locks = locks; joins = joins; rows = []; revoked = []; after = k }))
  joined_keeps locks joins h =
      subst (λ qs. AreChunksSound (record b { clock = k.clock; last = k.last; next_lock = k.next_lock; posses = qs; pendings = stripped (stands_in []) b.pendings; upgrades = stripped_upgrades (stands_in []) b.upgrades })) (sym (append-nil (map (joined_in joins task) (map (revoked_in []) b.posses))))
      (subst (λ last. AreChunksSound (record b { clock = k.clock; last = last; next_lock = k.next_lock; posses = map (joined_in joins task) (map (revoked_in []) b.posses); pendings = stripped (stands_in []) b.pendings; upgrades = stripped_upgrades (stands_in []) b.upgrades })) (sym same.last_is)
      (subst (λ n. AreChunksSound (record b { clock = k.clock; next_lock = n; posses = map (joined_in joins task) (map (revoked_in []) b.posses); pendings = stripped (stands_in []) b.pendings; upgrades = stripped_upgrades (stands_in []) b.upgrades })) (sym same.next_is)
      (others_keep k.clock b.tasks b.offsets b.supervisors b.sequences (joined_locks joins task (revoked [] b)) (join_keeps joins task (revoked [] b) (revoke_keeps [] b h)))))

-- ---- a lock is made

above_last : (c l : ℤ) → int_lt l (int_max c (l +ℤ pos 1)) ≡ true
above_last c l = go (int_lt (l +ℤ pos 1) c) refl where
  over : (c l : ℤ) → int_lt (l +ℤ pos 1) c ≡ true → int_lt l c ≡ true
  over c l e = grind (arith, ints)

  after : (l : ℤ) → int_lt l (l +ℤ pos 1) ≡ true
  after l = grind (arith, ints)

  go : (b : Bool) → int_lt (l +ℤ pos 1) c ≡ b → int_lt l (cond b c (l +ℤ pos 1)) ≡ true
  go true e = over c l e
  go false e = after l

-- a version that is given is new
given_version : (last clock v : ℤ) → cond (int_eq last last_instant) None (Some (int_max clock (last +ℤ pos 1))) ≡ Some v → int_lt last v ≡ true
given_version last clock v h = go (int_eq last last_instant) h where
  go : (b : Bool) → cond b None (Some (int_max clock (last +ℤ pos 1))) ≡ Some v → int_lt last v ≡ true
  go true e = cc
  go false e = subst (λ v. int_lt last v ≡ true) (same_Some (int_max clock (last +ℤ pos 1)) v e) (above_last clock last)

new_version : (kind : LockKind) (k : Counters) (v : ℤ) → version_for kind k ≡ Some v
    → ((kind ≡ LockKinds.Append) × (v ≡ pos 0) × (last_after kind k v ≡ k.last)) ⊎ ((int_lt k.last v ≡ true) × (last_after kind k v ≡ v) × (kind ≡ LockKinds.Append → ⊥))
new_version LockKinds.Append k v h = inl (refl, sym (same_Some (pos 0) v h), refl)
new_version LockKinds.Exclusive k v h = inr (given_version k.last k.clock v h, refl, λ e. cc)
new_version LockKinds.Shared k v h = inr (given_version k.last k.clock v h, refl, λ e. cc)
new_version LockKinds.Replace k v h = inr (given_version k.last k.clock v h, refl, λ e. cc)

module _ (b : Book) (k : Counters) (t : TaskRow) (w : Want) (version : ℤ) (same : AreCounters b k) (given : version_for w.lock_kind k ≡ Some version) where
  -- a lock that stays valid goes with the new one
  stays_with : (p : PosseRow) → In p b.posses → GoTogether (revoked_in (numbers_against t w b.posses) p) (new_row k t w version)
  stays_with p i = goes k t w version (numbers_against t w b.posses) p (In-all (λ p. is_against t w p ≡ true → stands_in (numbers_against t w b.posses) p.number ≡ true) p b.posses i (against_listed t w b.posses))

  all_go : (q : PosseRow) → In q (map (joined_in [] t.task) (map (revoked_in (numbers_against t w b.posses)) b.posses)) → GoTogether q (new_row k t w version)
  all_go q i =
      let x = In-map (joined_in [] t.task) q (map (revoked_in (numbers_against t w b.posses)) b.posses) i in
      let y = In-map (revoked_in (numbers_against t w b.posses)) x.0 b.posses x.1 in
      subst (λ (q : PosseRow). GoTogether q (new_row k t w version)) (sym x.2)
      (subst (λ (q : PosseRow). GoTogether (joined_in [] t.task q) (new_row k t w version)) (sym y.2) (stays_with y.0 y.1))

  pub is_grant : IsGrant (joined_locks [] t.task (revoked (numbers_against t w b.posses) b)) (new_row k t w version) (last_after w.lock_kind k version)
  is_grant = record {
    number_is = same.next_is;
    since_is = same.since_is;
    version_is = elim (new_version w.lock_kind k version given) [
      | inl a ↦ inl (a.0, a.1, a.2 ∙ same.last_is)
      | inr n ↦ inr (subst (λ last. int_lt last version ≡ true) same.last_is n.0, n.1, n.2)
    ];
    goes = all_from_In (λ p. GoTogether p (new_row k t w version)) (map (joined_in [] t.task) (map (revoked_in (numbers_against t w b.posses)) b.posses)) all_go;
  }

  made_keeps : AreChunksSound b → AreChunksSound (book_granted b t.task (makes_row b.posses k t w version))
  made_keeps h =
      subst (λ n. AreChunksSound (record b { clock = k.clock; last = last_after w.lock_kind k version; next_lock = n + 1; posses = posses_after b.posses t.task (makes_row b.posses k t w version); pendings = stripped (stands_in (numbers_against t w b.posses)) b.pendings; upgrades = stripped_upgrades (stands_in (numbers_against t w b.posses)) b.upgrades })) (sym same.next_is)
      (others_keep k.clock b.tasks b.offsets b.supervisors b.sequences (granted (new_row k t w version) (last_after w.lock_kind k version) (joined_locks [] t.task (revoked (numbers_against t w b.posses) b)))
      (grant_keeps (new_row k t w version) (last_after w.lock_kind k version) (joined_locks [] t.task (revoked (numbers_against t w b.posses) b)) is_grant
      (join_keeps [] t.task (revoked (numbers_against t w b.posses) b) (revoke_keeps (numbers_against t w b.posses) b h))))

-- ---- one request

pub granted_on : (b : Book) (k : Counters) (t : TaskRow) (w : Want) (g : Granted) → AreCounters b k → grant b.posses k t w ≡ Ok g → AreChunksSound b → AreChunksSound (book_granted b t.task g)
granted_on b k t w g same e h =
    granted_cases b.posses k t w (λ g. AreChunksSound (book_granted b t.task g))
    (λ p found. joined_keeps b k t.task same (joins_row k t p).locks (joins_row k t p).joins h) (λ v version. made_keeps b k t w v same version h) g e

pub granted_keeps : GrantedKeeps
granted_keeps b now t w g e h = granted_on b (counters_at b now) t w g (record { last_is = refl; next_is = refl; since_is = refl }) e h
