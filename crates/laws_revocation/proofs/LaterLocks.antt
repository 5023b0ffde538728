-- What becomes of a lock under any commands.
use Rattle.std.proofs.Common.{◌≡◌, ℕ, ◌<◌, ◌≤◌, ◌+◌, ◌||◌, ◌⊎◌, Bool, true, List, [], ◌∷◌, ◌++◌, map, filter, refl, sym, ◌∙◌, inl, inr, ap, subst, arith}
use Rattle.std.proofs.lemmas.Bool.{or_left}
use Rattle.std.proofs.lemmas.Bool.Decides.{Decides-eqb}
use Rattle.book_rows.specs.Answer.{book_after}
use Rattle.book_rows.specs.Grant.{revoked_in}
use Rattle.book_rows.specs.Lists.{In, stands_in}
use Rattle.book_rows.specs.Locks.{left, stays}
use Rattle.book_rows.specs.declared.commands.Command.{Command}
use Rattle.book_rows.specs.declared.rows.Book.{Book}
use Rattle.book_rows.specs.declared.rows.PosseRow.{PosseRow}
use Rattle.laws_chunks.proofs.Members.{In-all, In-append, In-filter, In-map}
use Rattle.laws_locks.proofs.LookUps.{one_number}
use Rattle.laws_revocation.specs.LockNumbers.{HasNumbers, IsLater, LocksGoOn, NumbersGivenOnce, OverStays, RevokedForGood, RevokedIsOver, WasThere}
use Rattle.laws_revocation.proofs.EachStep.{after_keeps}
use Rattle.laws_revocation.proofs.Facts.{Fact, IsKept, with_members}

-- ---- each lock was there before, or has a later number

later_same : (q : PosseRow) → IsLater q q
later_same q = record { number_is = refl; kind_is = refl; group_is = refl; source_is = refl; span_is = refl; version_is = refl; priority_is = refl; since_is = refl; stays = λ e. e }

later_members : (p q : PosseRow) (ms : List (List ℕ)) → IsLater p q → IsLater p (record q { members = ms })
later_members p q ms h = record {
  number_is = h.number_is;
  kind_is = h.kind_is;
  group_is = h.group_is;
  source_is = h.source_is;
  span_is = h.span_is;
  version_is = h.version_is;
  priority_is = h.priority_is;
  since_is = h.since_is;
  stays = h.stays;
}

later_revoked : (p q : PosseRow) (off : Bool) → IsLater p q → IsLater p (record q { revoked = q.revoked || off })
later_revoked p q off h = record {
  number_is = h.number_is;
  kind_is = h.kind_is;
  group_is = h.group_is;
  source_is = h.source_is;
  span_is = h.span_is;
  version_is = h.version_is;
  priority_is = h.priority_is;
  since_is = h.since_is;
  stays = λ e. or_left q.revoked off (h.stays e);
}

-- a lock of the book at the beginning, or one of a number that wasn't given then
abbrev IsOldOrNew : ℕ → List PosseRow → PosseRow → Type 0
IsOldOrNew first before q = WasThere before q ⊎ (first ≤ q.number)

record GoOn (first : ℕ) (before : List PosseRow) (next : ℕ) (qs : List PosseRow) : Type 0 where
  pub grown : first ≤ next
  pub each : (q : PosseRow) → In q qs → IsOldOrNew first before q

module _ (first : ℕ) (before : List PosseRow) where
  abbrev goes_on : Fact
  goes_on next qs ps cs = GoOn first before next qs

  -- a change under which each lock is the same later
  go_map : (f : PosseRow → PosseRow) → ((p q : PosseRow) → IsLater p q → IsLater p (f q)) → ((q : PosseRow) → q.number ≡ (f q).number) → (next : ℕ) (qs : List PosseRow) → GoOn first before next qs → GoOn first before next (map f qs)
  go_map f later number next qs h = record { grown = h.grown; each = λ q i. moved q (In-map f q qs i) } where
    kept : (q : PosseRow) → IsOldOrNew first before q → IsOldOrNew first before (f q)
    kept q (inl old) = inl (record { lock = old.lock; among = old.among; later = later old.lock q old.later })
    kept q (inr new) = inr (subst (λ n. first ≤ n) (number q) new)

    moved : (q : PosseRow) → ((x : PosseRow) × In x qs × (q ≡ f x)) → IsOldOrNew first before q
    moved q w = subst (IsOldOrNew first before) (sym w.2) (kept w.0 (h.each w.0 w.1))

  go_filter : (p : PosseRow → Bool) (next : ℕ) (qs : List PosseRow) → GoOn first before next qs → GoOn first before next (filter p qs)
  go_filter p next qs h = record { grown = h.grown; each = λ q i. h.each q (In-filter p q qs i).0 }

  go_push : (new : PosseRow) (next : ℕ) (qs : List PosseRow) → new.number ≡ next → GoOn first before next qs → GoOn first before (next + 1) (qs ++ new ∷ [])
  go_push new next qs is h = record {
    grown = one_more first next h.grown;
    each = λ q i. elim (In-append q qs (new ∷ []) i) [
      | inl old ↦ h.each q old
      | inr (inl same) ↦ inr (subst (λ n. first ≤ n) (sym (ap (λ (x : PosseRow). x.number) same ∙ is)) h.grown)
      | inr (inr none) ↦ absurd none
    ];
  } where
    one_more : (n m : ℕ) → n ≤ m → n ≤ m + 1
    one_more n m e = omega arith

  go_kept : IsKept (λ c. Unit {0}) goes_on
  go_kept = record {
    members = λ ms next qs ps cs h. go_map (with_members ms) (λ p q e. later_members p q (ms q) e) (λ q. refl) next qs h;
    revoked = λ ns next qs ps cs h. go_map (revoked_in ns) (λ p q e. later_revoked p q (stands_in ns q.number) e) (λ q. refl) next qs h;
    made = λ q next qs ps cs new h. go_push q next qs new h;
    left = λ n task next qs ps cs h. go_filter (stays n) next (map (left n task) qs) (go_map (left n task) (λ p q e. later_members p q (left n task q).members e) (λ q. refl) next qs h);
    allotted = λ n next qs ps cs lock h. h;
    appended = λ ids next qs ps cs h. h;
    inserted = λ b t task given xs form e h. h;
    replaced = λ b t task given xs form e h. h;
  }

go_on : (b : Book) (cs : List Command) → GoOn b.next_lock b.posses (book_after b cs).next_lock (book_after b cs).posses
go_on b cs =
    after_keeps (goes_on b.next_lock b.posses) (go_kept b.next_lock b.posses) b cs
    (record { grown = same b.next_lock; each = λ q i. inl (record { lock = q; among = i; later = later_same q }) }) where
      same : (n : ℕ) → n ≤ n
      same n = omega arith

pub locks_go_on : LocksGoOn
locks_go_on b cs q i = (go_on b cs).each q i

-- the numbers only grow
pub next_grows : (b : Book) (cs : List Command) → b.next_lock ≤ (book_after b cs).next_lock
next_grows b cs = (go_on b cs).grown

-- ---- so a revoked lock stays revoked

not_both : (n m k : ℕ) → n < m → m ≤ k → k ≡ n → ⊥
not_both n m k lt le e = omega arith

below_next : (b : Book) (p : PosseRow) → HasNumbers b → In p b.posses → p.number < b.next_lock
below_next b p h i = In-all (λ q. q.number < b.next_lock) p b.posses i h.below

-- two locks of one number are one
pub one_lock : (b : Book) (p q : PosseRow) → HasNumbers b → In p b.posses → In q b.posses → p.number ≡ q.number → p ≡ q
one_lock b p q h i j e = one_number b.posses p q h.distinct i j ((Decides-eqb p.number q.number).1 e)

revoked_later : (p q : PosseRow) → p.revoked ≡ true → IsLater p q → IsLater p q × (q.revoked ≡ true)
revoked_later p q e l = (l, l.stays e)

pub revoked_for_good : RevokedForGood
revoked_for_good b cs p q h i e j same = elim (locks_go_on b cs q j) [
  | inl old ↦ (let one : old.lock ≡ p = one_lock b old.lock p h old.among i (old.later.number_is ∙ same) in revoked_later p q e (subst (λ (x : PosseRow). IsLater x q) one old.later))
  | inr new ↦ absurd (not_both p.number b.next_lock q.number (below_next b p h i) new same)
]

pub numbers_given_once : NumbersGivenOnce
numbers_given_once b cs n given none q i e = elim (locks_go_on b cs q i) [
  | inl old ↦ none old.lock old.among (old.later.number_is ∙ e)
  | inr new ↦ not_both n b.next_lock q.number given new e
]

-- ---- a number that is over

pub revoked_is_over : RevokedIsOver
revoked_is_over b q h i e = record {
  given = below_next b q h i;
  lost = λ p j same. subst (λ (x : PosseRow). x.revoked ≡ true) (one_lock b q p h i j (sym same)) e;
}

upto : (n m k : ℕ) → n < m → m ≤ k → n < k
upto n m k lt le = omega arith

pub over_stays : OverStays
over_stays n b cs h = record {
  given = upto n b.next_lock (book_after b cs).next_lock h.given (next_grows b cs);
  lost = λ q i e. elim (locks_go_on b cs q i) [
    | inl old ↦ old.later.stays (h.lost old.lock old.among (old.later.number_is ∙ e))
    | inr new ↦ absurd (not_both n b.next_lock q.number h.given new e)
  ];
}
