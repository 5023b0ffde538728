-- A task leaves its locks.
use Rattle.std.proofs.Common.{◌≡◌, ℕ, Bool, true, false, cond, not, ◌==◌, List, [], ◌∷◌, map, filter, refl, sym, ◌∙◌, inl, inr, subst, arith, bytes_eq, length, nat_lt, ◌≤◌}
use Rattle.std.specs.List.{list_any}
use Rattle.std.proofs.lemmas.Bool.{cases_Bool, false≢true, not-true, or_cases}
use Rattle.std.proofs.lemmas.Bool.Decides.{Decides-eqb, nat_tests}
use Rattle.std.proofs.lemmas.List.{length-map}
use Rattle.book_rows.specs.Lists.{In, stands_in}
use Rattle.book_rows.specs.Locks.{after_leave, is_member, left, left_all_locks, left_lock, left_locks, locks_of, stays}
use Rattle.book_rows.specs.Outcome.{row_limit}
use Rattle.book_rows.specs.declared.rows.Book.{Book}
use Rattle.book_rows.specs.declared.rows.PosseRow.{PosseRow}
use Rattle.laws_locks.specs.LockShape.{HasSoundLocks}
use Rattle.laws_locks.proofs.Compatible.{compatible_left}
use Rattle.laws_locks.proofs.Lists.{In-filter, any_from_In, filter_In, filter_length, map_In, none_from_In}
use Rattle.laws_locks.proofs.LockRows.{rows_left}
use Rattle.laws_locks.proofs.Members.{is_left, members_left}

-- ---- one lock

pub fewer : (n m : ℕ) → nat_lt row_limit n ≡ false → m ≤ n → nat_lt row_limit m ≡ false
fewer n m h less = grind (arith, nat_tests)

left_room : (n : ℕ) (task : List ℕ) (qs : List PosseRow) → nat_lt row_limit (length qs) ≡ false → nat_lt row_limit (length (after_leave n task qs)) ≡ false
left_room n task qs h = fewer (length qs) (length (after_leave n task qs)) h (omega (arith, filter_length (stays n) (map (left n task) qs), length-map qs (left n task)))

pub leave_keeps : (n : ℕ) (task : List ℕ) (b : Book) → HasSoundLocks b → HasSoundLocks (left_lock n task b)
leave_keeps n task b h = (
  record {
    room = record { tasks = h.0.room.tasks; locks = left_room n task b.posses h.0.room.locks; numbers = h.0.room.numbers };
    instants = h.0.instants;
    tasks = h.0.tasks;
    locks = rows_left b.last b.next_lock (length b.publications) n task b.posses h.0.locks;
    members = members_left n task b.tasks b.posses h.0.members;
  },
  compatible_left n task b.posses h.1,
)

-- ---- several locks

leave_each_keeps : (ns : List ℕ) (task : List ℕ) (b : Book) → HasSoundLocks b → HasSoundLocks (left_locks ns task b)
leave_each_keeps [] task b h = h
leave_each_keeps (n ∷ ns) task b h = leave_each_keeps ns task (left_lock n task b) (leave_keeps n task b h)

pub leave_all_keeps : (task : List ℕ) (b : Book) → HasSoundLocks b → HasSoundLocks (left_all_locks task b)
leave_all_keeps task b h = leave_each_keeps (locks_of task b.posses) task b h

-- ---- the task is a member of none after it

-- the locks of which it is a member are among these numbers
abbrev AreAllOf : List ℕ → List ℕ → List PosseRow → Type 0
AreAllOf ns task qs = (q : PosseRow) → In q qs → is_member task q ≡ true → stands_in ns q.number ≡ true

-- it isn't among those that are left
gone : (task : List ℕ) (ms : List (List ℕ)) → list_any (λ m. bytes_eq m task) (filter (λ m. not (bytes_eq m task)) ms) ≡ false
gone task ms = none_from_In (λ m. bytes_eq m task) (filter (λ m. not (bytes_eq m task)) ms) (λ m i. not-true (bytes_eq m task) (In-filter (λ m. not (bytes_eq m task)) m ms i).1)

-- a member of a lock from which it left is one of a lock of another number
other_lock : (task : List ℕ) (q : PosseRow) (n : ℕ) (b : Bool) → (q.number == n) ≡ b → list_any (λ m. bytes_eq m task) (cond b (filter (λ m. not (bytes_eq m task)) q.members) q.members) ≡ true → ((q.number == n) ≡ false) × (is_member task q ≡ true)
other_lock task q n true e h = absurd (false≢true (sym (gone task q.members) ∙ h))
other_lock task q n false e h = (e, h)

not_first : (n number : ℕ) (ns : List ℕ) → (number == n) ≡ false → stands_in (n ∷ ns) number ≡ true → stands_in ns number ≡ true
not_first n number ns off h = elim (or_cases (n == number) (stands_in ns number) h) [
  | inl on ↦ absurd (false≢true (sym off ∙ (Decides-eqb number n).1 (sym ((Decides-eqb n number).0 on))))
  | inr rest ↦ rest
]

left_numbers : (n : ℕ) (ns task : List ℕ) (qs : List PosseRow) → AreAllOf (n ∷ ns) task qs → AreAllOf ns task (after_leave n task qs)
left_numbers n ns task qs all q i h =
    let l = is_left n task qs q i in
    let o = other_lock task l.before n (l.before.number == n) refl (subst (λ (x : PosseRow). is_member task x ≡ true) l.same h) in
    subst (λ (x : PosseRow). stands_in ns x.number ≡ true) (sym l.same) (not_first n l.before.number ns o.0 (all l.before l.among o.1))

member_of_none : (ns task : List ℕ) (b : Book) → AreAllOf ns task b.posses → (q : PosseRow) → In q (left_locks ns task b).posses → is_member task q ≡ false
member_of_none [] task b all q i = elim (cases_Bool (is_member task q)) [ inr off ↦ off | inl on ↦ absurd (false≢true (all q i on)) ]
member_of_none (n ∷ ns) task b all q i = member_of_none ns task (left_lock n task b) (left_numbers n ns task b.posses all) q i

all_locks : (task : List ℕ) (qs : List PosseRow) → AreAllOf (locks_of task qs) task qs
all_locks task qs q i h =
    any_from_In (λ m. m == q.number) q.number (locks_of task qs) (map_In (λ (p : PosseRow). p.number) q (filter (is_member task) qs) (filter_In (is_member task) q qs i h)) ((Decides-eqb q.number q.number).1 refl)

-- a task that has left all its locks is a member of none
pub left_all : (task : List ℕ) (b : Book) (q : PosseRow) → In q (left_all_locks task b).posses → is_member task q ≡ false
left_all task b q i = member_of_none (locks_of task b.posses) task b (all_locks task b.posses) q i
