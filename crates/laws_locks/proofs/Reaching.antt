-- The book after any one of most commands, after lists of them, and compatible locks.
use Rattle.std.proofs.Common.{◌≡◌, ℕ, zero, suc, ◌≤◌, ℤ, Bool, true, false, not, ◌&&◌, ◌||◌, List, [], ◌∷◌, ◌++◌, Some, refl, sym, inl, inr, ◌⊎◌, ap, arith, bytes_eq, int_lt, length, nat_le, subst}
use Rattle.std.specs.List.{list_all}
use Rattle.std.proofs.lemmas.Bool.{le-leb, leb-true, and_parts, false≢true}
use Rattle.std.proofs.lemmas.Slice.Eq.{bytes_eq-Decides}
use Rattle.iv_span.specs.Extent.{Extent, covers, overlap}
use Rattle.book_rows.specs.Answer.{book_after, empty_book, next}
use Rattle.book_rows.specs.Form.{keeps_form}
use Rattle.book_rows.specs.Kinds.{go_together}
use Rattle.book_rows.specs.Lists.{In, Pairs, at_place}
use Rattle.book_rows.specs.Locks.{compatible}
use Rattle.book_rows.specs.Rules.{AreCompatible, GoTogether}
use Rattle.book_rows.specs.declared.commands.Command.{Command}
use Rattle.book_rows.specs.declared.commands.Command.TheVariants as Commands
use Rattle.book_rows.specs.declared.kinds.LockKind.{LockKind}
use Rattle.book_rows.specs.declared.kinds.LockKind.TheVariants as LockKinds
use Rattle.book_rows.specs.declared.kinds.TaskStatus.TheVariants as Statuses
use Rattle.book_rows.specs.declared.rows.Book.{Book}
use Rattle.book_rows.specs.declared.rows.Publication.{Publication}
use Rattle.book_rows.specs.declared.rows.PosseRow.{PosseRow}
use Rattle.laws_locks.specs.LockShape.{AreInShape, AreLockRows, HasSoundLocks}
use Rattle.laws_locks.specs.Commands.{OthersKeepLocks}
use Rattle.laws_locks.specs.Runs.{IsCompatible, ValidLocksAreCompatible}
use Rattle.laws_locks.proofs.Ending.{end_keeps_locks, fail_keeps_locks}
use Rattle.laws_locks.proofs.Granting.{lock_keeps_locks, unlock_keeps_locks}
use Rattle.laws_locks.proofs.EachCommand.{compatible_stays}
use Rattle.laws_locks.proofs.Lists.{In-all, both_true, pass_weaker}
use Rattle.laws_locks.proofs.Others.{Fact, IsKept, other_keeps}
use Rattle.laws_locks.proofs.Managing.{manage_keeps_locks}
use Rattle.laws_locks.proofs.Submitting.{submit_keeps_locks}

pub empty_sound : HasSoundLocks empty_book
empty_sound = (
  record {
    room = record { tasks = refl; locks = refl; numbers = refl };
    instants = record { clock = refl; last = refl };
    tasks = record { rows = refl; keys = tt };
    locks = record { rows = refl; numbers = tt; ascending = tt; below = tt; versions = refl; kinds = refl; distinct = tt; since = refl };
    members = λ q i. absurd i;
  },
  tt,
)

-- ---- the commands that grant no lock and add no task

sinces_kept : (n m : ℕ) (qs : List PosseRow) → n ≤ m → list_all (λ q. nat_le q.since n) qs ≡ true → list_all (λ q. nat_le q.since m) qs ≡ true
sinces_kept n m qs less h = pass_weaker (λ q. nat_le q.since n) (λ q. nat_le q.since m) (λ q e. le-leb q.since m (upto q.since n m less (leb-true q.since n e))) qs h where
  upto : (k n m : ℕ) → n ≤ m → k ≤ n → k ≤ m
  upto k n m h e = omega arith

rows_published : (last : ℤ) (next n m : ℕ) (qs : List PosseRow) → n ≤ m → AreLockRows last next n qs → AreLockRows last next m qs
rows_published last next n m qs less h = record {
  rows = h.rows;
  numbers = h.numbers;
  ascending = h.ascending;
  below = h.below;
  versions = h.versions;
  kinds = h.kinds;
  distinct = h.distinct;
  since = sinces_kept n m qs less h.since;
}

abbrev locks_fact : Fact
locks_fact clock last next pubs ts qs = AreInShape clock last next pubs ts qs × AreCompatible qs

more_published : (ms : List Publication) (m : Publication) → length ms ≤ length (ms ++ m ∷ [])
more_published [] m = omega arith
more_published (x ∷ ms) m = omega (arith, more_published ms m)

locks_kept : IsKept locks_fact
locks_kept = record {
  published = λ clock last next ms m ts qs h. (
    record {
      room = h.0.room;
      instants = h.0.instants;
      tasks = h.0.tasks;
      locks = rows_published last next (length ms) (length (ms ++ m ∷ [])) qs (more_published ms m) h.0.locks;
      members = h.0.members;
    },
    h.1,
  );
  fails = λ task b h. (fail_keeps_locks task Statuses.Failed b h).0;
}

pub others_keep_locks : OthersKeepLocks
others_keep_locks c is b form h = other_keeps locks_fact locks_kept b c is h

-- ---- any of these commands

-- any command but those that allocate an id or step the clock, whose laws have a further premise
abbrev pub is_of_locks : Command → Bool
is_of_locks (Commands.Allocate task lock_kind sequence previous at granularity now) = false
is_of_locks (Commands.Tick now) = false
is_of_locks (Commands.Submit task group source kind priority locks) = true
is_of_locks (Commands.Manage now) = true
is_of_locks (Commands.Lock task lock_kind span now) = true
is_of_locks (Commands.Unlock task lock) = true
is_of_locks (Commands.Append task ids ranges) = true
is_of_locks (Commands.Insert task spans ids tombstones ranges) = true
is_of_locks (Commands.Replace task spans ids tombstones ranges) = true
is_of_locks (Commands.End task status) = true
is_of_locks (Commands.Drop source span) = true
is_of_locks (Commands.Reset source stream offsets) = true
is_of_locks (Commands.Supervise source stream partitions task_count replicas task_duration completion_timeout) = true
is_of_locks (Commands.Paused task offsets) = true
is_of_locks (Commands.Checkpoint task offsets) = true
is_of_locks (Commands.ToReplace task span) = true
is_of_locks (Commands.Show what) = true

pub next_sound : (b : Book) (c : Command) → is_of_locks c ≡ true → keeps_form c ≡ true → HasSoundLocks b → HasSoundLocks (next b c)
next_sound b (Commands.Submit task group source kind priority locks) is form h = submit_keeps_locks task group source kind priority locks b form h
next_sound b (Commands.Manage now) is form h = manage_keeps_locks now b form h
next_sound b (Commands.Lock task kind span now) is form h = lock_keeps_locks task kind span now b form h
next_sound b (Commands.Unlock task lock) is form h = unlock_keeps_locks task lock b form h
next_sound b (Commands.End task status) is form h = end_keeps_locks task status b form h
next_sound b (Commands.Allocate task lock_kind sequence previous at granularity now) is form h = absurd (false≢true is)
next_sound b (Commands.Tick now) is form h = absurd (false≢true is)
next_sound b (Commands.Append task ids ranges) is form h = others_keep_locks (Commands.Append task ids ranges) refl b form h
next_sound b (Commands.Insert task spans ids tombstones ranges) is form h = others_keep_locks (Commands.Insert task spans ids tombstones ranges) refl b form h
next_sound b (Commands.Replace task spans ids tombstones ranges) is form h = others_keep_locks (Commands.Replace task spans ids tombstones ranges) refl b form h
next_sound b (Commands.Drop source span) is form h = others_keep_locks (Commands.Drop source span) refl b form h
next_sound b (Commands.Reset source stream offsets) is form h = others_keep_locks (Commands.Reset source stream offsets) refl b form h
next_sound b (Commands.Supervise source stream partitions task_count replicas task_duration completion_timeout) is form h =
    others_keep_locks (Commands.Supervise source stream partitions task_count replicas task_duration completion_timeout) refl b form h
next_sound b (Commands.Paused task offsets) is form h = others_keep_locks (Commands.Paused task offsets) refl b form h
next_sound b (Commands.Checkpoint task offsets) is form h = others_keep_locks (Commands.Checkpoint task offsets) refl b form h
next_sound b (Commands.ToReplace task span) is form h = others_keep_locks (Commands.ToReplace task span) refl b form h
next_sound b (Commands.Show what) is form h = others_keep_locks (Commands.Show what) refl b form h

-- ---- lists of commands

pub after_sound : (cs : List Command) (b : Book) → list_all is_of_locks cs ≡ true → list_all keeps_form cs ≡ true → HasSoundLocks b → HasSoundLocks (book_after b cs)
after_sound [] b kinds forms h = h
after_sound (c ∷ cs) b kinds forms h =
    let kind = and_parts (is_of_locks c) (list_all is_of_locks cs) kinds in
    let form = and_parts (keeps_form c) (list_all keeps_form cs) forms in
    after_sound cs (next b c) kind.1 form.1 (next_sound b c kind.0 form.0 h)

-- ---- compatible both ways

and_swapped : (a b : Bool) → (a && b) ≡ (b && a)
and_swapped true true = refl
and_swapped true false = refl
and_swapped false true = refl
and_swapped false false = refl

overlap_both : (a b : Extent) → overlap a b ≡ overlap b a
overlap_both a b = and_swapped (int_lt a.start b.end) (int_lt b.start a.end)

apart_both : (a b : Extent) → not (overlap a b) ≡ not (overlap b a)
apart_both a b = ap not (overlap_both a b)

together_both : (k l : LockKind) (a b : Extent) → go_together k a l b ≡ go_together l b k a
together_both LockKinds.Shared LockKinds.Shared a b = refl
together_both LockKinds.Append LockKinds.Append a b = refl
together_both LockKinds.Append LockKinds.Replace a b = ap (λ (x : Bool). x || covers b a) (apart_both a b)
together_both LockKinds.Replace LockKinds.Append a b = ap (λ (x : Bool). x || covers a b) (apart_both a b)
together_both LockKinds.Exclusive LockKinds.Exclusive a b = apart_both a b
together_both LockKinds.Exclusive LockKinds.Shared a b = apart_both a b
together_both LockKinds.Exclusive LockKinds.Append a b = apart_both a b
together_both LockKinds.Exclusive LockKinds.Replace a b = apart_both a b
together_both LockKinds.Shared LockKinds.Exclusive a b = apart_both a b
together_both LockKinds.Shared LockKinds.Append a b = apart_both a b
together_both LockKinds.Shared LockKinds.Replace a b = apart_both a b
together_both LockKinds.Append LockKinds.Exclusive a b = apart_both a b
together_both LockKinds.Append LockKinds.Shared a b = apart_both a b
together_both LockKinds.Replace LockKinds.Exclusive a b = apart_both a b
together_both LockKinds.Replace LockKinds.Shared a b = apart_both a b
together_both LockKinds.Replace LockKinds.Replace a b = apart_both a b

same_both : (xs ys : List ℕ) → bytes_eq xs ys ≡ bytes_eq ys xs
same_both xs ys = both_true (bytes_eq xs ys) (bytes_eq ys xs) (λ e. turned xs ys e) (λ e. turned ys xs e) where
  turned : (xs ys : List ℕ) → bytes_eq xs ys ≡ true → bytes_eq ys xs ≡ true
  turned xs ys e = (bytes_eq-Decides ys xs).1 (sym ((bytes_eq-Decides xs ys).0 e))

compatible_both : (p q : PosseRow) → compatible q p ≡ true → compatible p q ≡ true
compatible_both p q e = rw (same_both p.source q.source, together_both p.lock_kind q.lock_kind p.span q.span) e

-- ---- any two locks

pub place_In : {X : Type 0} (k : ℕ) (x : X) (xs : List X) → at_place k xs ≡ Some x → In x xs
place_In k x [] e = cc
place_In zero x (y ∷ ys) e = inl cc
place_In (suc k) x (y ∷ ys) e = inr (place_In k x ys e)

-- two elements at different places are in the relation one way
at_places : {X : Type 0} (R : X → X → Type 0) (xs : List X) (i j : ℕ) (x y : X) → Pairs R xs → at_place i xs ≡ Some x → at_place j xs ≡ Some y → (i ≡ j → ⊥) → R x y ⊎ R y x
at_places R [] i j x y h a b other = cc
at_places R (z ∷ zs) zero zero x y h a b other = absurd (other refl)
at_places R (z ∷ zs) zero (suc j) x y h a b other =
    let same : z ≡ x = cc in inl (subst (λ x. R x y) same (In-all (R z) y zs (place_In j y zs b) h.0))
at_places R (z ∷ zs) (suc i) zero x y h a b other =
    let same : z ≡ y = cc in inr (subst (λ y. R y x) same (In-all (R z) x zs (place_In i x zs a) h.0))
at_places R (z ∷ zs) (suc i) (suc j) x y h a b other = at_places R zs i j x y h.1 a b (λ e. other (ap suc e))

after_compatible : (cs : List Command) (b : Book) → IsCompatible b → IsCompatible (book_after b cs)
after_compatible [] b h = h
after_compatible (c ∷ cs) b h = after_compatible cs (next b c) (compatible_stays b c h)

pub valid_locks_are_compatible : ValidLocksAreCompatible
valid_locks_are_compatible cs i j p q at_i at_j other valid valid_too = elim (at_places GoTogether (book_after empty_book cs).posses i j p q (after_compatible cs empty_book tt) at_i at_j other) [
  | inl go ↦ go valid valid_too
  | inr go ↦ compatible_both p q (go valid_too valid)
]
