-- Locks have numbers of their own, below the next one.
use Rattle.std.proofs.Common.{◌≡◌, ℕ, Bool, ◌<◌, ◌+◌, ◌==◌, List, [], ◌∷◌, ◌++◌, map, filter, refl, false, arith}
use Rattle.book_rows.specs.Answer.{book_after, empty_book}
use Rattle.book_rows.specs.Grant.{revoked_in}
use Rattle.book_rows.specs.Locks.{left, same_number, stays}
use Rattle.book_rows.specs.declared.commands.Command.{Command}
use Rattle.book_rows.specs.declared.rows.Book.{Book}
use Rattle.book_rows.specs.declared.rows.PosseRow.{PosseRow}
use Rattle.laws_locks.proofs.Lists.{all_filter, all_map, all_push, all_weaker, pairs_filter, pairs_map, pairs_push}
use Rattle.std.proofs.lemmas.Bool.{ne_eqb}
use Rattle.laws_revocation.specs.LockNumbers.{AreNumbered, HasNumbers, ReachedHasNumbers, SoundHasNumbers}
use Rattle.laws_revocation.proofs.EachStep.{after_keeps}
use Rattle.laws_revocation.proofs.Facts.{Fact, IsKept, with_members}

pub sound_has_numbers : SoundHasNumbers
sound_has_numbers b h = record { distinct = h.shape.keys.numbers; below = h.shape.keys.below }

-- a change that keeps each number
numbers_map : (f : PosseRow → PosseRow) → ((q : PosseRow) → q.number ≡ (f q).number) → (next : ℕ) (qs : List PosseRow) → AreNumbered next qs → AreNumbered next (map f qs)
numbers_map f same next qs h = record {
  distinct = pairs_map _ (λ p q. same_number p q ≡ false) f (λ p q e. rw (← same p, ← same q) e) qs h.distinct;
  below = all_map (λ q. q.number < next) (λ q. q.number < next) f (λ q lt. rw (← same q) lt) qs h.below;
}

numbers_filter : (p : PosseRow → Bool) (next : ℕ) (qs : List PosseRow) → AreNumbered next qs → AreNumbered next (filter p qs)
numbers_filter p next qs h = record { distinct = pairs_filter _ p qs h.distinct; below = all_filter _ p qs h.below }

not_next : (m next : ℕ) → m < next → (m == next) ≡ false
not_next m next lt = ne_eqb m next (λ same. omega arith)

numbers_push : (q : PosseRow) (next : ℕ) (qs : List PosseRow) → q.number ≡ next → AreNumbered next qs → AreNumbered (next + 1) (qs ++ q ∷ [])
numbers_push q next qs new h = record {
  distinct = pairs_push _ qs q h.distinct (all_weaker _ _ (λ p lt. rw new (not_next p.number next lt)) qs h.below);
  below = all_push _ qs q (all_weaker _ _ (λ p lt. omega arith) qs h.below) (rw new (omega arith));
}

abbrev pub numbered_fact : Fact
numbered_fact next qs ps cs = AreNumbered next qs

pub numbered_kept : (Formed : Command → Type 0) → IsKept Formed numbered_fact
numbered_kept Formed = record {
  members = λ ms next qs ps cs h. numbers_map (with_members ms) (λ q. refl) next qs h;
  revoked = λ ns next qs ps cs h. numbers_map (revoked_in ns) (λ q. refl) next qs h;
  made = λ q next qs ps cs new h. numbers_push q next qs new h;
  left = λ n task next qs ps cs h. numbers_filter (stays n) next (map (left n task) qs) (numbers_map (left n task) (λ q. refl) next qs h);
  allotted = λ n next qs ps cs lock h. h;
  appended = λ ids next qs ps cs h. h;
  inserted = λ b t task given xs form e h. h;
  replaced = λ b t task given xs form e h. h;
}

pub numbers_stay : (b : Book) (cs : List Command) → HasNumbers b → HasNumbers (book_after b cs)
numbers_stay b cs h = after_keeps numbered_fact (numbered_kept (λ c. Unit {0})) b cs h

pub reached_has_numbers : ReachedHasNumbers
reached_has_numbers cs = numbers_stay empty_book cs (record { distinct = tt; below = tt })
