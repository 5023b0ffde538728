-- The next part of an id's chunk, under what commands make of the chunks.
use Rattle.std.proofs.Common.{◌≡◌, ℕ, ◌≤◌, ◌<◌, ◌+◌, Bool, true, false, cond, List, [], ◌∷◌, ◌++◌, map, Some, None, Option, refl, sym, ◌∙◌, inl, inr, ap, subst, arith, find, nat_lt}
use Rattle.std.proofs.lemmas.Bool.{cases_Bool, false≢true}
use Rattle.std.proofs.lemmas.Bool.Decides.{nat_tests}
use Rattle.std.proofs.lemmas.List.Folds.{find-append}
use Rattle.seg_names.specs.declared.seg_id.SegId.{SegId}
use Rattle.book_rows.specs.Allocation.{allotted_chunks, allotted_id, bumped, chunk_of, is_of_chunk, new_chunk, next_of, with_chunk}
use Rattle.book_rows.specs.Lists.{In}
use Rattle.book_rows.specs.declared.answers.NewPending.{NewPending}
use Rattle.book_rows.specs.declared.rows.ChunkRow.{ChunkRow}
use Rattle.laws_chunks.proofs.AllottedIds.{of_chunk_from}
use Rattle.laws_revocation.specs.GivenIds.{is_given, next_part}

-- ---- look-ups

module _ {X : Type 0} (p : X → Bool) where
  pub find_nothing : (xs : List X) → ((x : X) → In x xs → p x ≡ false) → find p xs ≡ None
  find_nothing [] h = refl
  find_nothing (x ∷ xs) h = rw (h x (inl refl)) (find_nothing xs (λ y i. h y (inr i)))

  -- after a list without one that passes
  pub find_past : (xs ys : List X) → find p xs ≡ None → find p (xs ++ ys) ≡ find p ys
  find_past xs ys e = rw (find-append p xs ys, e) refl

  -- the only one that passes
  pub find_only : {Y : Type 0} (f : Y → X) (ys : List Y) (y : Y) → In y ys → p (f y) ≡ true → ((z : Y) → In z ys → p (f z) ≡ true → z ≡ y) → find p (map f ys) ≡ Some (f y)
  find_only f [] y i on only = absurd i
  find_only f (z ∷ ys) y i on only = elim (cases_Bool (p (f z))) [
    | inl here ↦ rw here (ap (λ x. Some (f x)) (only z (inl refl) here))
    | inr off ↦ rw off (find_only f ys y (later off i) on (λ x j. only x (inr j)))
  ] where
    later : p (f z) ≡ false → In y (z ∷ ys) → In y ys
    later off (inl same) = absurd (false≢true (sym off ∙ subst (λ x. p (f x) ≡ true) same on))
    later off (inr j) = j

-- ---- the next part isn't less

same_or_more : (n : ℕ) → n ≤ n
same_or_more n = omega arith

none_or_more : (n : ℕ) → 0 ≤ n
none_or_more n = omega arith

up_to_both : (a b c : ℕ) → a ≤ b → b ≤ c → a ≤ c
up_to_both a b c h k = omega arith

pub more_by : (n m : ℕ) → n ≤ n + m
more_by n m = omega arith

pub next_more : (cs ds : List ChunkRow) (a : SegId) → next_part cs a ≤ next_part (cs ++ ds) a
next_more [] ds a = none_or_more (next_part ds a)
next_more (c ∷ cs) ds a =
    elim (is_of_chunk c a) as (λ x. next_of (cond x (Some c) (chunk_of a cs)) ≤ next_of (cond x (Some c) (chunk_of a (cs ++ ds))))
    [ true ↦ same_or_more c.next | false ↦ next_more cs ds a ]

next_bumped : (x a : SegId) (cs : List ChunkRow) → next_part cs a ≤ next_part (map (bumped x) cs) a
next_bumped x a [] = same_or_more 0
next_bumped x a (c ∷ cs) =
    elim (is_of_chunk c a) as (λ y. next_of (cond y (Some c) (chunk_of a cs)) ≤ next_of (cond y (Some (bumped x c)) (chunk_of a (map (bumped x) cs))))
    [ true ↦ more_by c.next (cond (is_of_chunk c x) 1 0) | false ↦ next_bumped x a cs ]

next_with : (x a : SegId) (r : Option ChunkRow) (cs : List ChunkRow) → next_part cs a ≤ next_part (with_chunk x r cs) a
next_with x a (Some c) cs = same_or_more (next_part cs a)
next_with x a None cs = next_more cs (new_chunk x ∷ []) a

pub next_allotted : (x a : SegId) (cs : List ChunkRow) → next_part cs a ≤ next_part (allotted_chunks x cs) a
next_allotted x a cs =
    up_to_both (next_part cs a) (next_part (with_chunk x (chunk_of x cs) cs) a) (next_part (allotted_chunks x cs) a) (next_with x a (chunk_of x cs) cs) (next_bumped x a (with_chunk x (chunk_of x cs) cs))

-- an id that was given is so where the next part isn't less
pub given_more : (cs ds : List ChunkRow) (a : SegId) → next_part cs a ≤ next_part ds a → is_given cs a ≡ true → is_given ds a ≡ true
given_more cs ds a h e = above a.part (next_part cs a) (next_part ds a) h e where
  above : (k n m : ℕ) → n ≤ m → nat_lt k n ≡ true → nat_lt k m ≡ true
  above k n m h e = grind (arith, nat_tests)

-- a part below that of the chunk found
pub is_below : (n m : ℕ) → n < m → nat_lt n m ≡ true
is_below n m h = grind (arith, nat_tests)

-- ---- an id that is allotted

not_below_itself : (n : ℕ) → nat_lt n n ≡ false
not_below_itself n = grind (arith, nat_tests)

-- it wasn't given before
pub allotted_is_new : (n : NewPending) (cs : List ChunkRow) → is_given cs (allotted_id cs n) ≡ false
allotted_is_new n cs = not_below_itself (next_part cs (allotted_id cs n))

-- the chunk that is bumped
bumped_next : (x : SegId) (cs : List ChunkRow) (c : ChunkRow) → chunk_of x cs ≡ Some c → next_part (map (bumped x) cs) x ≡ c.next + 1
bumped_next x [] c e = cc
bumped_next x (d ∷ cs) c e = elim (cases_Bool (is_of_chunk d x)) [
  | inl on ↦ here on (rw on at e)
  | inr off ↦ rw off (bumped_next x cs c (rw off at e))
] where
  here : is_of_chunk d x ≡ true → Some d ≡ Some c → next_part (map (bumped x) (d ∷ cs)) x ≡ c.next + 1
  here on e = let same : d ≡ c = cc in rw on (ap (λ (y : ChunkRow). y.next + 1) same)

-- it is there: the one found, or a new one
with_own : (x : SegId) (r : Option ChunkRow) (cs : List ChunkRow) → chunk_of x cs ≡ r → (c : ChunkRow) × (chunk_of x (with_chunk x r cs) ≡ Some c) × (c.next ≡ next_of r)
with_own x (Some c) cs e = (c, e, refl)
with_own x None cs e = (
  new_chunk x,
  find_past (λ c. is_of_chunk c x) cs (new_chunk x ∷ []) e ∙ ap (λ (y : Bool). cond y (Some (new_chunk x)) None) (of_chunk_from (new_chunk x) x (record { source_is = refl; span_is = refl; version_is = refl })),
  refl,
)

-- and it is given after
pub allotted_is_given : (n : NewPending) (cs : List ChunkRow) → is_given (allotted_chunks (allotted_id cs n) cs) (allotted_id cs n) ≡ true
allotted_is_given n cs =
    let w = with_own (allotted_id cs n) (chunk_of (allotted_id cs n) cs) cs refl in
    above (allotted_id cs n).part w.0.next (next_part (allotted_chunks (allotted_id cs n) cs) (allotted_id cs n)) (bumped_next (allotted_id cs n) (with_chunk (allotted_id cs n) (chunk_of (allotted_id cs n) cs) cs) w.0 w.1) w.2 where
      above : (k n m : ℕ) → m ≡ n + 1 → n ≡ k → nat_lt k m ≡ true
      above k n m e f = grind (arith, nat_tests)
